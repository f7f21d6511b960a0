-- A log in the words of its format. An entry is a length in four bytes, and a payload of so many bytes: the bidder in one byte,
-- the round in four, the number of goods in one, the number of bundles in two, and then the quantities of the bundles, one
-- after another, in two each. Numbers of more than one byte are big-endian. A log is entries one after another. That a payload has
-- at most 32,768 bytes need not be said: a demand has at most 2,048 bundles of at most 6 goods, so no report that is taken has more
-- than 24,584.
use Rattle.std.specs.Prelude.{◌≡◌, ◌<◌, ◌^◌, ℕ, List, ◌++◌, length, take, drop, slice_index}
use Rattle.byte_numbers.specs.Spelling.{big_bytes}
use Rattle.std.specs.List.{flat_map}
use Rattle.lot_base.specs.Demands.{IsDemand}
use Rattle.lot_base.specs.declared.auction_terms.Terms.{Terms}
use Rattle.lot_base.specs.declared.limits.TheConstants.{GREATEST_FILE}
use Rattle.demand_set.specs.declared.reports.Report.{Report}
use Rattle.recovery.specs.Entries.{payload_of}
use Rattle.clock.specs.Reports.{ClockHistory}
use Rattle.clock.specs.Judging.{IsLegal, judgement_of}
use Rattle.clock.specs.declared.judging.Judgement.TheVariants.{Take}

-- the greatest number of bytes of a log
abbrev pub log_limit : ℕ
log_limit = GREATEST_FILE

-- each number is one that a byte holds
abbrev pub AreBytes : List ℕ → Type 0
AreBytes bytes = (i : ℕ) → slice_index bytes i < 2 ^ 8

-- the entry of a report: the length of its payload, and the payload
abbrev pub entry_of : ℕ → Report → List ℕ
entry_of goods r = big_bytes 4 (length (payload_of goods r)) ++ payload_of goods r

-- the entries of reports, one after another
abbrev pub entries_of : ℕ → List Report → List ℕ
entries_of goods reports = flat_map (entry_of goods) reports

-- The bytes are a log of this history: it is a legal one of the clock of all bidders on these terms, and the bytes are the
-- entries of its reports.
pub record IsLogOf (terms : Terms) (c : ClockHistory) (bytes : List ℕ) : Type 0 where
  pub terms_are : c.terms ≡ terms
  pub number_is : c.number ≡ 0
  pub legal : IsLegal c
  pub entries : bytes ≡ entries_of (length terms.goods) c.reports

-- The bytes before the place are a log, and there are bytes after it. These do not begin with the entry of any report whose
-- demand is one of the supply and which is judged Take after the reports of that log.
pub record IsFaultyAt (terms : Terms) (bytes : List ℕ) (place : ℕ) : Type 0 where
  pub before : ClockHistory
  pub log : IsLogOf terms before (take place bytes)
  pub within : place < length bytes
  pub no_entry : (r : Report) (rest : List ℕ) → IsDemand terms.goods r.demand → judgement_of before r ≡ Take → drop place bytes ≡ entry_of (length terms.goods) r ++ rest → ⊥
