-- Entries of reports, as logs and journals keep them: a payload of a report whose first byte is the bidder, of at most 32,768 bytes.
use Rattle.std.specs.Prelude.{◌≡◌, ◌≤◌, ℕ, ◌*◌, nat_le, Bool, true, false, ◌&&◌, List, length, Option, Some, None}
use Rattle.byte_numbers.specs.Spelling.{short_numbers}
use Rattle.lot_base.specs.declared.raw.RawReport.{RawReport}
use Rattle.lot_base.specs.declared.limits.TheConstants.{MOST_GOODS, GREATEST_PAYLOAD}
use Rattle.report_wire.specs.declared.entries.EntryView.{EntryView}
use Rattle.report_wire.specs.Payloads.{report_payload, is_report_payload}

-- the bytes of an entry
abbrev pub entry_payload : RawReport → List ℕ
entry_payload r = report_payload r.bidder r.round r.demand.goods r.demand.quantities

-- whether bytes are an entry
abbrev pub is_entry : List ℕ → Bool
is_entry payload = nat_le (length payload) GREATEST_PAYLOAD && is_report_payload payload

-- the quantities are those of some bundles of so many goods
pub record IsWhole (goods : ℕ) (quantities : List ℕ) : Type 0 where
  pub some_good : 1 ≤ goods
  pub few_goods : goods ≤ MOST_GOODS
  pub count : ℕ
  pub whole : length quantities ≡ count * goods

-- what was read of a payload: the report that it spells, or that it spells none
abbrev pub IsReport : (List ℕ → Bool) → Option RawReport → List ℕ → Type 0
IsReport is_one None payload = is_one payload ≡ false
IsReport is_one (Some r) payload = (is_one payload ≡ true) × (entry_payload r ≡ payload) × IsWhole r.demand.goods r.demand.quantities

-- what is seen of a payload: the parts of the report that it spells, or that it spells none
abbrev pub IsViewed : (List ℕ → Bool) → Option EntryView → List ℕ → Type 0
IsViewed is_one None payload = is_one payload ≡ false
IsViewed is_one (Some e) payload =
    (is_one payload ≡ true) × (report_payload e.bidder e.round e.goods (short_numbers e.quantities.now) ≡ payload)
    × IsWhole e.goods (short_numbers e.quantities.now)
