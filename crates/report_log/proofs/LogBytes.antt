-- Bytes are a log of one history, or have one first faulty entry, and not both. What is a log is bytes.
use Rattle.std.proofs.Common.{◌≡◌, ◌<◌, ◌^◌, ◌/◌, ◌⊎◌, inl, inr, ℕ, zero, suc, List, [], ◌∷◌, ◌++◌, length, Result, Ok, Err, arith, refl, sym, ◌∙◌, subst, lit<}
use Rattle.byte_numbers.specs.Spelling.{big_bytes}
use Rattle.std.specs.Int.{byte_at}
use Rattle.std.specs.List.{AllByRecursion, concat, flat_map}
use Rattle.std.proofs.Math.Nat.{mod-lt}
use Rattle.lot_base.specs.declared.auction_terms.Terms.{Terms}
use Rattle.demand_set.specs.declared.reports.Report.{Report}
use Rattle.clock.specs.Reports.{ClockHistory, with_report}
use Rattle.clock.specs.Judging.{TakesAll}
use Rattle.recovery.specs.Entries.{payload_of}
use Rattle.report_log.specs.Logs.{AreBytes, entry_of, entries_of, IsLogOf, IsFaultyAt}
use Rattle.report_log.proofs.LastRound.{in-round}
use Rattle.report_log.specs.Entries.{log_of}
use Rattle.report_log.proofs.WrittenLogs.{back-log, fault-here, faulty-log, whole-log}

abbrev AllBytes : List ℕ → Type 0
AllBytes bytes = AllByRecursion (λ b. b < 256) bytes

each-byte : (bytes : List ℕ) → AllBytes bytes → AreBytes bytes
each-byte [] all i = lit< tt
each-byte (b ∷ bytes) all zero = all.0
each-byte (b ∷ bytes) all (suc i) = each-byte bytes all.1 i

joined : (bytes more : List ℕ) → AllBytes bytes → AllBytes more → AllBytes (bytes ++ more)
joined [] more all others = others
joined (b ∷ bytes) more all others = (all.0, joined bytes more all.1 others)

one-byte : (k n : ℕ) → byte_at k n < 256
one-byte zero n = mod-lt n (lit< tt)
one-byte (suc k) n = mod-lt (n / 256 ^ suc k) (lit< tt)

number-bytes : (k n : ℕ) → AllBytes (big_bytes k n)
number-bytes zero n = tt
number-bytes (suc k) n = (one-byte k n, number-bytes k n)

bundle-bytes : (bundle : List ℕ) → AllBytes (flat_map (big_bytes 2) bundle)
bundle-bytes [] = tt
bundle-bytes (x ∷ bundle) = joined (big_bytes 2 x) (flat_map (big_bytes 2) bundle) (number-bytes 2 x) (bundle-bytes bundle)

entry-bytes : (goods : ℕ) (r : Report) → r.bidder < 256 → goods < 256 → AllBytes (entry_of goods r)
unfolding payload_of
entry-bytes goods r bidder few =
    let count = length (concat r.demand) / goods in
    let quantities = flat_map (big_bytes 2) (concat r.demand) in
    let body = big_bytes 2 count ++ quantities in
    joined (big_bytes 4 (length (payload_of goods r))) (payload_of goods r) (number-bytes 4 (length (payload_of goods r))) (
      bidder,
      joined (big_bytes 4 r.round) (goods ∷ body) (number-bytes 4 r.round)
          (few, joined (big_bytes 2 count) quantities (number-bytes 2 count) (bundle-bytes (concat r.demand))),
    )

entries-bytes : (reports : List Report) (c : ClockHistory) → TakesAll c reports → AllBytes (entries_of (length c.terms.goods) reports)
entries-bytes [] c takes = tt
entries-bytes (r ∷ reports) c takes =
    let goods = length c.terms.goods in
    let bidder : r.bidder < 256 = (let last = (in-round c r takes.0).member.to_last in let few = c.terms.bidders_in_range.at_most in omega arith) in
    let few : goods < 256 = (let most = c.terms.supply.few_goods in omega arith) in
    joined (entry_of goods r) (entries_of goods reports) (entry-bytes goods r bidder few) (entries-bytes reports (with_report c r) takes.1)

log-bytes : (terms : Terms) (c : ClockHistory) (bytes : List ℕ) → IsLogOf terms c bytes → AreBytes bytes
log-bytes terms c bytes is =
    let P : Terms → Type 0 = λ t. AllBytes (entries_of (length t.goods) c.reports) in
    let all = subst P is.terms_are (entries-bytes c.reports (record c { reports = [] }) is.legal.takes) in
    subst AreBytes (sym is.entries) (each-byte (entries_of (length terms.goods) c.reports) all)

-- bytes that are a log have no faulty entry
pub no-fault : (terms : Terms) (c : ClockHistory) (bytes : List ℕ) (place : ℕ) → IsLogOf terms c bytes → IsFaultyAt terms bytes place → ⊥
no-fault terms c bytes place is faulty =
    let e : Ok c ≡ Err place = sym (back-log terms bytes c is) ∙ fault-here terms bytes place (log-bytes terms c bytes is) faulty in
    cc

-- they are a log of one history at most
pub one-history : (terms : Terms) (c d : ClockHistory) (bytes : List ℕ) → IsLogOf terms c bytes → IsLogOf terms d bytes → c ≡ d
one-history terms c d bytes is it = let e : Ok c ≡ Ok d = sym (back-log terms bytes c is) ∙ back-log terms bytes d it in cc

-- and have one first faulty entry at most
pub one-place : (terms : Terms) (bytes : List ℕ) (place other : ℕ) → AreBytes bytes → IsFaultyAt terms bytes place → IsFaultyAt terms bytes other → place ≡ other
one-place terms bytes place other are is it =
    let e : Err place ≡ Err other = sym (fault-here terms bytes place are is) ∙ fault-here terms bytes other are it in
    cc

-- they are one or have the other
pub log-or-fault : (terms : Terms) (bytes : List ℕ) → AreBytes bytes → ((c : ClockHistory) × IsLogOf terms c bytes) ⊎ ((place : ℕ) × IsFaultyAt terms bytes place)
log-or-fault terms bytes are = by (log_of terms bytes) refl
  where
    by : (r : Result ClockHistory ℕ) → log_of terms bytes ≡ r → ((c : ClockHistory) × IsLogOf terms c bytes) ⊎ ((place : ℕ) × IsFaultyAt terms bytes place)
    by (Ok c) e = inl (c, whole-log terms bytes c are e)
    by (Err place) e = inr (place, faulty-log terms bytes place are e)
