-- Reports of the last or current round are found from the place on at which they begin.
use Rattle.std.proofs.Common.{◌≡◌, ◌≤◌, ℕ, zero, suc, ◌+◌, ◌&&◌, false, nat_eq, cond, List, [], ◌∷◌, Some, refl, sym, ◌∙◌, ap, arith, take, drop, subst}
use Rattle.std.proofs.lemmas.Bool.Decides.{nat_tests}
use Rattle.std.specs.Prelude.{find, option_map, unwrap_or, is_none}
use Rattle.std.specs.List.{AllByRecursion}
use Rattle.demand_set.specs.declared.reports.Report.{Report}
use Rattle.lot_base.specs.Steps.{step_set, excess}
use Rattle.lot_base.specs.declared.phases.Phase.{Phase}
use Rattle.clock.specs.Reports.{is_named, demand_in, demands_in, ClockHistory}
use Rattle.clock.specs.Standing.{last_round}
use Rattle.credit_book.specs.Account.{Sums}
use Rattle.clock.specs.Kept.{HasStanding}

find-current : (current steps j : ℕ) (reports : List Report) → AllByRecursion (λ (r : Report). r.round ≤ steps) (take current reports)
    → find (is_named (steps + 1) j) (drop current reports) ≡ find (is_named (steps + 1) j) reports
find-current zero steps j reports past = refl
find-current (suc current) steps j [] past = refl
find-current (suc current) steps j (x ∷ reports) past =
    let other : nat_eq x.round (steps + 1) ≡ false = (let p = past.0 in grind (arith, nat_tests)) in
    find-current current steps j reports past.1 ∙ sym (ap (λ b. cond (b && nat_eq x.bidder j) (Some x) (find (is_named (steps + 1) j) reports)) other)

pub demand-current : (current steps j : ℕ) (reports round : List Report) → AllByRecursion (λ (r : Report). r.round ≤ steps) (take current reports) → round ≡ drop current reports
    → demand_in round (steps + 1) j ≡ demand_in reports (steps + 1) j
demand-current current steps j reports round past e =
    ap (λ rs. demand_in rs (steps + 1) j) e ∙ ap (option_map (λ r. r.demand)) (find-current current steps j reports past)

pub missing-current : (current steps : ℕ) (ms : List ℕ) (reports round : List Report) → AllByRecursion (λ (r : Report). r.round ≤ steps) (take current reports) → round ≡ drop current reports
    → find (λ j. is_none (demand_in round (steps + 1) j)) ms ≡ find (λ j. is_none (demand_in reports (steps + 1) j)) ms
missing-current current steps ms reports round past e = λ i. find (λ j. is_none (demand-current current steps j reports round past e i)) ms

pub step_set-current : (current steps : ℕ) (goods ms : List ℕ) (reports round : List Report) → AllByRecursion (λ (r : Report). r.round ≤ steps) (take current reports) → round ≡ drop current reports
    → step_set goods (demands_in round (steps + 1)) ms ≡ step_set goods (demands_in reports (steps + 1)) ms
step_set-current current steps goods ms reports round past e = λ i. step_set goods (λ j. unwrap_or (demand-current current steps j reports round past e i) []) ms

pub excess-current : (current steps : ℕ) (goods ms : List ℕ) (set : ℕ) (reports round : List Report) → AllByRecursion (λ (r : Report). r.round ≤ steps) (take current reports) → round ≡ drop current reports
    → excess goods (demands_in round (steps + 1)) ms set ≡ excess goods (demands_in reports (steps + 1)) ms set
excess-current current steps goods ms set reports round past e = λ i. excess goods (λ j. unwrap_or (demand-current current steps j reports round past e i) []) ms set

pub all-drop : (P : Report → Type 0) (n : ℕ) (reports round : List Report) → AllByRecursion P reports → round ≡ drop n reports → AllByRecursion P round
all-drop P n reports round all e = by n reports all e
  where
    by : (n : ℕ) (reports : List Report) → AllByRecursion P reports → round ≡ drop n reports → AllByRecursion P round
    by zero reports all e = let Q : List Report → Type 0 = λ rs. AllByRecursion P rs in subst Q (sym e) all
    by (suc n) [] all e = let Q : List Report → Type 0 = λ rs. AllByRecursion P rs in subst Q (sym e) tt
    by (suc n) (x ∷ reports) all e = by n reports all.1 e

-- the same in the words of the clock that keeps the place
pub current-means : (c : ClockHistory) (kept : ClockHistory) (current steps : ℕ) (phase : Phase) (prices : List ℕ) (account : Sums) (list round : List Report) → HasStanding c current steps phase prices account → c ≡ kept → list ≡ c.reports → round ≡ drop current list
    → (j : ℕ) → demand_in round (last_round kept) j ≡ demand_in kept.reports (last_round kept) j
current-means c kept current steps phase prices account list round k same whole e j =
    let P : ClockHistory → Type 0 = λ h. demand_in round (last_round h) j ≡ demand_in h.reports (last_round h) j in
    let Q : ℕ → Type 0 = λ n. demand_in round (n + 1) j ≡ demand_in c.reports (n + 1) j in
    subst P same (subst Q k.steps_are (demand-current current steps j c.reports round k.past (e ∙ ap (drop current) whole)))

-- they are all of that round
pub current-only : (c : ClockHistory) (kept : ClockHistory) (current steps : ℕ) (phase : Phase) (prices : List ℕ) (account : Sums) (list round : List Report) → HasStanding c current steps phase prices account → c ≡ kept → list ≡ c.reports → round ≡ drop current list
    → AllByRecursion (λ (r : Report). r.round ≡ last_round kept) round
current-only c kept current steps phase prices account list round k same whole e =
    let P : ClockHistory → Type 0 = λ h. AllByRecursion (λ (r : Report). r.round ≡ last_round h) round in
    let Q : ℕ → Type 0 = λ n. AllByRecursion (λ (r : Report). r.round ≡ n + 1) round in
    let R : List Report → Type 0 = λ rs. AllByRecursion (λ (r : Report). r.round ≡ steps + 1) rs in
    subst P same (subst Q k.steps_are (subst R (sym (e ∙ ap (drop current) whole)) k.present))
