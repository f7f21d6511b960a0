-- The members from a bidder on.
use Rattle.std.proofs.Common.{◌≡◌, ◌≢◌, ◌<◌, ℕ, suc, ◌+◌, ◌-◌, Bool, true, false, not, nat_eq, cond, List, ◌∷◌, Some, ◌∙◌, ap, arith}
use Rattle.std.proofs.lemmas.Bool.Decides.{nat_tests}
use Rattle.std.specs.Prelude.{filter, find}
use Rattle.std.specs.List.{range_with_len}
use Rattle.demand_set.specs.declared.reports.Report.{Report}
use Rattle.lot_base.specs.Demands.{least}
use Rattle.lot_base.specs.Economy.{total_units}
use Rattle.clock.specs.Reports.{demands_in}

abbrev pub members_from : ℕ → ℕ → ℕ → List ℕ
members_from step bidders clock = filter (λ j. not (nat_eq j clock)) (range_with_len (1 + step) (bidders - step))

range-next : (step bidders : ℕ) → step < bidders → range_with_len (1 + step) (bidders - step) ≡ (step + 1) ∷ range_with_len (1 + (step + 1)) (bidders - (step + 1))
range-next step bidders below =
    let e : bidders - step ≡ suc (bidders - (step + 1)) = omega arith in
    let f : 1 + step ≡ step + 1 = omega arith in
    let g : 1 + step + 1 ≡ 1 + (step + 1) = omega arith in
    ap (range_with_len (1 + step)) e ∙ (λ i. f i ∷ range_with_len (g i) (bidders - (step + 1)))

pub members-keep : (step bidders clock : ℕ) → step < bidders → step + 1 ≢ clock → members_from step bidders clock ≡ (step + 1) ∷ members_from (step + 1) bidders clock
members-keep step bidders clock below other =
    let t : nat_eq (step + 1) clock ≡ false = grind (arith, nat_tests) in
    ap (filter (λ j. not (nat_eq j clock))) (range-next step bidders below) ∙ ap (λ b. cond (not b) ((step + 1) ∷ members_from (step + 1) bidders clock) (members_from (step + 1) bidders clock)) t

pub members-skip : (step bidders clock : ℕ) → step < bidders → step + 1 ≡ clock → members_from step bidders clock ≡ members_from (step + 1) bidders clock
members-skip step bidders clock below same =
    let t : nat_eq (step + 1) clock ≡ true = grind (arith, nat_tests) in
    ap (filter (λ j. not (nat_eq j clock))) (range-next step bidders below) ∙ ap (λ b. cond (not b) ((step + 1) ∷ members_from (step + 1) bidders clock) (members_from (step + 1) bidders clock)) t

pub find-keep : (test : ℕ → Bool) (step bidders clock : ℕ) → step < bidders → step + 1 ≢ clock → test (step + 1) ≡ false → find test (members_from step bidders clock) ≡ find test (members_from (step + 1) bidders clock)
find-keep test step bidders clock below other fails =
    ap (find test) (members-keep step bidders clock below other) ∙ ap (λ b. cond b (Some (step + 1)) (find test (members_from (step + 1) bidders clock))) fails

pub find-here : (test : ℕ → Bool) (step bidders clock : ℕ) → step < bidders → step + 1 ≢ clock → test (step + 1) ≡ true → find test (members_from step bidders clock) ≡ Some (step + 1)
find-here test step bidders clock below other passes =
    ap (find test) (members-keep step bidders clock below other) ∙ ap (λ b. cond b (Some (step + 1)) (find test (members_from (step + 1) bidders clock))) passes

pub find-skip : (test : ℕ → Bool) (step bidders clock : ℕ) → step < bidders → step + 1 ≡ clock → find test (members_from step bidders clock) ≡ find test (members_from (step + 1) bidders clock)
find-skip test step bidders clock below same = ap (find test) (members-skip step bidders clock below same)

pub least-keep : (reports : List Report) (round set step bidders clock : ℕ) → step < bidders → step + 1 ≢ clock
    → total_units (λ j. least (demands_in reports round j) set) (members_from step bidders clock) ≡ least (demands_in reports round (step + 1)) set + total_units (λ j. least (demands_in reports round j) set) (members_from (step + 1) bidders clock)
least-keep reports round set step bidders clock below other = ap (total_units (λ j. least (demands_in reports round j) set)) (members-keep step bidders clock below other)

pub least-skip : (reports : List Report) (round set step bidders clock : ℕ) → step < bidders → step + 1 ≡ clock
    → total_units (λ j. least (demands_in reports round j) set) (members_from step bidders clock) ≡ total_units (λ j. least (demands_in reports round j) set) (members_from (step + 1) bidders clock)
least-skip reports round set step bidders clock below same = ap (total_units (λ j. least (demands_in reports round j) set)) (members-skip step bidders clock below same)

pub sum-step : (total before v next from all : ℕ) → total ≡ before + v → from ≡ v + next → before + from ≡ all → total + next ≡ all
sum-step total before v next from all e f g = omega arith
