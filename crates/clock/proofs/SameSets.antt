-- Rounds of the same demands have the same step set.
use Rattle.std.proofs.Common.{◌≡◌, ℕ, ◌+◌, ◌-◌, Bool, true, false, not, ◌&&◌, nat_eq, cond, List, [], ◌∷◌, ◌++◌, append_assoc, Some, None, is_some, is_none, refl, sym, ◌∙◌, ap, arith}
use Rattle.std.specs.Prelude.{map, find, unwrap_or, option_map}
use Rattle.std.specs.List.{AllByRecursion}
use Rattle.std.proofs.lemmas.Bool.Decides.{nat_tests}
use Rattle.lot_base.specs.Steps.{step_set}
use Rattle.lot_base.proofs.Within.{both}
use Rattle.demand_set.specs.declared.reports.Report.{Report}
use Rattle.clock.specs.Reports.{ClockHistory, is_named, demand_in, demands_in, members_of, is_full}
use Rattle.clock.specs.Standing.{step_set_after, leads_on, is_full_after, good_at_ceiling, steps_of, last_round}
use Rattle.clock.specs.Repeats.{IsIdle, again_by, with_round}
use Rattle.clock.proofs.Path.{has_steps}
use Rattle.clock.proofs.Repeated.{step-same}
use Rattle.clock.proofs.Pushed.{none-found}

pub sets-same : (c : ClockHistory) (m n : ℕ) → AllByRecursion (λ j. demands_in c.reports (m + 1) j ≡ demands_in c.reports (n + 1) j) (members_of c) → step_set_after c m ≡ step_set_after c n
sets-same c m n all = step-same c.terms.goods (demands_in c.reports (m + 1)) (demands_in c.reports (n + 1)) (members_of c) all

-- what is reported again is found
find-behind : (test : Report → Bool) (before after : List Report) → find test before ≡ None → find test (before ++ after) ≡ find test after
find-behind test [] after none = refl
find-behind test (r ∷ before) after none = by (test r) refl (find-behind test before after)
  where
    by : (b : Bool) → test r ≡ b → (find test before ≡ None → find test (before ++ after) ≡ find test after) → find test (r ∷ before ++ after) ≡ find test after
    by true e rest = absurd (let f : Some r ≡ None = sym (ap (λ b. cond b (Some r) (find test before)) e) ∙ none in cc)
    by false e rest = ap (λ b. cond b (Some r) (find test (before ++ after))) e ∙ rest (sym (ap (λ b. cond b (Some r) (find test before)) e) ∙ none)

found-at : (c : ClockHistory) (told left : List ℕ) (j : ℕ) → find (is_named (last_round c) j) (map (again_by c) (told ++ j ∷ left)) ≡ Some (again_by c j)
found-at c [] left j =
    let a : nat_eq (last_round c) (last_round c) ≡ true = grind (arith, nat_tests) in
    let b : nat_eq j j ≡ true = grind (arith, nat_tests) in
    λ i. cond (a i && b i) (Some (again_by c j)) (find (is_named (last_round c) j) (map (again_by c) left))
found-at c (k ∷ told) left j = by (nat_eq k j) refl (found-at c told left j)
  where
    a : nat_eq (last_round c) (last_round c) ≡ true
    a = grind (arith, nat_tests)

    by : (b : Bool) → nat_eq k j ≡ b → find (is_named (last_round c) j) (map (again_by c) (told ++ j ∷ left)) ≡ Some (again_by c j) → find (is_named (last_round c) j) (map (again_by c) (k ∷ told ++ j ∷ left)) ≡ Some (again_by c j)
    by true e rest = (λ i. cond (a i && e i) (Some (again_by c k)) (find (is_named (last_round c) j) (map (again_by c) (told ++ j ∷ left)))) ∙ ap (λ n. Some (again_by c n)) (let same : k ≡ j = grind (arith, nat_tests, e) in same)
    by false e rest = (λ i. cond (a i && e i) (Some (again_by c k)) (find (is_named (last_round c) j) (map (again_by c) (told ++ j ∷ left)))) ∙ rest

demand-again : (c : ClockHistory) (told left : List ℕ) (j : ℕ) → IsIdle c → told ++ j ∷ left ≡ members_of c → demand_in (with_round c).reports (last_round c) j ≡ Some (demands_in c.reports (steps_of c) j)
demand-again c told left j idle whole =
    ap (option_map (λ (r : Report). r.demand)) (find-behind (is_named (last_round c) j) c.reports (map (again_by c) (members_of c)) (none-found (find (is_named (last_round c) j) c.reports) (idle.nobody j))
    ∙ ap (λ ms. find (is_named (last_round c) j) (map (again_by c) ms)) (sym whole) ∙ found-at c told left j)

demands-again : (c : ClockHistory) (told left : List ℕ) → IsIdle c → told ++ left ≡ members_of c → AllByRecursion (λ j. demand_in (with_round c).reports (last_round c) j ≡ Some (demands_in c.reports (steps_of c) j)) left
demands-again c told [] idle whole = tt
demands-again c told (j ∷ left) idle whole = (demand-again c told left j idle whole, demands-again c (told ++ j ∷ []) left idle (append_assoc told (j ∷ []) left ∙ whole))

as-demands : (c h : ClockHistory) (m n : ℕ) (ms : List ℕ) → AllByRecursion (λ j. demand_in h.reports m j ≡ Some (demands_in c.reports n j)) ms → AllByRecursion (λ j. demands_in h.reports m j ≡ demands_in c.reports n j) ms
as-demands c h m n [] all = tt
as-demands c h m n (j ∷ ms) all = (ap (λ o. unwrap_or o []) all.0, as-demands c h m n ms all.1)

full-again : (c h : ClockHistory) (m n : ℕ) (ms : List ℕ) → AllByRecursion (λ j. demand_in h.reports m j ≡ Some (demands_in c.reports n j)) ms → is_full ms h.reports m ≡ true
full-again c h m n [] all = refl
full-again c h m n (j ∷ ms) all = let a = ap is_some all.0 in let b = full-again c h m n ms all.1 in λ i. a i && b i

-- the repeated round has the step set of the round before
pub round-same : (c : ClockHistory) → IsIdle c → step_set_after (with_round c) (steps_of c) ≡ step_set_after c (steps_of c - 1)
round-same c idle =
    let e : steps_of c ≡ steps_of c - 1 + 1 = (let s = idle.some_step in omega (arith, s)) in
    step-same c.terms.goods (demands_in (with_round c).reports (last_round c)) (demands_in c.reports (steps_of c)) (members_of c)
    (as-demands c (with_round c) (last_round c) (steps_of c) (members_of c) (demands-again c [] (members_of c) idle refl))
    ∙ ap (λ n. step_set c.terms.goods (demands_in c.reports n) (members_of c)) e

-- and only the ceiling ends the clock there
pub only-ceiling : (c : ClockHistory) → IsIdle c → leads_on (with_round c) (steps_of c) ≡ is_none (good_at_ceiling (with_round c) (steps_of c))
only-ceiling c idle =
    let before = (has_steps c).before (steps_of c - 1) (let s = idle.some_step in omega (arith, s)) in
    let g = both (is_full_after c (steps_of c - 1)) (not (nat_eq (step_set_after c (steps_of c - 1)) 0) && is_none (good_at_ceiling c (steps_of c - 1))) before in
    let h = both (not (nat_eq (step_set_after c (steps_of c - 1)) 0)) (is_none (good_at_ceiling c (steps_of c - 1))) g.1 in
    let some : not (nat_eq (step_set_after (with_round c) (steps_of c)) 0) ≡ true = ap (λ n. not (nat_eq n 0)) (round-same c idle) ∙ h.0 in
    let full : is_full_after (with_round c) (steps_of c) ≡ true = full-again c (with_round c) (last_round c) (steps_of c) (members_of c) (demands-again c [] (members_of c) idle refl) in
    λ i. full i && (some i && is_none (good_at_ceiling (with_round c) (steps_of c)))
