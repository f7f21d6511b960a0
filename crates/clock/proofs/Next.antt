-- Where a round leads, by what was found in it.
use Rattle.std.proofs.Common.{◌≡◌, ◌≢◌, ◌<◌, ◌≤◌, ◌⊎◌, inl, inr, ℕ, suc, ◌+◌, ◌*◌, ◌/◌, ◌%◌, Bool, true, false, not, ◌&&◌, nat_eq, cond, List, [], ◌∷◌, Option, Some, None, is_some, is_none, refl, sym, ◌∙◌, ap, arith, length, drop, get_or}
use Rattle.std.proofs.lemmas.Bool.Decides.{nat_tests}
use Rattle.std.proofs.Math.Nat.{mul-le-mul}
use Rattle.std.proofs.Math.Seq.{drop-cons}
use Rattle.std.specs.Prelude.{find}
use Rattle.lot_base.specs.Goods.{raised, AllBelow, IsSupply}
use Rattle.demand_set.specs.declared.reports.Report.{Report}
use Rattle.lot_base.specs.declared.phases.Phase.TheVariants.{Running, Ended, Halted}
use Rattle.clock.specs.Reports.{demand_in, is_full, ClockHistory, members_of}
use Rattle.clock.specs.Standing.{step_set_after, leads_on, is_full_after, good_at_ceiling, prices_after, good_from, phase_by, phase_after}
use Rattle.clock.proofs.Ceiling.{AllUpTo}
use Rattle.clock.proofs.Path.{on_the_path, stops_by, compare-or}

-- the round is full where nobody is missing
pub full-from_find : (ms : List ℕ) (reports : List Report) (round : ℕ) → is_full ms reports round ≡ is_none (find (λ j. is_none (demand_in reports round j)) ms)
full-from_find [] reports round = refl
full-from_find (j ∷ ms) reports round = by (demand_in reports round j) (full-from_find ms reports round)
  where
    by : (o : Option (List (List ℕ))) → is_full ms reports round ≡ is_none (find (λ j. is_none (demand_in reports round j)) ms) → (is_some o && is_full ms reports round) ≡ is_none (cond (is_none o) (Some j) (find (λ j. is_none (demand_in reports round j)) ms))
    by None rest = refl
    by (Some d) rest = rest

phase-goes : (full more : Bool) (good : Option ℕ) → full ≡ false → (phase_by full more good ≡ Running) × ((full && (not more && is_none good)) ≡ false)
phase-goes true more good e = absurd (let f : true ≡ false = e in cc)
phase-goes false more good e = (refl, refl)

pub waits : (c : ClockHistory) (steps : ℕ) → is_full_after c steps ≡ false → (phase_after c steps ≡ Running) × (leads_on c steps ≡ false)
waits c steps e = phase-goes (is_full_after c steps) (nat_eq (step_set_after c steps) 0) (good_at_ceiling c steps) e

phase-ended : (full more : Bool) (good : Option ℕ) → full ≡ true → more ≡ true → (phase_by full more good ≡ Ended) × ((full && (not more && is_none good)) ≡ false)
phase-ended true true good e f = (refl, refl)
phase-ended true false good e f = absurd (let g : false ≡ true = f in cc)
phase-ended false more good e f = absurd (let g : false ≡ true = e in cc)

pub ends : (c : ClockHistory) (steps : ℕ) → is_full_after c steps ≡ true → step_set_after c steps ≡ 0 → (phase_after c steps ≡ Ended) × (leads_on c steps ≡ false)
ends c steps e f = phase-ended (is_full_after c steps) (nat_eq (step_set_after c steps) 0) (good_at_ceiling c steps) e (grind (arith, nat_tests))

phase-halted : (full more : Bool) (good : Option ℕ) (k : ℕ) → full ≡ true → more ≡ false → good ≡ Some k → (phase_by full more good ≡ Halted k) × ((full && (not more && is_none good)) ≡ false)
phase-halted true false (Some n) k e f g = let h : n ≡ k = cc in (ap Halted h, refl)
phase-halted true false None k e f g = absurd (cc)
phase-halted true true good k e f g = absurd (let h : true ≡ false = f in cc)
phase-halted false more good k e f g = absurd (let h : false ≡ true = e in cc)

pub halts : (c : ClockHistory) (steps k : ℕ) → is_full_after c steps ≡ true → step_set_after c steps ≢ 0 → good_at_ceiling c steps ≡ Some k → (phase_after c steps ≡ Halted k) × (leads_on c steps ≡ false)
halts c steps k e f g = phase-halted (is_full_after c steps) (nat_eq (step_set_after c steps) 0) (good_at_ceiling c steps) k e (grind (arith, nat_tests)) g

pub goes : (c : ClockHistory) (steps : ℕ) → is_full_after c steps ≡ true → step_set_after c steps ≢ 0 → good_at_ceiling c steps ≡ None → leads_on c steps ≡ true
goes c steps e f g = let h : nat_eq (step_set_after c steps) 0 ≡ false = grind (arith, nat_tests) in λ i. e i && (not (h i) && is_none (g i))

pub few-steps : (c : ClockHistory) (steps : ℕ) → IsSupply c.terms.goods → ((m : ℕ) → m < steps → leads_on c m ≡ true) → leads_on c steps ≡ true → steps + 1 ≤ 60000
few-steps c steps supply before e = by (compare-or steps (length c.terms.goods * c.terms.ceiling))
  where
    most : length c.terms.goods * c.terms.ceiling ≤ steps → steps + 1 ≤ 60000
    most up = absurd (let s : leads_on c steps ≡ false = stops_by c steps up before in let f : true ≡ false = sym e ∙ s in cc)

    by : (steps < length c.terms.goods * c.terms.ceiling) ⊎ ((length c.terms.goods * c.terms.ceiling < steps) ⊎ (steps ≡ length c.terms.goods * c.terms.ceiling)) → steps + 1 ≤ 60000
    by (inl below) = let p : length c.terms.goods * c.terms.ceiling ≤ 6 * 10000 = mul-le-mul supply.few_goods c.terms.ceiling_in_range.at_most in omega (arith, below)
    by (inr (inl above)) = most (omega (arith, above))
    by (inr (inr same)) = most (omega (arith, same))

pub below-limit : (ceiling limit : ℕ) (ps : List ℕ) (set : ℕ) → ceiling < limit → AllUpTo ceiling ps → AllBelow limit ps set
below-limit ceiling limit [] set below up = tt
below-limit ceiling limit (p ∷ ps) set below up = (λ odd. omega (arith, up.0), below-limit ceiling limit ps (set / 2) below up.1)

pub can-raise : (c : ClockHistory) (steps set : ℕ) → ((m : ℕ) → m < steps → leads_on c m ≡ true) → AllBelow 4294967295 (prices_after c steps) set
can-raise c steps set before = below-limit c.terms.ceiling 4294967295 (prices_after c steps) set (omega (arith, c.terms.ceiling_in_range.at_most)) (on_the_path c steps before).up

pub good_from_drop : (k ceiling : ℕ) (ps : List ℕ) (set : ℕ) → k < length ps → good_from k ceiling (drop k ps) set ≡ cond (nat_eq (set % 2) 1 && nat_eq (get_or ps k 0) ceiling) (Some k) (good_from (k + 1) ceiling (drop (k + 1) ps) (set / 2))
good_from_drop k ceiling ps set below =
    let e : suc k ≡ k + 1 = omega arith in
    ap (λ xs. good_from k ceiling xs set) (drop-cons ps k 0 below) ∙ ap (λ n. cond (nat_eq (set % 2) 1 && nat_eq (get_or ps k 0) ceiling) (Some k) (good_from (k + 1) ceiling (drop n ps) (set / 2))) e

none-some : (o : Option ℕ) (b : Bool) → b ≡ is_some o → is_none o ≡ not b
none-some None b e = sym (ap not e)
none-some (Some x) b e = sym (ap not e)

-- by what the search for a missing member found
pub full-by : (c : ClockHistory) (steps : ℕ) (o : Option ℕ) (b answer : Bool) → o ≡ find (λ j. is_none (demand_in c.reports (steps + 1) j)) (members_of c) → b ≡ is_some o → b ≡ answer → is_full_after c steps ≡ not answer
full-by c steps o b answer e f g = full-from_find (members_of c) c.reports (steps + 1) ∙ ap is_none (sym e) ∙ none-some o b f ∙ ap not g

pub prices-next : (c : ClockHistory) (steps : ℕ) → prices_after c (steps + 1) ≡ raised (prices_after c steps) (step_set_after c steps)
unfolding prices_after
prices-next c steps = let e : steps + 1 ≡ suc steps = omega arith in ap (prices_after c) e
