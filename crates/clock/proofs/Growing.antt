-- A report that is taken is one of the present round, so it changes nothing of the rounds before.
use Rattle.std.proofs.Common.{◌≡◌, ◌≢◌, ◌<◌, ◌≤◌, ◌⊎◌, inl, inr, ℕ, ◌+◌, true, false, ◌&&◌, nat_eq, List, [], ◌∷◌, ◌++◌, Option, Some, None, refl, sym, ◌∙◌, ap, arith}
use Rattle.std.proofs.lemmas.Bool.Decides.{nat_tests}
use Rattle.std.specs.Prelude.{find, option_map}
use Rattle.demand_set.specs.declared.reports.Report.{Report}
use Rattle.clock.specs.declared.judging.Judgement.TheVariants.{Take}
use Rattle.clock.specs.Reports.{ClockHistory, with_report, is_named, demand_in}
use Rattle.clock.specs.Standing.{steps_of, phase_of, last_round}
use Rattle.clock.specs.Judging.{judgement_of}
use Rattle.clock.specs.Growth.{Grows}
use Rattle.clock.proofs.Append.{find-some, find-none, prices-stay, leads_on-stays}
use Rattle.clock.proofs.Path.{has_steps, compare-or}
use Rattle.clock.proofs.Present.{taken-now}
use Rattle.clock.proofs.After.{legal-after}

demand-apart : (reports : List Report) (r : Report) (round j : ℕ) → r.round ≢ round → demand_in (reports ++ r ∷ []) round j ≡ demand_in reports round j
demand-apart reports r round j apart = ap (option_map (λ (x : Report). x.demand)) (by (find (is_named round j) reports) refl)
  where
    other : is_named round j r ≡ false
    other = let e : nat_eq r.round round ≡ false = grind (arith, nat_tests) in ap (λ b. b && nat_eq r.bidder j) e

    by : (o : Option Report) → find (is_named round j) reports ≡ o → find (is_named round j) (reports ++ r ∷ []) ≡ find (is_named round j) reports
    by None f = find-none (is_named round j) reports r f other ∙ sym f
    by (Some v) f = find-some (is_named round j) reports r v f ∙ sym f

no-fewer : (c : ClockHistory) (r : Report) → steps_of c ≤ steps_of (with_report c r)
no-fewer c r = by (compare-or (steps_of (with_report c r)) (steps_of c))
  where
    by : (steps_of (with_report c r) < steps_of c) ⊎ ((steps_of c < steps_of (with_report c r)) ⊎ (steps_of (with_report c r) ≡ steps_of c)) → steps_of c ≤ steps_of (with_report c r)
    by (inl less) =
        let on = leads_on-stays c r (steps_of (with_report c r)) (λ m below. (has_steps c).before m (omega arith)) in
        absurd (let f : true ≡ false = sym on ∙ (has_steps (with_report c r)).stops in cc)
    by (inr (inl more)) = omega arith
    by (inr (inr same)) = omega arith

pub grows : (c : ClockHistory) (r : Report) → judgement_of c r ≡ Take → Grows c r
grows c r take =
    let now : r.round ≡ steps_of c + 1 = taken-now c (steps_of c) (last_round c) (phase_of c) r (has_steps c).before refl take in
    record {
      steps = no-fewer c r;
      prices = λ n up. prices-stay c r n (λ m below. (has_steps c).before m (omega arith));
      demands = λ round bidder up. demand-apart c.reports r round bidder (λ same. omega arith);
      legal = λ legal fit. legal-after c r legal take fit;
    }
