use Rattle.std.proofs.Common.{◌+◌, ◌-◌, length, slice_index, slice_set, arith}
use Rattle.std.proofs.lemmas.Grind.{common_steps}
use Rattle.valuation.proofs.Odometer.{next-bundle, none-next}
use Rattle.valuation.proofs.collecting.advance.Goals as goal

pub returns-then-quantities-good-clause-next : goal.returns-then-quantities-good-clause-next
returns-then-quantities-good-clause-next c = λ place below is.
    let supply = c.args.supply.now in
    let old = c.args.quantities.now in
    let now = c.loop-step.quantities in
    let good = length supply - 1 - c.loop-step.step in
    let inside = c.loop-step-test.true in
    let was = c.loop-step.invariant in
    let whole = was.whole in
    let same = was.before good (omega arith) in
    next-bundle supply old (slice_set now good (slice_index now good + 1)) good place below is (record {
      long = grind (arith, common_steps);
      inside = omega arith;
      less = omega (arith, same, c.if-quantities-good.true);
      before = λ k low. (let b = was.before k (omega (arith, low)) in grind (arith, common_steps));
      more = grind (arith, common_steps);
      behind = λ k high. (let b = was.behind k (omega (arith, high)) in grind (arith, common_steps));
      full = λ k high. was.full k (omega (arith, high));
    })

pub returns-clause-next : goal.returns-clause-next
returns-clause-next c = λ place below is. absurd (none-next c.args.supply.now c.args.quantities.now place below is (λ k. c.loop-step.invariant.full k (omega (arith, c.loop-step-test.false))))
