use Rattle.std.proofs.Common.{◌∙◌, sym, arith, length}
use Rattle.step_choice.specs.Table.{excess_in}
use Rattle.std.proofs.lemmas.Nat.{pow_pos}
use Rattle.lot_base.proofs.StepOrder.{first_set-is, first-changed, first-kept}
use Rattle.lot_base.proofs.StepSet.{first-is_step_set}
use Rattle.step_choice.proofs.choose.Goals as goal
use Rattle.step_choice.proofs.choose.Goals.{then-comes_before, else-comes_before}

pub loop-set-preserved : goal.loop-set-preserved
loop-set-preserved c =
    elim c.if-comes_before.branch [
      | then-comes_before w ↦ first-changed _ _ _ _ _ w.best-is (sym c.comes_before.ensures ∙ w.if-comes_before.true) c.loop-set.invariant
      | else-comes_before w ↦ first-kept _ _ _ _ _ w.best-is (sym c.comes_before.ensures ∙ w.if-comes_before.false) c.loop-set.invariant
    ]

pub returns-clause-step_set : goal.returns-clause-step_set
returns-clause-step_set c = first-is_step_set (excess_in c.args.excess.now.0) (length c.args.goods.now) c.loop-set.best (omega (arith, c.loop-set.invariant.below, pow_pos (length c.args.goods.now))) (λ k below. c.loop-set.invariant.first k (omega arith))

pub returns-clause-first : goal.returns-clause-first
returns-clause-first c = sym (first_set-is (excess_in c.args.excess.now.0) (length c.args.goods.now) c.loop-set.best (omega (arith, c.loop-set.invariant.below, pow_pos (length c.args.goods.now))) (λ k below. c.loop-set.invariant.first k (omega arith)))
