use Rattle.std.proofs.Common.{length}
use Rattle.step_choice.specs.Table.{excess_in}
use Rattle.lot_base.proofs.StepOrder.{IsFirstBelow}
use Rattle.step_choice.proofs.choose.Given as goal

abbrev pub invariant-loop-set : goal.invariant-loop-set
invariant-loop-set l = IsFirstBelow (excess_in l.excess.0) (length l.goods) l.set l.best
