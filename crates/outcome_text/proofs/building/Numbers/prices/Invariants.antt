use Rattle.std.proofs.Common.{◌^◌}
use Rattle.outcome_text.proofs.Cells.{AreTaken}
use Rattle.outcome_text.proofs.building.Numbers.prices.Given as goal

abbrev pub invariant-loop-good : goal.invariant-loop-good
invariant-loop-good l = AreTaken (2 ^ 32) l.goods l.good l.initial.self.rest.now l.self.rest.now l.prices
