use Rattle.std.proofs.Common.{sym}
use Rattle.award_assembly.proofs.Places.{first_choice-first, first_choice-none}
use Rattle.award_assembly.proofs.assemble.Goals as goal

pub returns-in-Ok-Some-clause-assembly : goal.returns-in-Ok-Some-clause-assembly
returns-in-Ok-Some-clause-assembly c =
    first_choice-first c.args.goods.now c.args.opening.now c.args.prices.now c.args.demands.now c.in-Ok-Some.choice (sym (rw c.in-Ok-Some.field-0-is at c.in-Ok-Some.ensures))

pub returns-in-Ok-None-clause-assembly : goal.returns-in-Ok-None-clause-assembly
returns-in-Ok-None-clause-assembly c =
    first_choice-none c.args.goods.now c.args.opening.now c.args.prices.now c.args.demands.now (sym (rw c.in-Ok-None.field-0-is at c.in-Ok-None.ensures))
