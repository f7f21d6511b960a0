use Rattle.recovery.proofs.Spelling.{numbers-small}
use Rattle.recovery.proofs.entries.has_some.Goals as goal

pub returns-clause-small : goal.returns-clause-small
returns-clause-small c = numbers-small c.args.quantities.now (λ i. (c.type_inv.quantities i).fits)
