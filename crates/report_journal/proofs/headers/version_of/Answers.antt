use Rattle.std.proofs.Common.{arith}
use Rattle.report_journal.proofs.Prefixes.{all_fit}
use Rattle.report_journal.proofs.headers.version_of.Goals as goal

pub returns-clause-fit : goal.returns-clause-fit
returns-clause-fit c = all_fit c.args.opening.now (λ i. let fits = c.type_inv.opening i in omega arith)
