use Rattle.house_run.proofs.JournalNames.{names-differ}
use Rattle.house_run.proofs.laws.journal_names_law.Goals as goal

pub returns : goal.returns
returns c = λ journals clock other few less e. names-differ journals clock other few less e
