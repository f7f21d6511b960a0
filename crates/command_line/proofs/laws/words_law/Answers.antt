use Rattle.command_line.proofs.Once.{spelled-once}
use Rattle.command_line.proofs.laws.words_law.Goals as goal

pub returns : goal.returns
returns c = record { one = λ words command other is it. spelled-once command other words is it }
