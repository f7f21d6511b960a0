use Rattle.clock_book.proofs.OneAnswer.{one-answer}
use Rattle.clock_book.proofs.laws.one_answer_law.Goals as goal

pub returns : goal.returns
returns c owner file one other is is' = one-answer owner file one other is is'
