use Rattle.two_way.proofs.Truthful.{from-start, course, few-steps}
use Rattle.two_way.proofs.laws.steps_law.Goals as goal

pub returns-clause-moment : goal.returns-clause-moment
returns-clause-moment c = λ u h n start explains up. (course u h (from-start u h start explains) n up).low

pub returns-clause-few : goal.returns-clause-few
returns-clause-few c = λ u h start explains. few-steps u h (from-start u h start explains)
