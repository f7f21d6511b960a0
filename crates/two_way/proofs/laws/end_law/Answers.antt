use Rattle.std.proofs.Common.{◌≡◌, true, false, sym, ◌∙◌}
use Rattle.two_way.proofs.Truthful.{from-start, sum-rise, minimises, never-halted}
use Rattle.two_way.proofs.Settled.{has-choice}
use Rattle.two_way.proofs.laws.end_law.Goals as goal

pub returns-clause-sum : goal.returns-clause-sum
returns-clause-sum c = λ u h bidder start explains. sum-rise u h bidder (from-start u h start explains)

pub returns-clause-minimum : goal.returns-clause-minimum
returns-clause-minimum c = λ u h start explains ended. minimises u h (from-start u h start explains) ended

pub returns-clause-choice : goal.returns-clause-choice
returns-clause-choice c = λ u h start explains ended none. (let f : false ≡ true = sym (has-choice u h (from-start u h start explains) ended) ∙ none in cc)

pub returns-clause-unhalted : goal.returns-clause-unhalted
returns-clause-unhalted c = λ u h good start explains low halted. never-halted u h good (from-start u h start explains) low halted
