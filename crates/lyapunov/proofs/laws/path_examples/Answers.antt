use Rattle.lyapunov.proofs.Examples.{three, three-ended, without_first, without_first-ended, credit, debit, both_goods, both_goods-ended, unequal, pays}
use Rattle.lyapunov.proofs.laws.path_examples.Goals as goal

pub returns-clause-three : goal.returns-clause-three
returns-clause-three c = three

pub returns-clause-three_ended : goal.returns-clause-three_ended
returns-clause-three_ended c = three-ended

pub returns-clause-without_first : goal.returns-clause-without_first
returns-clause-without_first c = without_first

pub returns-clause-without_first_ended : goal.returns-clause-without_first_ended
returns-clause-without_first_ended c = without_first-ended

pub returns-clause-credit : goal.returns-clause-credit
returns-clause-credit c = credit

pub returns-clause-debit : goal.returns-clause-debit
returns-clause-debit c = debit

pub returns-clause-two : goal.returns-clause-two
returns-clause-two c = both_goods

pub returns-clause-two_ended : goal.returns-clause-two_ended
returns-clause-two_ended c = both_goods-ended

pub returns-clause-unequal : goal.returns-clause-unequal
returns-clause-unequal c = unequal

pub returns-clause-pays : goal.returns-clause-pays
returns-clause-pays c = pays
