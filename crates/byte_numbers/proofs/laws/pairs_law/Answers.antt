use Rattle.byte_numbers.proofs.Pairs.{numbers_again, pairs_again}
use Rattle.byte_numbers.proofs.laws.pairs_law.Goals as goal

pub returns-clause-read_back : goal.returns-clause-read_back
returns-clause-read_back c = numbers_again

pub returns-clause-written_back : goal.returns-clause-written_back
returns-clause-written_back c = pairs_again
