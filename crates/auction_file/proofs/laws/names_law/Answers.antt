use Rattle.auction_file.proofs.Distinct.{auction_of-distinct}
use Rattle.auction_file.proofs.laws.names_law.Goals as goal

pub returns : goal.returns
returns c = λ bytes listing read. auction_of-distinct bytes listing read
