use Rattle.std.proofs.Common.{None}
use Rattle.session.proofs.Alone.{same_going, same_bidder}
use Rattle.session.proofs.laws.session_law.Goals as goal

pub returns-clause-goes_on : goal.returns-clause-goes_on
returns-clause-goes_on c = λ auction other frames same. same_going auction other same None frames

pub returns-clause-bidder : goal.returns-clause-bidder
returns-clause-bidder c = λ auction other frames same. same_bidder auction other same None frames
