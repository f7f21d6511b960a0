use Rattle.clock.proofs.OnlyOnce.{only-once}
use Rattle.clock.proofs.laws.once_law.Goals as goal

pub returns : goal.returns
returns c = λ history i j r s legal at there bidder round. only-once history i j r s legal at there bidder round
