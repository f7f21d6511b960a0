use Rattle.two_way.proofs.Settled.{efficient, all-from_start}
use Rattle.two_way.proofs.laws.float_law.Goals as goal

pub returns : goal.returns
returns c = λ u terms start all others prices rows choices starts ended explains floated.
    efficient u terms start all others prices rows choices ended (all-from_start u terms start starts ended explains) floated
