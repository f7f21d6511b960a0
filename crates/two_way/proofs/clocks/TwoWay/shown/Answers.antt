use Rattle.two_way.proofs.Keeping.{kept-goods}
use Rattle.two_way.proofs.clocks.TwoWay.shown.Goals as goal

pub returns-clause-goods : goal.returns-clause-goods
returns-clause-goods c = kept-goods _ c.args.self.now c.self.inside.begin c.self.inside.standing c.self.invariant.0 c.self.view_is
