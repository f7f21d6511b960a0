use Rattle.std.proofs.Common.{◌∙◌, refl}
use Rattle.two_way.proofs.Keeping.{present-demand}
use Rattle.two_way.proofs.clocks.TwoWay.demand_in.Goals as goal

pub returns-then-round-self : goal.returns-then-round-self
returns-then-round-self c =
    c.demand_in.ensures ∙ present-demand _ c.args.self.now c.self.inside.begin c.self.inside.standing _ c.args.round c.args.bidder c.self.invariant.0 c.self.view_is refl c.if-round-self.true
