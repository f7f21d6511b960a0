use Rattle.std.specs.Prelude.{option_copied}
use Rattle.two_way.proofs.Keeping.{found-fit}
use Rattle.two_way.proofs.clocks.TwoWay.last_demand.Goals as goal

pub returns-clause-fits : goal.returns-clause-fits
returns-clause-fits c =
    found-fit _ c.args.self.now c.self.inside.begin c.self.inside.standing _ c.args.bidder (option_copied c.demand_in.result) c.self.invariant.0 c.self.view_is c.demand_in.ensures
