use Rattle.house_io.proofs.Renewed.{given-places, zero-all}
use Rattle.house_io.proofs.memory.sure_net.SureNetNet.doors.Goals as goal

pub returns-clause-places : goal.returns-clause-places
returns-clause-places c = given-places c.args.count c.self.inside.doors.items c.in-Ok.doors.items c.first_of.new.given.items c.fill_up.new.doors.items
    c.self.invariant c.in-Ok.ensures.items c.first_of.ensures.given c.fill_up.ensures.filled

pub returns-clause-fresh : goal.returns-clause-fresh
returns-clause-fresh c = zero-all c.fill_up.new.doors.items
