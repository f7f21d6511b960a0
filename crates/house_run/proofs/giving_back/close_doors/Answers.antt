use Rattle.std.proofs.Common.{sym}
use Rattle.house_run.proofs.GivingSteps.{doors-begun, doors-more}
use Rattle.house_run.proofs.giving_back.close_doors.Goals as goal

pub loop-door-init : goal.loop-door-init
loop-door-init g c =
    doors-begun g.N.Door.Door.faults c.args.doors.items c.from_vec-rest.result.items (g.N.Net.told c.args.net.now) (g.N.Net.faults c.args.net.now) (sym c.from_vec-rest.ensures.items)

pub loop-door-preserved : goal.loop-door-preserved
loop-door-preserved g c =
    doors-more g.N.Door.Door.faults c.args.doors.items c.loop-door.rest.items c.pop_front.new.self.items c.in-Some.door (g.N.Net.told c.args.net.now) (g.N.Net.told c.loop-door.net) (g.N.Net.told c.close_door.new.self)
    (g.N.Net.faults c.args.net.now) (g.N.Net.faults c.loop-door.net) (g.N.Net.faults c.close_door.new.self) c.in-Some.ensures.items c.loop-door.invariant c.close_door.ensures.lists c.close_door.ensures.faults
