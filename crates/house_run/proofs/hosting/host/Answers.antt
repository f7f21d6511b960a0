use Rattle.std.proofs.Common.{Err, sym, subst}
use Rattle.house_run.specs.Hosting.{HostOutcome}
use Rattle.house_run.specs.declared.ends.Ended.{Ended}
use Rattle.house_run.proofs.HouseRuns.{hosted, not-hosted}
use Rattle.house_run.proofs.hosting.host.Goals as goal

pub returns-in-Ok-open : goal.returns-in-Ok-open
returns-in-Ok-open g c =
    hosted g.D.Disk.shown g.N.Door.Door.told g.N.Door.Door.faults g.N.Door.Link.Link.told g.N.Door.Link.Link.faults c.args.auction.now c.args.address.now c.args.doors c.args.sessions c.host_house.result.0 c.args.disks.items c.host_house.result.1.items
    c.in-Ok-open.house c.in-Ok-open.passes.items (g.N.Net.told c.args.net.now) (g.N.Net.told c.host_house.new.net) (g.N.Net.faults c.args.net.now) (g.N.Net.faults c.host_house.new.net)
    c.in-Ok-open.ensures.opened c.host_house.ensures

pub returns-in-Err : goal.returns-in-Err
returns-in-Err g c =
    let value = c.args.auction.now in
    let lists = g.N.Net.told c.args.net.now in
    let counted = g.N.Net.faults c.args.net.now in
    subst (λ (end : Ended). HostOutcome g.D.Disk.shown g.N.Door.Door.told g.N.Door.Door.faults g.N.Door.Link.Link.told g.N.Door.Link.Link.faults value c.args.address.now c.args.doors c.args.sessions c.args.disks.items (Err end) c.in-Err.not_open.disks.items lists lists counted counted) (sym c.end_at.ensures)
    (not-hosted g.D.Disk.shown g.N.Door.Door.told g.N.Door.Door.faults g.N.Door.Link.Link.told g.N.Door.Link.Link.faults value c.args.address.now c.args.doors c.args.sessions c.in-Err.not_open.fault c.args.disks.items c.in-Err.not_open.disks.items c.in-Err.not_open.clock lists counted c.in-Err.ensures.refused)
