use Rattle.std.proofs.Common.{inr, subst, sym}
use Rattle.house_run.specs.Hosting.{HouseEnd}
use Rattle.house_run.specs.declared.ends.Ended.{Ended}
use Rattle.house_run.proofs.HouseBack.{refused-doors, refused-end}
use Rattle.house_run.proofs.hosting.host_house.Goals as goal

pub returns-in-Err : goal.returns-in-Err
returns-in-Err g c =
    inr (record {
      closed = c.close_house.ensures;
      net_is = refused-doors g.N.Door.Door.told c.in-Err.refusal c.args.address.now c.args.doors (g.N.Net.told c.args.net.now) (g.N.Net.told c.doors.new.self) c.in-Err.ensures.lists;
      cause = subst (λ (end : Ended). HouseEnd (g.N.Net.faults c.args.net.now) (g.N.Net.faults c.doors.new.self) end) (sym c.net_end.ensures)
          (refused-end c.in-Err.refusal (g.N.Net.faults c.args.net.now) (g.N.Net.faults c.doors.new.self) c.doors.ensures.cause.later c.in-Err.ensures.cause.refused);
    })
