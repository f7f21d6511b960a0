use Rattle.std.proofs.Common.{◌≡◌, List, length, inr, Vec, Global, ap, refl, subst, sym}
use Rattle.std.specs.List.{AllByRecursion}
use Rattle.clock_family.specs.Houses.{HouseOf}
use Rattle.house_io.specs.Told.{IfTold}
use Rattle.house_run.specs.GivingBack.{TakesAll}
use Rattle.house_run.specs.Hosting.{HouseUnused}
use Rattle.house_run.proofs.HouseBack.{doors-back, none-added, served-outcome}
use Rattle.house_run.proofs.hosting.host_doors.Goals as goal

pub returns-in-Ok : goal.returns-in-Ok
returns-in-Ok g c = λ address before gives.
    served-outcome g.D.Disk.shown g.N.Door.Door.told g.N.Door.Door.faults g.N.Door.Link.Link.told g.N.Door.Link.Link.faults c.args.auction.now c.args.sessions c.close_served.result.0 address c.args.house c.args.passes.items c.args.doors.items
    c.in-Ok.served.books.items c.in-Ok.served.doors.items c.close_served.result.1.items before (g.N.Net.told c.args.net.now) (g.N.Net.told c.close_served.new.net) (g.N.Net.faults c.args.net.now) (g.N.Net.faults c.close_served.new.net)
    c.in-Ok.ensures.served c.requires.doors.1 gives c.close_served.ensures.disks c.close_served.ensures.kept c.close_served.ensures.lists c.close_served.ensures.faults c.close_served.ensures.outcome

pub returns-in-Err : goal.returns-in-Err
returns-in-Err g c = λ address before gives.
    let r = c.in-Err.ensures.refused in
    let given = c.args.doors.items in
    let same : c.in-Err.not_served.doors.items ≡ given = ap (λ (v : Vec g.row.N-Door.Denot Global). v.items) r.2 in
    let fresh = subst (AllByRecursion (λ door. g.N.Door.Door.faults door ≡ 0)) (sym same) c.requires.doors.1 in
    let T : List g.row.N-Door.Denot → Type 0 = λ ds. IfTold (g.N.Net.told c.args.net.now) (g.N.Net.told c.close_doors.new.net) (TakesAll ds) in
    inr (record {
      closed = subst (λ (h : HouseOf g.row.D.Denot). HouseUnused g.D.Disk.shown h.desks c.close_house.result.items) r.0 c.close_house.ensures;
      net_is = doors-back g.N.Door.Door.told address (length given) given before (g.N.Net.told c.args.net.now) (g.N.Net.told c.close_doors.new.net) refl gives (subst T same c.close_doors.ensures.lists);
      cause = inr (record { end_is = refl; steady = none-added g.N.Door.Door.faults c.in-Err.not_served.doors.items (g.N.Net.faults c.args.net.now) (g.N.Net.faults c.close_doors.new.net) fresh c.close_doors.ensures.faults });
    })
