use Rattle.std.proofs.Common.{◌∙◌, refl, rules}
use Rattle.house_serve.proofs.Visits.{door_begun, door_on}
use Rattle.house_serve.proofs.doors.serve_door.Goals as goal

pub loop-session-init : goal.loop-session-init
loop-session-init g c = record {
  door = door_begun g.H.Hall.allows g.R.Link.Link.told g.R.Link.Link.faults c.args.auction.now (g.H.Hall.meaning c.args.hall.now) (g.R.Door.told c.args.door.now) c.args.ends.now.items c.requires.empty.0;
  order = c.requires.order;
  stays = g.met.H.Hall.stays_still c.args.hall.now;
  count = search rules;
  room = refl;
  cause = refl;
}

pub loop-session-preserved : goal.loop-session-preserved
loop-session-preserved g c =
    let i = c.loop-session.invariant in
    let s = c.serve_hall-end.ensures in
    record {
      door = door_on g.H.Hall.allows g.R.Link.Link.told g.R.Link.Link.faults c.args.auction.now (g.H.Hall.meaning c.args.hall.now) (g.H.Hall.meaning c.loop-session.hall) (g.H.Hall.meaning c.serve_hall-end.new.hall)
          (g.R.Door.told c.args.door.now) (g.R.Door.told c.loop-session.door) (g.R.Door.told c.accept.new.self) (g.R.Door.told c.hang_up.new.self) c.loop-session.ends.items c.push_reserved.new.self.items
          c.in-Ok.link c.serve_hall-end.new.link s.session.0 c.serve_hall-end.result i.door c.in-Ok.ensures.links s.session.1 s.cause c.in-Ok.ensures.fresh c.hang_up.ensures.links c.push_reserved.ensures.items;
      order = s.order;
      stays = g.met.H.Hall.stays_along c.args.hall.now c.loop-session.hall c.serve_hall-end.new.hall i.stays s.stays;
      count = search rules;
      room = search rules;
      cause = c.hang_up.ensures.faults ∙ (c.in-Ok.ensures.cause.steady ∙ i.cause);
    }
