use Rattle.std.proofs.Common.{arith}
use Rattle.report_journal.proofs.Rooms.{roomier}
use Rattle.report_journal.proofs.journal.Journal.reserve.Goals as goal

pub invariant_of-self-2 : goal.invariant_of-self-2
invariant_of-self-2 g c = rw (c.in_ok-make_room.ensures.places.0, c.in_ok-make_room.ensures.buffer.0) (
  record {
    spelled = c.self.invariant.0.spelled;
    limit = c.self.invariant.0.limit;
    roomy = c.self.invariant.0.roomy;
    room = roomier _ _ _ _ _ _ _ _ _ _ c.self.invariant.0.room c.ranges.records.fits c.in_ok-make_room.ensures.room_places (omega (arith, c.in_ok-make_room.ensures.room_buffer));
  },
  c.self.invariant.1,
  c.self.invariant.2,
)
