use Rattle.std.proofs.Common.{◌≡◌, ◌≤◌, ◌+◌, ◌++◌, length, map, vec_capacity}
use Rattle.house_serve.proofs.reserved.seat_all.Given as goal

abbrev pub invariant-loop-pass : goal.invariant-loop-pass
invariant-loop-pass g l = record {
  passes : map (λ c. c.pass) l.booths.items ++ l.passes.items ≡ l.fn.passes.items;
  doors : map (λ c. c.door) l.booths.items ++ l.doors.items ≡ l.fn.doors.items;
  notes : map (λ c. c.ends) l.booths.items ++ l.notes.items ≡ l.fn.notes.items;
  counts : (length l.doors.items ≡ length l.passes.items) × (length l.notes.items ≡ length l.passes.items);
  room : length l.booths.items + length l.passes.items ≤ vec_capacity l.booths;
}

abbrev pub decreases-loop-pass : goal.decreases-loop-pass
decreases-loop-pass g l = length l.passes.items
