use Rattle.std.proofs.Common.{◌≡◌, ◌+◌, [], ◌∷◌, length, take, drop, vec_capacity, Some, refl, sym, ap, subst, arith, length-append, IsTrue}
use Rattle.house_io.specs.Disks.{told_moments}
use Rattle.house_io.proofs.Moments.{leaves_here}
use Rattle.report_journal.specs.Journals.{HasRoom, HoldsDoubt, in_doubt}
use Rattle.report_journal.proofs.Kept.{is_false, is_true, mend_leaves, still_is, still_kept, dropped, drop_kept, counted, put_is, put_kept}
use Rattle.report_journal.proofs.Rooms.{doubt-length}
use Rattle.report_journal.proofs.journal.Journal.mend.Goals as goal

pub returns-in-Err-clause-moments : goal.returns-in-Err-clause-moments
returns-in-Err-clause-moments g c = rw (← c.self.view_is) (λ told.
    mend_leaves _ _ _ _ _ _ (c.self.invariant.1 (c.settle_gate.ensures.later.told told)).0 (c.settle_gate.ensures.moments told))

pub returns-in-Ok-true-clause-moments : goal.returns-in-Ok-true-clause-moments
returns-in-Ok-true-clause-moments g c = rw (← c.self.view_is) (λ told.
    mend_leaves _ _ _ _ _ _ (c.self.invariant.1 (c.settle_gate.ensures.later.told told)).0 (c.settle_gate.ensures.moments told))

pub returns-in-Ok-false-clause-moments : goal.returns-in-Ok-false-clause-moments
returns-in-Ok-false-clause-moments g c = rw (← c.self.view_is) (λ told.
    mend_leaves _ _ _ _ _ _ (c.self.invariant.1 (c.settle_gate.ensures.later.told told)).0 (c.settle_gate.ensures.moments told))

pub invariant_of-self : goal.invariant_of-self
invariant_of-self g c = (
  c.self.invariant.0,
  λ told.
      let payload = take c.in-Some.length (drop 4 c.self.inside.buffer.items) in
      let pending : in_doubt c.self.inside.buffer.items c.self.inside.pending ≡ Some payload = ap (in_doubt c.self.inside.buffer.items) c.in-Some.is in
      let kept = rw pending at (c.self.invariant.1 (c.settle_gate.ensures.later.told told)).0 in
      rw pending (still_kept _ _ _ _ _ payload kept (c.settle_gate.ensures.moments told), tt),
  subst IsTrue (sym c.settle_gate.ensures.later.claim) c.self.invariant.2,
)

pub invariant_of-self-in-Ok-false : goal.invariant_of-self-in-Ok-false
invariant_of-self-in-Ok-false g c =
    let room : HoldsDoubt c.in-Some.length c.self.inside.end (length c.self.inside.places.items) c.self.inside.spare c.self.inside.buffer.items (vec_capacity c.self.inside.places) (vec_capacity c.self.inside.buffer) =
    subst (λ p. HasRoom c.self.inside.end (length c.self.inside.places.items) c.self.inside.spare c.self.inside.buffer.items (vec_capacity c.self.inside.places) (vec_capacity c.self.inside.buffer) p) c.in-Some.is c.self.invariant.0.room in (
      record {
        spelled = c.self.invariant.0.spelled;
        limit = c.self.invariant.0.limit;
        roomy = c.self.invariant.0.roomy;
        room = (omega (arith, room.below), λ some. room.reserved);
      },
      λ told.
          let payload = take c.in-Some.length (drop 4 c.self.inside.buffer.items) in
          let pending : in_doubt c.self.inside.buffer.items c.self.inside.pending ≡ Some payload = ap (in_doubt c.self.inside.buffer.items) c.in-Some.is in
          let kept = rw pending at (c.self.invariant.1 (c.settle_gate.ensures.later.told told)).0 in
          let now = c.in-Ok-false.ensures.settled told in (
            drop_kept _ _ _ _ (told_moments (g.D.Disk.shown c.settle_gate.new.disk)) payload kept now.1 now.0 (λ opened. is_false (c.in-Ok-false.ensures.open told) c.in-Ok-false.field-0-test opened),
            tt,
          ),
      subst IsTrue (sym c.settle_gate.ensures.later.claim) c.self.invariant.2,
    )

pub invariant_of-self-in-Ok-true : goal.invariant_of-self-in-Ok-true
invariant_of-self-in-Ok-true g c =
    let room : HoldsDoubt c.in-Some.length c.self.inside.end (length c.self.inside.places.items) c.self.inside.spare c.self.inside.buffer.items (vec_capacity c.self.inside.places) (vec_capacity c.self.inside.buffer) =
    subst (λ p. HasRoom c.self.inside.end (length c.self.inside.places.items) c.self.inside.spare c.self.inside.buffer.items (vec_capacity c.self.inside.places) (vec_capacity c.self.inside.buffer) p) c.in-Some.is c.self.invariant.0.room in
    let payload = take c.in-Some.length (drop 4 c.self.inside.buffer.items) in
    let long : c.in-Some.length ≡ length payload = sym (doubt-length c.in-Some.length c.self.inside.buffer.items room.buffered) in
    let more = length-append c.self.inside.places.items (record { at = c.self.inside.end + 5; length = c.in-Some.length } ∷ []) in
    rw c.push_reserved.ensures.places (
      record {
        spelled = c.self.invariant.0.spelled;
        limit = omega (arith, room.fits);
        roomy = omega (arith, c.self.invariant.0.roomy, more);
        room = (omega (arith, room.below), λ some. record { places = omega (arith, more, room.reserved.places, c.push_reserved.ensures.room); bytes = room.reserved.bytes });
      },
      λ told.
          let pending : in_doubt c.self.inside.buffer.items c.self.inside.pending ≡ Some payload = ap (in_doubt c.self.inside.buffer.items) c.in-Some.is in
          let kept = rw pending at (c.self.invariant.1 (c.settle_gate.ensures.later.told told)).0 in
          let now = c.in-Ok-true.ensures.settled told in
          let opened = is_true (c.in-Ok-true.ensures.open told) c.in-Ok-true.field-0-test in
          let has_it = counted _ _ _ _ (told_moments (g.D.Disk.shown c.settle_gate.new.disk)) payload kept now.1 opened in
          (put_kept _ _ _ _ payload _ kept _ (told_moments (g.D.Disk.shown c.settle_gate.new.disk)) now.0 has_it refl long _ (omega (arith, long)), tt),
      subst IsTrue (sym c.settle_gate.ensures.later.claim) c.self.invariant.2,
    )

pub returns-in-Ok-true-clause-end : goal.returns-in-Ok-true-clause-end
returns-in-Ok-true-clause-end g c = rw (← c.self.view_is, c.push_reserved.ensures.places) (λ told.
    let room : HoldsDoubt c.in-Some.length c.self.inside.end (length c.self.inside.places.items) c.self.inside.spare c.self.inside.buffer.items (vec_capacity c.self.inside.places) (vec_capacity c.self.inside.buffer) =
    subst (λ p. HasRoom c.self.inside.end (length c.self.inside.places.items) c.self.inside.spare c.self.inside.buffer.items (vec_capacity c.self.inside.places) (vec_capacity c.self.inside.buffer) p) c.in-Some.is c.self.invariant.0.room in
    let payload = take c.in-Some.length (drop 4 c.self.inside.buffer.items) in
    let long : c.in-Some.length ≡ length payload = sym (doubt-length c.in-Some.length c.self.inside.buffer.items room.buffered) in
    let pending : in_doubt c.self.inside.buffer.items c.self.inside.pending ≡ Some payload = ap (in_doubt c.self.inside.buffer.items) c.in-Some.is in
    let kept = rw pending at (c.self.invariant.1 (c.settle_gate.ensures.later.told told)).0 in
    let now = c.in-Ok-true.ensures.settled told in
    let opened = is_true (c.in-Ok-true.ensures.open told) c.in-Ok-true.field-0-test in
    let has_it = counted _ _ _ _ (told_moments (g.D.Disk.shown c.settle_gate.new.disk)) payload kept now.1 opened in
    let settled_now = now.0 in
    rw pending ((put_is _ _ _ _ payload _ kept _ (told_moments (g.D.Disk.shown c.settle_gate.new.disk)) settled_now has_it refl long, leaves_here _ _ settled_now has_it), opened))

pub returns-in-Ok-false-clause-end : goal.returns-in-Ok-false-clause-end
returns-in-Ok-false-clause-end g c = rw (← c.self.view_is) (λ told.
    let payload = take c.in-Some.length (drop 4 c.self.inside.buffer.items) in
    let pending : in_doubt c.self.inside.buffer.items c.self.inside.pending ≡ Some payload = ap (in_doubt c.self.inside.buffer.items) c.in-Some.is in
    let kept = rw pending at (c.self.invariant.1 (c.settle_gate.ensures.later.told told)).0 in
    let now = c.in-Ok-false.ensures.settled told in
    let closed = is_false (c.in-Ok-false.ensures.open told) c.in-Ok-false.field-0-test in (
      still_is _ _ _ (told_moments (g.D.Disk.shown c.self.inside.disk)) (told_moments (g.D.Disk.shown c.settle_gate.new.disk)) payload kept (c.settle_gate.ensures.moments told),
      leaves_here _ _ now.0 (dropped _ _ _ _ (told_moments (g.D.Disk.shown c.settle_gate.new.disk)) payload kept now.1 closed),
      closed,
    ))

pub returns-in-Err-clause-end : goal.returns-in-Err-clause-end
returns-in-Err-clause-end g c = rw (← c.self.view_is) (λ told.
    let payload = take c.in-Some.length (drop 4 c.self.inside.buffer.items) in
    let pending : in_doubt c.self.inside.buffer.items c.self.inside.pending ≡ Some payload = ap (in_doubt c.self.inside.buffer.items) c.in-Some.is in
    let kept = rw pending at (c.self.invariant.1 (c.settle_gate.ensures.later.told told)).0 in
    still_is _ _ _ (told_moments (g.D.Disk.shown c.self.inside.disk)) (told_moments (g.D.Disk.shown c.settle_gate.new.disk)) payload kept (c.settle_gate.ensures.moments told))
