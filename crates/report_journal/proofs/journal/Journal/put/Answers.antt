use Rattle.std.proofs.Common.{◌≡◌, ◌+◌, ◌-◌, [], ◌∷◌, ◌++◌, length, Some, None, refl, sym, ◌∙◌, ap, subst, arith, length-append, IsTrue}
use Rattle.house_io.specs.Disks.{told_moments}
use Rattle.std.proofs.lemmas.List.{length-map}
use Rattle.house_io.proofs.Moments.{at_now, leaves_here}
use Rattle.report_journal.specs.declared.places.Place.{Place}
use Rattle.report_journal.specs.Journals.{LiesAhead, in_doubt, payload_at}
use Rattle.report_journal.specs.Padding.{behind_of, put_of}
use Rattle.report_journal.specs.Puts.{HasRecord}
use Rattle.report_journal.proofs.Ahead.{lies-behind}
use Rattle.report_journal.proofs.Appending.{put_leaves}
use Rattle.report_journal.proofs.Kept.{takes, put_is, put_kept, doubt_is, doubt_kept, settled_is}
use Rattle.report_journal.proofs.Records.{has_it}
use Rattle.report_journal.proofs.Rooms.{filled, filled-length, no-doubt, may-put}
use Rattle.report_journal.proofs.journal.Journal.put.Goals as goal

pub invariant_of-self : goal.invariant_of-self
invariant_of-self g c =
    let none : in_doubt c.self.inside.buffer.items c.self.inside.pending ≡ None = ap (λ j. j.pending) c.self.view_is ∙ c.requires.ready.mended in
    let may =
    may-put _ _ _ _ _ _ (length c.args.payload.now) _ c.self.invariant.0.room (no-doubt c.self.inside.buffer.items c.self.inside.pending none)
    (omega (arith, c.requires.spare, ap (λ j. j.spare) c.self.view_is)) (omega (arith, c.requires.ready.fits, ap (λ j. j.end) c.self.view_is)) in
    let spelled = c.put_record.ensures.buffer.0 in
    let same = filled c.args.payload.now c.put_record.new.bytes.items _ spelled.1 in (
      record {
        spelled = c.self.invariant.0.spelled;
        limit = c.self.invariant.0.limit;
        roomy = c.self.invariant.0.roomy;
        room = record {
          fits = may.fits;
          buffered = omega (arith, filled-length c.args.payload.now c.put_record.new.bytes.items _ spelled.1);
          below = omega (arith, may.below, c.requires.spare, ap (λ j. j.spare) c.self.view_is);
          reserved = record {
            places = omega (arith, may.reserved.places, c.requires.spare, ap (λ j. j.spare) c.self.view_is);
            bytes = omega (arith, may.reserved.bytes, c.fill_record.ensures.room, c.put_record.ensures.buffer.2);
          };
        };
      },
      λ told.
          let kept = (c.self.invariant.1 (c.put_record.ensures.later.told told)).0 in
          let takes_it = takes _ _ _ _ _ kept none c.args.payload.now c.requires.short may.fits in
          let opens = c.put_record.ensures.puts.3 in
          (rw same (doubt_kept _ _ _ _ c.args.payload.now _ kept _ (at_now _ _ _ (opens.stand told _ takes_it)) takes_it.fits), tt),
      subst IsTrue (sym c.put_record.ensures.later.claim) c.self.invariant.2,
    )

pub returns-in-Err-clause-writes : goal.returns-in-Err-clause-writes
returns-in-Err-clause-writes g c =
    let none : in_doubt c.self.inside.buffer.items c.self.inside.pending ≡ None = ap (λ j. j.pending) c.self.view_is ∙ c.requires.ready.mended in
    let may =
    may-put _ _ _ _ _ _ (length c.args.payload.now) _ c.self.invariant.0.room (no-doubt c.self.inside.buffer.items c.self.inside.pending none)
    (omega (arith, c.requires.spare, ap (λ j. j.spare) c.self.view_is)) (omega (arith, c.requires.ready.fits, ap (λ j. j.end) c.self.view_is)) in
    let next = c.in-Err.ensures.puts.0 in
    let opens = c.in-Err.ensures.puts.3 in
    rw (← c.self.view_is) (
      next,
      c.in-Err.ensures.puts.1,
      record {
        laid = refl;
        end = λ told.
            let kept = (c.self.invariant.1 (c.put_record.ensures.later.told told)).0 in
            let takes_it = takes _ _ _ _ _ kept none c.args.payload.now c.requires.short may.fits in
            doubt_is _ _ _ _ c.args.payload.now _ kept (told_moments (g.D.Disk.shown c.put_record.new.disk)) (at_now _ _ _ (opens.stand told _ takes_it)) takes_it.fits;
        leaves = λ mended told.
            let kept = (c.self.invariant.1 (c.put_record.ensures.later.told told)).0 in
            put_leaves c.args.payload.now next c.self.inside.end c.self.inside.laid _ _ _ (takes _ _ _ _ _ kept none c.args.payload.now c.requires.short may.fits) (opens.stand told) (opens.range told);
      },
    )

pub invariant_of-self-in-Ok : goal.invariant_of-self-in-Ok
invariant_of-self-in-Ok g c =
    let none : in_doubt c.self.inside.buffer.items c.self.inside.pending ≡ None = ap (λ j. j.pending) c.self.view_is ∙ c.requires.ready.mended in
    let may =
    may-put _ _ _ _ _ _ (length c.args.payload.now) _ c.self.invariant.0.room (no-doubt c.self.inside.buffer.items c.self.inside.pending none)
    (omega (arith, c.requires.spare, ap (λ j. j.spare) c.self.view_is)) (omega (arith, c.requires.ready.fits, ap (λ j. j.end) c.self.view_is)) in
    let is_none = no-doubt c.self.inside.buffer.items c.self.inside.pending none in
    let more = length-append c.self.inside.places.items (record { at = c.self.inside.end + 5; length = length c.args.payload.now } ∷ []) in
    rw (c.push_reserved.ensures.places, is_none) (
      record {
        spelled = c.self.invariant.0.spelled;
        limit = omega (arith, may.fits);
        roomy = omega (arith, c.self.invariant.0.roomy, more);
        room = (
          omega (arith, may.below),
          λ some. record {
            places = omega (arith, more, may.reserved.places, c.requires.spare, ap (λ j. j.spare) c.self.view_is, c.push_reserved.ensures.room);
            bytes = omega (arith, may.reserved.bytes, c.fill_record.ensures.room, c.put_record.ensures.buffer.2);
          },
        );
      },
      λ told.
          let kept = (c.self.invariant.1 (c.put_record.ensures.later.told told)).0 in
          let takes_it = takes _ _ _ _ _ kept none c.args.payload.now c.requires.short may.fits in
          let next = c.in-Ok.ensures.puts.0 in
          let bytes = put_of c.self.inside.end c.self.inside.laid c.args.payload.now next in
          let spelled : HasRecord c.args.payload.now bytes = (behind_of c.self.inside.end c.self.inside.laid c.args.payload.now next, refl) in
          let done = c.in-Ok.ensures.puts.3.done told in
          let has = has_it _ c.args.payload.now c.self.inside.end bytes _ spelled takes_it _ (ap (λ m. m.read) done) in (
            put_kept _ _ _ _ c.args.payload.now _ kept _ _ (settled_is _ _ done) has refl refl _ refl,
            subst (λ bs. LiesAhead (Some (length c.args.payload.now + 5)) bs (c.self.inside.end + 5 + length c.args.payload.now) (told_moments (g.D.Disk.shown c.put_record.new.disk)).now.read) (sym c.in-Ok.ensures.puts.2)
                (lies-behind _ c.args.payload.now bytes c.self.inside.end _ _ takes_it spelled (ap (λ m. m.read) done)),
          ),
      subst IsTrue (sym c.put_record.ensures.later.claim) c.self.invariant.2,
    )

pub returns-in-Ok-clause-writes : goal.returns-in-Ok-clause-writes
returns-in-Ok-clause-writes g c =
    let none : in_doubt c.self.inside.buffer.items c.self.inside.pending ≡ None = ap (λ j. j.pending) c.self.view_is ∙ c.requires.ready.mended in
    let may =
    may-put _ _ _ _ _ _ (length c.args.payload.now) _ c.self.invariant.0.room (no-doubt c.self.inside.buffer.items c.self.inside.pending none)
    (omega (arith, c.requires.spare, ap (λ j. j.spare) c.self.view_is)) (omega (arith, c.requires.ready.fits, ap (λ j. j.end) c.self.view_is)) in
    let next = c.in-Ok.ensures.puts.0 in
    let opens = c.in-Ok.ensures.puts.3 in
    let behind = behind_of c.self.inside.end c.self.inside.laid c.args.payload.now next in
    let bytes = put_of c.self.inside.end c.self.inside.laid c.args.payload.now next in
    let long : 1 + length bytes ≡ 6 + length c.args.payload.now + length behind = omega (arith, filled-length c.args.payload.now bytes behind refl) in
    rw (← c.self.view_is, c.push_reserved.ensures.places) (
      next,
      c.in-Ok.ensures.puts.1,
      record {
        laid = omega (arith, c.max-self-inside.ensures, ap length c.in-Ok.ensures.puts.2, long);
        end = λ told.
            let kept = (c.self.invariant.1 (c.put_record.ensures.later.told told)).0 in
            let takes_it = takes _ _ _ _ _ kept none c.args.payload.now c.requires.short may.fits in
            let done = c.in-Ok.ensures.puts.3.done told in
            let has = has_it _ c.args.payload.now c.self.inside.end bytes _ (behind, refl) takes_it _ (ap (λ m. m.read) done) in (
              put_is _ _ _ _ c.args.payload.now _ kept _ (told_moments (g.D.Disk.shown c.put_record.new.disk)) (settled_is _ _ done) has refl refl,
              leaves_here _ _ (settled_is _ _ done) has,
              ap (λ m. m.read) done,
            );
        leaves = λ mended told.
            let kept = (c.self.invariant.1 (c.put_record.ensures.later.told told)).0 in
            put_leaves c.args.payload.now next c.self.inside.end c.self.inside.laid _ _ _ (takes _ _ _ _ _ kept none c.args.payload.now c.requires.short may.fits) (opens.stand told) (opens.range told);
      },
    )

pub returns-in-Ok-clause-answer : goal.returns-in-Ok-clause-answer
returns-in-Ok-clause-answer g c =
    let none : in_doubt c.self.inside.buffer.items c.self.inside.pending ≡ None = ap (λ j. j.pending) c.self.view_is ∙ c.requires.ready.mended in
    let place : Place = record { at = c.self.inside.end + 5; length = length c.args.payload.now } in
    let more = length-append c.self.inside.places.items (place ∷ []) in
    let places = c.push_reserved.new.places.items in
    let file = (told_moments (g.D.Disk.shown c.put_record.new.disk)).now.read in
    let was = length-map c.self.inside.places.items (payload_at (told_moments (g.D.Disk.shown c.self.inside.disk)).now.read) in (
      c.requires.ready,
      record {
        header = ap (λ j. j.contents.header) c.self.view_is;
        count = omega (arith, length-map places (payload_at file), ap length c.push_reserved.ensures.places, more, was, ap (λ j. length j.contents.payloads) c.self.view_is);
        places = c.push_reserved.ensures.places ∙ ap (λ j. j.places ++ record { at = j.end + 5; length = length c.args.payload.now } ∷ []) c.self.view_is;
        end = ap (λ j. j.end + 5 + length c.args.payload.now) c.self.view_is;
      },
      ap (in_doubt c.put_record.new.bytes.items) (no-doubt c.self.inside.buffer.items c.self.inside.pending none),
      ap (λ j. j.spare - 1) c.self.view_is,
      omega (arith, c.len-in-Ok.ensures),
      omega (arith, c.len-in-Ok.ensures, length-map places (payload_at file)),
    )
