use Rattle.std.proofs.Common.{◌≡◌, ◌+◌, [], length, drop, sym, ◌∙◌, ap, subst, arith}
use Rattle.house_io.specs.Disks.{is_told, told_moments}
use Rattle.std.specs.Prelude.{IsTrue}
use Rattle.std.proofs.lemmas.Result.{on_ok_weaker}
use Rattle.house_io.specs.Moments.{AtEach, Torn, overlaid, settled}
use Rattle.house_io.proofs.Moments.{at_now}
use Rattle.report_journal.specs.Padding.{behind_of}
use Rattle.report_journal.specs.Puts.{HasRecord, LieAt, Opens}
use Rattle.report_journal.proofs.Ahead.{closed}
use Rattle.report_journal.proofs.Kept.{settled_is}
use Rattle.report_journal.proofs.Putting.{err_asks, err_done, has_asked, done_too, lie_there, there_now, takes_still, first_stands, first_range, both_stand, both_range, both_done}
use Rattle.report_journal.proofs.steps.put_record.Goals as goal

pub write_record-requires-clause-there : goal.write_record-requires-clause-there
write_record-requires-clause-there g c lies told =
    let file = (told_moments (g.D.Disk.shown c.args.disk.now)).now.read in
    subst (λ bytes. LieAt (c.args.gate + 1) bytes file) (sym (c.deref.ensures.value ∙ c.requires.buffer.0)) (lie_there c.args.payload.now c.args.gate file ((c.requires.there told).1 lies))

pub returns-in_err-write_record-clause-puts : goal.returns-in_err-write_record-clause-puts
returns-in_err-write_record-clause-puts g c =
    let old = told_moments (g.D.Disk.shown c.args.disk.now) in
    let new = told_moments (g.D.Disk.shown c.write_record.new.disk) in
    let record_is : c.deref.result.now ≡ closed c.args.payload.now = c.deref.ensures.value ∙ c.requires.buffer.0 in
    let first : IsTrue (is_told (g.D.Disk.shown c.write_record.new.disk)) → AtEach (Torn (c.args.gate + 1) (length (closed c.args.payload.now)) old.now.read) old new =
    λ told. subst (λ bytes. AtEach (Torn (c.args.gate + 1) (length bytes) old.now.read) old new) record_is (c.write_record.ensures.moments told) in
    let failed = c.from_residual.ensures.0 in (
      [],
      err_asks (g.H.Hint.says c.args.hint.now) c.from_residual.result failed,
      err_done _ c.from_residual.result failed,
      record {
        done = err_done _ c.from_residual.result failed;
        stand = λ told x takes. first_stands c.args.payload.now c.args.gate old new (first told) x takes;
        range = λ told. first_range c.args.payload.now c.args.gate old new (first told) (behind_of c.args.gate c.args.laid c.args.payload.now []);
      },
    )

pub open_record-requires-clause-there : goal.open_record-requires-clause-there
open_record-requires-clause-there g c told =
    let old = told_moments (g.D.Disk.shown c.args.disk.now) in
    let record_is : c.deref.result.now ≡ closed c.args.payload.now = c.deref.ensures.value ∙ c.requires.buffer.0 in
    let some = (c.requires.there (c.write_record.ensures.later.told told)).0.within in
    let now_is = ap (λ m. m.read) (c.in_ok-write_record.ensures.done told) ∙ ap (overlaid old.now.read (c.args.gate + 1)) record_is in (
      record {
        settled = settled_is _ _ (c.in_ok-write_record.ensures.done told);
        within = omega (arith, some, (at_now _ _ _ (c.write_record.ensures.moments told)).read.no_shorter);
      },
      subst (λ file. HasRecord c.args.payload.now (drop (c.args.gate + 1) file)) (sym now_is) (there_now c.args.payload.now c.args.gate old.now.read some),
    )

pub returns-clause-puts : goal.returns-clause-puts
returns-clause-puts g c =
    let old = told_moments (g.D.Disk.shown c.args.disk.now) in
    let mid = told_moments (g.D.Disk.shown c.write_record.new.disk) in
    let new = told_moments (g.D.Disk.shown c.open_record.new.disk) in
    let next = c.lay_after.ensures.behind.0 in
    let behind = behind_of c.args.gate c.args.laid c.args.payload.now next in
    let record_is : c.deref.result.now ≡ closed c.args.payload.now = c.deref.ensures.value ∙ c.requires.buffer.0 in
    let bytes_are = c.deref-2.ensures.value ∙ c.lay_after.ensures.behind.2 in
    let first : IsTrue (is_told (g.D.Disk.shown c.write_record.new.disk)) → AtEach (Torn (c.args.gate + 1) (length (closed c.args.payload.now)) old.now.read) old mid =
    λ told. subst (λ bytes. AtEach (Torn (c.args.gate + 1) (length bytes) old.now.read) old mid) record_is (c.write_record.ensures.moments told) in
    let opens = subst (λ bytes. Opens g.D.Disk.shown c.args.gate c.args.payload.now bytes c.write_record.new.disk c.open_record.new.disk c.open_record.result) bytes_are c.open_record.ensures.opens in (
      next,
      has_asked (g.H.Hint.says c.args.hint.now) next c.open_record.result c.lay_after.ensures.behind.1,
      done_too _ c.open_record.result c.lay_after.ensures.behind.2,
      record {
        done = on_ok_weaker c.open_record.result (λ done told.
            let told_mid = c.open_record.ensures.later.told told in
            let mid_is = c.in_ok-write_record.ensures.done told_mid ∙ ap (λ bytes. settled (overlaid old.now.read (c.args.gate + 1) bytes)) record_is in
            both_done c.args.payload.now c.args.gate old mid (first told_mid) behind new (c.requires.there (c.write_record.ensures.later.told told_mid)).0.within mid_is (done told)) opens.done;
        stand = λ told x takes.
            let each = first (c.open_record.ensures.later.told told) in
            both_stand c.args.payload.now c.args.gate old mid each behind new x takes (opens.stand told x (takes_still c.args.payload.now c.args.gate x old.now.read mid.now.read takes (at_now _ _ _ each).read));
        range = λ told. both_range c.args.payload.now c.args.gate old mid (first (c.open_record.ensures.later.told told)) behind new (opens.range told);
      },
    )
