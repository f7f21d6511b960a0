use Rattle.std.proofs.Common.{◌+◌, [], ◌∷◌, length, ◌∙◌, ap, refl, subst, arith}
use Rattle.house_io.specs.Disks.{told_moments}
use Rattle.std.proofs.lemmas.Result.{on_ok_weaker}
use Rattle.house_io.specs.Moments.{AtEach, Torn, overlaid, settled}
use Rattle.house_io.proofs.Moments.{at_weaker}
use Rattle.report_journal.specs.declared.spellings.TheConstants.{OPEN}
use Rattle.report_journal.specs.Puts.{IsBeforeOrAfter, TornTwice}
use Rattle.report_journal.proofs.Ahead.{record-within, opened_stage, range_there, overlaid_there}
use Rattle.report_journal.proofs.steps.open_record.Goals as goal

pub open_and_lay-requires-clause-file : goal.open_and_lay-requires-clause-file
open_and_lay-requires-clause-file g c told =
    let there = c.requires.there told in (
      record { settled = there.0.settled; within = omega (arith, there.0.within) },
      record { settled = there.0.settled; within = record-within c.args.payload.now c.args.gate _ there.0.within there.1 },
    )

pub returns-clause-opens : goal.returns-clause-opens
returns-clause-opens g c =
    let from = c.args.gate + 1 + (length c.args.payload.now + 5) in
    let old = told_moments (g.D.Disk.shown c.args.disk.now) in
    record {
      done = on_ok_weaker c.open_and_lay.result (λ done told.
          let there = c.requires.there (c.open_and_lay.ensures.later.told told) in
          done told
          ∙ ap (λ laid. settled (overlaid (overlaid old.now.read c.args.gate (OPEN ∷ [])) from laid)) c.split_at.ensures.back
          ∙ ap settled (overlaid_there c.args.payload.now c.args.gate _ there.1 c.args.bytes.now c.requires.spelled _ refl there.0.within)) c.open_and_lay.ensures.done;
      stand = λ told x takes.
          let there = c.requires.there (c.open_and_lay.ensures.later.told told) in
          at_weaker _ (IsBeforeOrAfter x c.args.payload.now) _ _ (opened_stage c.args.payload.now c.args.gate _ there.1 x takes _ _ refl) (c.open_and_lay.ensures.moments told);
      range = λ told.
          let there = c.requires.there (c.open_and_lay.ensures.later.told told) in
          let each = subst (λ laid. AtEach (TornTwice c.args.gate 1 from (length laid) old.now.read) old (told_moments (g.D.Disk.shown c.open_and_lay.new.disk))) c.split_at.ensures.back (c.open_and_lay.ensures.moments told) in
          at_weaker _ (Torn c.args.gate (1 + length c.args.bytes.now) old.now.read) _ _ (range_there c.args.payload.now c.args.gate _ there.1 c.args.bytes.now c.requires.spelled from refl) each;
    }
