use Rattle.std.proofs.Common.{◌+◌, [], ◌∷◌, length, inl, ◌∙◌, ap, arith}
use Rattle.house_io.specs.Disks.{told_moments}
use Rattle.std.proofs.lemmas.Result.{on_ok_weaker}
use Rattle.house_io.specs.Moments.{overlaid, settled}
use Rattle.house_io.proofs.Moments.{at_weaker}
use Rattle.report_journal.specs.declared.spellings.TheConstants.{OPEN}
use Rattle.report_journal.specs.Puts.{IsStage}
use Rattle.report_journal.proofs.Spans.{at_wider, at_twice, overlaid_twice, at_stages}
use Rattle.report_journal.proofs.steps.put_after_gate.Goals as goal

pub returns-in_err-write_synced-clause-moments : goal.returns-in_err-write_synced-clause-moments
returns-in_err-write_synced-clause-moments g c told =
    at_weaker _ (IsStage c.args.gate c.args.bytes.now (told_moments (g.D.Disk.shown c.args.disk.now)).now.read) _ _ (λ file torn. inl torn) (c.write_synced.ensures.moments told)

pub returns-clause-moments : goal.returns-clause-moments
returns-clause-moments g c told =
    let told_mid = c.write_synced-2.ensures.later.told told in
    at_stages c.args.gate c.args.bytes.now _ _ _ (c.write_synced.ensures.moments told_mid) (c.in_ok-write_synced.ensures.done told_mid) (c.write_synced-2.ensures.moments told)

pub returns-in_err-write_synced-clause-range : goal.returns-in_err-write_synced-clause-range
returns-in_err-write_synced-clause-range g c told =
    at_wider c.args.gate (1 + length c.args.bytes.now) (c.args.gate + 1) (length c.args.bytes.now) (omega arith) (omega arith) _ _ (c.write_synced.ensures.moments told)

pub returns-clause-range : goal.returns-clause-range
returns-clause-range g c told =
    let told_mid = c.write_synced-2.ensures.later.told told in
    at_twice c.args.gate (1 + length c.args.bytes.now) (c.args.gate + 1) (length c.args.bytes.now) c.args.gate 1 (omega arith) (omega arith) (omega arith) (omega arith) _ _ _ (c.write_synced.ensures.moments told_mid) (c.write_synced-2.ensures.moments told)

pub returns-clause-done : goal.returns-clause-done
returns-clause-done g c = on_ok_weaker c.write_synced-2.result (λ done told.
    let told_mid = c.write_synced-2.ensures.later.told told in
    done told
    ∙ ap (λ m. settled (overlaid m.read c.args.gate (OPEN ∷ []))) (c.in_ok-write_synced.ensures.done told_mid)
    ∙ ap settled (overlaid_twice _ c.args.gate (c.requires.file (c.write_synced.ensures.later.told told_mid)).within c.args.bytes.now OPEN)) c.write_synced-2.ensures.done
