use Rattle.std.proofs.Common.{ap}
use Rattle.std.proofs.lemmas.Result.{on_ok_weaker}
use Rattle.house_io.proofs.Moments.{at_weaker}
use Rattle.report_journal.specs.Puts.{IsUnformedOrEmpty}
use Rattle.report_journal.proofs.Forming.{is_formed, stage}
use Rattle.report_journal.proofs.steps.put_header.Goals as goal

pub returns-clause-moments : goal.returns-clause-moments
returns-clause-moments g c told header is_head =
    let shut = (c.requires.file (c.put_after_gate.ensures.later.told told)).1 in
    at_weaker _ (IsUnformedOrEmpty header) _ _ (stage header c.args.bytes.now _ is_head shut) (c.put_after_gate.ensures.moments told)

pub returns-clause-formed : goal.returns-clause-formed
returns-clause-formed g c = on_ok_weaker c.put_after_gate.result (λ done told header is_head.
    let shut = (c.requires.file (c.put_after_gate.ensures.later.told told)).1 in
    is_formed header c.args.bytes.now _ is_head shut _ (ap (λ m. m.read) (done told))) c.put_after_gate.ensures.done
