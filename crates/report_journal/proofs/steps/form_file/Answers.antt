use Rattle.std.proofs.Common.{◌+◌, ◌∷◌, length, inl, ⊎_elim, ◌∙◌, ap, arith}
use Rattle.house_io.specs.Disks.{told_moments}
use Rattle.std.proofs.lemmas.Result.{on_ok_weaker}
use Rattle.house_io.specs.Moments.{overlaid, settled}
use Rattle.report_journal.specs.declared.spellings.TheConstants.{OPEN}
use Rattle.house_io.proofs.Moments.{at_both, at_weaker}
use Rattle.report_journal.specs.Format.{IsUnformed}
use Rattle.report_journal.specs.Puts.{IsUnformedOrEmpty}
use Rattle.report_journal.proofs.Spans.{at_wider, at_twice, overlaid_over}
use Rattle.report_journal.proofs.steps.form_file.Goals as goal

pub returns-in_err-shut_gate-clause-moments : goal.returns-in_err-shut_gate-clause-moments
returns-in_err-shut_gate-clause-moments g c told header is_header =
    at_weaker IsUnformed (IsUnformedOrEmpty header) _ _ (λ f unformed. inl unformed) (c.shut_gate.ensures.moments told)

pub returns-clause-moments : goal.returns-clause-moments
returns-clause-moments g c told header is_header =
    at_both (IsUnformedOrEmpty header) _ _ _
    (at_weaker IsUnformed (IsUnformedOrEmpty header) _ _ (λ f unformed. inl unformed) (c.shut_gate.ensures.moments (c.put_header.ensures.later.told told)))
    (c.put_header.ensures.moments told header is_header)

pub returns-in_err-shut_gate-clause-range : goal.returns-in_err-shut_gate-clause-range
returns-in_err-shut_gate-clause-range g c told =
    at_wider 0 (1 + length c.args.bytes.now) 0 1 (omega arith) (omega arith) _ _ (c.shut_gate.ensures.range told)

pub returns-clause-range : goal.returns-clause-range
returns-clause-range g c told =
    at_twice 0 (1 + length c.args.bytes.now) 0 1 0 (1 + length c.args.bytes.now) (omega arith) (omega arith) (omega arith) (omega arith) _ _ _ (c.shut_gate.ensures.range (c.put_header.ensures.later.told told)) (c.put_header.ensures.range told)

pub returns-clause-done : goal.returns-clause-done
returns-clause-done g c = on_ok_weaker c.put_header.result (λ done told.
    let file = (told_moments (g.D.Disk.shown c.args.disk.now)).now.read in
    ⊎_elim
    (λ same. done told ∙ ap (λ f. settled (overlaid f 0 (OPEN ∷ c.args.bytes.now))) same)
    (λ shut. done told ∙ ap (λ f. settled (overlaid f 0 (OPEN ∷ c.args.bytes.now))) shut ∙ ap settled (overlaid_over file c.args.bytes.now OPEN 0))
    (c.in_ok-shut_gate.ensures.written (c.put_header.ensures.later.told told))) c.put_header.ensures.done
