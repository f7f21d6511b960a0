use Rattle.std.proofs.Common.{◌+◌, length, sym, ◌∙◌, ap}
use Rattle.house_io.specs.Moments.{settled}
use Rattle.report_journal.proofs.Spans.{at_rest, overlaid_same}
use Rattle.report_journal.proofs.steps.write_record.Goals as goal

pub returns-then-lies_there-clause-moments : goal.returns-then-lies_there-clause-moments
returns-then-lies_there-clause-moments g c told = at_rest (c.args.gate + 1) (length c.args.bytes.now) _ (c.requires.file told).settled

pub returns-then-lies_there-clause-done : goal.returns-then-lies_there-clause-done
returns-then-lies_there-clause-done g c told =
    (c.requires.file told).settled ∙ ap settled (sym (overlaid_same _ c.args.bytes.now (c.args.gate + 1) (c.requires.file told).within (c.requires.there c.if-lies_there.true told)))
