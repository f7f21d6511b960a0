use Rattle.std.proofs.Common.{sym, ◌∙◌, ap, not, false}
use Rattle.std.specs.Prelude.{slice_index_or}
use Rattle.clock.proofs.Members.{find-keep, find-skip}
use Rattle.clock.proofs.rounds.missing_in.Goals as goal
use Rattle.clock.proofs.rounds.missing_in.Goals.{else-bidder-clock-via-then-bidder-clock+else-not-reported-bidder, else-bidder-clock-via-else-bidder-clock}

pub loop-step-preserved : goal.loop-step-preserved
loop-step-preserved c =
    elim c.else-bidder-clock.branch [
      | else-bidder-clock-via-then-bidder-clock+else-not-reported-bidder w ↦ sym (find-keep (λ j. not (slice_index_or c.args.reported.now j false)) c.loop-step.step c.args.bidders c.args.clock c.loop-step-test.true w.if-bidder-clock.true (ap not w.if-not-reported-bidder.false)) ∙ c.loop-step.invariant
      | else-bidder-clock-via-else-bidder-clock w ↦ sym (find-skip (λ j. not (slice_index_or c.args.reported.now j false)) c.loop-step.step c.args.bidders c.args.clock c.loop-step-test.true w.if-bidder-clock.false) ∙ c.loop-step.invariant
    ]
