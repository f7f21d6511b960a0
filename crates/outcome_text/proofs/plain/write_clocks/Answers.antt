use Rattle.std.proofs.Common.{string_bytes}
use Rattle.outcome_text.proofs.PlainLines.{clocks-step}
use Rattle.outcome_text.proofs.plain.write_clocks.Goals as goal

pub loop-clock-preserved : goal.loop-clock-preserved
loop-clock-preserved c =
    clocks-step c.args.bidders c.loop-clock.clock c.index-clocks-clock.result c.args.clocks.now (string_bytes c.loop-clock.text) _ _ _ c.loop-clock-test.true c.index-clocks-clock.is c.in_ok-write_clock.ensures c.in_ok-write_choices.ensures c.loop-clock.invariant
