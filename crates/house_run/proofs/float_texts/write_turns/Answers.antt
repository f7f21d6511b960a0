use Rattle.std.proofs.Common.{arith, string_bytes}
use Rattle.house_run.proofs.Floating.{turns-step}
use Rattle.house_run.proofs.float_texts.write_turns.Goals as goal

pub loop-number-preserved : goal.loop-number-preserved
loop-number-preserved c =
    let same = c.requires in
    turns-step c.args.bidders c.loop-number.number c.index-clocks-number.result c.index-choices-number.result c.args.clocks.now c.args.choices.now (string_bytes c.loop-number.text) _ _ _ c.loop-number-test.true (omega (arith, same))
    c.index-clocks-number.is c.index-choices-number.is c.in_ok-write_turn.ensures c.in_ok-write_choices.ensures c.loop-number.invariant
