use Rattle.std.proofs.Common.{string_bytes}
use Rattle.std.proofs.lemmas.Result.{on_ok_weaker}
use Rattle.house_run.proofs.Floating.{turn-written}
use Rattle.house_run.proofs.float_texts.write_turn.Goals as goal

pub returns : goal.returns
returns c =
    on_ok_weaker c.writeln.result
    (turn-written c.args.number c.args.clock.now _ _ _ (string_bytes c.args.text.now) _ _ _ c.ups-ups.ensures.value c.downs-downs.ensures.value c.look.ensures.prices c.in_ok-write.ensures.bytes c.in_ok-write_prices.ensures) c.writeln.ensures.bytes
