use Rattle.std.proofs.Common.{string_bytes}
use Rattle.std.proofs.lemmas.Result.{on_ok_weaker}
use Rattle.outcome_text.proofs.PlainLines.{opening-written}
use Rattle.outcome_text.proofs.plain.write_opening_line.Goals as goal

pub returns : goal.returns
returns c = on_ok_weaker c.writeln.result (opening-written c.args.opening.now (string_bytes c.args.text.now) _ _ _ c.in_ok-write.ensures.bytes c.in_ok-write_prices.ensures) c.writeln.ensures.bytes
