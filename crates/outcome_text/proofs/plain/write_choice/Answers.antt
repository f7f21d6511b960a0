use Rattle.std.proofs.Common.{string_bytes}
use Rattle.std.proofs.lemmas.Result.{on_ok_weaker}
use Rattle.outcome_text.proofs.PlainLines.{choice-written}
use Rattle.outcome_text.proofs.plain.write_choice.Goals as goal

pub returns : goal.returns
returns c =
    on_ok_weaker c.writeln.result (choice-written c.args.clock c.args.bidder c.args.bundle.now (string_bytes c.args.text.now) _ _ _ c.in_ok-write.ensures.bytes c.in_ok-write_bundle.ensures) c.writeln.ensures.bytes
