use Rattle.std.proofs.Common.{true, false}
use Rattle.auction_file.proofs.NamesRead.{name_after-read}
use Rattle.auction_file.proofs.elements.name_after.Goals as goal

pub returns-then-is_taken : goal.returns-then-is_taken
returns-then-is_taken c =
    name_after-read c.args.key c.args.earlier.now _ c.in_ok-text.text.now c.in_ok-name.name c.read.result c.is_taken.result true c.in_ok-text.ensures (cc) c.in_ok-name.ensures.value c.is_taken.ensures c.if-is_taken.true

pub returns : goal.returns
returns c =
    name_after-read c.args.key c.args.earlier.now _ c.in_ok-text.text.now c.in_ok-name.name c.read.result c.is_taken.result false c.in_ok-text.ensures (cc) c.in_ok-name.ensures.value c.is_taken.ensures c.if-is_taken.false
