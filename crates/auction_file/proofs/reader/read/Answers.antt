use Rattle.std.proofs.Common.{arith}
use Rattle.auction_file.proofs.Openings.{goods_of-opened}
use Rattle.auction_file.proofs.reader.read.Goals as goal

pub terms_of-requires-clause-opened : goal.terms_of-requires-clause-opened
terms_of-requires-clause-opened c =
    rw c.as_slice-2.ensures.value (goods_of-opened c.in_ok-version.version c.in_ok-ceiling.ceiling _ c.in_ok-goods.goods.items (omega (arith, c.in_ok-ceiling.ensures.low)) c.in_ok-goods.ensures)
