use Rattle.std.proofs.Common.{arith}
use Rattle.toml.specs.View.{table_view}
use Rattle.valuation.proofs.FileRead.{file-read}
use Rattle.valuation.proofs.Trees.{gives-same}
use Rattle.valuation.proofs.reader.values_in.Goals as goal

pub returns : goal.returns
returns c =
    gives-same (λ v. v.items) c.each_bidder.result _ _
    (file-read c.args.goods.now c.args.bidders c.args.ceiling c.args.bytes.now (table_view c.in_ok-file.file) c.in_ok-elements.elements.now c.in_ok-known_keys.field-0 c.in_ok-file.ensures c.in_ok-known_keys.ensures c.in_ok-elements.ensures (omega arith))
    c.each_bidder.ensures
