use Rattle.house_run.proofs.Summing.{refusal-line}
use Rattle.house_run.proofs.delivery.not_substitutes_line.Goals as goal

pub returns : goal.returns
returns c = refusal-line c.args.bidder c.args.good c.args.x.now c.args.y.now _ _ _ _ _ c.in_ok-line.ensures.ok c.in_ok-write_bundle.ensures c.in_ok-write.ensures.bytes c.in_ok-write_bundle-2.ensures c.in_ok-write-2.ensures.bytes
