use Rattle.house_run.proofs.Pairing.{broken-line}
use Rattle.house_run.proofs.commands.explain.broken_text.Goals as goal

pub returns : goal.returns
returns c = broken-line c.args.clock c.args.bidder c.args.good c.args.x.now c.args.y.now _ _ _ _ _ c.in_ok-text.ensures.ok c.in_ok-write_bundle.ensures c.in_ok-write.ensures.bytes c.in_ok-write_bundle-2.ensures c.in_ok-write-2.ensures.bytes
