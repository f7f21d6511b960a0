use Rattle.house_run.proofs.Judging.{link-line}
use Rattle.house_run.proofs.judge_texts.link_line.Goals as goal

pub returns : goal.returns
returns c = link-line c.args.place c.args.link.now _ _ _ _ _ c.in_ok-text.ensures.ok c.in_ok-write_bundle.ensures c.in_ok-write.ensures.bytes c.in_ok-write_bundle-2.ensures c.in_ok-write-2.ensures.bytes
