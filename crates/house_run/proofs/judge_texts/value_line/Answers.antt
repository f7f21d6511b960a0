use Rattle.house_run.proofs.Judging.{value-line}
use Rattle.house_run.proofs.judge_texts.value_line.Goals as goal

pub returns : goal.returns
returns c = value-line c.args.bundle.now c.args.value.now _ _ _ c.in_ok-text.ensures.ok c.in_ok-write_bundle.ensures c.in_ok-write.ensures.bytes
