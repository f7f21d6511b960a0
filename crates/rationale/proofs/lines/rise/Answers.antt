use Rattle.std.proofs.Common.{◌≡◌, length, ap, sym, ◌∙◌, arith}
use Rattle.rationale.proofs.Stepping.{sum_read}
use Rattle.rationale.proofs.lines.rise.Goals as goal

pub returns-clause-sum : goal.returns-clause-sum
returns-clause-sum c =
    let from = c.args.from.now in
    let count = length c.as_slice-count.result.now in
    let long : length from ≡ count = ap length (sym c.as_slice-count.ensures.value) in
    let same : length from ≡ length c.args.to.now = c.requires in
    let test = c.loop-good-test.false in
    let few = c.as_slice-count.ensures.few in
    sum_read c.read.result from c.args.to.now c.loop-good.cells count c.read.ensures.some long (sym same ∙ long)
    (let i = c.loop-good.invariant.long in omega arith) (λ k inside. c.loop-good.invariant.risen k (omega arith))
