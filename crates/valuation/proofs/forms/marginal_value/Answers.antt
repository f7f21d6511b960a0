use Rattle.std.proofs.Common.{◌≡◌, ◌+◌, ◌∙◌, ap, arith, length, slice_index, take, drop}
use Rattle.valuation.specs.Forms.{total, marginal_value}
use Rattle.valuation.proofs.Marginal.{taken, enough, rest-count, marginal-next}
use Rattle.valuation.proofs.forms.marginal_value.Goals as goal

pub slice_bounds-total_of-end : goal.slice_bounds-total_of-end
slice_bounds-total_of-end c =
    taken (slice_index c.args.x.now c.loop-good.good) c.loop-good.rest.now (enough c.args.supply.now c.args.x.now c.loop-good.rest.now c.loop-good.good c.requires.within c.loop-good-test.true c.loop-good.invariant.count)

pub overflow_add-worth : goal.overflow_add-worth
overflow_add-worth c =
    let t = c.total_of-worth.ensures.small in
    let w = c.loop-good.invariant.small in
    let few = c.requires.few in
    let test = c.loop-good-test.true in
    omega arith

pub loop-good-preserved : goal.loop-good-preserved
loop-good-preserved c =
    let s = c.args.supply.now in
    let x = c.args.x.now in
    let rest = c.loop-good.rest.now in
    let k = c.loop-good.good in
    let t = c.total_of-worth.ensures.small in
    let w = c.loop-good.invariant.small in
    let value : c.total_of-worth.result ≡ total (take (slice_index x k) rest) = c.total_of-worth.ensures.value in
    let back : c.split_at.result.1.now ≡ drop (slice_index s k) rest = c.split_at.ensures.back in
    let next = marginal-next s rest x k c.requires.within c.loop-good-test.true in
    let here = ap (λ r. marginal_value (drop (k + 1) s) r (drop (k + 1) x)) back in
    let so_far = c.loop-good.invariant.so_far in
    record {
      so_far = omega (arith, value, next, here, so_far);
      count = ap length back ∙ rest-count s rest k c.loop-good-test.true c.loop-good.invariant.count;
      small = omega (arith, t, w);
    }
