use Rattle.std.proofs.Common.{◌≡◌, ◌+◌, ◌-◌, ◌/◌, ◌<◌, length, arith, ap, refl, inl, inr, get_or, get_or-set_other, get_or-set_same, length-set, add-one, ◌∙◌}
use Prim.Native.Nat.{suc}
use Rattle.std.proofs.lemmas.Bool.{cases_eq}
use Rattle.exchange_check.proofs.local_test.free_units.Goals as goal
use Rattle.lot_base.specs.Goods.{at}
use Rattle.lot_base.specs.Box.{bundle_at}
use Rattle.lot_base.specs.Strides.{stride}
use Rattle.lot_base.proofs.Strides.{stride_positive, place_first, place_most, place_next, place_rest}

pub nonzero_div-free : goal.nonzero_div-free
nonzero_div-free c =
    let k = c.loop-good.good in
    let h : k < length c.args.supply.now = c.loop-good-test.true in
    let e = c.requires.strides k h in
    let p = stride_positive c.args.supply.now k h in omega arith

pub nonzero_rem-rest : goal.nonzero_rem-rest
nonzero_rem-rest c =
    let k = c.loop-good.good in
    let h : k < length c.args.supply.now = c.loop-good-test.true in
    let e = c.requires.strides k h in
    let p = stride_positive c.args.supply.now k h in omega arith

pub overflow_cast-free : goal.overflow_cast-free
overflow_cast-free c =
    let k = c.loop-good.good in
    let h : k < length c.args.supply.now = c.loop-good-test.true in
    let e = ap (λ n. c.loop-good.rest / n) (c.requires.strides k h) in
    let m = place_most c.args.supply.now k c.loop-good.rest h c.loop-good.invariant.0 in
    let f = c.type_inv.supply k in
    omega arith

pub overflow_sub-free : goal.overflow_sub-free
overflow_sub-free c =
    let k = c.loop-good.good in
    let h : k < length c.args.supply.now = c.loop-good-test.true in
    let e = ap (λ n. c.loop-good.rest / n) (c.requires.strides k h) in
    let m = place_most c.args.supply.now k c.loop-good.rest h c.loop-good.invariant.0 in
    omega arith

pub loop-good-init : goal.loop-good-init
loop-good-init c = (
  c.requires.within,
  (λ k. let e : 0 + k ≡ k = omega arith in ap (at (bundle_at c.args.supply.now c.args.index)) e),
  (λ k h. absurd (omega arith)),
  refl,
)

pub loop-good-preserved : goal.loop-good-preserved
loop-good-preserved c =
    let s = c.args.supply.now in
    let k = c.loop-good.good in
    let r = c.loop-good.rest in
    let h : k < length s = c.loop-good-test.true in
    let e : get_or c.args.strides.now k 0 ≡ stride s k = c.requires.strides k h in
    let within = c.loop-good.invariant.0 in
    let first = place_first s k r h in
    let most = place_most s k r h within in
    let here = c.loop-good.invariant.1 0 in
    let z : k + 0 ≡ k = omega arith in
    let w = ap (at (bundle_at s c.args.index)) z in
    let inside : k < length c.loop-good.free = (let t = c.loop-good.invariant.3 in let u = c.requires.goods in omega arith) in (
      rw (e, add-one) (place_rest s k r h),
      (λ m. let f : k + 1 + m ≡ k + suc m = omega arith in rw (e, f, add-one) (c.loop-good.invariant.1 (suc m) ∙ place_next s k r m h)),
      (λ m hm. elim (cases_eq m k) [
        | inl q ↦ rw (q, e) (rw get_or-set_same (omega arith))
        | inr q ↦ rw get_or-set_other (c.loop-good.invariant.2 m (omega arith))
      ]),
      length-set c.loop-good.free k (get_or s k 0 - r / get_or c.args.strides.now k 0) ∙ c.loop-good.invariant.3,
    )

pub returns : goal.returns
returns c = λ k h. c.loop-good.invariant.2 k (omega arith)
