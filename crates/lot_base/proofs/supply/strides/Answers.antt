use Rattle.std.proofs.Common.{◌≡◌, ◌+◌, ◌*◌, ◌-◌, ◌<◌, length, drop, arith, ap, refl, inl, inr, get_or-set_other, get_or-set_same, length-set, ◌∙◌, sym}
use Prim.Native.Nat.{suc}
use Rattle.std.proofs.lemmas.Bool.{cases_eq}
use Rattle.lot_base.proofs.supply.strides.Goals as goal
use Rattle.lot_base.specs.Goods.{at, box_size}
use Rattle.lot_base.specs.Strides.{stride}
use Rattle.lot_base.proofs.Strides.{stride_is, size-drop, size-drop_le, drop_all}

pub overflow_mul-size : goal.overflow_mul-size
overflow_mul-size c =
    let s = c.args.supply.now in
    let i = c.loop-i.i in
    let k = length s - 1 - i in
    let h : k < length s = omega arith in
    let f : length s - i ≡ suc k = omega arith in
    let e : c.loop-i.size ≡ stride s k = c.loop-i.invariant.0 ∙ ap (λ n. box_size (drop n s)) f ∙ sym (stride_is s k h) in
    let g : c.from.result ≡ at s k = c.from.ensures in
    let a = ap (λ n. n * (c.from.result + 1)) e in
    let b = ap (λ n. stride s k * (n + 1)) g in
    omega (arith, size-drop s k h, size-drop_le s k)

pub loop-i-init : goal.loop-i-init
loop-i-init c =
    let s = c.args.supply.now in
    let e : length s - 0 ≡ length s = omega arith in
    (sym (ap (λ n. box_size (drop n s)) e ∙ ap box_size (drop_all s)), λ k h l. absurd (omega arith), refl)

pub loop-i-preserved : goal.loop-i-preserved
loop-i-preserved c =
    let s = c.args.supply.now in
    let i = c.loop-i.i in
    let k = length s - 1 - i in
    let h : k < length s = omega arith in
    let f : length s - i ≡ suc k = omega arith in
    let e : c.loop-i.size ≡ stride s k = c.loop-i.invariant.0 ∙ ap (λ n. box_size (drop n s)) f ∙ sym (stride_is s k h) in
    let g : c.from.result ≡ at s k = c.from.ensures in
    let a = ap (λ n. n * (c.from.result + 1)) e in
    let b = ap (λ n. stride s k * (n + 1)) g in
    let d : length s - (i + 1) ≡ k = omega arith in
    let inside : k < length c.loop-i.strides = (let t = c.loop-i.invariant.2 in let u = c.requires.few in omega arith) in (
      a ∙ b ∙ sym (ap (λ n. box_size (drop n s)) d ∙ size-drop s k h),
      (λ m hm lm. elim (cases_eq m k) [
        | inl q ↦ rw q (rw get_or-set_same e)
        | inr q ↦ rw get_or-set_other (c.loop-i.invariant.1 m (omega arith) lm)
      ]),
      length-set c.loop-i.strides k c.loop-i.size ∙ c.loop-i.invariant.2,
    )

pub returns : goal.returns
returns c = λ k h. c.loop-i.invariant.1 k (omega arith) h
