use Rattle.std.proofs.Common.{◌≤◌, ◌*◌, ◌-◌, ◌∙◌, min, ap, arith}
use Rattle.std.proofs.Math.Nat.{mul-le-mul}
use Rattle.valuation.proofs.Greatest.{left-is}
use Rattle.valuation.proofs.paying.left_after.Goals as goal

pub overflow_mul-paid : goal.overflow_mul-paid
overflow_mul-paid c =
    let e = c.min.ensures in
    let f = c.from.ensures in
    let low : c.min.result ≤ 65535 = omega (arith, e) in
    let few : c.from.result ≤ 2047 = (let s = c.requires in omega (arith, f, s)) in
    let m : c.min.result * c.from.result ≤ 65535 * 2047 = mul-le-mul low few in
    omega (arith, m)

pub returns : goal.returns
returns c =
    c.saturating_sub.ensures
    ∙ ap (λ n. c.args.worth - n) (c.min-2.ensures ∙ (λ i. min (c.min.ensures i * c.from.ensures i) 65535))
    ∙ left-is c.args.worth c.args.times c.args.units c.ranges.worth.fits
