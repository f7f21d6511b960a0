use Rattle.std.proofs.Common.{◌≡◌, ◌^◌, ◌∙◌, arith}
use Rattle.std.specs.Prelude.{ℤ, pos, ◌-ℤ◌, ◌≤ℤ◌}
use Rattle.std.specs.Int.{w64}
use Rattle.std.proofs.lemmas.Int.{ints}
use mir.Val.{to_z, of_z}
use Rattle.two_way.proofs.Truthful.{from-start, sum-rise}
use Rattle.two_way.proofs.clocks.TwoWay.sum_without.Goals as goal

wide : (n : ℤ) → (pos 0 -ℤ pos (2 ^ 53)) ≤ℤ n → n ≤ℤ pos (2 ^ 53) → to_z w64 (of_z w64 n) ≡ n
wide n low high = omega (arith, ints)

pub returns-clause-rise : goal.returns-clause-rise
returns-clause-rise c = λ u explains.
    let h = c.args.self.now in
    wide c.sum.result c.sum.ensures.low c.sum.ensures.high ∙ c.sum.ensures.value ∙ sum-rise u h c.args.bidder (from-start u h c.shown-started.ensures.started explains)
