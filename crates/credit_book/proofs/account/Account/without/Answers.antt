use Rattle.std.proofs.Common.{◌≡◌, ◌≤◌, ◌*◌, ◌^◌, ℕ, ◌∙◌, ap, arith}
use Rattle.std.specs.Prelude.{pos, ◌-ℤ◌}
use Rattle.std.specs.Int.{w64}
use Rattle.std.proofs.lemmas.Int.{ints}
use mir.Val.{to_z, of_z}
use Rattle.credit_book.specs.Account.{sum_without}
use Rattle.credit_book.proofs.Totals.{sum_without-is}
use Rattle.credit_book.proofs.account.Account.without.Goals as goal

difference : (u l : ℕ) → u ≤ 2 ^ 48 → l ≤ 12 * 2 ^ 48 → to_z w64 (of_z w64 (to_z w64 u -ℤ to_z w64 l)) ≡ pos u -ℤ pos l
difference u l few less = omega (arith, ints)

pub returns-clause-value : goal.returns-clause-value
returns-clause-value c =
    difference c.self.inside.units c.least_of_others.result (omega (arith, c.self.invariant.few, c.self.invariant.units_small)) c.least_of_others.ensures.small
    ∙ sum_without-is _ c.args.bidder c.least_of_others.result c.least_of_others.ensures.sum
    ∙ ap (λ a. sum_without a c.args.bidder) c.self.view_is
