use Rattle.std.proofs.Common.{arith, refl, inl, inr}
use Rattle.std.proofs.lemmas.Bool.{cases_lt}
use Rattle.exchange_check.proofs.local_test.holds_at.Goals as goal
use Rattle.lot_base.specs.Box.{bundle_at}
use Rattle.valuation.specs.Values.{valuation_of}
use Rattle.exchange_check.proofs.AtPlace.{pair_turned}

pub returns : goal.returns
returns c =
    let s = c.args.table.now.supply.now in
    let inv = c.loop-i.invariant in (
      (λ r a b ha hb. elim (cases_lt b a) [
        | inl lt ↦ pair_turned s (valuation_of s c.args.table.now.values.now) (bundle_at s c.args.index) b a (inv b a (omega arith) (omega arith) ha)
        | inr le ↦ inv a b (omega arith) le hb
      ]),
      (λ h. refl),
    )
