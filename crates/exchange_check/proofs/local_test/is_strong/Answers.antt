use Rattle.std.proofs.Common.{List, ℕ, arith, refl, subst}
use Rattle.std.proofs.lemmas.Bool.{iff_false, false≢true}
use Rattle.exchange_check.proofs.local_test.is_strong.Goals as goal
use Rattle.lot_base.specs.Box.{bundle_at, index_of}
use Rattle.valuation.specs.Values.{valuation_of}
use Rattle.exchange_check.specs.Local.{IsLocalAt}
use Rattle.lot_base.proofs.Index.{index_of-small}
use Rattle.lot_base.proofs.Index.{bundle_at-index_of}
use Rattle.exchange_check.proofs.Local.{strong_of_local, local_of_strong}
use Rattle.exchange_check.proofs.AtPlace.{AtMost-bundle_at, local_from_each, each_from_local}

pub returns-then-not-holds_at : goal.returns-then-not-holds_at
returns-then-not-holds_at c =
    let s = c.args.table.now.supply.now in
    let u = valuation_of s c.args.table.now.values.now in
    let n = c.loop-index.index in
    let h = c.requires.size in
    let b = AtMost-bundle_at s n (omega arith) in
    ((λ r. absurd (false≢true r)), (λ p. absurd (iff_false c.holds_at.ensures c.if-not-holds_at.true (each_from_local s u (local_of_strong s u p) (bundle_at s n) b))))

pub returns : goal.returns
returns c =
    let s = c.args.table.now.supply.now in
    let u = valuation_of s c.args.table.now.values.now in
    let P : List ℕ → Type 0 = λ w. IsLocalAt s u w in (
      (λ r. strong_of_local s u (local_from_each s u (λ w b.
          let h = index_of-small s w b in
          let e = c.requires.size in
          subst P (bundle_at-index_of s w b) (c.loop-index.invariant (index_of s w) (omega arith))))),
      (λ h. refl),
    )
