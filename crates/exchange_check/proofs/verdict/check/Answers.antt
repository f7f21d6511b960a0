use Rattle.std.proofs.Common.{ℕ, List, sym, subst}
use Rattle.lot_base.specs.Box.{bundle_at}
use Rattle.valuation.specs.Values.{valuation_of}
use Rattle.exchange_check.specs.Exchange.{IsFirstBroken}
use Rattle.exchange_check.specs.Local.{IsFirstPlace}
use Rattle.exchange_check.proofs.FirstTriple.{first-triple}
use Rattle.exchange_check.proofs.verdict.check.Goals as goal

pub returns-in-Some : goal.returns-in-Some
returns-in-Some c =
    let s = c.args.goods.now in
    let v = c.args.valuation.now in
    let t = c.in-Some.triple in
    let P : List ℕ → Type 0 = λ z. IsFirstPlace z (valuation_of z c.as_slice-values.result.now) t.x t.y t.good in
    let Q : List ℕ → Type 0 = λ z. IsFirstPlace s (valuation_of s z) t.x t.y t.good in
    let supply = c.as_slice-supply.ensures in
    let found = subst Q c.as_slice-values.ensures.value (subst P supply (c.in-Some.ensures.some)) in
    let B : List ℕ → Type 0 = λ x. IsFirstBroken s (valuation_of s v) x (bundle_at s t.y) t.good in
    let C : List ℕ → Type 0 = λ y. IsFirstBroken s (valuation_of s v) c.bundle.result y t.good in
    subst C (sym c.bundle-in-Some.ensures.digits) (subst B (sym c.bundle.ensures.digits) (first-triple s (valuation_of s v) t.x t.y t.good found))
