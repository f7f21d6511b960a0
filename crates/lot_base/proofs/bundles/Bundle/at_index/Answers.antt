use Rattle.std.proofs.Common.{length, take, arith, ap, sym, ◌∙◌, subst, ℕ}
use Rattle.lot_base.specs.Box.{bundle_at}
use Rattle.lot_base.specs.Padded.{padded, IsPadded}
use Rattle.lot_base.proofs.Cells.{padded-is, take-padded}
use Rattle.lot_base.proofs.Index.{length-bundle_at}
use Rattle.lot_base.proofs.bundles.Bundle.at_index.Goals as goal

pub invariant_of-result : goal.invariant_of-result
invariant_of-result c =
    let same = length-bundle_at c.args.supply.now c.args.index in
    let P : ℕ → Type 0 = λ n. IsPadded c.six_digits.result n in
    subst P same (padded-is _ _ c.six_digits.ensures (let some = c.requires.supply.some_good in omega arith) (let few = c.requires.supply.few_goods in omega arith))

pub returns : goal.returns
returns c =
    let same = length-bundle_at c.args.supply.now c.args.index in
    ap (take (length c.args.supply.now)) c.six_digits.ensures ∙ ap (λ n. take n (padded (bundle_at c.args.supply.now c.args.index))) (sym same) ∙ take-padded (bundle_at c.args.supply.now c.args.index)
