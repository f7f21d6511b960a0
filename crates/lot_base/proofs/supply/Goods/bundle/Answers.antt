-- The bundle at a place of the cells is that of the supply which they stand for.
use Rattle.std.proofs.Common.{◌≡◌, Some, List, ℕ, ap, ◌∙◌, sym, subst}
use Rattle.lot_base.specs.Goods.{AtMost}
use Rattle.lot_base.specs.Box.{index_of, bundle_at}
use Rattle.lot_base.proofs.Index.{box-bundle_at, index_of-bundle_at, bundle_at-within}
use Rattle.lot_base.proofs.supply.Goods.bundle.Goals as goal

pub returns-clause-place : goal.returns-clause-place
returns-clause-place c =
    let digits : c.at_index.result ≡ bundle_at c.args.self.now c.args.index = c.at_index.ensures ∙ ap (λ s. bundle_at s c.args.index) (c.as_slice.ensures.value ∙ c.self.view_is) in
    box-bundle_at c.args.self.now c.args.index c.requires ∙ ap (λ x. Some x) (sym digits)

pub returns-clause-inverse : goal.returns-clause-inverse
returns-clause-inverse c =
    let digits : c.at_index.result ≡ bundle_at c.args.self.now c.args.index = c.at_index.ensures ∙ ap (λ s. bundle_at s c.args.index) (c.as_slice.ensures.value ∙ c.self.view_is) in
    ap (index_of c.args.self.now) digits ∙ index_of-bundle_at c.args.self.now c.args.index c.requires

pub returns-clause-within : goal.returns-clause-within
returns-clause-within c =
    let digits : c.at_index.result ≡ bundle_at c.args.self.now c.args.index = c.at_index.ensures ∙ ap (λ s. bundle_at s c.args.index) (c.as_slice.ensures.value ∙ c.self.view_is) in
    let P : List ℕ → Type 0 = λ x. AtMost x c.args.self.now in
    subst P (sym digits) (bundle_at-within c.args.self.now c.args.index c.requires)
