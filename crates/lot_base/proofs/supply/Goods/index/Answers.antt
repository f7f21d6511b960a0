-- The place on the cells is that on the supply which they stand for.
use Rattle.std.proofs.Common.{◌≡◌, ap, ◌∙◌}
use Rattle.std.specs.Prelude.{slice_get}
use Rattle.lot_base.specs.Box.{box, index_of, bundle_at}
use Rattle.lot_base.proofs.Index.{box-index_of, bundle_at-index_of}
use Rattle.lot_base.proofs.supply.Goods.index.Goals as goal

pub returns-clause-place : goal.returns-clause-place
returns-clause-place c =
    let digits : c.index_within.result ≡ index_of c.args.self.now c.args.x.now = c.index_within.ensures ∙ ap (λ s. index_of s c.args.x.now) (c.as_slice.ensures.value ∙ c.self.view_is) in
    ap (slice_get (box c.args.self.now)) digits ∙ box-index_of c.args.self.now c.args.x.now c.requires

pub returns-clause-inverse : goal.returns-clause-inverse
returns-clause-inverse c =
    let digits : c.index_within.result ≡ index_of c.args.self.now c.args.x.now = c.index_within.ensures ∙ ap (λ s. index_of s c.args.x.now) (c.as_slice.ensures.value ∙ c.self.view_is) in
    ap (bundle_at c.args.self.now) digits ∙ bundle_at-index_of c.args.self.now c.args.x.now c.requires
