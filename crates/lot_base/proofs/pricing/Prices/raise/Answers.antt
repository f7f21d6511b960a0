use Rattle.std.proofs.Common.{◌∙◌, ap, sym}
use Rattle.lot_base.specs.Goods.{raised}
use Rattle.lot_base.specs.Padded.{padded}
use Rattle.lot_base.proofs.Cells.{changed-view, keeps-raised}
use Rattle.lot_base.proofs.pricing.Prices.raise.Goals as goal

pub invariant_of-result : goal.invariant_of-result
invariant_of-result c = (changed-view raised keeps-raised _ _ _ _ _ c.self.invariant c.self.view_is (c.six_raised.ensures ∙ ap (λ ps. padded (raised ps c.args.set.0)) (c.as_slice.ensures.value ∙ sym c.self.view_is))).padded_new

pub returns : goal.returns
returns c = (changed-view raised keeps-raised _ _ _ _ _ c.self.invariant c.self.view_is (c.six_raised.ensures ∙ ap (λ ps. padded (raised ps c.args.set.0)) (c.as_slice.ensures.value ∙ sym c.self.view_is))).view_new
