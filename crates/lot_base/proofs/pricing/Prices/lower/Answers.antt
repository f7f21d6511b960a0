use Rattle.std.proofs.Common.{◌∙◌, ap, sym}
use Rattle.lot_base.specs.Goods.{lowered}
use Rattle.lot_base.specs.Padded.{padded}
use Rattle.lot_base.proofs.Cells.{changed-view, keeps-lowered}
use Rattle.lot_base.proofs.pricing.Prices.lower.Goals as goal

pub invariant_of-result : goal.invariant_of-result
invariant_of-result c = (changed-view lowered keeps-lowered _ _ _ _ _ c.self.invariant c.self.view_is (c.six_lowered.ensures ∙ ap (λ ps. padded (lowered ps c.args.set.0)) (c.as_slice.ensures.value ∙ sym c.self.view_is))).padded_new

pub returns : goal.returns
returns c = (changed-view lowered keeps-lowered _ _ _ _ _ c.self.invariant c.self.view_is (c.six_lowered.ensures ∙ ap (λ ps. padded (lowered ps c.args.set.0)) (c.as_slice.ensures.value ∙ sym c.self.view_is))).view_new
