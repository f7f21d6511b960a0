use Rattle.std.proofs.Common.{◌≡◌, ◌∙◌, arith}
use Rattle.lot_base.specs.Goods.{box_size}
use Rattle.lot_base.specs.Box.{bundle_at}
use Rattle.lot_base.proofs.Index.{bundle_at-within, index_of-bundle_at}
use Rattle.award_assembly.proofs.Carrying.{sum-below}
use Rattle.award_assembly.proofs.units.Units.new.Goals as goal

pub units_of-requires : goal.units_of-requires
units_of-requires c = omega (arith, sum-below c.args.goods.now c.bundle.result c.bundle.ensures.within, c.bundle.ensures.inverse, c.loop-place-test.true, c.box_size-size.ensures, c.count-goods.ensures.supply.small)

pub returns : goal.returns
returns c =
    let s = c.args.goods.now in
    let all : c.loop-place.place ≡ box_size s = omega (arith, c.box_size-size.ensures) in
    record {
      size = c.loop-place.invariant.count ∙ all;
      each = λ place below. c.loop-place.invariant.each place (omega arith);
      few = λ place below.
          let inside = bundle_at-within s place below in
          omega (arith, c.loop-place.invariant.each place (omega arith), sum-below s (bundle_at s place) inside, index_of-bundle_at s place below, c.count-goods.ensures.supply.small);
    }
