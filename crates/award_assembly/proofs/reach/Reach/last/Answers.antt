use Rattle.std.proofs.Common.{◌≡◌, sym, ◌∙◌, arith}
use Rattle.lot_base.specs.Goods.{box_size}
use Rattle.lot_base.specs.Box.{bundle_at}
use Rattle.lot_base.proofs.Index.{length-bundle_at}
use Rattle.award_assembly.proofs.Reaching.{can-none}
use Rattle.award_assembly.proofs.reach.Reach.last.Goals as goal

pub returns : goal.returns
returns c =
    let all : c.loop-place.place ≡ box_size c.args.goods.now = omega (arith, c.box_size-place-end.ensures) in
    record {
      size = c.loop-place.invariant.count ∙ all;
      each = λ place below.
          c.loop-place.invariant.each place (omega arith)
          ∙ sym (can-none c.args.goods.now c.args.opening.now c.args.prices.now (bundle_at c.args.goods.now place) (length-bundle_at c.args.goods.now place));
    }
