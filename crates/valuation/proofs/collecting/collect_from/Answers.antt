use Rattle.std.proofs.Common.{◌≡◌, ◌<◌, ◌+◌, ◌∙◌, ◌++◌, [], ℕ, List, cond, nat_eq, length, slice_index, ap, sym, subst, arith}
use Rattle.lot_base.specs.Goods.{box_size}
use Rattle.lot_base.specs.Box.{bundle_at}
use Rattle.lot_base.proofs.Index.{length-bundle_at}
use Rattle.valuation.proofs.Collected.{collect-next}
use Rattle.valuation.proofs.collecting.collect_from.Goals as goal

pub advance-requires : goal.advance-requires
advance-requires c =
    let inside : c.loop-place.place < box_size c.args.goods.now = omega (arith, c.requires.whole, c.requires.within, c.loop-place-test.true) in
    let long = ap length (c.loop-place.invariant.at inside) ∙ length-bundle_at c.args.goods.now c.loop-place.place in
    let supply = ap length c.as_slice.ensures in
    omega (arith, long, supply)

pub loop-place-preserved : goal.loop-place-preserved
loop-place-preserved c =
    let goods = c.args.goods.now in
    let place = c.loop-place.place in
    let inside : place < box_size goods = omega (arith, c.requires.whole, c.requires.within, c.loop-place-test.true) in
    let at = c.loop-place.invariant.at inside in
    let kept = c.in_ok-keep.ensures ∙ ap (λ (x : List ℕ). c.loop-place.found.items ++ cond (nat_eq (slice_index c.args.worth.now place) c.args.best) x []) at in
    let supply = c.as_slice.ensures in
    let N : List ℕ → Type 0 = λ z. c.advance.new.quantities ≡ bundle_at z (place + 1) in
    let M : List ℕ → Type 0 = λ z. place + 1 < box_size z in
    let E : List ℕ → Type 0 = λ z. c.loop-place.quantities ≡ bundle_at z place in
    record {
      found = collect-next goods c.args.worth.now c.args.best place c.loop-place.found.items c.keep.new.found.items inside c.loop-place.invariant.found kept;
      at = λ more. subst N supply (c.advance.ensures.next place (subst M (sym supply) more) (subst E (sym supply) at));
    }
