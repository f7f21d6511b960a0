use Rattle.std.proofs.Common.{◌≡◌, ◌∙◌, ap, subst, drop, length, List, ℕ, sum, slice_index, arith}
use Rattle.lot_base.specs.Box.{index_of}
use Rattle.lot_base.proofs.Index.{index_of-small, bundle_at-index_of}
use Rattle.award_assembly.specs.Units.{IsJoined}
use Rattle.award_assembly.proofs.Searching.{joined-with}
use Rattle.award_assembly.proofs.reach.join.Goals as goal

pub split_at-requires : goal.split_at-requires
split_at-requires c = let small = index_of-small c.args.goods.now c.args.bundle.now c.requires.bundle in omega (arith, small, c.index-place.ensures.digits, c.requires.size.0)

pub bounds-units-place : goal.bounds-units-place
bounds-units-place c =
    let small = index_of-small c.args.goods.now c.args.bundle.now c.requires.bundle in
    omega (arith, small, c.index-place.ensures.digits, ap length c.as_slice-units.ensures, c.requires.units.size)

pub returns : goal.returns
returns c = λ table keyed.
    let s = c.args.goods.now in
    let back : c.split_at.result.1.now ≡ drop (index_of s c.args.bundle.now) c.args.keys.now = c.split_at.ensures.back ∙ ap (λ (n : ℕ). drop n c.args.keys.now) c.index-place.ensures.digits in
    let more = slice_index c.as_slice-units.result.now c.index-place.result in
    let more_is : more ≡ sum c.args.bundle.now =
    (λ i. slice_index (c.as_slice-units.ensures i) (c.index-place.ensures.digits i))
    ∙ c.requires.units.each (index_of s c.args.bundle.now) (index_of-small s c.args.bundle.now c.requires.bundle)
    ∙ ap sum (bundle_at-index_of s c.args.bundle.now c.requires.bundle) in
    joined-with s c.args.bundle.now table c.args.units.now c.args.keys.now more c.args.totals.now c.join_matching.new.totals c.requires.bundle c.requires.units c.requires.size.0 keyed more_is
    (subst (λ (units : List ℕ). IsJoined (drop (index_of s c.args.bundle.now) c.args.keys.now) units more c.args.totals.now c.join_matching.new.totals) c.as_slice-units.ensures
    (subst (λ (keys : List ℕ). IsJoined keys c.as_slice-units.result.now more c.args.totals.now c.join_matching.new.totals) back c.join_matching.ensures))
