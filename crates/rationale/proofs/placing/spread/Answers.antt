use Rattle.std.proofs.Common.{◌+◌, ◌-◌, ◌*◌, ◌<◌, ◌∙◌, ◌≡◌, ℕ, ap, length, slice_index, arith, refl, inl, inr, length-set}
use Rattle.std.proofs.lemmas.Bool.{cases_lt}
use Rattle.std.proofs.lemmas.List.{get_or-set_same, get_or-set_other}
use Rattle.rationale.proofs.Blocks.{spread_at, spread-start, spread-more}
use Rattle.rationale.proofs.placing.spread.Goals as goal

pub loop-place-init : goal.loop-place-init
loop-place-init c = record { long = refl; high = omega arith; each = λ i inside. spread-start c.args.costs.now c.args.size c.args.price i inside }

pub loop-place-preserved : goal.loop-place-preserved
loop-place-preserved c =
    let old = c.args.costs.now in
    let size = c.args.size in
    let place = c.loop-place.place in
    let now = c.loop-place.costs in
    let price = c.args.price in
    let high = c.loop-place.invariant.high in
    let long = c.loop-place.invariant.long in
    let some = c.requires.some in
    let fits = c.requires.fits in
    let test = c.loop-place-test.true in
    let turned : size * (c.args.units + 1) ≡ (c.args.units + 1) * size = grind arith in
    let room : place < length now = omega arith in
    record {
      long = length-set now place (slice_index now (place - size) + price) ∙ long;
      high = omega arith;
      each = λ i inside. elim (cases_lt i place) [
        | inl before ↦ get_or-set_other now place i (slice_index now (place - size) + price) 0 (λ same. (let k : i ≡ place = same in omega arith)) ∙ c.loop-place.invariant.each i before
        | inr at ↦
            (let same : i ≡ place = omega arith in
            ap (slice_index _) same ∙ get_or-set_same now place (slice_index now (place - size) + price) 0 room
            ∙ ap (λ (n : ℕ). n + price) (c.loop-place.invariant.each (place - size) (omega arith)) ∙ spread-more old size price place some high
            ∙ ap (spread_at old size price) (let e : place ≡ i = omega arith in e))
      ];
    }
