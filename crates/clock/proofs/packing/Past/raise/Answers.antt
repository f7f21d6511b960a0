use Rattle.std.proofs.Common.{◌≡◌, ◌∙◌, ap, arith, length}
use Rattle.std.specs.Vec.{vec_len}
use Rattle.clock.specs.Past.{PastOf, raised_on, history_of}
use Rattle.clock.proofs.Appended.{length-history}
use Rattle.clock.proofs.packing.Past.raise.Goals as goal

pub push_reserved-requires : goal.push_reserved-requires
push_reserved-requires c =
    let inside = c.self.inside in
    let e = ap (λ (v : PastOf). length v.reports) c.self.view_is in
    let s = ap (λ (v : PastOf). length v.sets) c.self.view_is in
    let l = length-history inside.goods inside.quantities.items inside.places.items in
    let size : vec_len inside.sets ≡ length inside.sets.items = omega (arith, inside.sets.ok) in
    let r = c.requires in
    let room = c.self.invariant.sets_in in
    omega (arith, size, e, s, l, r, room)

pub returns : goal.returns
returns c =
    let inside = c.self.inside in
    (λ i. record { goods = inside.goods; reports = history_of inside.goods inside.quantities.items inside.places.items; sets = c.push_reserved.ensures.items i; spare_reports = inside.spare_reports; spare_quantities = inside.spare_quantities })
    ∙ ap (λ (v : PastOf). raised_on v c.args.set) c.self.view_is
