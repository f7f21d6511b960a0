-- The quantities are kept, and the place is that of the report.
use Rattle.std.proofs.Common.{◌≡◌, ◌≤◌, ◌-◌, ◌∙◌, ℕ, sym, ap, subst, arith, length, length-append}
use Rattle.std.specs.Vec.{vec_len, vec_capacity}
use Rattle.std.specs.List.{AllByRecursion}
use Rattle.clock.specs.Past.{PastOf, pushed}
use Rattle.clock.proofs.Stored.{is-pushed, past-pushed}
use Rattle.clock.proofs.packing.Past.push.Goals as goal

pub push_reserved-requires : goal.push_reserved-requires
push_reserved-requires c =
    let inside = c.self.inside in
    let spare = ap (λ (v : PastOf). v.spare_reports) c.self.view_is in
    let size : vec_len inside.places ≡ length inside.places.items = omega (arith, inside.places.ok) in
    omega (arith, size, spare, c.requires.room, c.self.invariant.places_in)

pub invariant_of-self : goal.invariant_of-self
invariant_of-self c =
    let inside = c.self.inside in
    let r = c.args.report.now in
    let goods = ap (λ (v : PastOf). v.goods) c.self.view_is in
    let spare = ap (λ (v : PastOf). v.spare_reports) c.self.view_is in
    let most = ap (λ (v : PastOf). v.spare_quantities) c.self.view_is in
    let one = c.requires.room in
    let items = c.push_reserved.ensures.items in
    let A : ℕ → Type 0 = λ k. AllByRecursion (λ x. length x ≡ k) r.demand in
    let is = is-pushed inside.goods c.keep-start.result c.len.result inside.quantities.items c.keep-start.new.quantities.items c.quantities-more.result.now inside.places.items c.push_reserved.new.self.items r c.self.invariant.some_good (subst A (sym goods) c.requires.goods) c.quantities-more.ensures.value c.len.ensures.value c.keep-start.ensures.stored items c.self.invariant.fit in
    let n = ap length items ∙ length-append inside.places.items _ in
    let few : length c.quantities-more.result.now ≤ inside.spare_quantities = (let l = ap length c.quantities-more.ensures.value in let q = c.requires.quantities in omega (arith, l, q, most)) in
    past-pushed inside.goods c.keep-start.result c.len.result inside.quantities.items c.keep-start.new.quantities.items c.quantities-more.result.now inside.places.items c.push_reserved.new.self.items r inside.spare_reports inside.spare_quantities
    (vec_capacity inside.quantities) (vec_capacity inside.places) (vec_capacity inside.sets) (vec_capacity c.keep-start.new.quantities) (vec_capacity c.push_reserved.new.self) c.self.invariant is.fit (omega (arith, n)) c.keep-start.ensures.stored.few (omega (arith, spare, one)) few c.keep-start.ensures.capacity (omega (arith, c.push_reserved.ensures.capacity))

pub returns : goal.returns
returns c =
    let inside = c.self.inside in
    let r = c.args.report.now in
    let goods = ap (λ (v : PastOf). v.goods) c.self.view_is in
    let spare = ap (λ (v : PastOf). v.spare_reports) c.self.view_is in
    let one = c.requires.room in
    let items = c.push_reserved.ensures.items in
    let A : ℕ → Type 0 = λ k. AllByRecursion (λ x. length x ≡ k) r.demand in
    let is = is-pushed inside.goods c.keep-start.result c.len.result inside.quantities.items c.keep-start.new.quantities.items c.quantities-more.result.now inside.places.items c.push_reserved.new.self.items r c.self.invariant.some_good (subst A (sym goods) c.requires.goods) c.quantities-more.ensures.value c.len.ensures.value c.keep-start.ensures.stored items c.self.invariant.fit in
    let l = ap length c.quantities-more.ensures.value in
    (λ i. record { goods = inside.goods; reports = is.history i; sets = inside.sets.items; spare_reports = inside.spare_reports - 1; spare_quantities = inside.spare_quantities - l i })
    ∙ ap (λ (v : PastOf). pushed v r) c.self.view_is
