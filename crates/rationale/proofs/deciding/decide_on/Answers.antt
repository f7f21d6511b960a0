use Rattle.std.proofs.Common.{ℕ, ℤ, List, sym, subst, ◌∙◌, arith}
use Rattle.lot_base.specs.Box.{index_of}
use Rattle.lot_base.proofs.Index.{box_size-above_0}
use Rattle.rationale.specs.Kept.{thinned, observations_of, thin_at, seen_at}
use Rattle.rationale.specs.Shown.{label_of}
use Rattle.rationale.specs.Endings.{IsEnding}
use Rattle.rationale.specs.Decisions.{IsExplanation, IsContradiction}
use Rattle.rationale.specs.declared.settling.Ending.TheVariants.{Least, Cycle}
use Rattle.rationale.proofs.Settled.{boxed_thin}
use Rattle.rationale.proofs.Transfer.{long_all, thins_all, cycle_in, least_in, observed}
use Rattle.rationale.proofs.Decided.{values_are, explanation, parents_known}
use Rattle.rationale.proofs.deciding.decide_on.Goals as goal

pub settle-requires-clause-few : goal.settle-requires-clause-few
settle-requires-clause-few c = let e = long_all thin_at seen_at c.args.stretches.now in let f = c.requires.few in omega arith

pub values_of-requires-clause-some : goal.values_of-requires-clause-some
values_of-requires-clause-some c =
    let some = box_size-above_0 c.args.goods.now in
    let long = c.settle.ensures.labels in
    omega arith

pub returns-in_ok-values-in-Least : goal.returns-in_ok-values-in-Least
returns-in_ok-values-in-Least c =
    let supply = c.args.goods.now in
    let stretches = c.args.stretches.now in
    let labels = c.settle.new.labels in
    let end : IsEnding supply (thinned stretches) labels c.settle.new.parents Least = rw c.in-Least.is at c.in_ok-ending.ensures.ending in
    let m : List ℕ → ℤ = λ y. label_of labels (index_of supply y) in
    subst (IsExplanation supply (observations_of stretches)) (sym c.from_vec.ensures)
    (explanation supply (observations_of stretches) m c.in_ok-values-in-Least.values.items (observed supply stretches c.requires.stretches)
    (least_in supply stretches m c.requires.stretches (boxed_thin supply stretches c.requires.stretches) end.1) (c.in_ok-values-in-Least.ensures.long ∙ end.0)
    (values_are supply labels c.in_ok-values-in-Least.values.items end.0 c.in_ok-values-in-Least.ensures.long c.in_ok-values-in-Least.ensures.each))

pub cycle_links-requires-clause-inside : goal.cycle_links-requires-clause-inside
cycle_links-requires-clause-inside c =
    let supply = c.args.goods.now in
    let thin = thinned c.args.stretches.now in
    let end : IsEnding supply thin c.settle.new.labels c.settle.new.parents (Cycle c.in-Cycle.around) = rw c.in-Cycle.is at c.in_ok-ending.ensures.ending in
    let long = long_all thin_at seen_at c.args.stretches.now in
    parents_known supply thin end.1.0 c.settle.new.parents end.1.1 (let few = c.requires.few in omega arith)

pub returns-in_ok-links-in-Cycle : goal.returns-in_ok-links-in-Cycle
returns-in_ok-links-in-Cycle c =
    let supply = c.args.goods.now in
    let thin = thinned c.args.stretches.now in
    let end : IsEnding supply thin c.settle.new.labels c.settle.new.parents (Cycle c.in-Cycle.around) = rw c.in-Cycle.is at c.in_ok-ending.ensures.ending in
    subst (IsContradiction supply (observations_of c.args.stretches.now)) (sym c.from_vec-in-Cycle.ensures) (record {
      negative = cycle_in (observations_of c.args.stretches.now) thin (thins_all c.args.stretches.now) supply c.in_ok-links-in-Cycle.links.items (c.in_ok-links-in-Cycle.ensures.cycle thin end.1.0 end.1.1);
      few = c.in_ok-links-in-Cycle.ensures.few;
      from_least = c.in_ok-links-in-Cycle.ensures.from_least;
    })
