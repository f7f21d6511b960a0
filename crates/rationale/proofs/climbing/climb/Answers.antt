use Rattle.std.proofs.Common.{◌≡◌, ◌<◌, ℕ, List, [], ◌∷◌, length, slice_index, Some, None, ap, subst, refl, ◌∙◌, arith, length-append}
use Rattle.std.specs.Prelude.{false, Option, slice_index_or, IfSome}
use Rattle.std.specs.List.{IsDistinct, list_any}
use lib.Dec.{eqb}
use Rattle.rationale.specs.Edges.{Edge}
use Rattle.rationale.specs.declared.labels.Parent.{Parent}
use Rattle.rationale.specs.Shown.{parent_of, edge_to}
use Rattle.rationale.proofs.Trails.{trail-snoc, not_any, distinct-snoc, small-snoc, few_distinct, around, rooted}
use Rattle.rationale.proofs.climbing.climb.Goals as goal

pub loop-step-init : goal.loop-step-init
unfolding IsDistinct
loop-step-init c = rw c.in_ok-path.ensures.items (record { long = refl; trail = refl; distinct = tt; small = c.requires.start; all_small = λ q h. absurd (cc) })

pub returns-in-Some-clause-some : goal.returns-in-Some-clause-some
returns-in-Some-clause-some c =
    let i = c.loop-step.invariant in
    let found = c.in-Some.ensures.some in
    let read = c.deref.ensures.value in
    let inside : c.in-Some.first < length c.loop-step.path.items = rw read at found.0 in
    let is : slice_index c.loop-step.path.items c.in-Some.first ≡ c.loop-step.at = rw read at found.1 in
    around (parent_of c.args.parents.now) (length c.args.parents.now) c.args.start c.loop-step.path.items c.loop-step.at c.in-Some.first i.trail i.distinct i.all_small inside is

-- the place is none of the path's
new_place : (path seen : List ℕ) (at : ℕ) → seen ≡ path → ((i : ℕ) → i < length seen → slice_index seen i ≡ at → ⊥) → list_any (eqb at) path ≡ false
new_place path seen at e none = not_any at path (subst (λ (xs : List ℕ). (i : ℕ) → i < length xs → slice_index xs i ≡ at → ⊥) e none)

pub returns-in-None-clause-none : goal.returns-in-None-clause-none
returns-in-None-clause-none c =
    let i = c.loop-step.invariant in
    let path = c.loop-step.path.items in
    let at = c.loop-step.at in
    let n = length c.args.parents.now in
    let is : slice_index_or c.args.parents.now at None ≡ None = c.in-None.is in
    let new = new_place path c.deref.result.now at c.deref.ensures.value c.in_default.ensures.none in
    rooted (parent_of c.args.parents.now) n c.args.start path at i.trail (distinct-snoc at path i.distinct new) (small-snoc at n path i.all_small i.small)
    (ap (λ (p : Option Parent). edge_to p at) is) (length-append path (at ∷ []))

pub loop-step-preserved : goal.loop-step-preserved
loop-step-preserved c =
    let i = c.loop-step.invariant in
    let path = c.loop-step.path.items in
    let at = c.loop-step.at in
    let n = length c.args.parents.now in
    let p = c.in-Some-parents.parent in
    let is : slice_index_or c.args.parents.now at None ≡ Some p = c.in-Some-parents.is in
    let new = new_place path c.deref.result.now at c.deref.ensures.value c.in_default.ensures.none in
    let edge : Edge = record { observation = p.observation; x = p.x; y = at } in
    let inside : IfSome (slice_index_or c.args.parents.now at None) (λ q. q.x < n) = c.requires.inside at in
    let long = i.long in
    rw c.in_ok-push.ensures.items (record {
      long = length-append path (at ∷ []) ∙ omega arith;
      trail = trail-snoc (parent_of c.args.parents.now) c.args.start path at edge i.trail (ap (λ (q : Option Parent). edge_to q at) is);
      distinct = distinct-snoc at path i.distinct new;
      small = rw is at inside;
      all_small = small-snoc at n path i.all_small i.small;
    })

pub returns-clause-none : goal.returns-clause-none
returns-clause-none c = absurd (
    let i = c.loop-step.invariant in
    let few = few_distinct (length c.args.parents.now) c.loop-step.path.items i.distinct i.all_small in
    let long = i.long in
    let test = c.loop-step-test.false in
    omega arith)
