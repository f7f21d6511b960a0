-- What is kept is equal where the bundles are.
use Rattle.std.proofs.Common.{◌≡◌, ◌≢◌, ◌∙◌, ℕ, List, Bool, true, nat_eq, sym, arith}
use Rattle.std.proofs.lemmas.Bool.Decides.{nat_tests}
use Rattle.demand_set.specs.Reading.{bundles_of}
use Rattle.demand_set.specs.Packed.{IsPacked}
use Rattle.demand_set.proofs.Same.{same_slices, same-test}
use Rattle.demand_set.proofs.PackedForm.{same-kept}
use Rattle.demand_set.proofs.reading.Demand.same.Goals as goal

by_kept : (a b : ℕ) (xs ys : List ℕ) (us vs : List (List ℕ)) (r : Bool) → IsPacked a xs → IsPacked b ys → bundles_of a xs ≡ us → bundles_of b ys ≡ vs → a ≡ b → (r ≡ true → xs ≡ ys) × (xs ≡ ys → r ≡ true)
    → (r ≡ true → us ≡ vs) × (us ≡ vs → r ≡ true)
by_kept a b xs ys us vs r p q e f goods iff =
    ((λ t. sym e ∙ (λ i. bundles_of (goods i) (iff.0 t i)) ∙ f), (λ s. iff.1 (same-kept a b xs ys p q (e ∙ s ∙ sym f)).1))

pub returns-then-self-other-clause-same : goal.returns-then-self-other-clause-same
returns-then-self-other-clause-same c =
    by_kept c.self.inside.goods c.other.inside.goods c.self.inside.quantities.items c.other.inside.quantities.items c.args.self.now c.args.other.now c.eq.result c.self.invariant c.other.invariant c.self.view_is c.other.view_is c.if-self-other.true
    (same_slices c.as_slice.result.now c.as_slice-then-self-other.result.now c.self.inside.quantities.items c.other.inside.quantities.items c.eq.result c.as_slice.ensures.value c.as_slice-then-self-other.ensures.value c.eq.ensures)

pub returns-then-self-other-clause-test : goal.returns-then-self-other-clause-test
returns-then-self-other-clause-test c = same-test c.args.self.now c.args.other.now c.eq.result
    (by_kept c.self.inside.goods c.other.inside.goods c.self.inside.quantities.items c.other.inside.quantities.items c.args.self.now c.args.other.now c.eq.result c.self.invariant c.other.invariant c.self.view_is c.other.view_is c.if-self-other.true
    (same_slices c.as_slice.result.now c.as_slice-then-self-other.result.now c.self.inside.quantities.items c.other.inside.quantities.items c.eq.result c.as_slice.ensures.value c.as_slice-then-self-other.ensures.value c.eq.ensures))

apart : (a b : ℕ) (xs ys : List ℕ) (us vs : List (List ℕ)) → IsPacked a xs → IsPacked b ys → bundles_of a xs ≡ us → bundles_of b ys ≡ vs → a ≢ b
    → (nat_eq a b ≡ true → us ≡ vs) × (us ≡ vs → nat_eq a b ≡ true)
apart a b xs ys us vs p q e f goods =
    ((λ t. absurd (goods (let u = t in grind (arith, nat_tests)))), (λ s. absurd (goods (same-kept a b xs ys p q (e ∙ s ∙ sym f)).0)))

pub returns-else-self-other-clause-same : goal.returns-else-self-other-clause-same
returns-else-self-other-clause-same c =
    apart c.self.inside.goods c.other.inside.goods c.self.inside.quantities.items c.other.inside.quantities.items c.args.self.now c.args.other.now c.self.invariant c.other.invariant c.self.view_is c.other.view_is c.if-self-other.false

pub returns-else-self-other-clause-test : goal.returns-else-self-other-clause-test
returns-else-self-other-clause-test c = same-test c.args.self.now c.args.other.now _
    (apart c.self.inside.goods c.other.inside.goods c.self.inside.quantities.items c.other.inside.quantities.items c.args.self.now c.args.other.now c.self.invariant c.other.invariant c.self.view_is c.other.view_is c.if-self-other.false)
