-- A demand as places of the box.
use Rattle.std.proofs.Common.{◌≡◌, ◌≤◌, ◌<◌, ◌+◌, ℕ, suc, zero, List, [], ◌∷◌, ◌++◌, length, slice_index, take, Some, arith, ap, inl, inr, sym, subst, ◌∙◌, slice_set}
use Rattle.std.specs.Prelude.{slice_get}
use Rattle.std.specs.List.{AllByRecursion}
use Rattle.std.proofs.lemmas.Bool.{cases_lt}
use Rattle.std.proofs.lemmas.List.{map-append, take_more, take_more_set, get_or-set_same, get_or-set_other, length-set}
use Rattle.std.proofs.lemmas.Option.{get_or_from_slice_get, slice_get_within}
use Rattle.lot_base.specs.Goods.{box_size, AtMost}
use Rattle.lot_base.specs.Box.{bundle_at, index_of}
use Rattle.lot_base.specs.Demands.{IsDemand, IsAscending}
use Rattle.lot_base.proofs.Index.{index_of-small}
use Rattle.lot_base.proofs.Order.{index_of-less}
use Rattle.lot_base.proofs.Within.{at_most-within}
use Rattle.rationale.specs.Placed.{bundles_at}

pub bundle_in : (supply : List ℕ) (xs : List (List ℕ)) (i : ℕ) (x : List ℕ) → AllByRecursion (λ z. AtMost z supply) xs → slice_get xs i ≡ Some x → AtMost x supply
bundle_in supply [] i x all is = absurd (cc)
bundle_in supply (y ∷ xs) zero x all is = (let e : y ≡ x = cc in subst (λ (z : List ℕ). AtMost z supply) e all.0)
bundle_in supply (y ∷ xs) (suc i) x all is = bundle_in supply xs i x all.1 is

-- a list of ascending bundles is no longer than the box
few_from : (supply x : List ℕ) (xs : List (List ℕ)) → IsAscending (x ∷ xs) → AllByRecursion (λ z. AtMost z supply) (x ∷ xs) → length (x ∷ xs) + index_of supply x ≤ box_size supply
few_from supply x [] up all = let i = index_of-small supply x all.0 in omega arith
few_from supply x (y ∷ xs) up all =
    let i = few_from supply y xs up.1 all.1 in
    let j = index_of-less supply x y (at_most-within supply x all.0) (at_most-within supply y all.1.0) up.0 in
    omega arith

pub few_bundles : (supply : List ℕ) (xs : List (List ℕ)) → IsDemand supply xs → length xs ≤ box_size supply
few_bundles supply [] d = absurd (let i = d.some in omega arith)
few_bundles supply (x ∷ xs) d = let i = few_from supply x xs d.ascending d.in_box in omega arith

pub record IsShownTo (supply : List ℕ) (bundles : List (List ℕ)) (places : List ℕ) (i : ℕ) : Type 0 where
  pub long : length places ≡ box_size supply
  pub inside : (j : ℕ) → j < i → slice_index places j < box_size supply
  pub bundles_are : bundles_at supply (take i places) ≡ take i bundles

pub shown_next : (supply : List ℕ) (bundles : List (List ℕ)) (places : List ℕ) (i place : ℕ) (x : List ℕ) → IsDemand supply bundles → slice_get bundles i ≡ Some x → place ≡ index_of supply x →
    bundle_at supply place ≡ x → IsShownTo supply bundles places i → IsShownTo supply bundles (slice_set places i place) (i + 1)
shown_next supply bundles places i place x d got is back s = record {
  long = length-set places i place ∙ s.long;
  inside = λ j less. elim (cases_lt j i) [
    | inl before ↦ (let e = get_or-set_other places i j place 0 (λ same. (let k : j ≡ i = same in omega arith)) in let h = s.inside j before in omega arith)
    | inr at ↦
        (let same : j ≡ i = omega arith in
        let e : slice_index (slice_set places i place) j ≡ place = ap (slice_index (slice_set places i place)) same ∙ get_or-set_same places i place 0 room in
        let h = index_of-small supply x (bundle_in supply bundles i x d.in_box got) in omega arith)
  ];
  bundles_are =
      ap (bundles_at supply) (take_more_set places i place room) ∙ map-append (bundle_at supply) (take i places) (place ∷ [])
      ∙ (λ k. s.bundles_are k ++ back k ∷ [])
      ∙ ap (λ (z : List ℕ). take i bundles ++ z ∷ []) (sym (get_or_from_slice_get bundles i x x got)) ∙ sym (take_more bundles i x (slice_get_within bundles i x got));
}
  where
    room : i < length places
    room = let a = slice_get_within bundles i x got in let b = few_bundles supply bundles d in let c = s.long in omega arith
