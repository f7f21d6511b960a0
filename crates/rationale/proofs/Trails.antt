-- Trails of places up along their parents.
use Rattle.std.proofs.Common.{◌≡◌, ◌≤◌, ◌<◌, ◌+◌, ℕ, suc, zero, List, [], ◌∷◌, ◌++◌, length, drop, slice_index, Some, None, arith, ap, refl, inl, inr, sym, subst, ◌∙◌}
use Rattle.std.specs.Prelude.{true, false, Option, ◌||◌}
use Rattle.std.specs.List.{IsDistinct, AllByRecursion, list_any}
use Rattle.std.proofs.lemmas.Map.Steps.{length-le_from_distinct_below}
use Rattle.std.proofs.lemmas.Bool.{cases_Bool}
use Rattle.std.proofs.lemmas.Bool.Decides.{eqb_tells}
use lib.Dec.{eqb}
use Rattle.rationale.specs.Edges.{Edge}
use Rattle.rationale.specs.Climbs.{IsClimb, IsTrail, IsAround, Rooted}

pub trail-snoc : (ps : ℕ → Option Edge) (a : ℕ) (xs : List ℕ) (b : ℕ) (e : Edge) → IsTrail ps a xs b → ps b ≡ Some e → IsTrail ps a (xs ++ b ∷ []) e.x
trail-snoc ps a [] b e t p = (sym t, (e, ap ps t ∙ p, refl))
trail-snoc ps a (x ∷ xs) b e t p = (t.0, (t.1.0, t.1.1, trail-snoc ps t.1.0.x xs b e t.1.2 p))

pub trail-drop : (ps : ℕ → Option Edge) (a : ℕ) (xs : List ℕ) (b i : ℕ) → IsTrail ps a xs b → i < length xs → IsTrail ps (slice_index xs i) (drop i xs) b
trail-drop ps a [] b i t h = absurd (omega arith)
trail-drop ps a (x ∷ xs) b zero t h = (refl, (t.1.0, ap ps t.0 ∙ t.1.1, t.1.2))
trail-drop ps a (x ∷ xs) b (suc i) t h = trail-drop ps t.1.0.x xs b i t.1.2 (omega arith)

pub record Climbed (ps : ℕ → Option Edge) (a b n : ℕ) : Type 0 where
  pub way : List Edge
  pub climb : IsClimb ps a way b
  pub long : length way ≡ n

pub trail-climb : (ps : ℕ → Option Edge) (a : ℕ) (xs : List ℕ) (b : ℕ) → IsTrail ps a xs b → Climbed ps a b (length xs)
trail-climb ps a [] b t = record { way = []; climb = t; long = refl }
trail-climb ps a (x ∷ xs) b t = let c = trail-climb ps t.1.0.x xs b t.1.2 in let l = c.long in record { way = t.1.0 ∷ c.way; climb = (t.1.1, c.climb); long = omega arith }

pub not_any : (b : ℕ) (xs : List ℕ) → ((i : ℕ) → i < length xs → slice_index xs i ≡ b → ⊥) → list_any (eqb b) xs ≡ false
not_any b [] none = refl
not_any b (x ∷ xs) none = elim (eqb_tells b x) [
  | inl t ↦ absurd (none 0 (omega arith) (sym t.1))
  | inr f ↦ rw f.0 (not_any b xs (λ i h e. none (suc i) (omega arith) e))
]

away : (b x : ℕ) → eqb b x ≡ false → eqb x b ≡ false
away b x h = elim (eqb_tells x b) [
  | inl t ↦ absurd (elim (eqb_tells b x) [ inl u ↦ (let i = u.0 in cc) | inr f ↦ f.1 (sym t.1) ])
  | inr f ↦ f.0
]

all-snoc : (x b : ℕ) (xs : List ℕ) → AllByRecursion (λ y. eqb x y ≡ false) xs → eqb x b ≡ false → AllByRecursion (λ y. eqb x y ≡ false) (xs ++ b ∷ [])
all-snoc x b [] all h = (h, tt)
all-snoc x b (y ∷ xs) all h = (all.0, all-snoc x b xs all.1 h)

pub distinct-snoc : (b : ℕ) (xs : List ℕ) → IsDistinct eqb xs → list_any (eqb b) xs ≡ false → IsDistinct eqb (xs ++ b ∷ [])
unfolding IsDistinct
distinct-snoc b [] d none = (tt, tt)
distinct-snoc b (x ∷ xs) d none = elim (cases_Bool (eqb b x)) [
  | inl t ↦ absurd (let j : (eqb b x || list_any (eqb b) xs) ≡ true = rw t refl in cc)
  | inr f ↦ (all-snoc x b xs d.0 (away b x f), distinct-snoc b xs d.1 (rw f at none))
]

pub small-snoc : (b n : ℕ) (xs : List ℕ) → ((q : ℕ) → list_any (eqb q) xs ≡ true → q < n) → b < n → (q : ℕ) → list_any (eqb q) (xs ++ b ∷ []) ≡ true → q < n
small-snoc b n [] small h q m = elim (eqb_tells q b) [
  | inl t ↦ (let e = t.1 in omega arith)
  | inr f ↦ absurd (let i = f.0 in let j : (eqb q b || false) ≡ false = rw i refl in cc)
]
small-snoc b n (x ∷ xs) small h q m = elim (cases_Bool (eqb q x)) [
  | inl t ↦ small q (rw t refl)
  | inr f ↦ small-snoc b n xs (λ r k. elim (cases_Bool (eqb r x)) [ inl t ↦ small r (rw t refl) | inr g ↦ small r (rw g k) ]) h q (rw f at m)
]

pub few_distinct : (n : ℕ) (xs : List ℕ) → IsDistinct eqb xs → ((q : ℕ) → list_any (eqb q) xs ≡ true → q < n) → length xs ≤ n
few_distinct n xs d small = length-le_from_distinct_below xs n d small

pub around : (ps : ℕ → Option Edge) (n a : ℕ) (path : List ℕ) (at first : ℕ) → IsTrail ps a path at → IsDistinct eqb path → ((q : ℕ) → list_any (eqb q) path ≡ true → q < n) →
    first < length path → slice_index path first ≡ at → IsAround ps n path first
around ps n a path at first trail d small inside is = record {
  inside = inside;
  few = few_distinct n path d small;
  small = small;
  closed = subst (IsTrail ps (slice_index path first) (drop first path)) (sym is) (trail-drop ps a path at first trail inside);
}

pub rooted : (ps : ℕ → Option Edge) (n a : ℕ) (path : List ℕ) (at : ℕ) → IsTrail ps a path at → IsDistinct eqb (path ++ at ∷ []) → ((q : ℕ) → list_any (eqb q) (path ++ at ∷ []) ≡ true → q < n) →
    ps at ≡ None → length (path ++ at ∷ []) ≡ length path + 1 → Rooted ps a n
rooted ps n a path at trail d small none long =
    let c = trail-climb ps a path at trail in
    let l = c.long in
    let f = few_distinct n (path ++ at ∷ []) d small in
    record { way = c.way; root = at; climb = c.climb; none = none; short = omega arith }
