-- The greatest of some numbers: none is greater, and it is one of them.
use Rattle.std.proofs.Common.{◌≡◌, ◌<◌, ◌≤◌, ◌⊎◌, ℕ, zero, suc, ◌+◌, ◌-◌, ◌*◌, min, List, [], ◌∷◌, ◌++◌, length, slice_index, take, set, max, inl, inr, arith, ap, refl, sym, ◌∙◌}
use Rattle.std.specs.List.{fold}
use Rattle.std.proofs.Math.Nat.{mul-le-mul}
use Rattle.std.proofs.lemmas.Bool.{cases_lt}
use Rattle.std.proofs.lemmas.List.{take_more_set}
use Rattle.std.proofs.lemmas.List.Sums.{fold_more}
use Rattle.valuation.specs.Carried.{greatest}

pub greatest-more : (values : List ℕ) (count : ℕ) → count < length values → greatest (take (count + 1) values) ≡ max (greatest (take count values)) (slice_index values count)
greatest-more values count inside = fold_more max 0 values count 0 inside

fold-append : (a : ℕ) (values : List ℕ) (v : ℕ) → fold max a (values ++ v ∷ []) ≡ max (fold max a values) v
fold-append a [] v = refl
fold-append a (w ∷ values) v = fold-append (max a w) values v

pub greatest-written : (values : List ℕ) (count v : ℕ) → count < length values → greatest (take (count + 1) (set values count v)) ≡ max (greatest (take count values)) v
greatest-written values count v inside = ap greatest (take_more_set values count v inside) ∙ fold-append 0 (take count values) v

fold-low : (a : ℕ) (values : List ℕ) → a ≤ fold max a values
fold-low a [] = omega arith
fold-low a (w ∷ values) = let i = fold-low (max a w) values in omega (arith, i)

fold-bound : (a : ℕ) (values : List ℕ) (i : ℕ) → i < length values → slice_index values i ≤ fold max a values
fold-bound a [] i inside = absurd (omega arith)
fold-bound a (w ∷ values) zero inside = let l = fold-low (max a w) values in omega (arith, l)
fold-bound a (w ∷ values) (suc i) inside = fold-bound (max a w) values i (omega arith)

pub greatest-bound : (values : List ℕ) (i : ℕ) → i < length values → slice_index values i ≤ greatest values
greatest-bound values i inside = fold-bound 0 values i inside

-- a place of the list at which this number is
pub record IsAt (values : List ℕ) (value : ℕ) : Type 0 where
  pub place : ℕ
  pub below : place < length values
  pub reached : slice_index values place ≡ value

max-one : (a w : ℕ) → (max a w ≡ a) ⊎ (max a w ≡ w)
max-one a w = elim (cases_lt a w) [ inl less ↦ inr (omega arith) | inr more ↦ inl (omega arith) ]

fold-reached : (a : ℕ) (values : List ℕ) → (fold max a values ≡ a) ⊎ IsAt values (fold max a values)
fold-reached a [] = inl refl
fold-reached a (w ∷ values) = by (fold-reached (max a w) values) (max-one a w)
  where
    by : (fold max (max a w) values ≡ max a w) ⊎ IsAt values (fold max (max a w) values) → (max a w ≡ a) ⊎ (max a w ≡ w) → (fold max (max a w) values ≡ a) ⊎ IsAt (w ∷ values) (fold max (max a w) values)
    by (inr at) one = inr (record { place = suc at.place; below = (let b = at.below in omega (arith, b)); reached = at.reached })
    by (inl same) (inl first) = inl (same ∙ first)
    by (inl same) (inr other) = inr (record { place = zero; below = omega arith; reached = sym (same ∙ other) })

-- no number is greater, and it is one of them
pub record IsGreatest (values : List ℕ) (best : ℕ) : Type 0 where
  pub bound : (i : ℕ) → i < length values → slice_index values i ≤ best
  pub at : IsAt values best
  pub some : 1 ≤ best

pub greatest-is : (values : List ℕ) (best : ℕ) → 1 ≤ length values → slice_index values 0 ≡ 1 → best ≡ greatest values → IsGreatest values best
greatest-is values best some first is = by (fold-reached 0 values)
  where
    high : 1 ≤ best
    high = let b = greatest-bound values 0 (omega (arith, some)) in omega (arith, b, first, is)

    by : (greatest values ≡ 0) ⊎ IsAt values (greatest values) → IsGreatest values best
    by (inl none) = absurd (omega (arith, high, is, none))
    by (inr at) = record {
      bound = λ i inside. (let b = greatest-bound values i inside in omega (arith, b, is));
      at = record { place = at.place; below = at.below; reached = at.reached ∙ sym is };
      some = high;
    }

-- what is left of a number of 16 bits
pub left-is : (worth times units : ℕ) → worth < 65536 → worth - min (min times 65535 * units) 65535 ≡ worth - times * units
left-is worth times zero small = omega arith
left-is worth times (suc u) small = elim (cases_lt times 65536) [
  | inl few ↦ (let e : min times 65535 * suc u ≡ times * suc u = ap (λ n. n * suc u) (omega arith) in omega (arith, e))
  | inr many ↦
      let a : 65535 * 1 ≤ min times 65535 * suc u = mul-le-mul (let l : 65535 ≤ min times 65535 = omega (arith, many) in l) (let o : 1 ≤ suc u = omega arith in o) in
      let b : 65535 * 1 ≤ times * suc u = mul-le-mul (let l : 65535 ≤ times = omega (arith, many) in l) (let o : 1 ≤ suc u = omega arith in o) in
      omega (arith, a, b)
]
