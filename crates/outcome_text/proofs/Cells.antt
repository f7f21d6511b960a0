-- Numbers below a limit that are taken one after another into cells.
use Rattle.std.proofs.Common.{◌≡◌, ◌<◌, ◌≤◌, ◌+◌, ◌++◌, ℕ, zero, suc, ℤ, pos, List, [], ◌∷◌, length, get_or, take, drop, set, Option, Some, None, sym, ap, ◌∙◌, subst, arith}
use Rattle.std.specs.List.{AllByRecursion}
use Rattle.std.proofs.lemmas.List.{length-set, drop_more, take_more, take_more_set}
use Rattle.clock.proofs.Append.{all-push}
use Rattle.outcome_text.specs.Listed.{naturals}

pub all-at : {A : Type 0} (P : A → Type 0) (xs : List A) (k : ℕ) (d : A) → AllByRecursion P xs → k < length xs → P (get_or xs k d)
all-at P [] k d all h = absurd (omega arith)
all-at P (x ∷ xs) zero d all h = all.0
all-at P (x ∷ xs) (suc k) d all h = all-at P xs k d all.1 (omega arith)

abbrev pub AllBelow : ℕ → List ℕ → Type 0
AllBelow limit ns = AllByRecursion (λ n. n < limit) ns

-- What was taken so far is below the limit, and it is what stood in front; there are six cells.
pub record AreTaken (limit count i : ℕ) (old rest : List ℤ) (cells : List ℕ) : Type 0 where
  pub six : length cells ≡ 6
  pub small : AllBelow limit (take i cells)
  pub back : (ns : List ℕ) (behind : List ℤ) → length ns ≡ count → AllBelow limit ns → old ≡ naturals ns ++ behind → (take i cells ≡ take i ns) × (rest ≡ naturals (drop i ns) ++ behind)

-- what a call that takes the next number says
abbrev pub TakesNext : ℕ → List ℤ → List ℤ → Option ℕ → Type 0
TakesNext limit old new result = (n : ℕ) (behind : List ℤ) → n < limit → old ≡ pos n ∷ behind → (result ≡ Some n) × (new ≡ behind)

next-of : (i : ℕ) (rest : List ℤ) (ns : List ℕ) (behind : List ℤ) → i < length ns → rest ≡ naturals (drop i ns) ++ behind → rest ≡ pos (get_or ns i 0) ∷ (naturals (drop (i + 1) ns) ++ behind)
next-of i rest ns behind inside e = e ∙ ap (λ d. naturals d ++ behind) (drop_more ns i 0 inside)

pub one-more-taken : (limit count i : ℕ) (old rest new : List ℤ) (cells : List ℕ) (q : ℕ) → AreTaken limit count i old rest cells → i < count → count ≤ 6 → q < limit → TakesNext limit rest new (Some q)
    → AreTaken limit count (i + 1) old new (set cells i q)
one-more-taken limit count i old rest new cells q h below few small next =
    let inside : i < length cells = omega (arith, h.six) in
    let more : take (i + 1) (set cells i q) ≡ take i cells ++ q ∷ [] = take_more_set cells i q inside in
    record {
      six = length-set cells i q ∙ h.six;
      small = let P : List ℕ → Type 0 = AllBelow limit in subst P (sym more) (all-push (λ n. n < limit) (take i cells) q h.small small);
      back = λ ns behind l a e.
          let before = h.back ns behind l a e in
          let here : i < length ns = omega arith in
          let n = get_or ns i 0 in
          let after = next n (naturals (drop (i + 1) ns) ++ behind) (all-at (λ n. n < limit) ns i 0 a here) (next-of i rest ns behind here before.1) in
          let same : q ≡ n = let s = after.0 in cc in
          (more ∙ (λ i. before.0 i ++ same i ∷ []) ∙ sym (take_more ns i 0 here), after.1);
    }

-- where a number is lacking or too great, there are no such numbers
pub not-taken : (limit count i : ℕ) (old rest new : List ℤ) (cells ns : List ℕ) (behind : List ℤ) → AreTaken limit count i old rest cells → i < count → TakesNext limit rest new None → length ns ≡ count → AllBelow limit ns → old ≡ naturals ns ++ behind → ⊥
not-taken limit count i old rest new cells ns behind h below next l a e =
    let here : i < length ns = omega arith in
    let after = next (get_or ns i 0) (naturals (drop (i + 1) ns) ++ behind) (all-at (λ n. n < limit) ns i 0 a here) (next-of i rest ns behind here (h.back ns behind l a e).1) in
    let s = after.0 in
    let t : None ≡ Some (get_or ns i 0) = s in cc
