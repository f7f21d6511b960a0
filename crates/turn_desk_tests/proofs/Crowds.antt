-- All passes of a desk, after each of them took turns.
use Rattle.std.proofs.Common.{◌≡◌, ℕ, suc, ◌<◌, List, [], ◌∷◌, ◌++◌, length, take, drop, get_or, refl, sym, ap, subst, ◌∙◌, arith}
use Rattle.std.specs.Prelude.{None}
use Rattle.std.specs.List.{AllByRecursion}
use Rattle.turn_desk.specs.Histories.{total}
use Rattle.turn_desk.specs.Passes.{Known, AreAll}

module _ {A : Type 0} where
  all_kept : (P : A → Type 0) (xs ys : List A) → length ys ≡ length xs → ((i : ℕ) (d : A) → i < length xs → P (get_or xs i d) → P (get_or ys i d)) → AllByRecursion P xs → AllByRecursion P ys
  all_kept P [] [] same each all = tt
  all_kept P [] (y ∷ ys) same each all = absurd (omega arith)
  all_kept P (x ∷ xs) [] same each all = tt
  all_kept P (x ∷ xs) (y ∷ ys) same each all = (each 0 x (omega arith) all.0, all_kept P xs ys (omega arith) (λ i d lt. each (suc i) d (omega arith)) all.1)

  total_kept : (f : A → ℕ) (xs ys : List A) → length ys ≡ length xs → ((i : ℕ) (d : A) → i < length xs → f (get_or ys i d) ≡ f (get_or xs i d)) → total f ys ≡ total f xs
  total_kept f [] [] same each = refl
  total_kept f [] (y ∷ ys) same each = absurd (omega arith)
  total_kept f (x ∷ xs) [] same each = absurd (omega arith)
  total_kept f (x ∷ xs) (y ∷ ys) same each = let here : f y ≡ f x = each 0 x (omega arith) in let rest = total_kept f xs ys (omega arith) (λ i d lt. each (suc i) d (omega arith)) in omega arith

  -- what a slice of the whole list becomes is the list
  whole : (xs ys : List A) → length ys ≡ length xs → take (length xs) (ys ++ drop (length ys) xs) ≡ ys
  whole [] [] same = refl
  whole [] (y ∷ ys) same = absurd (omega arith)
  whole (x ∷ xs) [] same = absurd (omega arith)
  whole (x ∷ xs) (y ∷ ys) same = ap (λ zs. y ∷ zs) (whole xs ys (omega arith))

-- the pass is still of its desk, rests, and knows how many were made
pub record IsBack {E O : Type 0} (p p' : Known E O) : Type 0 where
  pub desk : p'.desk ≡ p.desk
  pub rests : p'.turn ≡ None
  pub made : p'.made ≡ p.made

-- of the passes in a list, lent as a slice
pub after_all : {E O : Type 0} (desk : _) (passes lent later : List (Known E O)) (n : ℕ) → n ≡ length passes → lent ≡ passes → AreAll desk passes → length later ≡ length lent → ((i : ℕ) (d : Known E O) → i < length lent → IsBack (get_or lent i d) (get_or later i d)) → AreAll desk (take n (later ++ drop (length later) passes))
after_all {E} {O} desk passes lent later n count is all same each =
    let long : length later ≡ length passes = same ∙ ap length is in
    let all_lent : AreAll desk lent = subst (λ ps. AreAll desk ps) (sym is) all in
    let is_later : take n (later ++ drop (length later) passes) ≡ later = subst (λ m. take m (later ++ drop (length later) passes) ≡ later) (sym count) (whole passes later long) in
    subst (λ ps. AreAll desk ps) (sym is_later) (record {
      desks = all_kept (λ (q : Known E O). q.desk ≡ desk) lent later same (λ i d lt here. (each i d lt).desk ∙ here) all_lent.desks;
      rest = all_kept (λ (q : Known E O). q.turn ≡ None) lent later same (λ i d lt here. (each i d lt).rests) all_lent.rest;
      some_pass = let a = all.some_pass in omega arith;
      all = total_kept (λ (q : Known E O). q.made) lent later same (λ i d lt. (each i d lt).made) ∙ (all_lent.all ∙ sym same);
    })
