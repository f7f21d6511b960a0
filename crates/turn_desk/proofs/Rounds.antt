-- All passes of a desk, after one of them took a turn.
use Rattle.std.proofs.Common.{◌≡◌, ℕ, zero, suc, ◌<◌, List, [], ◌∷◌, length, get_or, set, refl, sym, ap, subst, ◌∙◌, arith}
use Rattle.std.specs.Prelude.{None}
use Rattle.std.specs.List.{AllByRecursion}
use Rattle.atomic_table.specs.Seated.{TableId}
use Rattle.turn_desk.specs.Histories.{total}
use Rattle.turn_desk.specs.Passes.{Known, AreAll}

module _ {A : Type 0} where
  pub all_at : (P : A → Type 0) (xs : List A) (i : ℕ) (x : A) → AllByRecursion P xs → i < length xs → x ≡ get_or xs i x → P x
  all_at P [] i x all lt is = absurd (omega arith)
  all_at P (y ∷ ys) zero x all lt is = subst P (sym is) all.0
  all_at P (y ∷ ys) (suc i) x all lt is = all_at P ys i x all.1 (omega arith) is

  all_set : (P : A → Type 0) (xs : List A) (i : ℕ) (w : A) → AllByRecursion P xs → P w → AllByRecursion P (set xs i w)
  all_set P [] i w all here = tt
  all_set P (x ∷ xs) zero w all here = (here, all.1)
  all_set P (x ∷ xs) (suc i) w all here = (all.0, all_set P xs i w all.1 here)

  total_same : (f : A → ℕ) (xs : List A) (i : ℕ) (x w : A) → i < length xs → x ≡ get_or xs i x → f w ≡ f x → total f (set xs i w) ≡ total f xs
  total_same f [] i x w lt is same = refl
  total_same f (y ∷ ys) zero x w lt is same = let h : f x ≡ f y = ap f is in omega arith
  total_same f (y ∷ ys) (suc i) x w lt is same = let h = total_same f ys i x w (omega arith) is same in omega arith

  length_same : (xs : List A) (i : ℕ) (w : A) → length (set xs i w) ≡ length xs
  length_same [] i w = refl
  length_same (x ∷ xs) zero w = refl
  length_same (x ∷ xs) (suc i) w = ap suc (length_same xs i w)

-- the pass at this place is still of its desk, rests, and knows how many were made
pub after_one : {E O : Type 0} (desk : TableId) (passes : List (Known E O)) (i : ℕ) (p p' : Known E O) → AreAll desk passes → i < length passes → p ≡ get_or passes i p → p'.desk ≡ p.desk → p'.turn ≡ None → p'.made ≡ p.made → AreAll desk (set passes i p')
after_one {E} {O} desk passes i p p' all lt is of_desk rests made =
    let long = length_same passes i p' in record {
      desks = all_set (λ (q : Known E O). q.desk ≡ desk) passes i p' all.desks (of_desk ∙ all_at (λ (q : Known E O). q.desk ≡ desk) passes i p all.desks lt is);
      rest = all_set (λ (q : Known E O). q.turn ≡ None) passes i p' all.rest rests;
      some_pass = let a = all.some_pass in omega arith;
      all = total_same (λ (q : Known E O). q.made) passes i p p' lt is made ∙ (all.all ∙ sym long);
    }
