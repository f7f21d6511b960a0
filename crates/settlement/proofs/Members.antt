-- How many members the clock of all has, and how many bundles a choice.
use Rattle.std.proofs.Common.{◌≡◌, ◌≤◌, ℕ, zero, suc, ◌+◌, false, not, nat_eq, cond, List, [], ◌∷◌, length, refl, ◌∙◌, ap, arith}
use Rattle.std.proofs.lemmas.Bool.Decides.{nat_tests}
use Rattle.std.specs.Prelude.{filter}
use Rattle.std.specs.List.{range_with_len}
use Rattle.lot_base.specs.Choices.{IsChoice}
use Rattle.clock.specs.Reports.{members}

-- all bidders are members of the clock of all
pub count-members : (n : ℕ) → length (members n 0) ≡ n
count-members n = from 1 n (omega arith)
  where
    from : (a n : ℕ) → 1 ≤ a → length (filter (λ j. not (nat_eq j 0)) (range_with_len a n)) ≡ n
    from a zero some = refl
    from a (suc n) some =
        let t : nat_eq a 0 ≡ false = grind (arith, nat_tests) in
        let r = from (a + 1) n (omega arith) in
        ap (λ b. length (cond (not b) (a ∷ filter (λ j. not (nat_eq j 0)) (range_with_len (a + 1) n)) (filter (λ j. not (nat_eq j 0)) (range_with_len (a + 1) n)))) t ∙ ap suc r

pub count-choice : (ds : List (List (List ℕ))) (xs : List (List ℕ)) → IsChoice ds xs → length xs ≡ length ds
count-choice [] [] h = refl
count-choice [] (x ∷ xs) h = absurd h
count-choice (d ∷ ds) [] h = absurd h
count-choice (d ∷ ds) (x ∷ xs) h = ap suc (count-choice ds xs h.1)
