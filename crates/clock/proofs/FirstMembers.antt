-- The members among the first so many bidders.
use Rattle.std.proofs.Common.{◌≡◌, ◌≢◌, ◌≤◌, ℕ, zero, suc, ◌+◌, ◌-◌, Bool, true, false, not, nat_eq, cond, List, [], ◌∷◌, ◌++◌, length, length-append, append-nil, refl, ◌∙◌, ap, arith}
use Rattle.std.specs.Prelude.{filter}
use Rattle.std.specs.List.{range_with_len}
use Rattle.std.proofs.lemmas.Bool.Decides.{nat_tests}
use Rattle.clock.specs.Reports.{members}

-- one bidder more
range-last : (a n : ℕ) → range_with_len a (n + 1) ≡ range_with_len a n ++ (a + n) ∷ []
range-last a zero = ap (λ k. k ∷ []) (let e : a ≡ a + 0 = omega arith in e)
range-last a (suc n) =
    let e : a + 1 + n ≡ a + suc n = omega arith in
    let f : suc n + 1 ≡ suc (n + 1) = omega arith in
    ap (range_with_len a) f ∙ ap (λ xs. a ∷ xs) (range-last (a + 1) n ∙ ap (λ k. range_with_len (a + 1) n ++ k ∷ []) e)

filter-append : (test : ℕ → Bool) (xs : List ℕ) (y : ℕ) → filter test (xs ++ y ∷ []) ≡ filter test xs ++ cond (test y) (y ∷ []) []
filter-append test [] y = refl
filter-append test (x ∷ xs) y = by (test x) (filter-append test xs y)
  where
    by : (b : Bool) → filter test (xs ++ y ∷ []) ≡ filter test xs ++ cond (test y) (y ∷ []) [] → cond b (x ∷ filter test (xs ++ y ∷ [])) (filter test (xs ++ y ∷ [])) ≡ cond b (x ∷ filter test xs) (filter test xs) ++ cond (test y) (y ∷ []) []
    by true rest = ap (λ zs. x ∷ zs) rest
    by false rest = rest

members-more : (step clock : ℕ) → members (step + 1) clock ≡ members step clock ++ cond (not (nat_eq (step + 1) clock)) ((step + 1) ∷ []) []
members-more step clock =
    let e : 1 + step ≡ step + 1 = omega arith in
    ap (filter (λ j. not (nat_eq j clock))) (range-last 1 step ∙ ap (λ k. range_with_len 1 step ++ k ∷ []) e) ∙ filter-append (λ j. not (nat_eq j clock)) (range_with_len 1 step) (step + 1)

pub members-with : (step clock : ℕ) → step + 1 ≢ clock → members (step + 1) clock ≡ members step clock ++ (step + 1) ∷ []
members-with step clock other =
    let e : nat_eq (step + 1) clock ≡ false = grind (arith, nat_tests) in
    members-more step clock ∙ ap (λ b. members step clock ++ cond (not b) ((step + 1) ∷ []) []) e

pub members-without : (step clock : ℕ) → step + 1 ≡ clock → members (step + 1) clock ≡ members step clock
members-without step clock same =
    let e : nat_eq (step + 1) clock ≡ true = grind (arith, nat_tests) in
    members-more step clock ∙ ap (λ b. members step clock ++ cond (not b) ((step + 1) ∷ []) []) e ∙ append-nil (members step clock)

-- there are no more of them than of all
members-longer : (step clock n : ℕ) → length (members step clock) ≤ length (members (step + n) clock)
members-longer step clock zero = let e : step + 0 ≡ step = omega arith in let l = ap (λ k. length (members k clock)) e in omega (arith, l)
members-longer step clock (suc n) =
    let e : step + suc n ≡ step + n + 1 = omega arith in
    let l = ap (λ k. length (members k clock)) e in
    let m = ap length (members-more (step + n) clock) ∙ length-append (members (step + n) clock) (cond (not (nat_eq (step + n + 1) clock)) ((step + n + 1) ∷ []) []) in
    let rest = members-longer step clock n in
    omega (arith, l, m, rest)

pub members-up : (step bidders clock : ℕ) → step ≤ bidders → length (members step clock) ≤ length (members bidders clock)
members-up step bidders clock up = let m = members-longer step clock (bidders - step) in let e : step + (bidders - step) ≡ bidders = omega arith in let l = ap (λ k. length (members k clock)) e in omega (arith, m, l)
