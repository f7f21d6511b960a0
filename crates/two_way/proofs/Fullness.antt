-- Whether a round is full, by the members one after another.
use Rattle.std.proofs.Common.{◌≡◌, ◌<◌, ◌≤◌, ◌≢◌, ◌⊎◌, ℕ, zero, suc, ◌+◌, Bool, true, false, ◌&&◌, not, nat_eq, cond, List, ◌∷◌, is_none, is_some, Option, Some, None, inl, inr, refl, sym, ◌∙◌, ap, arith}
use Rattle.std.specs.Prelude.{filter}
use Rattle.std.specs.List.{list_all, range_with_len}
use Rattle.std.proofs.lemmas.Bool.{cases_eq}
use Rattle.std.proofs.lemmas.Bool.Decides.{nat_tests}
use Rattle.demand_set.specs.declared.reports.Report.{Report}
use Rattle.clock.specs.Reports.{demand_in, is_full, members}

-- the numbers from one on, without another one
abbrev others : ℕ → ℕ → ℕ → List ℕ
others clock a n = filter (λ j. not (nat_eq j clock)) (range_with_len a n)

both : (a b : Bool) → a && b ≡ true → (a ≡ true) × (b ≡ true)
both true b e = (refl, e)
both false b e = absurd (let f : false ≡ true = e in cc)

-- a test holds of all of them exactly where it holds of each
all-others : (t : ℕ → Bool) (clock a n : ℕ) → ((j : ℕ) → a ≤ j → j < a + n → j ≢ clock → t j ≡ true) → list_all t (others clock a n) ≡ true
all-others t clock a zero each = refl
all-others t clock a (suc n) each = by (cases_eq a clock) (all-others t clock (a + 1) n (λ j low high. each j (omega (arith, low)) (omega (arith, high))))
  where
    by : (a ≡ clock) ⊎ (a ≡ clock → ⊥) → list_all t (others clock (a + 1) n) ≡ true → list_all t (others clock a (suc n)) ≡ true
    by (inl same) rest =
        let e : nat_eq a clock ≡ true = grind (arith, nat_tests) in
        ap (λ b. list_all t (cond (not b) (a ∷ others clock (a + 1) n) (others clock (a + 1) n))) e ∙ rest
    by (inr other) rest =
        let e : nat_eq a clock ≡ false = grind (arith, nat_tests) in
        ap (λ b. list_all t (cond (not b) (a ∷ others clock (a + 1) n) (others clock (a + 1) n))) e ∙ ap (λ b. b && list_all t (others clock (a + 1) n)) (each a (omega arith) (omega arith) other) ∙ rest

others-one : (t : ℕ → Bool) (clock a n j : ℕ) → a ≤ j → j < a + n → j ≢ clock → list_all t (others clock a n) ≡ true → t j ≡ true
others-one t clock a zero j low high other all = absurd (omega (arith, low, high))
others-one t clock a (suc n) j low high other all =
    by (cases_eq a clock) (cases_eq a j) (λ there rest. others-one t clock (a + 1) n j (omega (arith, low, there)) (omega (arith, high)) other rest)
  where
    Later : Type 0
    Later = (a ≡ j → ⊥) → list_all t (others clock (a + 1) n) ≡ true → t j ≡ true

    here-or : (a ≡ j) ⊎ (a ≡ j → ⊥) → Later → (t a ≡ true) × (list_all t (others clock (a + 1) n) ≡ true) → t j ≡ true
    here-or (inl here) later two = ap t (sym here) ∙ two.0
    here-or (inr there) later two = later there two.1

    by : (a ≡ clock) ⊎ (a ≡ clock → ⊥) → (a ≡ j) ⊎ (a ≡ j → ⊥) → Later → t j ≡ true
    by (inl same) (inl here) later = absurd (other (sym here ∙ same))
    by (inl same) (inr there) later =
        let e : nat_eq a clock ≡ true = grind (arith, nat_tests) in
        later there (sym (ap (λ b. list_all t (cond (not b) (a ∷ others clock (a + 1) n) (others clock (a + 1) n))) e) ∙ all)
    by (inr apart) place later =
        let e : nat_eq a clock ≡ false = grind (arith, nat_tests) in
        here-or place later (both (t a) (list_all t (others clock (a + 1) n)) (sym (ap (λ b. list_all t (cond (not b) (a ∷ others clock (a + 1) n) (others clock (a + 1) n))) e) ∙ all))

there : (o : Option (List (List ℕ))) → is_none o ≡ false → is_some o ≡ true
there None e = absurd (let f : true ≡ false = e in cc)
there (Some x) e = refl

gone : (o : Option (List (List ℕ))) → is_none o ≡ true → is_some o ≡ true → ⊥
gone None e f = let g : false ≡ true = f in cc
gone (Some x) e f = let g : false ≡ true = e in cc

not-true : (b : Bool) → (b ≡ true → ⊥) → b ≡ false
not-true true h = absurd (h refl)
not-true false h = refl

pub full-of : (bidders clock round : ℕ) (reports : List Report) → ((j : ℕ) → 1 ≤ j → j ≤ bidders → j ≢ clock → is_none (demand_in reports round j) ≡ false) → is_full (members bidders clock) reports round ≡ true
full-of bidders clock round reports each = all-others (λ j. is_some (demand_in reports round j)) clock 1 bidders (λ j low high other. there (demand_in reports round j) (each j low (omega (arith, high)) other))

pub open-at : (bidders clock round j : ℕ) (reports : List Report) → 1 ≤ j → j ≤ bidders → j ≢ clock → is_none (demand_in reports round j) ≡ true → is_full (members bidders clock) reports round ≡ false
open-at bidders clock round j reports low high other none =
    not-true _ (λ full. gone (demand_in reports round j) none (others-one (λ k. is_some (demand_in reports round k)) clock 1 bidders j low (omega (arith, high)) other full))
