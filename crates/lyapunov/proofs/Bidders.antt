-- Lists of bidders: all but one of them, sums over them, and the bundles that a choice gives to them.
use Rattle.std.proofs.Common.{◌≡◌, ℕ, zero, suc, ◌+◌, ◌≤◌, ◌<◌, Bool, true, false, not, nat_eq, cond, List, [], ◌∷◌, length, map, arith, ap, refl, sym, ◌∙◌}
use Rattle.std.specs.Prelude.{ℤ, ◌+ℤ◌, count_by}
use Rattle.std.specs.List.{AllByRecursion, range_with_len}
use Rattle.std.proofs.lemmas.Int.{ints}
use Rattle.std.proofs.lemmas.Bool.Decides.{nat_tests}
use Rattle.std.proofs.lemmas.List.Sums.{sum_by-cons}
use Rattle.lot_base.specs.Economy.{sum_over, without, IsStrongSubstitutes, AllStrongSubstitutes}
use Rattle.lot_base.specs.Choices.{IsChoice}
use Rattle.lyapunov.specs.Bidders.{IsOneOf, AllDifferent, bundle_of}

-- what holds of all bidders holds of all but one
pub all-without : (P : ℕ → Type 0) (i : ℕ) (js : List ℕ) → AllByRecursion P js → AllByRecursion P (without i js)
all-without P i [] h = tt
all-without P i (j ∷ js) h = by (not (nat_eq j i)) (all-without P i js h.1)
  where
    by : (b : Bool) → AllByRecursion P (without i js) → AllByRecursion P (cond b (j ∷ without i js) (without i js))
    by true rest = (h.0, rest)
    by false rest = rest

pub strong-without : (s : List ℕ) (u : ℕ → List ℕ → ℤ) (i : ℕ) (js : List ℕ) → AllStrongSubstitutes s u js
    → AllStrongSubstitutes s u (without i js)
strong-without s u i js h = all-without (λ j. IsStrongSubstitutes s (u j)) i js h

pub count-first : (i j : ℕ) (js : List ℕ) → count_by (λ k. nat_eq k i) (j ∷ js) ≡ cond (nat_eq j i) 1 0 + count_by (λ k. nat_eq k i) js
count-first i j js = sum_by-cons (λ k. cond (nat_eq k i) 1 0) j js

-- a sum over all, and over all but one who is not there or is there once
sum-absent : (f : ℕ → ℤ) (i : ℕ) (js : List ℕ) → count_by (λ j. nat_eq j i) js ≡ 0 → sum_over f js ≡ sum_over f (without i js)
sum-absent f i [] none = refl
sum-absent f i (j ∷ js) none = by (nat_eq j i) (sym (count-first i j js) ∙ none) (λ h. sum-absent f i js h)
  where
    by : (b : Bool) → cond b 1 0 + count_by (λ j. nat_eq j i) js ≡ 0
        → (count_by (λ j. nat_eq j i) js ≡ 0 → sum_over f js ≡ sum_over f (without i js))
        → f j +ℤ sum_over f js ≡ sum_over f (cond (not b) (j ∷ without i js) (without i js))
    by true none rest = absurd (omega arith)
    by false none rest = let r = rest (omega arith) in omega (arith, ints)

pub sum-without : (f : ℕ → ℤ) (i : ℕ) (js : List ℕ) → IsOneOf i js → sum_over f js ≡ f i +ℤ sum_over f (without i js)
sum-without f i [] one = absurd (omega arith)
sum-without f i (j ∷ js) one = by (nat_eq j i) refl (sym (count-first i j js) ∙ one) (λ h. sum-without f i js h)
  where
    by : (b : Bool) → nat_eq j i ≡ b → cond b 1 0 + count_by (λ j. nat_eq j i) js ≡ 1
        → (IsOneOf i js → sum_over f js ≡ f i +ℤ sum_over f (without i js))
        → f j +ℤ sum_over f js ≡ f i +ℤ sum_over f (cond (not b) (j ∷ without i js) (without i js))
    by true same one rest =
        let e : j ≡ i = grind (arith, nat_tests) in
        let f' = ap f e in
        let r = sum-absent f i js (omega arith) in
        omega (arith, ints)
    by false other one rest = let r = rest (omega arith) in omega (arith, ints)

-- who is not there can be left out
pub without-absent : (i : ℕ) (js : List ℕ) → count_by (λ j. nat_eq j i) js ≡ 0 → without i js ≡ js
without-absent i [] none = refl
without-absent i (j ∷ js) none = by (nat_eq j i) (sym (count-first i j js) ∙ none) (λ h. without-absent i js h)
  where
    by : (b : Bool) → cond b 1 0 + count_by (λ k. nat_eq k i) js ≡ 0 → (count_by (λ k. nat_eq k i) js ≡ 0 → without i js ≡ js)
        → cond (not b) (j ∷ without i js) (without i js) ≡ j ∷ js
    by true none rest = absurd (omega arith)
    by false none rest = ap (λ ks. j ∷ ks) (rest (omega arith))

-- all bidders from a on are different, and each is there once
pub none-before : (i a n : ℕ) → i < a → count_by (λ j. nat_eq j i) (range_with_len a n) ≡ 0
none-before i a zero before = refl
none-before i a (suc n) before =
    let first : nat_eq a i ≡ false = grind (arith, nat_tests) in
    let rest = none-before i (a + 1) n (omega arith) in
    count-first i a (range_with_len (a + 1) n) ∙ ap (λ b. cond b 1 0 + count_by (λ j. nat_eq j i) (range_with_len (a + 1) n)) first ∙ (omega (arith, rest))

pub AllDifferent-range : (a n : ℕ) → AllDifferent (range_with_len a n)
AllDifferent-range a zero = tt
AllDifferent-range a (suc n) = (none-before a (a + 1) n (omega arith), AllDifferent-range (a + 1) n)

pub IsOneOf-range : (i a n : ℕ) → a ≤ i → i < a + n → IsOneOf i (range_with_len a n)
IsOneOf-range i a zero low high = absurd (omega arith)
IsOneOf-range i a (suc n) low high = count-first i a (range_with_len (a + 1) n) ∙ by (nat_eq a i) refl (λ up. IsOneOf-range i (a + 1) n up (omega arith))
  where
    by : (b : Bool) → nat_eq a i ≡ b → (a + 1 ≤ i → IsOneOf i (range_with_len (a + 1) n))
        → cond b 1 0 + count_by (λ j. nat_eq j i) (range_with_len (a + 1) n) ≡ 1
    by true same later = let e : a ≡ i = grind (arith, nat_tests) in let rest = none-before i (a + 1) n (omega arith) in omega arith
    by false other later =
        let apart : a ≡ i → ⊥ = λ e. absurd (let f : nat_eq a i ≡ true = grind (arith, nat_tests) in let g : true ≡ false = sym f ∙ other in cc) in
        let less : a < i = grind arith in
        let rest = later (omega arith) in
        omega arith

absent-without : (k i : ℕ) (js : List ℕ) → count_by (λ j. nat_eq j k) js ≡ 0 → count_by (λ j. nat_eq j k) (without i js) ≡ 0
absent-without k i [] none = refl
absent-without k i (j ∷ js) none = by (nat_eq j i) (sym (count-first k j js) ∙ none) (λ h. absent-without k i js h)
  where
    by : (b : Bool) → cond (nat_eq j k) 1 0 + count_by (λ m. nat_eq m k) js ≡ 0
        → (count_by (λ m. nat_eq m k) js ≡ 0 → count_by (λ m. nat_eq m k) (without i js) ≡ 0)
        → count_by (λ m. nat_eq m k) (cond (not b) (j ∷ without i js) (without i js)) ≡ 0
    by true none rest = rest (omega arith)
    by false none rest = count-first k j (without i js) ∙ (let r = rest (omega arith) in omega (arith, r))

pub AllDifferent-without : (i : ℕ) (js : List ℕ) → AllDifferent js → AllDifferent (without i js)
AllDifferent-without i [] h = tt
AllDifferent-without i (j ∷ js) h = by (not (nat_eq j i)) (AllDifferent-without i js h.1)
  where
    by : (b : Bool) → AllDifferent (without i js) → AllDifferent (cond b (j ∷ without i js) (without i js))
    by true rest = (absent-without j i js h.0, rest)
    by false rest = rest

-- a choice of different bidders is what it gives to each of them
pub map-bundle_of : (js : List ℕ) (xs : List (List ℕ)) → AllDifferent js → length xs ≡ length js → map (bundle_of js xs) js ≡ xs
map-bundle_of [] [] h same = refl
map-bundle_of [] (x ∷ xs) h same = absurd (omega arith)
map-bundle_of (j ∷ js) [] h same = absurd (omega arith)
map-bundle_of (j ∷ js) (x ∷ xs) h same =
    let self : nat_eq j j ≡ true = grind (arith, nat_tests) in
    let first = ap (λ b. cond b x (bundle_of js xs j)) self in
    let others = later js h.0 ∙ map-bundle_of js xs h.1 (omega arith) in
    λ i. first i ∷ others i
  where
    later : (ks : List ℕ) → count_by (λ k. nat_eq k j) ks ≡ 0 → map (bundle_of (j ∷ js) (x ∷ xs)) ks ≡ map (bundle_of js xs) ks
    later [] none = refl
    later (k ∷ ks) none =
        let c = sym (count-first j k ks) ∙ none in
        let apart : nat_eq j k ≡ false = differ k ks c in
        let first = ap (λ b. cond b x (bundle_of js xs k)) apart in
        let rest = later ks (omega arith) in
        λ i. first i ∷ rest i
      where
        differ : (k : ℕ) (ks : List ℕ) → cond (nat_eq k j) 1 0 + count_by (λ m. nat_eq m j) ks ≡ 0 → nat_eq j k ≡ false
        differ k ks c = by (nat_eq k j) refl c
          where
            by : (b : Bool) → nat_eq k j ≡ b → cond b 1 0 + count_by (λ m. nat_eq m j) ks ≡ 0 → nat_eq j k ≡ false
            by true e c = absurd (omega arith)
            by false e c = grind (arith, nat_tests)

pub length-choice : (d : ℕ → List (List ℕ)) (js : List ℕ) (xs : List (List ℕ)) → IsChoice (map d js) xs → length xs ≡ length js
length-choice d [] [] h = refl
length-choice d [] (x ∷ xs) h = absurd h
length-choice d (j ∷ js) [] h = absurd h
length-choice d (j ∷ js) (x ∷ xs) h = ap suc (length-choice d js xs h.1)
