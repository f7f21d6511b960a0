-- The fall set: there is exactly one, and the function finds it; and the sets of goods above their opening, by number and by digits.
use Rattle.std.proofs.Common.{◌≡◌, ◌<◌, ◌≤◌, ℕ, zero, suc, ◌+◌, ◌-◌, ◌/◌, ◌%◌, ◌^◌, Bool, true, false, not, ◌&&◌, ◌||◌, nat_eq, cond, List, [], ◌∷◌, length, refl, sym, ◌∙◌, ap, arith}
use Rattle.std.specs.Prelude.{nat_lt, ℤ, pos, negsuc, ◌-ℤ◌, ◌≤ℤ◌}
use Rattle.std.specs.List.{AllByRecursion}
use Rattle.std.proofs.lemmas.Int.{ints}
use Rattle.std.proofs.lemmas.Bool.Decides.{nat_tests}
use Rattle.std.proofs.lemmas.Nat.{pow_pos}
use Rattle.lot_base.specs.Goods.{quantity_in, size_of, at, lowered, AllPriced}
use Rattle.lot_base.specs.Demands.{greatest}
use Rattle.lot_base.specs.Economy.{total_units}
use Rattle.lot_base.specs.Steps.{IsStepSet, first_set}
use Rattle.lot_base.proofs.Vectors.{set_of, above}
use Rattle.lot_base.proofs.Within.{both}
use Rattle.lot_base.proofs.StepSet.{first_set-step_set, step_set-unique}
use Rattle.overshoot.specs.Shortfall.{shortfall, AllRisen, IsGreatestShortfall}
use Rattle.overshoot.proofs.Bridge.{quantity-none}
use Rattle.overshoot.proofs.Most.{risen-none, total-none}
use Rattle.two_way.specs.Falling.{is_risen, short_of_risen, fall_set}

-- the set to lower where the sets of so many goods have these shortfalls
pub record IsFallSet (goods : ℕ) (opening p : List ℕ) (short : ℕ → ℤ) (set : ℕ) : Type 0 where
  pub is_set : set < 2 ^ goods
  pub risen : AllRisen opening p set
  pub furthest : (other : ℕ) → other < 2 ^ goods → AllRisen opening p other → short other ≤ℤ short set
  pub fewest : (other : ℕ) → other < 2 ^ goods → AllRisen opening p other → short other ≡ short set → size_of goods set ≤ size_of goods other
  pub smallest : (other : ℕ) → other < 2 ^ goods → AllRisen opening p other → short other ≡ short set → size_of goods other ≡ size_of goods set → set ≤ other

-- the test says what it tests
first-risen : (d a q : ℕ) → (not (nat_eq d 1) || nat_lt a q) ≡ true → d ≡ 1 → a < q
first-risen d a q e one = by (nat_eq d 1) refl e
  where
    by : (b : Bool) → nat_eq d 1 ≡ b → (not b || nat_lt a q) ≡ true → a < q
    by true t f = grind (arith, nat_tests)
    by false t f = absurd (let g : nat_eq d 1 ≡ true = grind (arith, nat_tests) in let h : true ≡ false = sym g ∙ t in cc)

first-passes : (d a q : ℕ) → (d ≡ 1 → a < q) → (not (nat_eq d 1) || nat_lt a q) ≡ true
first-passes d a q h = by (nat_eq d 1) refl
  where
    by : (b : Bool) → nat_eq d 1 ≡ b → (not b || nat_lt a q) ≡ true
    by true t = let one : d ≡ 1 = grind (arith, nat_tests) in let less = h one in grind (arith, nat_tests)
    by false t = refl

pub risen-is : (o p : List ℕ) (set : ℕ) → is_risen o p set ≡ true → AllRisen o p set
risen-is [] p set e = tt
risen-is (a ∷ o) [] set e = tt
risen-is (a ∷ o) (q ∷ p) set e =
    let h = both (not (nat_eq (set % 2) 1) || nat_lt a q) (is_risen o p (set / 2)) e in
    (first-risen (set % 2) a q h.0, risen-is o p (set / 2) h.1)

pub is-risen : (o p : List ℕ) (set : ℕ) → AllRisen o p set → is_risen o p set ≡ true
is-risen [] p set h = refl
is-risen (a ∷ o) [] set h = refl
is-risen (a ∷ o) (q ∷ p) set h =
    let first = first-passes (set % 2) a q h.0 in
    let rest = is-risen o p (set / 2) h.1 in
    λ i. first i && rest i

difference-none : (a b : ℕ) → a ≡ 0 → b ≡ 0 → pos a -ℤ pos b ≡ pos 0
difference-none a b e f = omega (arith, ints)

pub shortfall-none : (s : List ℕ) (d : ℕ → List (List ℕ)) (js : List ℕ) → shortfall s d js 0 ≡ pos 0
shortfall-none s d js = difference-none (quantity_in s 0) (total_units (λ j. greatest (d j) 0) js) (quantity-none s) (total-none d js)

-- the function of which it is the step set
kept-at : (o p : List ℕ) (f : ℕ → ℤ) (set : ℕ) → AllRisen o p set → short_of_risen o p f set ≡ f set
kept-at o p f set h = ap (λ b. cond b (f set) (negsuc 0)) (is-risen o p set h)

hidden-at : (o p : List ℕ) (f : ℕ → ℤ) (set : ℕ) → is_risen o p set ≡ false → short_of_risen o p f set ≡ negsuc 0
hidden-at o p f set e = ap (λ b. cond b (f set) (negsuc 0)) e

no-less : (a b x y : ℤ) → a ≡ x → b ≡ y → a ≤ℤ b → x ≤ℤ y
no-less a b x y e f h = omega (arith, ints)

not-hidden : (a b x : ℤ) → a ≡ x → x ≡ pos 0 → b ≡ negsuc 0 → a ≤ℤ b → ⊥
not-hidden a b x e f g h = absurd (omega (arith, ints))

pub fall-from_step : (goods : ℕ) (o p : List ℕ) (f : ℕ → ℤ) (set : ℕ) → f 0 ≡ pos 0 → IsStepSet goods (short_of_risen o p f) set → IsFallSet goods o p f set
fall-from_step goods o p f set none step =
    let here : AllRisen o p set = by (is_risen o p set) refl in
    let same = kept-at o p f set here in
    record {
      is_set = step.is_set;
      risen = here;
      furthest = λ other below risen. no-less (short_of_risen o p f other) (short_of_risen o p f set) (f other) (f set) (kept-at o p f other risen) same (step.greatest other below);
      fewest = λ other below risen e. step.fewest other below (kept-at o p f other risen ∙ e ∙ sym same);
      smallest = λ other below risen e size. step.smallest other below (kept-at o p f other risen ∙ e ∙ sym same) size;
    }
  where
    by : (b : Bool) → is_risen o p set ≡ b → AllRisen o p set
    by true e = risen-is o p set e
    by false e = absurd (not-hidden (short_of_risen o p f 0) (short_of_risen o p f set) (f 0) (kept-at o p f 0 (risen-none o p)) none (hidden-at o p f set e) (step.greatest 0 (pow_pos goods)))

pub step-from_fall : (goods : ℕ) (o p : List ℕ) (f : ℕ → ℤ) (set : ℕ) → f 0 ≡ pos 0 → IsFallSet goods o p f set → IsStepSet goods (short_of_risen o p f) set
step-from_fall goods o p f set none fall =
    record {
      is_set = fall.is_set;
      greatest = λ other below. most other below (is_risen o p other) refl;
      fewest = λ other below e. fall.fewest other below (only other below e) (sym (kept-at o p f other (only other below e)) ∙ e ∙ same);
      smallest = λ other below e size. fall.smallest other below (only other below e) (sym (kept-at o p f other (only other below e)) ∙ e ∙ same) size;
    }
  where
    same : short_of_risen o p f set ≡ f set
    same = kept-at o p f set fall.risen

    at-least : f 0 ≤ℤ f set
    at-least = fall.furthest 0 (pow_pos goods) (risen-none o p)

    most : (other : ℕ) → other < 2 ^ goods → (b : Bool) → is_risen o p other ≡ b → short_of_risen o p f other ≤ℤ short_of_risen o p f set
    most other below true e = no-less (f other) (f set) (short_of_risen o p f other) (short_of_risen o p f set) (sym (kept-at o p f other (risen-is o p other e))) (sym same) (fall.furthest other below (risen-is o p other e))
    most other below false e = lower (short_of_risen o p f other) (short_of_risen o p f set) (f 0) (f set) (hidden-at o p f other e) same none at-least
      where
        lower : (a b x y : ℤ) → a ≡ negsuc 0 → b ≡ y → x ≡ pos 0 → x ≤ℤ y → a ≤ℤ b
        lower a b x y e f g h = omega (arith, ints)

    only : (other : ℕ) → other < 2 ^ goods → short_of_risen o p f other ≡ short_of_risen o p f set → AllRisen o p other
    only other below e = by (is_risen o p other) refl
      where
        clash : (a b x y : ℤ) → a ≡ b → a ≡ negsuc 0 → b ≡ y → x ≡ pos 0 → x ≤ℤ y → ⊥
        clash a b x y e g i j h = absurd (omega (arith, ints))

        by : (b : Bool) → is_risen o p other ≡ b → AllRisen o p other
        by true t = risen-is o p other t
        by false t = absurd (clash (short_of_risen o p f other) (short_of_risen o p f set) (f 0) (f set) e (hidden-at o p f other t) same none at-least)

pub fall-is : (s o p : List ℕ) (d : ℕ → List (List ℕ)) (js : List ℕ) → IsFallSet (length s) o p (shortfall s d js) (fall_set s o p d js)
unfolding fall_set
fall-is s o p d js =
    let f = shortfall s d js in
    fall-from_step (length s) o p f (first_set (short_of_risen o p f) (length s)) (shortfall-none s d js) (first_set-step_set (length s) (short_of_risen o p f))

pub fall-unique : (goods : ℕ) (o p : List ℕ) (f : ℕ → ℤ) (set other : ℕ) → f 0 ≡ pos 0 → IsFallSet goods o p f set → IsFallSet goods o p f other → set ≡ other
fall-unique goods o p f set other none a b =
    step_set-unique goods (short_of_risen o p f) set other (step-from_fall goods o p f set none a) (step-from_fall goods o p f other none b)

-- the same demands have the same fall set
total_greatest-same : (d e : ℕ → List (List ℕ)) (js : List ℕ) (set : ℕ) → AllByRecursion (λ j. d j ≡ e j) js
    → total_units (λ j. greatest (d j) set) js ≡ total_units (λ j. greatest (e j) set) js
total_greatest-same d e [] set same = refl
total_greatest-same d e (j ∷ js) set same = let first = same.0 in let rest = total_greatest-same d e js set same.1 in λ i. greatest (first i) set + rest i

pub shortfall-same : (s : List ℕ) (d e : ℕ → List (List ℕ)) (js : List ℕ) (set : ℕ) → AllByRecursion (λ j. d j ≡ e j) js → shortfall s d js set ≡ shortfall s e js set
shortfall-same s d e js set same = ap (λ n. pos (quantity_in s set) -ℤ pos n) (total_greatest-same d e js set same)

pub fall_set-same : (s o p : List ℕ) (d e : ℕ → List (List ℕ)) (js : List ℕ) → AllByRecursion (λ j. d j ≡ e j) js → fall_set s o p d js ≡ fall_set s o p e js
unfolding fall_set
fall_set-same s o p d e js same = λ i. first_set (short_of_risen o p (λ set. shortfall-same s d e js set same i)) (length s)

-- by digits: the set has a good only where its price is above the opening
pub risen-at : (o p : List ℕ) (set k : ℕ) → length o ≡ length p → AllRisen o p set → at (set_of (length p) set) k ≤ at p k - at o k
unfolding set_of
risen-at [] [] set k l h = omega arith
risen-at [] (q ∷ p) set k l h = absurd (omega arith)
risen-at (a ∷ o) [] set k l h = absurd (omega arith)
risen-at (a ∷ o) (q ∷ p) set zero l h = digit (set % 2) a q (omega arith) h.0
  where
    digit : (d a q : ℕ) → d ≤ 1 → (d ≡ 1 → a < q) → d ≤ q - a
    digit zero a q low h = omega arith
    digit (suc zero) a q low h = let i = h refl in omega arith
    digit (suc (suc d)) a q low h = absurd (omega arith)
risen-at (a ∷ o) (q ∷ p) set (suc k) l h = let l' : length o ≡ length p = omega arith in risen-at o p (set / 2) k l' h.1

pub at-risen : (o p : List ℕ) (set : ℕ) → ((k : ℕ) → at (set_of (length p) set) k ≤ at p k - at o k) → AllRisen o p set
unfolding set_of
at-risen [] p set h = tt
at-risen (a ∷ o) [] set h = tt
at-risen (a ∷ o) (q ∷ p) set h = (λ one. let i = h 0 in omega arith, at-risen o p (set / 2) (λ k. h (suc k)))

pub priced-risen : (o p : List ℕ) (set : ℕ) → length o ≡ length p → AllRisen o p set → AllPriced p set
priced-risen [] [] set l h = tt
priced-risen [] (q ∷ p) set l h = absurd (omega arith)
priced-risen (a ∷ o) [] set l h = tt
priced-risen (a ∷ o) (q ∷ p) set l h = let l' : length o ≡ length p = omega arith in (λ one. let i = h.0 one in omega arith, priced-risen o p (set / 2) l' h.1)

lower-digit : (q d : ℕ) → d ≤ 1 → cond (nat_eq d 1) (q - 1) q ≡ q - d
lower-digit q zero h = omega arith
lower-digit q (suc zero) h = refl
lower-digit q (suc (suc d)) h = absurd (omega arith)

pub lowered-above : (p : List ℕ) (set : ℕ) → lowered p set ≡ above p (set_of (length p) set)
unfolding set_of
lowered-above [] set = refl
lowered-above (q ∷ p) set = let d = lower-digit q (set % 2) (omega arith) in let i = lowered-above p (set / 2) in λ k. d k ∷ i k

pub lowered-none : (p : List ℕ) → lowered p 0 ≡ p
lowered-none [] = refl
lowered-none (q ∷ p) = ap (λ r. q ∷ r) (lowered-none p)

-- the set of greatest shortfall is the fall set, and the other way round
pub fall-from_greatest : (s o p : List ℕ) (d : ℕ → List (List ℕ)) (js : List ℕ) (set short : ℕ) → IsGreatestShortfall s o p d js set short → IsFallSet (length s) o p (shortfall s d js) set
fall-from_greatest s o p d js set short is = record {
  is_set = is.is_set;
  risen = is.risen;
  furthest = λ other below risen. at-most (shortfall s d js other) (shortfall s d js set) (pos short) is.short_is (is.greatest other below risen);
  fewest = λ other below risen e. is.fewest other below risen (e ∙ is.short_is);
  smallest = λ other below risen e size. is.smallest other below risen (e ∙ is.short_is) size;
}
  where
    at-most : (a b n : ℤ) → b ≡ n → a ≤ℤ n → a ≤ℤ b
    at-most a b n e h = omega (arith, ints)

pub greatest-is : (s o p : List ℕ) (d : ℕ → List (List ℕ)) (js : List ℕ) (set short : ℕ) → IsGreatestShortfall s o p d js set short → set ≡ fall_set s o p d js
greatest-is s o p d js set short is =
    fall-unique (length s) o p (shortfall s d js) set (fall_set s o p d js) (shortfall-none s d js) (fall-from_greatest s o p d js set short is) (fall-is s o p d js)

-- so much above 0
record Above (n : ℤ) : Type 0 where
  pub amount : ℕ
  pub is : n ≡ pos amount

above-none : (n : ℤ) → pos 0 ≤ℤ n → Above n
above-none (pos m) h = record { amount = m; is = refl }
above-none (negsuc m) h = absurd (omega (arith, ints))

pub fall-greatest : (s o p : List ℕ) (d : ℕ → List (List ℕ)) (js : List ℕ) → (short : ℕ) × IsGreatestShortfall s o p d js (fall_set s o p d js) short
fall-greatest s o p d js =
    let f = fall-is s o p d js in
    let a = above-none (shortfall s d js (fall_set s o p d js)) (no-less (shortfall s d js 0) (shortfall s d js (fall_set s o p d js)) (pos 0) (shortfall s d js (fall_set s o p d js)) (shortfall-none s d js) refl (f.furthest 0 (pow_pos (length s)) (risen-none o p))) in (
      a.amount,
      record {
        is_set = f.is_set;
        risen = f.risen;
        short_is = a.is;
        greatest = λ other below risen. no-less (shortfall s d js other) (shortfall s d js (fall_set s o p d js)) (shortfall s d js other) (pos a.amount) refl a.is (f.furthest other below risen);
        fewest = λ other below risen e. f.fewest other below risen (e ∙ sym a.is);
        smallest = λ other below risen e size. f.smallest other below risen (e ∙ sym a.is) size;
      },
    )
