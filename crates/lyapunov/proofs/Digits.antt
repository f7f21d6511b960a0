-- Paths by the numbers of their sets and by the digits of these: each true step is chosen by the Lyapunov function.
use Rattle.std.proofs.Common.{◌≡◌, ◌≢◌, ℕ, zero, suc, ◌/◌, ◌<◌, ◌^◌, List, [], ◌∷◌, length, map, arith, ap, refl, sym, subst, ◌∙◌}
use Rattle.std.specs.Prelude.{ℤ, pos, ◌+ℤ◌, ◌-ℤ◌, ◌≤ℤ◌}
use Rattle.std.proofs.lemmas.Int.{ints, by_lt_z}
use Rattle.lot_base.specs.Goods.{plus, raised}
use Rattle.lot_base.specs.Economy.{demand, AllStrongSubstitutes, lyapunov}
use Rattle.lot_base.specs.Steps.{IsStepSet, excess, step_set}
use Rattle.lot_base.proofs.Vectors.{set_of, total}
use Rattle.lot_base.proofs.Loops.{Bits-set_of}
use Rattle.lot_base.proofs.Sets.{numbered, length-set_of, size_of-total, size_of-some}
use Rattle.lot_base.proofs.StepSet.{first_set-step_set}
use Rattle.lyapunov.specs.Paths.{true_step, prices_along, AllSteps}
use Rattle.lyapunov.proofs.Descent.{lyapunov-plus, excess-digits, raised-digits}
use Rattle.lyapunov.proofs.Chosen.{IsSet, Chosen, prices_over, NoneEmpty, AllChosen}
use Rattle.lyapunov.proofs.Nearest.{IsStill}

-- the number of a set that is given by its digits
pub record NumberOf (s f : List ℕ) : Type 0 where
  pub number : ℕ
  pub below : number < 2 ^ length s
  pub is : set_of (length s) number ≡ f

pub number_of : (s f : List ℕ) → IsSet s f → NumberOf s f
number_of s f set =
    let n = numbered f set.0 in
    let P : ℕ → Type 0 = λ k. n.number < 2 ^ k in
    let Q : ℕ → Type 0 = λ k. set_of k n.number ≡ f in
    record { number = n.number; below = subst P set.1 n.below; is = subst Q set.1 n.is }

-- the excess of a set is what it takes off the function
excess-is : (s : List ℕ) (u : ℕ → List ℕ → ℤ) (js : List ℕ) → AllStrongSubstitutes s u js → (p f : List ℕ) (set : ℕ)
    → set_of (length s) set ≡ f → excess s (λ j. demand s (u j) p) js set ≡ lyapunov s u js p -ℤ lyapunov s u js (plus p f)
excess-is s u js strong p f set is =
    excess-digits s u p js set ∙ lyapunov-plus s u js strong p (set_of (length s) set) (Bits-set_of (length s) set) ∙ ap (λ e. lyapunov s u js p -ℤ lyapunov s u js (plus p e)) is

pub step-chosen : (s : List ℕ) (u : ℕ → List ℕ → ℤ) (js : List ℕ) → AllStrongSubstitutes s u js → (p : List ℕ) (set : ℕ)
    → IsStepSet (length s) (excess s (λ j. demand s (u j) p) js) set → Chosen s (lyapunov s u js) p (set_of (length s) set)
step-chosen s u js strong p set step = record {
  set = (Bits-set_of (length s) set, length-set_of (length s) set);
  best = λ f is_set.
      let n = number_of s f is_set in
      let a = excess-is s u js strong p (set_of (length s) set) set refl in
      let b = excess-is s u js strong p f n.number n.is in
      let c = step.greatest n.number n.below in
      omega (arith, ints);
  fewest = λ f is_set h.
      let n = number_of s f is_set in
      let a = excess-is s u js strong p (set_of (length s) set) set refl in
      let b = excess-is s u js strong p f n.number n.is in
      let c = step.greatest n.number n.below in
      let d = step.fewest n.number n.below (omega (arith, ints)) in
      omega (arith, d, size_of-total (length s) set, size_of-total (length s) n.number, ap total n.is);
}

pub true_step-is : (s : List ℕ) (u : ℕ → List ℕ → ℤ) (js p : List ℕ)
    → IsStepSet (length s) (excess s (λ j. demand s (u j) p) js) (true_step s u js p)
unfolding step_set
true_step-is s u js p = first_set-step_set (length s) (excess s (λ j. demand s (u j) p) js)

pub true_step-chosen : (s : List ℕ) (u : ℕ → List ℕ → ℤ) (js : List ℕ) → AllStrongSubstitutes s u js → (p : List ℕ)
    → Chosen s (lyapunov s u js) p (set_of (length s) (true_step s u js p))
true_step-chosen s u js strong p = step-chosen s u js strong p (true_step s u js p) (true_step-is s u js p)

-- the empty set raises no price
pub raised-none : (p : List ℕ) → raised p 0 ≡ p
raised-none [] = refl
raised-none (q ∷ p) = ap (λ r. q ∷ r) (raised-none p)

pub total-none : (n : ℕ) → total (set_of n 0) ≡ 0
unfolding set_of
total-none zero = refl
total-none (suc n) = let i = total-none n in omega arith

pub length-raised : (p : List ℕ) (set : ℕ) → length (raised p set) ≡ length p
length-raised [] set = refl
length-raised (q ∷ p) set = ap (λ n. suc n) (length-raised p (set / 2))

-- where the true step is empty, no set lowers the function
pub still : (s : List ℕ) (u : ℕ → List ℕ → ℤ) (js : List ℕ) → AllStrongSubstitutes s u js → (p : List ℕ) → length p ≡ length s
    → true_step s u js p ≡ 0 → IsStill s (lyapunov s u js) p
still s u js strong p same none f is_set =
    let c = (true_step-chosen s u js strong p).best f is_set in
    let e = ap (λ set. lyapunov s u js (plus p (set_of (length s) set))) none in
    let d = ap (lyapunov s u js) (sym (raised-digits s p 0 same) ∙ raised-none p) in
    omega (arith, ints)

-- where it is not, it does
pub true_step-lowers : (s : List ℕ) (u : ℕ → List ℕ → ℤ) (js : List ℕ) → AllStrongSubstitutes s u js → (p : List ℕ) → length p ≡ length s
    → true_step s u js p ≢ 0 → (lyapunov s u js (raised p (true_step s u js p)) +ℤ pos 1) ≤ℤ lyapunov s u js p
true_step-lowers s u js strong p same some =
    let set = true_step s u js p in
    let e = set_of (length s) set in
    let c = true_step-chosen s u js strong p in
    let z = set_of (length s) 0 in
    let lead = ap (lyapunov s u js) (raised-digits s p set same) in
    let stay = ap (lyapunov s u js) (sym (raised-digits s p 0 same) ∙ raised-none p) in
    by_lt_z (lyapunov s u js (plus p e)) (lyapunov s u js p)
    (λ lt. omega (arith, ints))
    (λ le. absurd (
    let few = c.fewest z (Bits-set_of (length s) 0, length-set_of (length s) 0) (omega (arith, ints)) in
    let size = size_of-some (length s) set (true_step-is s u js p).is_set some in
    omega (arith, few, size, size_of-total (length s) set, total-none (length s))))

-- a path by the digits of its sets
abbrev pub digits_of : List ℕ → List ℕ → List (List ℕ)
digits_of s sets = map (set_of (length s)) sets

pub prices-digits : (s p sets : List ℕ) → length p ≡ length s → prices_along p sets ≡ prices_over p (digits_of s sets)
prices-digits s p [] same = refl
prices-digits s p (set ∷ sets) same =
    prices-digits s (raised p set) sets (length-raised p set ∙ same) ∙ ap (λ q. prices_over q (digits_of s sets)) (raised-digits s p set same)

pub length-digits : (s sets : List ℕ) → length (digits_of s sets) ≡ length sets
length-digits s [] = refl
length-digits s (set ∷ sets) = ap (λ n. suc n) (length-digits s sets)

pub length-prices : (p sets : List ℕ) → length (prices_along p sets) ≡ length p
length-prices p [] = refl
length-prices p (set ∷ sets) = length-prices (raised p set) sets ∙ length-raised p set

pub chosen_along : (s : List ℕ) (u : ℕ → List ℕ → ℤ) (js : List ℕ) → AllStrongSubstitutes s u js → (p sets : List ℕ) → length p ≡ length s
    → AllSteps s u js p sets → AllChosen s (lyapunov s u js) p (digits_of s sets)
chosen_along s u js strong p [] same steps = tt
chosen_along s u js strong p (set ∷ sets) same steps =
    let P : ℕ → Type 0 = λ n. Chosen s (lyapunov s u js) p (set_of (length s) n) in
    let Q : List ℕ → Type 0 = λ q. AllChosen s (lyapunov s u js) q (digits_of s sets) in (
      subst P (sym steps.1) (true_step-chosen s u js strong p),
      subst Q (raised-digits s p set same) (chosen_along s u js strong (raised p set) sets (length-raised p set ∙ same) steps.2),
    )

pub none_empty : (s : List ℕ) (u : ℕ → List ℕ → ℤ) (js p sets : List ℕ) → AllSteps s u js p sets → NoneEmpty (digits_of s sets)
none_empty s u js p [] steps = tt
none_empty s u js p (set ∷ sets) steps =
    let P : ℕ → Type 0 = λ n. n < 2 ^ length s in
    let below = subst P (sym steps.1) (true_step-is s u js p).is_set in
    let some = size_of-some (length s) set below steps.0 in
    (omega (arith, some, size_of-total (length s) set), none_empty s u js (raised p set) sets steps.2)
