-- Sets of goods as numbers and as lists of digits.
use Rattle.std.proofs.Common.{Bool, true, false, max, ◌≡◌, ◌≢◌, ◌<◌, ◌≤◌, ◌⊎◌, inl, inr, ℕ, zero, suc, ◌+◌, ◌-◌, ◌*◌, ◌/◌, ◌%◌, ◌^◌, nat_eq, cond, List, [], ◌∷◌, length, min, refl, sym, ◌∙◌, ap, arith}
use Rattle.std.specs.Prelude.{ℤ, pos, ◌-ℤ◌, fold}
use Rattle.std.proofs.Math.Nat.{pow-succ'}
use Rattle.lot_base.specs.Goods.{quantity_in, raised, lowered, size_of, cost, plus, AllPriced}
use Rattle.lot_base.specs.Demands.{least_of, least, greatest_of, greatest}
use Rattle.lot_base.specs.Box.{IsIn}
use Rattle.lot_base.specs.Economy.{demand, indirect_utility, IsStrongSubstitutes}
use Rattle.std.proofs.lemmas.Bool.Decides.{nat_tests}
use Rattle.lot_base.proofs.Vectors.{Bits, total, set_of}
use Rattle.lot_base.proofs.Vec.{length-below}
use Rattle.lot_base.proofs.Cells.{length-lowered}
use Rattle.lot_base.proofs.Demand.{demand-IsIn}
use Rattle.lot_base.proofs.Steps.{least_of_step, greatest_of_step}
use Rattle.lot_base.proofs.Loops.{Bits-set_of}

digit : (x d : ℕ) → d ≤ 1 → cond (nat_eq d 1) x 0 ≡ d * x
digit x zero h = omega arith
digit x (suc zero) h = omega arith
digit x (suc (suc d)) h = absurd (omega arith)

higher : (p d : ℕ) → d ≤ 1 → cond (nat_eq d 1) (p + 1) p ≡ p + d
higher p zero h = omega arith
higher p (suc zero) h = refl
higher p (suc (suc d)) h = absurd (omega arith)

-- x(E) and p + 1_E
pub quantity_in-cost : (x : List ℕ) (set : ℕ) → quantity_in x set ≡ cost (set_of (length x) set) x
unfolding set_of
quantity_in-cost [] set = refl
quantity_in-cost (q ∷ x) set = let i = quantity_in-cost x (set / 2) in let d = digit q (set % 2) (omega arith) in omega (arith, i, d)

pub raised-plus : (p : List ℕ) (set : ℕ) → raised p set ≡ plus p (set_of (length p) set)
unfolding set_of
raised-plus [] set = refl
raised-plus (q ∷ p) set = let i = raised-plus p (set / 2) in let d = higher q (set % 2) (omega arith) in λ k. d k ∷ i k

pub size_of-total : (n set : ℕ) → size_of n set ≡ total (set_of n set)
unfolding set_of
size_of-total zero set = refl
size_of-total (suc n) set = ap (λ k. set % 2 + k) (size_of-total n (set / 2))

pub size_of-some : (n set : ℕ) → set < 2 ^ n → set ≢ 0 → 0 < size_of n set
size_of-some zero set below some = absurd (some (omega (arith, below)))
size_of-some (suc n) set below some = elim (cases (set % 2)) [
  | inl even ↦ let r = size_of-some n (set / 2) (let e = pow-succ' 2 n in omega arith) (λ z. some (omega arith)) in omega (arith, r)
  | inr odd ↦ omega (arith, odd)
]
  where
    cases : (d : ℕ) → (d ≡ 0) ⊎ (0 < d)
    cases zero = inl refl
    cases (suc d) = inr (omega arith)

pub length-set_of : (n set : ℕ) → length (set_of n set) ≡ n
unfolding set_of
length-set_of zero set = refl
length-set_of (suc n) set = ap suc (length-set_of n (set / 2))

-- the number of a list of digits
pub record Numbered (e : List ℕ) : Type 0 where
  pub number : ℕ
  pub below : number < 2 ^ length e
  pub is : set_of (length e) number ≡ e

pub numbered : (e : List ℕ) → Bits e → Numbered e
unfolding set_of
numbered [] b = record { number = 0; below = omega arith; is = refl }
numbered (d ∷ e) b =
    let r = numbered e b.1 in
    let l = b.0 in
    let low : (d + 2 * r.number) % 2 ≡ d = omega arith in
    let high : (d + 2 * r.number) / 2 ≡ r.number = omega arith in
    record {
      number = d + 2 * r.number;
      below = let p = pow-succ' 2 (length e) in omega (arith, r.below);
      is = λ i. low i ∷ (ap (set_of (length e)) high ∙ r.is) i;
    }

fold-same : (f g : List ℕ → ℕ) (xs : List (List ℕ)) → ((x : List ℕ) → IsIn x xs → f x ≡ g x) → (a : ℕ) → fold (λ b y. min b (f y)) a xs ≡ fold (λ b y. min b (g y)) a xs
fold-same f g [] same a = refl
fold-same f g (x ∷ xs) same a = ap (λ n. fold (λ b y. min b (f y)) (min a n) xs) (same x (inl refl)) ∙ fold-same f g xs (λ y m. same y (inr m)) (min a (g x))

pub least-same : (f g : List ℕ → ℕ) (xs : List (List ℕ)) → ((x : List ℕ) → IsIn x xs → f x ≡ g x) → least_of f xs ≡ least_of g xs
least-same f g [] same = refl
least-same f g (x ∷ xs) same = ap (λ n. fold (λ b y. min b (f y)) n xs) (same x (inl refl)) ∙ fold-same f g xs (λ y m. same y (inr m)) (g x)

-- what a bidder demands at least of a set
pub least-cost : (s : List ℕ) (u : List ℕ → ℤ) (p : List ℕ) (set : ℕ) → least (demand s u p) set ≡ least_of (cost (set_of (length s) set)) (demand s u p)
least-cost s u p set =
    least-same (λ x. quantity_in x set) (cost (set_of (length s) set)) (demand s u p)
    (λ x m. quantity_in-cost x set ∙ ap (λ n. cost (set_of n set) x) (length-below x s (demand-IsIn s u p x m).0))

-- the step lemma, by the number of the set
pub least_step : (s : List ℕ) (u : List ℕ → ℤ) (p : List ℕ) (set : ℕ) → IsStrongSubstitutes s u → length p ≡ length s → pos (least (demand s u p) set) ≡ indirect_utility s u p -ℤ indirect_utility s u (raised p set)
least_step s u p set strong l =
    let e : plus p (set_of (length s) set) ≡ raised p set = ap (λ n. plus p (set_of n set)) (sym l) ∙ sym (raised-plus p set) in
    ap pos (least-cost s u p set) ∙ least_of_step s u strong p (set_of (length s) set) (Bits-set_of (length s) set) ∙ ap (λ q. indirect_utility s u p -ℤ indirect_utility s u q) e

fold-more : (f g : List ℕ → ℕ) (xs : List (List ℕ)) → ((x : List ℕ) → IsIn x xs → f x ≡ g x) → (a : ℕ) → fold (λ b y. max b (f y)) a xs ≡ fold (λ b y. max b (g y)) a xs
fold-more f g [] same a = refl
fold-more f g (x ∷ xs) same a = ap (λ n. fold (λ b y. max b (f y)) (max a n) xs) (same x (inl refl)) ∙ fold-more f g xs (λ y m. same y (inr m)) (max a (g x))

pub greatest-same : (f g : List ℕ → ℕ) (xs : List (List ℕ)) → ((x : List ℕ) → IsIn x xs → f x ≡ g x) → greatest_of f xs ≡ greatest_of g xs
greatest-same f g [] same = refl
greatest-same f g (x ∷ xs) same = ap (λ n. fold (λ b y. max b (f y)) n xs) (same x (inl refl)) ∙ fold-more f g xs (λ y m. same y (inr m)) (g x)

pub raised-reduced : (p : List ℕ) (set : ℕ) → AllPriced p set → raised (lowered p set) set ≡ p
raised-reduced [] set h = refl
raised-reduced (q ∷ p) set h = let d = back (set % 2) h.0 in let r = raised-reduced p (set / 2) h.1 in λ i. d i ∷ r i
  where
    back : (d : ℕ) → (d ≡ 1 → 0 < q) → cond (nat_eq d 1) (cond (nat_eq d 1) (q - 1) q + 1) (cond (nat_eq d 1) (q - 1) q) ≡ q
    back zero f = refl
    back (suc zero) f = let s = f refl in omega arith
    back (suc (suc d)) f = by (nat_eq (suc (suc d)) 1) (grind (arith, nat_tests))
      where
        by : (b : Bool) → b ≡ false → cond b (cond b (q - 1) q + 1) (cond b (q - 1) q) ≡ q
        by false e = refl
        by true e = absurd (let g : true ≡ false = e in cc)

-- its mirror image
pub greatest_step : (s : List ℕ) (u : List ℕ → ℤ) (p : List ℕ) (set : ℕ) → IsStrongSubstitutes s u → length p ≡ length s → AllPriced p set → pos (greatest (demand s u p) set) ≡ indirect_utility s u (lowered p set) -ℤ indirect_utility s u p
greatest_step s u p set strong l priced =
    let low = lowered p set in
    let n : length low ≡ length s = length-lowered p set ∙ l in
    let e : plus low (set_of (length s) set) ≡ p = ap (λ n. plus low (set_of n set)) (sym n) ∙ sym (raised-plus low set) ∙ raised-reduced p set priced in
    let g : greatest (demand s u p) set ≡ greatest_of (cost (set_of (length s) set)) (demand s u p) =
    greatest-same (λ x. quantity_in x set) (cost (set_of (length s) set)) (demand s u p) (λ x m. quantity_in-cost x set ∙ ap (λ n. cost (set_of n set) x) (length-below x s (demand-IsIn s u p x m).0)) in
    ap pos g ∙ (λ i. pos (greatest_of (cost (set_of (length s) set)) (demand s u (sym e i)))) ∙ greatest_of_step s u strong low (set_of (length s) set) (Bits-set_of (length s) set) ∙ (λ i. indirect_utility s u low -ℤ indirect_utility s u (e i))
