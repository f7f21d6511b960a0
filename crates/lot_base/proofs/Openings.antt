-- Each opening price is below the ceiling.
use Rattle.std.proofs.Common.{◌≡◌, ◌<◌, ◌≤◌, ℕ, zero, suc, ◌+◌, Bool, true, false, not, cond, List, [], ◌∷◌, length, Some, None, refl, arith}
use Rattle.std.specs.Prelude.{nat_le, nat_lt}
use Rattle.std.specs.List.{AllByRecursion, position_or_len, prefix_len}
use Rattle.std.proofs.lemmas.Bool.Decides.{nat_tests}
use Rattle.lot_base.specs.Goods.{at, IsOpening}

all-passed : (ceiling : ℕ) (xs : List ℕ) → length xs ≤ prefix_len (λ x. not (nat_le ceiling x)) xs → AllByRecursion (λ x. x < ceiling) xs
all-passed ceiling [] long = tt
all-passed ceiling (x ∷ xs) long = by (nat_le ceiling x) refl (all-passed ceiling xs) long
  where
    by : (b : Bool) → nat_le ceiling x ≡ b → (length xs ≤ prefix_len (λ y. not (nat_le ceiling y)) xs → AllByRecursion (λ y. y < ceiling) xs)
        → length (x ∷ xs) ≤ cond (not b) (1 + prefix_len (λ y. not (nat_le ceiling y)) xs) 0 → (x < ceiling) × AllByRecursion (λ y. y < ceiling) xs
    by true e rest h = absurd (omega arith)
    by false e rest h = (grind (arith, nat_tests), rest (omega arith))

pub all-below : (supply : List ℕ) (ceiling : ℕ) (opening : List ℕ) → IsOpening supply ceiling opening → AllByRecursion (λ price. price < ceiling) opening
all-below supply ceiling opening opens = all-passed ceiling opening (by (nat_lt (position_or_len (λ price. nat_le ceiling price) opening) (length opening)) refl opens.below)
  where
    by : (b : Bool) → nat_lt (position_or_len (λ price. nat_le ceiling price) opening) (length opening) ≡ b
        → cond b (Some (position_or_len (λ price. nat_le ceiling price) opening)) None ≡ None → length opening ≤ position_or_len (λ price. nat_le ceiling price) opening
    by true e f = absurd (let g : Some (position_or_len (λ price. nat_le ceiling price) opening) ≡ None = f in cc)
    by false e f = grind (arith, nat_tests)

pub at-below_all : (limit : ℕ) (xs : List ℕ) (k : ℕ) → 0 < limit → AllByRecursion (λ x. x < limit) xs → at xs k < limit
at-below_all limit [] k some all = some
at-below_all limit (x ∷ xs) zero some all = all.0
at-below_all limit (x ∷ xs) (suc k) some all = at-below_all limit xs k some all.1
