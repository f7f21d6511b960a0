-- What is after the end of the prices or of the bundle costs nothing.
use Rattle.std.proofs.Common.{◌≡◌, ◌≤◌, ℕ, suc, zero, List, [], ◌∷◌, length, drop, refl, arith, inl, inr}
use Rattle.std.specs.Prelude.{min, ◌⊎◌}
use Rattle.lot_base.specs.Goods.{cost}

cost-behind_prices : (prices rest : List ℕ) (i : ℕ) → length prices ≤ i → cost (drop i prices) rest ≡ 0
cost-behind_prices [] rest zero past = refl
cost-behind_prices [] rest (suc i) past = refl
cost-behind_prices (p ∷ prices) rest zero past = absurd (omega arith)
cost-behind_prices (p ∷ prices) rest (suc i) past = let less : length prices ≤ i = omega arith in cost-behind_prices prices rest i less

cost-behind_bundle : (prices bundle : List ℕ) (i : ℕ) → length bundle ≤ i → cost prices (drop i bundle) ≡ 0
cost-behind_bundle [] bundle i past = refl
cost-behind_bundle (p ∷ prices) [] zero past = refl
cost-behind_bundle (p ∷ prices) [] (suc i) past = refl
cost-behind_bundle (p ∷ prices) (x ∷ bundle) zero past = absurd (omega arith)
cost-behind_bundle (p ∷ prices) (x ∷ bundle) (suc i) past = let less : length bundle ≤ i = omega arith in cost-behind_bundle (p ∷ prices) bundle i less

pub cost-behind : (prices bundle : List ℕ) (i : ℕ) → i ≡ min (length prices) (length bundle) → cost (drop i prices) (drop i bundle) ≡ 0
cost-behind prices bundle i at_end = elim (one_is_past i (length prices) (length bundle) at_end) [
  | inl past ↦ cost-behind_prices prices (drop i bundle) i past
  | inr past ↦ cost-behind_bundle (drop i prices) bundle i past
]
  where
    one_is_past : (i m n : ℕ) → i ≡ min m n → (m ≤ i) ⊎ (n ≤ i)
    one_is_past i m n e = grind arith
