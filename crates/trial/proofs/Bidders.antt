-- What is known of bidders with tables of values.
use Rattle.std.proofs.Common.{◌≡◌, ◌<◌, ◌≤◌, ℕ, zero, suc, ◌+◌, ◌-◌, ◌*◌, List, [], ◌∷◌, length, get_or, refl, ◌∙◌, ap, arith, ◌⊎◌, inl, inr, subst}
use Rattle.std.specs.Prelude.{pos}
use Rattle.std.specs.List.{AllByRecursion, range_with_len}
use Rattle.std.proofs.Math.Nat.{eq-or-lt_of_le}
use Rattle.clock.specs.Reports.{all_bidders}
use Rattle.std.proofs.lemmas.Int.{ints}
use Rattle.lot_base.specs.Goods.{zeros, box_size}
use Rattle.lot_base.specs.Box.{index_of}
use Rattle.lot_base.specs.Economy.{IsStrongSubstitutes, AllStrongSubstitutes}
use Rattle.lot_base.specs.declared.auction_terms.Terms.{Terms}
use Rattle.valuation.specs.Values.{IsTable}
use Rattle.trial.specs.Bidding.{bidders_of}
use Rattle.trial.specs.Trials.{AreValuationsOf}
use Rattle.trial.proofs.Whole.{AreBidders}

pub all-at : {X : Type 0} (P : X → Type 0) (xs : List X) (i : ℕ) (d : X) → AllByRecursion P xs → i < length xs → P (get_or xs i d)
all-at P [] i d all below = absurd (omega arith)
all-at P (x ∷ xs) zero d all below = all.0
all-at P (x ∷ xs) (suc i) d all below = all-at P xs i d all.1 (omega arith)

index-zeros : (supply : List ℕ) → index_of supply (zeros supply) ≡ 0
index-zeros [] = refl
index-zeros (s ∷ supply) = (let rest = index-zeros supply in let e : 0 * box_size supply ≡ 0 = grind arith in omega arith)

from-range : (P : ℕ → Type 0) (a n j : ℕ) → AllByRecursion P (range_with_len a n) → a ≤ j → j < a + n → P j
from-range P a zero j all low high = absurd (omega arith)
from-range P a (suc n) j all low high = by (eq-or-lt_of_le low) (λ less. from-range P (a + 1) n j all.1 (omega (arith, less)) (omega arith))
  where
    by : (a ≡ j) ⊎ (a < j) → (a < j → P j) → P j
    by (inl same) rest = subst P same all.0
    by (inr less) rest = rest less

pub known : (terms : Terms) (valuations : List (List ℕ)) → AreValuationsOf terms valuations → AllStrongSubstitutes terms.goods (bidders_of terms.goods valuations) (all_bidders terms.bidders)
    → AreBidders terms (bidders_of terms.goods valuations)
known terms valuations are substitutes =
    let table = λ (j : ℕ) (low : 1 ≤ j) (high : j ≤ terms.bidders). all-at (IsTable terms.goods terms.ceiling) valuations (j - 1) [] are.tables (let c = are.count in omega arith) in
    record {
      valuations = λ j low high. ap (λ i. pos (get_or (get_or valuations (j - 1) []) i 0)) (index-zeros terms.goods) ∙ ap pos (table j low high).empty;
      substitutes = λ j low high. from-range (λ j. IsStrongSubstitutes terms.goods (bidders_of terms.goods valuations j)) 1 terms.bidders j substitutes low (omega (arith, high));
      below = λ j low high x within. (let b = (table j low high).below (index_of terms.goods x) in omega (arith, ints));
    }
