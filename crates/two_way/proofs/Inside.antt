-- Prices of which none is outside.
use Rattle.std.proofs.Common.{◌≡◌, ◌<◌, ◌≤◌, inl, inr, ℕ, zero, suc, List, [], ◌∷◌, length, refl, sym, ◌∙◌, arith}
use Rattle.std.specs.List.{AllByRecursion}
use Rattle.std.proofs.lemmas.Bool.{cases_lt}
use Rattle.lot_base.specs.Goods.{at}
use Rattle.lot_base.specs.declared.auction_terms.Terms.{Terms}
use Rattle.lyapunov.proofs.Entrywise.{AtMost-at}
use Rattle.two_way.specs.Histories.{IsStart, IsOutside}

behind-end : (xs : List ℕ) (k : ℕ) → length xs ≤ k → at xs k ≡ 0
behind-end [] k far = refl
behind-end (x ∷ xs) zero far = absurd (omega arith)
behind-end (x ∷ xs) (suc k) far = behind-end xs k (omega arith)

all-below : (ceiling : ℕ) (xs : List ℕ) → ((k : ℕ) → k < length xs → at xs k < ceiling) → AllByRecursion (λ x. x < ceiling) xs
all-below ceiling [] low = tt
all-below ceiling (x ∷ xs) low = (low 0 (omega arith), all-below ceiling xs (λ k below. low (suc k) (omega arith)))

pub none-outside : (terms : Terms) (start : List ℕ) → length start ≡ length terms.goods → ((k : ℕ) → k < length start → IsOutside terms start k → ⊥) → IsStart terms start
none-outside terms start goods none = record {
  above = AtMost-at terms.opening start (terms.opens.goods ∙ sym goods) (λ k. elim (cases_lt k (length start)) [
    | inl below ↦ elim (cases_lt (at start k) (at terms.opening k)) [
      | inl less ↦ absurd (none k below (inl less))
      | inr up ↦ up
    ]
    | inr far ↦ (let o = behind-end terms.opening k (let e = terms.opens.goods in omega (arith, e, goods, far)) in omega arith)
  ]);
  below = all-below terms.ceiling start (λ k below. elim (cases_lt (at start k) terms.ceiling) [
    | inl low ↦ low
    | inr high ↦ absurd (none k below (inr high))
  ]);
}
