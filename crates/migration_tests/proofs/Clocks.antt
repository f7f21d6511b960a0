-- The clocks that a seller has, one after another.
use Rattle.std.proofs.Common.{◌≡◌, inl, inr, ℕ, ◌+◌, List, [], ◌∷◌, ◌++◌, length, sym, ◌∙◌, ap, subst, arith, length-append}
use Rattle.std.proofs.lemmas.Bool.{cases_lt}
use Rattle.std.proofs.lemmas.List.{get_or_at, map-append}
use Rattle.lot_base.specs.declared.auction_terms.Terms.{Terms}
use Rattle.clock.specs.Reports.{ClockHistory, ClockOf, histories}
use Rattle.migration.proofs.Lists.{get-front}
use Rattle.migration_tests.specs.Sellers.{AreClocksOf}

pub clocks-more : (terms : Terms) (n : ℕ) (clocks now : List ClockOf) (c : ClockOf) → AreClocksOf terms n (histories clocks) → now ≡ clocks ++ c ∷ [] → c.history.terms ≡ terms → c.history.number ≡ n → AreClocksOf terms (n + 1) (histories now)
clocks-more terms n clocks now c are is same number =
    let whole : histories now ≡ histories clocks ++ c.history ∷ [] = ap histories is ∙ map-append (λ (k : ClockOf). k.history) clocks (c ∷ []) in
    let size = are.count_is in
    let C : List ClockHistory → Type 0 = λ l. AreClocksOf terms (n + 1) l in
    let F : ℕ → ClockHistory → Type 0 = λ k h. (h.terms ≡ terms) × (h.number ≡ k) in
    subst C (sym whole) (record {
      count_is = omega (arith, length-append (histories clocks) (c.history ∷ []), size);
      each = λ k d below. elim (cases_lt k (length (histories clocks))) [
        | inl less ↦ subst (F k) (sym (get-front (histories clocks) (c.history ∷ []) k d less)) (are.each k d less)
        | inr beyond ↦
            let here : n ≡ k = omega (arith, beyond, below, length-append (histories clocks) (c.history ∷ []), size) in
            subst (F k) (sym (get_or_at (histories clocks) c.history [] d k (size ∙ here))) (same, number ∙ here)
      ];
    })
