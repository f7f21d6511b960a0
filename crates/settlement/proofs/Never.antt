-- Where valuations explain all clocks, no clock lacks a choice, and none halts whose ceiling is above all values.
use Rattle.std.proofs.Common.{◌≡◌, ℕ, true, false, List, [], ◌∷◌, map, Option, Some, None, is_none, refl, sym, ◌∙◌, subst}
use Rattle.std.specs.Prelude.{ℤ, find, MatchOption}
use Rattle.std.specs.List.{AllByRecursion}
use Rattle.lot_base.specs.Economy.{demand, AllBelowCeiling}
use Rattle.lot_base.specs.Choices.{IsClearingChoice}
use Rattle.lot_base.specs.declared.auction_terms.Terms.{Terms}
use Rattle.lot_base.specs.declared.phases.Phase.TheVariants.{Ended, Halted}
use Rattle.lyapunov.proofs.Bidders.{all-without}
use Rattle.lyapunov.proofs.Existence.{choice_exists}
use Rattle.award_assembly.proofs.Places.{first_choice-none}
use Rattle.clock.specs.Reports.{ClockHistory, all_bidders, members, members_of}
use Rattle.clock.specs.Standing.{phase_of, prices_of, steps_of, last_demands}
use Rattle.clock.specs.Explained.{Explains}
use Rattle.clock.specs.Standing.{sets_of}
use Rattle.clock.proofs.Truthful.{prices-along, path, has-ended, never-halted}
use Rattle.settlement.specs.Clocks.{choice_of, is_halted, has_no_choice}
use Rattle.settlement.specs.Efficient.{ExplainsAll}
use Rattle.clock.proofs.LastDemands.{full-ended}
use Rattle.settlement.proofs.Firsts.{find-some}
use Rattle.settlement.proofs.Explained.{demands-true}

both-of : {X : Type 0} (P Q : X → Type 0) (xs : List X) → AllByRecursion P xs → AllByRecursion Q xs → AllByRecursion (λ x. P x × Q x) xs
both-of P Q [] p q = tt
both-of P Q (x ∷ xs) p q = ((p.0, q.0), both-of P Q xs p.1 q.1)

has-choice : (u : ℕ → List ℕ → ℤ) (c : ClockHistory) → Explains u c → phase_of c ≡ Ended → has_no_choice c ≡ false
unfolding choice_of
has-choice u c explains ended = by (choice_of c) refl
  where
    by : (o : Option (List (List ℕ))) → choice_of c ≡ o → is_none o ≡ false
    by (Some choice) e = refl
    by None e =
        let p = path u c explains in
        let t = choice_exists c.terms.goods u (members_of c) p.substitutes c.terms.opening (sets_of c (steps_of c)) p.goods p.steps (has-ended u c explains ended) in
        let P : List ℕ → Type 0 = λ q. IsClearingChoice c.terms.goods c.terms.opening q (map (λ j. demand c.terms.goods (u j) q) (members_of c)) t.0 in
        let D : List (List (List ℕ)) → Type 0 = λ ds. IsClearingChoice c.terms.goods c.terms.opening (prices_of c) ds t.0 in
        let here = subst P (sym (prices-along c (steps_of c))) t.1 in
        let d = demands-true u c explains.reports (members_of c) (full-ended c ended) in
        absurd (first_choice-none c.terms.goods c.terms.opening (prices_of c) (map (last_demands c) (members_of c)) e t.0 (subst D (sym d) here))

pub never-lacks : (u : ℕ → List ℕ → ℤ) (clocks : List ClockHistory) (P : ClockHistory → Type 0) → ExplainsAll u clocks → AllByRecursion (λ (c : ClockHistory). phase_of c ≡ Ended) clocks
    → MatchOption (find has_no_choice clocks) ⊥ P → ⊥
never-lacks u clocks P explains ended first = by (find has_no_choice clocks) refl first
  where
    by : (o : Option ClockHistory) → find has_no_choice clocks ≡ o → MatchOption o ⊥ P → ⊥
    by None e none = none
    by (Some c) e p =
        let Q : ClockHistory → Type 0 = λ k. Explains u k × (phase_of k ≡ Ended) in
        let f = find-some Q has_no_choice clocks c (both-of (Explains u) (λ (k : ClockHistory). phase_of k ≡ Ended) clocks explains ended) e in
        let g : true ≡ false = sym f.0 ∙ has-choice u c f.1.0 f.1.1 in
        absurd (let h = g in cc)

pub never-halts : (u : ℕ → List ℕ → ℤ) (terms : Terms) (clocks : List ClockHistory) (number good : ℕ) → ExplainsAll u clocks → AllByRecursion (λ (c : ClockHistory). c.terms ≡ terms) clocks
    → AllBelowCeiling terms.goods u terms.ceiling (all_bidders terms.bidders) → MatchOption (find is_halted clocks) ⊥ (λ (c : ClockHistory). (number ≡ c.number) × (phase_of c ≡ Halted good)) → ⊥
never-halts u terms clocks number good explains same below first = by (find is_halted clocks) refl first
  where
    by : (o : Option ClockHistory) → find is_halted clocks ≡ o → MatchOption o ⊥ (λ (c : ClockHistory). (number ≡ c.number) × (phase_of c ≡ Halted good)) → ⊥
    by None e none = none
    by (Some c) e p =
        let Q : ClockHistory → Type 0 = λ k. Explains u k × (k.terms ≡ terms) in
        let f = find-some Q is_halted clocks c (both-of (Explains u) (λ (k : ClockHistory). k.terms ≡ terms) clocks explains same) e in
        let A : Terms → Type 0 = λ t. AllBelowCeiling t.goods u t.ceiling (members t.bidders c.number) in
        never-halted u c good f.1.0 (subst A (sym f.1.1) (all-without _ c.number (all_bidders terms.bidders) below)) p.1
