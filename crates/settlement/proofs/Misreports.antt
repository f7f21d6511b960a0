-- Valuations that differ at one bidder alone: where those explain clocks by which that bidder reports, it is among truthful others.
use Rattle.std.proofs.Common.{◌≡◌, ◌≢◌, ◌≤◌, ℕ, Bool, true, false, not, cond, nat_eq, List, [], ◌∷◌, refl, ◌∙◌, ap, subst, arith}
use Rattle.std.specs.Prelude.{ℤ}
use Rattle.std.specs.List.{AllByRecursion}
use Rattle.lot_base.specs.Economy.{demand, without, IsValuation, IsStrongSubstitutes}
use Rattle.lot_base.specs.declared.auction_terms.Terms.{Terms}
use Rattle.demand_set.specs.declared.reports.Report.{Report}
use Rattle.lyapunov.proofs.Bidders.{all-without}
use Rattle.clock.specs.Reports.{ClockHistory, all_bidders, members_of}
use Rattle.clock.specs.Standing.{prices_after}
use Rattle.clock.specs.Judging.{IsLegal}
use Rattle.clock.specs.Explained.{Explains, IsTrueReport}
use Rattle.settlement.specs.Clocks.{AreClocksOf}
use Rattle.settlement.specs.Efficient.{ExplainsAll}
use Rattle.settlement.specs.Incentives.{ExplainsBut, IsTrueUnlessOf, AreOthersTrue, IsAmongTruthful}
use Rattle.settlement.proofs.ButOne.{apart}
use Rattle.settlement.proofs.OwnClock.{all-members}
use Rattle.settlement.proofs.Efficient.{from-one}

-- what holds of all by the one holds of all but i by the other
all-but : (P Q : ℕ → Type 0) (i : ℕ) → ((j : ℕ) → 1 ≤ j → j ≢ i → P j → Q j) → (js : List ℕ) → AllByRecursion (λ j. 1 ≤ j) js → AllByRecursion P js → AllByRecursion Q (without i js)
all-but P Q i f [] from all = tt
all-but P Q i f (j ∷ js) from all = by (nat_eq j i) refl (all-but P Q i f js from.1 all.1)
  where
    by : (b : Bool) → nat_eq j i ≡ b → AllByRecursion Q (without i js) → AllByRecursion Q (cond (not b) (j ∷ without i js) (without i js))
    by true e rest = rest
    by false e rest = (f j from.0 (apart j i e) all.0, rest)

pub but-of : (i : ℕ) (u v : ℕ → List ℕ → ℤ) → ((j : ℕ) → 1 ≤ j → j ≢ i → v j ≡ u j) → (c : ClockHistory) → IsLegal c → Explains v c → ExplainsBut i u c
but-of i u v same c legal h =
    let from = all-without (λ j. 1 ≤ j) c.number (all_bidders c.terms.bidders) (from-one 1 c.terms.bidders (omega arith)) in
    record {
      valuations = all-but (λ j. IsValuation c.terms.goods (v j)) (λ j. IsValuation c.terms.goods (u j)) i (λ j low other is. subst (IsValuation c.terms.goods) (same j low other) is) (members_of c) from h.valuations;
      substitutes = all-but (λ j. IsStrongSubstitutes c.terms.goods (v j)) (λ j. IsStrongSubstitutes c.terms.goods (u j)) i (λ j low other is. subst (IsStrongSubstitutes c.terms.goods) (same j low other) is) (members_of c) from h.substitutes;
      reports = each c.reports (all-members (record c { reports = [] }) c.reports legal.takes) h.reports;
    }
  where
    each : (reports : List Report) → AllByRecursion (λ (r : Report). (1 ≤ r.bidder) × (r.bidder ≢ c.number)) reports → AllByRecursion (IsTrueReport v c) reports → AllByRecursion (IsTrueUnlessOf i u c) reports
    each [] from all = tt
    each (r ∷ reports) from all = ((λ other steps up round. all.0 steps up round ∙ ap (λ w. demand c.terms.goods w (prices_after c steps)) (same r.bidder from.0.0 other)), each reports from.1 all.1)

others-of : (i : ℕ) (u v : ℕ → List ℕ → ℤ) → ((j : ℕ) → 1 ≤ j → j ≢ i → v j ≡ u j) → (clocks : List ClockHistory) → AllByRecursion IsLegal clocks → AllByRecursion (Explains v) clocks → AllByRecursion (AreOthersTrue i u) clocks
others-of i u v same [] legal all = tt
others-of i u v same (c ∷ clocks) legal all = ((λ one. but-of i u v same c legal.0 all.0), others-of i u v same clocks legal.1 all.1)

pub misreports : (i : ℕ) (u v : ℕ → List ℕ → ℤ) (terms : Terms) (clocks : List ClockHistory) → 1 ≤ i → i ≤ terms.bidders → ((j : ℕ) → 1 ≤ j → j ≢ i → v j ≡ u j) → AreClocksOf terms clocks
    → AllByRecursion IsLegal clocks → ExplainsAll v clocks → IsAmongTruthful i u terms clocks
misreports i u v terms clocks from last same are legal explained =
    record { from_one = from; to_last = last; clocks_are = are; legal = legal; others = others-of i u v same clocks legal explained }
