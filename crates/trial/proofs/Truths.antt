-- The values of a trial explain its clocks; and trials of values, and of the same values but for one bidder.
use Rattle.std.proofs.Common.{◌≡◌, ◌≢◌, ◌≤◌, ℕ, ◌-◌, List, [], ◌∷◌, ◌∙◌, ap, arith}
use Rattle.std.specs.Prelude.{ℤ, pos, ◌≤ℤ◌}
use Rattle.std.specs.List.{AllByRecursion}
use Rattle.std.proofs.lemmas.List.{get_or-set_other}
use Rattle.lot_base.specs.declared.auction_terms.Terms.{Terms}
use Rattle.clock.specs.Reports.{ClockHistory}
use Rattle.clock.specs.Judging.{IsLegal}
use Rattle.settlement.specs.Settling.{IsOutcomeOf}
use Rattle.settlement.specs.Efficient.{ExplainsAll}
use Rattle.settlement.specs.declared.outcome.Settlement.{Settlement}
use Rattle.settlement.specs.declared.outcome.Settlement.TheVariants.{Settled, Open, Halted, NoAward}
use Rattle.valuation.specs.Values.{valuation_of}
use Rattle.trial.specs.Bidding.{bidders_of}
use Rattle.trial.specs.Trials.{IsTrialHistory, IsTried, IsSettledWell, AreValuationsOf}
use Rattle.trial.proofs.Whole.{explains-each}
use Rattle.trial.proofs.Bidders.{known}
use Rattle.settlement.specs.Incentives.{IsAmongTruthful, TellsTruth, gain_by}
use Rattle.settlement.proofs.TruthPays.{all-among, gain-best, gain-true}
use Rattle.settlement.proofs.Misreports.{misreports}
use Rattle.trial.specs.Misreports.{IsMisreport}

legal-each : (u : ℕ → List ℕ → ℤ) (clocks : List ClockHistory) → AllByRecursion (IsTrialHistory u) clocks → AllByRecursion IsLegal clocks
legal-each u [] trials = tt
legal-each u (h ∷ clocks) trials = (trials.0.legal, legal-each u clocks trials.1)

-- what a trial of values gives: its clocks are legal, and the values explain them
pub record IsKnown (terms : Terms) (u : ℕ → List ℕ → ℤ) (clocks : List ClockHistory) : Type 0 where
  pub legal : AllByRecursion IsLegal clocks
  pub explained : ExplainsAll u clocks

pub tried-known : (terms : Terms) (values : List (List ℕ)) (clocks : List ClockHistory) (s : Settlement) → AreValuationsOf terms values → IsTried terms (bidders_of terms.goods values) clocks s → IsKnown terms (bidders_of terms.goods values) clocks
tried-known terms values clocks s are h = record {
  legal = legal-each (bidders_of terms.goods values) clocks h.trial.each;
  explained = explains-each (bidders_of terms.goods values) terms clocks (known terms values are h.substitutes) h.trial.clocks_are.terms_are h.trial.each;
}

others-same : (i : ℕ) (supply : List ℕ) (values told : List (List ℕ)) → 1 ≤ i → IsMisreport i values told → (j : ℕ) → 1 ≤ j → j ≢ i → bidders_of supply told j ≡ bidders_of supply values j
others-same i supply values told from h j low other =
    let apart : j - 1 ≢ i - 1 = λ e. other (omega arith) in
    ap (λ vs. bidders_of supply vs j) h.1 ∙ ap (valuation_of supply) (get_or-set_other values (i - 1) (j - 1) h.0 [] apart)

pub best : (i : ℕ) (terms : Terms) (values told : List (List ℕ)) (cs ds : List ClockHistory) (s t : Settlement) → 1 ≤ i → i ≤ terms.bidders → AreValuationsOf terms values → AreValuationsOf terms told → IsMisreport i values told
    → IsTried terms (bidders_of terms.goods values) cs s → IsTried terms (bidders_of terms.goods told) ds t → gain_by (bidders_of terms.goods values) terms t i ≤ℤ gain_by (bidders_of terms.goods values) terms s i
best i terms values told cs ds s t from last are say mis h k =
    let u = bidders_of terms.goods values in
    let v = bidders_of terms.goods told in
    let a = tried-known terms values cs s are h in
    let b = tried-known terms told ds t say k in
    let among = all-among i u terms cs from last h.trial.clocks_are a.legal a.explained in
    let lied = misreports i u v terms ds from last (others-same i terms.goods values told from mis) k.trial.clocks_are b.legal b.explained in
    by s h.outcome h.well among lied
  where
    by : (s : Settlement) → IsOutcomeOf cs s → IsSettledWell (bidders_of terms.goods values) terms s → IsAmongTruthful i (bidders_of terms.goods values) terms cs × TellsTruth (bidders_of terms.goods values) cs
        → IsAmongTruthful i (bidders_of terms.goods values) terms ds → gain_by (bidders_of terms.goods values) terms t i ≤ℤ gain_by (bidders_of terms.goods values) terms s i
    by (Settled o) is well among lied = gain-best i (bidders_of terms.goods values) terms cs ds o t among.0 among.1 is lied k.outcome
    by (Open clock round missing) is well among lied = absurd well
    by (Halted clock good) is well among lied = absurd well
    by (NoAward clock) is well among lied = absurd well

pub no-loss : (i : ℕ) (terms : Terms) (values : List (List ℕ)) (cs : List ClockHistory) (s : Settlement) → 1 ≤ i → i ≤ terms.bidders → AreValuationsOf terms values → IsTried terms (bidders_of terms.goods values) cs s
    → pos 0 ≤ℤ gain_by (bidders_of terms.goods values) terms s i
no-loss i terms values cs s from last are h =
    let u = bidders_of terms.goods values in
    let a = tried-known terms values cs s are h in
    by s h.outcome h.well (all-among i u terms cs from last h.trial.clocks_are a.legal a.explained)
  where
    by : (s : Settlement) → IsOutcomeOf cs s → IsSettledWell (bidders_of terms.goods values) terms s → IsAmongTruthful i (bidders_of terms.goods values) terms cs × TellsTruth (bidders_of terms.goods values) cs
        → pos 0 ≤ℤ gain_by (bidders_of terms.goods values) terms s i
    by (Settled o) is well among = gain-true i (bidders_of terms.goods values) terms cs o among.0 among.1 is
    by (Open clock round missing) is well among = absurd well
    by (Halted clock good) is well among = absurd well
    by (NoAward clock) is well among = absurd well
