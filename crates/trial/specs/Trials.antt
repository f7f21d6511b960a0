-- A trial of an auction: each bidder has a valuation and reports what it demands by it in every round, until no clock is running.
-- So the histories of the clocks are given by the terms and the valuations alone. The clock is that of Ausubel, "An Efficient
-- Dynamic Auction for Heterogeneous Commodities", American Economic Review 96(3), 2006, told by sincere bidders.
use Rattle.std.specs.Prelude.{◌≡◌, ◌≢◌, ℕ, zero, suc, List, [], ◌++◌, map, length, ℤ}
use Rattle.std.specs.List.{AllByRecursion}
use Rattle.lot_base.specs.Economy.{demand, AllStrongSubstitutes}
use Rattle.lot_base.specs.declared.auction_terms.Terms.{Terms}
use Rattle.lot_base.specs.declared.phases.Phase.TheVariants.{Running}
use Rattle.demand_set.specs.declared.reports.Report.{Report}
use Rattle.clock.specs.Reports.{ClockHistory, members, all_bidders}
use Rattle.clock.specs.Standing.{prices_after, last_round, phase_of}
use Rattle.clock.specs.Judging.{IsLegal}
use Rattle.settlement.specs.Clocks.{AreClocksOf}
use Rattle.valuation.specs.Values.{IsTable}
use Rattle.settlement.specs.Settling.{IsOutcomeOf}
use Rattle.settlement.specs.Shapes.{IsWholeSettlement}
use Rattle.settlement.specs.Efficient.{IsEfficient}
use Rattle.settlement.specs.declared.outcome.Settlement.{Settlement}
use Rattle.settlement.specs.declared.outcome.Settlement.TheVariants.{Settled, Open, Halted, NoAward}

-- the true report of a bidder in a round at these prices, and those of several bidders in order
abbrev pub true_report : Terms → (ℕ → List ℕ → ℤ) → ℕ → List ℕ → ℕ → Report
true_report terms u round prices j = record { bidder = j; round = round; demand = demand terms.goods (u j) prices }

abbrev pub round_reports : Terms → (ℕ → List ℕ → ℤ) → ℕ → List ℕ → List ℕ → List Report
round_reports terms u round prices bidders = map (true_report terms u round prices) bidders

-- the reports of the first so many rounds of a clock: each round is reported at the prices to which those before it lead
unfoldable pub trial_reports : Terms → ℕ → (ℕ → List ℕ → ℤ) → ℕ → List Report
trial_reports terms number u zero = []
trial_reports terms number u (suc n) =
    let before = trial_reports terms number u n in
    before ++ round_reports terms u (suc n) (prices_after (record { terms = terms; number = number; reports = before }) n) (members terms.bidders number)

-- the whole history of a clock in a trial
pub record IsTrialHistory (u : ℕ → List ℕ → ℤ) (h : ClockHistory) : Type 0 where
  pub reports_are : h.reports ≡ trial_reports h.terms h.number u (last_round h)
  pub over : phase_of h ≢ Running
  pub legal : IsLegal h

-- the histories of all clocks in a trial
pub record IsTrial (terms : Terms) (u : ℕ → List ℕ → ℤ) (clocks : List ClockHistory) : Type 0 where
  pub clocks_are : AreClocksOf terms clocks
  pub each : AllByRecursion (IsTrialHistory u) clocks

-- the settlement is an outcome, an equilibrium at the least prices with the payments of Vickrey, Clarke and Groves
abbrev pub IsSettledWell : (ℕ → List ℕ → ℤ) → Terms → Settlement → Type 0
IsSettledWell u terms (Settled outcome) = IsEfficient u terms outcome
IsSettledWell u terms (Open clock round missing) = ⊥
IsSettledWell u terms (Halted clock good) = ⊥
IsSettledWell u terms (NoAward clock) = ⊥

-- what a trial of valuations with strong substitutes gives: the clocks, what they settle, and that it is an outcome
pub record IsTried (terms : Terms) (u : ℕ → List ℕ → ℤ) (clocks : List ClockHistory) (settlement : Settlement) : Type 0 where
  pub trial : IsTrial terms u clocks
  pub outcome : IsOutcomeOf clocks settlement
  pub well : IsSettledWell u terms settlement
  pub whole : IsWholeSettlement settlement
  pub substitutes : AllStrongSubstitutes terms.goods u (all_bidders terms.bidders)

-- a valuation for each bidder, with a value below the ceiling for each bundle
pub record AreValuationsOf (terms : Terms) (valuations : List (List ℕ)) : Type 0 where
  pub count : length valuations ≡ terms.bidders
  pub tables : AllByRecursion (IsTable terms.goods terms.ceiling) valuations
