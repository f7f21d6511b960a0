-- What an outcome is where valuations explain the reports of all clocks: an equilibrium of the bidders' economy, with the
-- payments of Vickrey, Clarke and Groves.
use Rattle.std.specs.Prelude.{ℕ, ◌≤◌, ◌+◌, List, map, ℤ}
use Rattle.std.specs.List.{AllByRecursion, AllZip, range_with_len}
use Rattle.lot_base.specs.Goods.{AtMost}
use Rattle.lot_base.specs.Economy.{AllBelowCeiling, IsLeastMinimiser, lyapunov}
use Rattle.lot_base.specs.Equilibrium.{IsWalrasian, IsLeastWalrasian, IsWelfare, IsVcgPayment, worth}
use Rattle.lot_base.specs.declared.auction_terms.Terms.{Terms}
use Rattle.lyapunov.specs.Bidders.{bundle_of}
use Rattle.lyapunov.specs.Paths.{highest_rise}
use Rattle.clock.specs.Reports.{ClockHistory, all_bidders, members}
use Rattle.clock.specs.Explained.{Explains}
use Rattle.settlement.specs.declared.outcome.AwardRow.{AwardRow}
use Rattle.settlement.specs.declared.outcome.ClockRow.{ClockRow}
use Rattle.settlement.specs.declared.outcome.Outcome.{Outcome}
use Rattle.settlement.specs.declared.outcome.Settlement.{Settlement}
use Rattle.settlement.specs.declared.outcome.Settlement.TheVariants.{Settled, Open, Halted, NoAward}

-- one valuation for each bidder explains the reports of all clocks
abbrev pub ExplainsAll : (ℕ → List ℕ → ℤ) → List ClockHistory → Type 0
ExplainsAll u clocks = AllByRecursion (Explains u) clocks

-- what the outcome awards each bidder
abbrev pub award_of : Terms → Outcome → ℕ → List ℕ
award_of terms outcome = bundle_of (all_bidders terms.bidders) (map (λ (row : AwardRow). row.award) outcome.rows)

-- the row has the payment of Vickrey, Clarke and Groves at the awards
abbrev pub PaysVcg : (ℕ → List ℕ → ℤ) → Terms → (ℕ → List ℕ) → ℕ → AwardRow → Type 0
PaysVcg u terms awards bidder row = IsVcgPayment terms.goods terms.opening u (all_bidders terms.bidders) awards bidder row.pays

-- no allocation among the members of a clock is worth more than its choice
abbrev pub IsBestChoice : (ℕ → List ℕ → ℤ) → Terms → ℕ → ClockRow → Type 0
IsBestChoice u terms number row =
    let js = members terms.bidders number in
    IsWelfare terms.goods terms.opening u js (worth terms.goods terms.opening u js (bundle_of js row.choices))

-- the prices of a clock are the least from the opening on that minimise the Lyapunov function of its members
abbrev pub HasLeastPrices : (ℕ → List ℕ → ℤ) → Terms → ℕ → ClockRow → Type 0
HasLeastPrices u terms number row = IsLeastMinimiser terms.opening (lyapunov terms.goods u (members terms.bidders number)) row.prices

-- The prices of a clock are at most those of the outcome on every good, and it has made no more steps than the most that one of these
-- is above its opening, which is as many as the clock of all has made: without a bidder prices are no higher.
abbrev pub IsNoHigher : Terms → Outcome → ClockRow → Type 0
IsNoHigher terms outcome row = AtMost row.prices outcome.prices × (row.steps ≤ highest_rise terms.opening outcome.prices)

-- no allocation among all bidders is worth more than the awards
abbrev pub HasBestAwards : (ℕ → List ℕ → ℤ) → Terms → Outcome → Type 0
HasBestAwards u terms outcome =
    let js = all_bidders terms.bidders in
    IsWelfare terms.goods terms.opening u js (worth terms.goods terms.opening u js (award_of terms outcome))

pub record IsEfficient (u : ℕ → List ℕ → ℤ) (terms : Terms) (outcome : Outcome) : Type 0 where
  pub equilibrium : IsWalrasian terms.goods terms.opening u (all_bidders terms.bidders) outcome.prices (award_of terms outcome)
  pub welfare : HasBestAwards u terms outcome
  pub least : IsLeastWalrasian terms.goods terms.opening u (all_bidders terms.bidders) outcome.prices
  pub payments : AllZip (PaysVcg u terms (award_of terms outcome)) (all_bidders terms.bidders) outcome.rows
  pub no_higher : AllByRecursion (IsNoHigher terms outcome) outcome.clocks
  pub choices : AllZip (IsBestChoice u terms) (range_with_len 0 (terms.bidders + 1)) outcome.clocks
  pub least_prices : AllZip (HasLeastPrices u terms) (range_with_len 0 (terms.bidders + 1)) outcome.clocks

-- Where there is an outcome it is efficient. Some choice of each clock clears, and no clock halts whose ceiling is above all values.
abbrev pub IsEfficientSettlement : (ℕ → List ℕ → ℤ) → Terms → Settlement → Type 0
IsEfficientSettlement u terms (Settled outcome) = IsEfficient u terms outcome
IsEfficientSettlement u terms (Open clock round missing) = Unit {0}
IsEfficientSettlement u terms (Halted clock good) = AllBelowCeiling terms.goods u terms.ceiling (all_bidders terms.bidders) → ⊥
IsEfficientSettlement u terms (NoAward clock) = ⊥
