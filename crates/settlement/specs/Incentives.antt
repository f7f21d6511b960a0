-- What a bidder may trust: a bidder among truthful others. The others' reports are their demand sets; what the bidder itself reports is
-- any. Sources: Vickrey, "Counterspeculation, Auctions, and Competitive Sealed Tenders", Journal of Finance 16, 1961; Clarke, "Multipart
-- Pricing of Public Goods", Public Choice 11, 1971; Groves, "Incentives in Teams", Econometrica 41, 1973; Ausubel, "An Efficient Dynamic
-- Auction for Heterogeneous Commodities", American Economic Review 96(3), 2006, on sincere bidding.
use Rattle.std.specs.Prelude.{◌≡◌, ◌≢◌, ◌⊎◌, ◌≤◌, ◌≤ℤ◌, ℕ, if◌then◌else◌, ◌==◌, List, [], ◌∷◌, ℤ, pos, ◌-ℤ◌}
use Rattle.std.specs.List.{AllByRecursion}
use Rattle.lot_base.specs.Goods.{cost, zeros}
use Rattle.lot_base.specs.Economy.{without, AllStrongSubstitutes, AllValuations}
use Rattle.lot_base.specs.Equilibrium.{IsVcgPayment}
use Rattle.lot_base.specs.declared.auction_terms.Terms.{Terms}
use Rattle.demand_set.specs.declared.reports.Report.{Report}
use Rattle.clock.specs.Reports.{ClockHistory, members_of, all_bidders}
use Rattle.clock.specs.Judging.{IsLegal}
use Rattle.clock.specs.Explained.{Explains, IsTrueReport}
use Rattle.settlement.specs.Clocks.{AreClocksOf}
use Rattle.settlement.specs.Efficient.{award_of}
use Rattle.settlement.specs.declared.outcome.AwardRow.{AwardRow}
use Rattle.settlement.specs.declared.outcome.Outcome.{Outcome}
use Rattle.settlement.specs.declared.outcome.Settlement.{Settlement}
use Rattle.settlement.specs.declared.outcome.Settlement.TheVariants.{Settled, Open, Halted, NoAward}

-- the report is of bidder i, or it is true
abbrev pub IsTrueUnlessOf : ℕ → (ℕ → List ℕ → ℤ) → ClockHistory → Report → Type 0
IsTrueUnlessOf i u c r = r.bidder ≢ i → IsTrueReport u c r

-- For each member but i, u j is a valuation with strong substitutes, and each report of it is true. Nothing is asked of bidder i.
pub record ExplainsBut (i : ℕ) (u : ℕ → List ℕ → ℤ) (c : ClockHistory) : Type 0 where
  pub valuations : AllValuations c.terms.goods u (without i (members_of c))
  pub substitutes : AllStrongSubstitutes c.terms.goods u (without i (members_of c))
  pub reports : AllByRecursion (IsTrueUnlessOf i u c) c.reports

-- On the clock of all, and on the clock without i, of which the others are the members, the others are truthful. Nothing is asked of the
-- other clocks.
abbrev pub AreOthersTrue : ℕ → (ℕ → List ℕ → ℤ) → ClockHistory → Type 0
AreOthersTrue i u c = (c.number ≡ 0) ⊎ (c.number ≡ i) → ExplainsBut i u c

-- the legal clocks of an auction on these terms, where all bidders but i are truthful
pub record IsAmongTruthful (i : ℕ) (u : ℕ → List ℕ → ℤ) (terms : Terms) (clocks : List ClockHistory) : Type 0 where
  pub from_one : 1 ≤ i
  pub to_last : i ≤ terms.bidders
  pub clocks_are : AreClocksOf terms clocks
  pub legal : AllByRecursion IsLegal clocks
  pub others : AllByRecursion (AreOthersTrue i u) clocks

-- what one of these bidders pays by these rows, which stand in the order of the bidders
abbrev pub pays_in : List ℕ → List AwardRow → ℕ → ℤ
pays_in [] rows i = pos 0
pays_in (j ∷ js) [] i = pos 0
pays_in (j ∷ js) (row ∷ rows) i = if j == i then row.pays else pays_in js rows i

abbrev pub payment_of : Terms → Outcome → ℕ → ℤ
payment_of terms outcome i = pays_in (all_bidders terms.bidders) outcome.rows i

-- what a bidder gains by an outcome: the worth of its award to it, less its payment
abbrev pub gain_of : (ℕ → List ℕ → ℤ) → Terms → Outcome → ℕ → ℤ
gain_of u terms outcome i = u i (award_of terms outcome i) -ℤ payment_of terms outcome i

-- what it gains by what clocks settle: nothing where there is no outcome
abbrev pub gain_by : (ℕ → List ℕ → ℤ) → Terms → Settlement → ℕ → ℤ
gain_by u terms (Settled outcome) i = gain_of u terms outcome i
gain_by u terms (Open clock round missing) i = pos 0
gain_by u terms (Halted clock good) i = pos 0
gain_by u terms (NoAward clock) i = pos 0

-- and on the clock of all bidder i is truthful too
abbrev pub TellsTruth : (ℕ → List ℕ → ℤ) → List ClockHistory → Type 0
TellsTruth u clocks = AllByRecursion (λ (c : ClockHistory). c.number ≡ 0 → Explains u c) clocks

-- What a bidder is charged: what Vickrey, Clarke and Groves ask at its award, which is at least the reserve of the award and at most its
-- price, and nothing for nothing.
pub record IsCharged (i : ℕ) (u : ℕ → List ℕ → ℤ) (terms : Terms) (outcome : Outcome) : Type 0 where
  pub payment : IsVcgPayment terms.goods terms.opening u (all_bidders terms.bidders) (award_of terms outcome) i (payment_of terms outcome i)
  pub reserve : pos (cost terms.opening (award_of terms outcome i)) ≤ℤ payment_of terms outcome i
  pub price : payment_of terms outcome i ≤ℤ pos (cost outcome.prices (award_of terms outcome i))
  pub nothing : award_of terms outcome i ≡ zeros terms.goods → payment_of terms outcome i ≡ pos 0

-- what it is charged by what clocks settle: where there is no outcome nobody is charged
abbrev pub IsChargedBy : ℕ → (ℕ → List ℕ → ℤ) → Terms → Settlement → Type 0
IsChargedBy i u terms (Settled outcome) = IsCharged i u terms outcome
IsChargedBy i u terms (Open clock round missing) = Unit {0}
IsChargedBy i u terms (Halted clock good) = Unit {0}
IsChargedBy i u terms (NoAward clock) = Unit {0}
