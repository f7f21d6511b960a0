-- What a two-way clock keeps beside its reports.
use Rattle.std.specs.Prelude.{◌≡◌, ◌≤◌, ◌<◌, ℕ, zero, suc, ◌+◌, Bool, true, false, List, length, take, drop, ◌-ℤ◌}
use Rattle.std.specs.List.{AllByRecursion}
use Rattle.lot_base.specs.Demands.{IsDemand}
use Rattle.lot_base.specs.Economy.{without}
use Rattle.demand_set.specs.declared.reports.Report.{Report}
use Rattle.credit_book.specs.Account.{sum_without as kept_without}
use Rattle.two_way.specs.Histories.{TwoWayHistory, IsStart, members_in}
use Rattle.two_way.specs.Standing.{is_down, prices_after, leads_on, phase_after, steps_of, ups_after, downs_after, sum_after}
use Rattle.two_way.specs.declared.next_step.Standing.{Standing}

-- whether the direction was down in a round before
abbrev pub was_down : TwoWayHistory → ℕ → Bool
was_down h zero = false
was_down h (suc n) = is_down h n

-- The clock has come so far: each round before has led on, and all is as these rounds have made it.
pub record HasCome (h : TwoWayHistory) (s : Standing) : Type 0 where
  -- each round before has led on
  pub path : (m : ℕ) → m < s.steps → leads_on h m ≡ true
  -- the direction and the prices are those of the round
  pub was_is : s.was_down ≡ was_down h s.steps
  pub prices_are : s.prices ≡ prices_after h s.steps
  -- the accounts are those of the steps up and down
  pub ups_are : s.up.steps ≡ ups_after h s.steps
  pub downs_are : s.down.steps ≡ downs_after h s.steps
  pub sums_are : (b : ℕ) → kept_without s.up b -ℤ kept_without s.down b ≡ sum_after h (without b (members_in h)) s.steps

-- It stands there: the present round does not lead on.
pub record StandsAt (h : TwoWayHistory) (s : Standing) : Type 0 where
  -- it has come so far
  pub come : HasCome h s
  -- and no further, and its phase is that of the round
  pub stops : leads_on h s.steps ≡ false
  pub phase_is : s.phase ≡ phase_after h s.steps

-- What the type keeps, the reports of the last or current round beginning at a place.
pub record IsKept (h : TwoWayHistory) (begin : ℕ) (s : Standing) : Type 0 where
  -- the start and the number are those of a clock of these terms
  pub start : IsStart h.terms h.start
  pub number : h.number ≤ h.terms.bidders
  -- each demand is one of the supply
  pub fit : AllByRecursion (λ (r : Report). IsDemand h.terms.goods r.demand) h.reports
  -- the clock stands so
  pub stands : StandsAt h s
  -- so many steps, at most 60,000 either way
  pub steps_are : s.steps ≡ steps_of h
  pub few : s.steps ≤ 120000
  -- up to the place the reports are of earlier rounds, and from there on of the last or current one
  pub begins : begin ≤ length h.reports
  pub past : AllByRecursion (λ (r : Report). r.round ≤ s.steps) (take begin h.reports)
  pub present : AllByRecursion (λ (r : Report). r.round ≡ s.steps + 1) (drop begin h.reports)

-- What is kept of the past: of which supply, and how many reports are of the rounds before the one before the last or current one.
pub record KeepsPast (h : TwoWayHistory) (goods : List ℕ) (last begin : ℕ) (s : Standing) : Type 0 where
  pub goods_are : goods ≡ h.terms.goods
  pub before : last ≤ begin
  pub earlier : AllByRecursion (λ (r : Report). r.round < s.steps) (take last h.reports)
