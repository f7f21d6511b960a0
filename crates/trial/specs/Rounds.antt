-- A clock of a trial between two rounds and in one.
use Rattle.std.specs.Prelude.{◌≡◌, ◌≢◌, ◌<◌, ◌≤◌, ◌+◌, ◌^◌, ℕ, ◌++◌, List, [], length, slice_index_or, ℤ, Option, IfSome}
use Rattle.std.specs.List.{AllByRecursion}
use Rattle.lot_base.specs.declared.auction_terms.Terms.{Terms}
use Rattle.lot_base.specs.declared.phases.Phase.TheVariants.{Running}
use Rattle.lot_base.specs.Economy.{demand}
use Rattle.lot_base.specs.Goods.{raised}
use Rattle.lot_base.specs.Steps.{step_set}
use Rattle.valuation.specs.Carried.{IsColumn}
use Rattle.valuation.specs.declared.columns.Column.{Column}
use Rattle.clock.specs.Reports.{ClockHistory, members, members_of, demands_in}
use Rattle.clock.specs.Standing.{prices_of, steps_of, last_round, phase_of}
use Rattle.trial.specs.Following.{Followed, Follows, IsReady, IsOn, IsStepped, IsSteady}
use Rattle.trial.specs.Trials.{round_reports, trial_reports, IsTrialHistory}

-- all rounds before the present one were reported, and nothing of the present one
abbrev pub IsFresh : (ℕ → List ℕ → ℤ) → ClockHistory → Type 0
IsFresh u c = c.reports ≡ trial_reports c.terms c.number u (steps_of c)

-- the history with the reports of the present round by its members with numbers up to this one, and by all of them
abbrev pub told_up_to : (ℕ → List ℕ → ℤ) → ℕ → ClockHistory → ClockHistory
told_up_to u last c = record c { reports = c.reports ++ round_reports c.terms u (last_round c) (prices_of c) (members last c.number) }

abbrev pub told : (ℕ → List ℕ → ℤ) → ClockHistory → ClockHistory
told u c = told_up_to u c.terms.bidders c

-- where a round that was told has led: it was the last one, or the prices rose
pub record IsTurned (before after : ClockHistory) : Type 0 where
  pub stays : phase_of after ≢ Running → steps_of after ≡ steps_of before
  pub goes : phase_of after ≡ Running → steps_of after ≡ steps_of before + 1

-- the round before was told at these prices, and they rose by one on the step set of what was told
pub record IsLed (u : ℕ → List ℕ → ℤ) (before : List ℕ) (c : ClockHistory) : Type 0 where
  pub some_step : 1 ≤ steps_of c
  pub some_member : members_of c ≢ []
  pub fresh : IsFresh u c
  pub each_good : length before ≡ length c.terms.goods
  pub demands : AllByRecursion (λ j. demands_in c.reports (steps_of c) j ≡ demand c.terms.goods (u j) before) (members_of c)
  pub rose : prices_of c ≡ raised before (step_set c.terms.goods (λ j. demand c.terms.goods (u j) before) (members_of c))

-- a bidder is followed at these prices
pub record IsFollowed (goods : List ℕ) (v : List ℕ → ℤ) (prices : List ℕ) (f : Followed) : Type 0 where
  pub over : f.supply ≡ goods
  pub follows : Follows f v prices

-- the one at a place of a list
abbrev pub follower_at : List Followed → ℕ → Followed
follower_at followers place = slice_index_or followers place (record { supply = []; worth = []; set = 0; owed = 0 })

-- all bidders but the one whom the clock is without, from bidder 1 on
pub record AreFollowed (terms : Terms) (u : ℕ → List ℕ → ℤ) (number : ℕ) (prices : List ℕ) (followers : List Followed) : Type 0 where
  pub count : length followers ≡ terms.bidders
  pub each : (place : ℕ) → place < terms.bidders → place + 1 ≢ number → IsFollowed terms.goods (u (place + 1)) prices (follower_at followers place)

-- none of them owes steps on another set
pub record AreReady (number set : ℕ) (old new : List Followed) : Type 0 where
  pub count : length new ≡ length old
  pub each : (place : ℕ) → place < length old → place + 1 ≢ number → IsReady set (follower_at old place) (follower_at new place)

-- each of them is for steps on the set
pub record AreOn (number set : ℕ) (old new : List Followed) : Type 0 where
  pub count : length new ≡ length old
  pub each : (place : ℕ) → place < length old → place + 1 ≢ number → IsOn set (follower_at old place) (follower_at new place)

-- each of them stays for so many steps on the set
pub record AreSteady (number set steps : ℕ) (followers : List Followed) : Type 0 where
  pub each : (place n : ℕ) → place < length followers → place + 1 ≢ number → n ≤ steps → IsSteady set n (follower_at followers place)

-- each of them is so many steps further
pub record AreStepped (number times : ℕ) (old new : List Followed) : Type 0 where
  pub count : length new ≡ length old
  pub each : (place : ℕ) → place < length old → place + 1 ≢ number → IsStepped times (follower_at old place) (follower_at new place)

-- the column of each set of the goods, at the number of the set
pub record AreColumns (goods : List ℕ) (columns : List (Option Column)) : Type 0 where
  pub count : length columns ≡ 2 ^ length goods
  pub each : (set : ℕ) (other : Option Column) → set < length columns → IfSome (slice_index_or columns set other) (λ c. IsColumn goods set c.units.items)

-- the history may have more rounds, all told
pub record HasGone (u : ℕ → List ℕ → ℤ) (before after : ClockHistory) : Type 0 where
  pub terms_stay : after.terms ≡ before.terms
  pub number_stays : after.number ≡ before.number
  pub fresh : IsFresh u after
  pub steps : steps_of before ≤ steps_of after

-- the history is the whole one of the clock of this number
pub record IsTrialOf (terms : Terms) (u : ℕ → List ℕ → ℤ) (number : ℕ) (h : ClockHistory) : Type 0 where
  pub terms_are : h.terms ≡ terms
  pub number_is : h.number ≡ number
  pub whole : IsTrialHistory u h
