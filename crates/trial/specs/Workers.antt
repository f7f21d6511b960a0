-- How workers share a trial: a piece of the work is a clock, run to its end, or the verdict on a bidder. Which worker did a piece is not
-- said.
use Rattle.std.specs.Prelude.{◌≡◌, ◌≤◌, ◌<◌, ◌+◌, ℕ, List, length, ℤ, slice_index_or, Option, IfSome, Vec}
use Rattle.std.specs.Global.{Global}
use Rattle.std.specs.List.{AllByRecursion}
use Rattle.lot_base.specs.declared.auction_terms.Terms.{Terms}
use Rattle.exchange_check.specs.Verdicts.{IsRight}
use Rattle.exchange_check.specs.declared.verdict.Verdict.{Verdict}
use Rattle.settlement.specs.Found.{IsFoundOf}
use Rattle.trial.specs.Rounds.{IsTrialOf}
use Rattle.trial.specs.declared.workers.Piece.{Piece}
use Rattle.trial.specs.declared.workers.Piece.TheVariants.{Clock, Bidder}
use Rattle.trial.specs.declared.workers.Placed.{Placed}
use Rattle.trial.specs.declared.workers.Told.{Told}

-- the clock of this number, run to its end, and its row
pub record IsToldOf (terms : Terms) (u : ℕ → List ℕ → ℤ) (number : ℕ) (t : Told) : Type 0 where
  pub clock_is : IsTrialOf terms u number t.clock.history
  pub row_is : IsFoundOf t.clock.history t.row

-- a bidder of the auction, and the verdict on it
pub record IsVerdictOn (terms : Terms) (u : ℕ → List ℕ → ℤ) (bidder : ℕ) (verdict : Verdict) : Type 0 where
  pub from_one : 1 ≤ bidder
  pub to_last : bidder ≤ terms.bidders
  pub right : IsRight terms.goods (u bidder) verdict

abbrev pub IsPieceOf : Terms → (ℕ → List ℕ → ℤ) → Piece → Type 0
IsPieceOf terms u (Clock number told) = (number ≤ terms.bidders) × IsToldOf terms u number told
IsPieceOf terms u (Bidder bidder verdict) = IsVerdictOn terms u bidder verdict

-- what the workers did
abbrev pub AreParts : Terms → (ℕ → List ℕ → ℤ) → List (Vec Piece Global) → Type 0
AreParts terms u parts = (k : ℕ) (other : Vec Piece Global) → k < length parts → AllByRecursion (IsPieceOf terms u) (slice_index_or parts k other).items

-- a place for each clock, and what stands there is told of it
pub record AreTold (terms : Terms) (u : ℕ → List ℕ → ℤ) (told : List (Option Told)) : Type 0 where
  pub count : length told ≡ terms.bidders + 1
  pub each : (number : ℕ) (other : Option Told) → number < length told → IfSome (slice_index_or told number other) (IsToldOf terms u number)

-- a place for each bidder, and the verdict that stands there is right
pub record AreRight (terms : Terms) (u : ℕ → List ℕ → ℤ) (verdicts : List (Option Verdict)) : Type 0 where
  pub count : length verdicts ≡ terms.bidders
  pub each : (place : ℕ) (other : Option Verdict) → place < length verdicts → IfSome (slice_index_or verdicts place other) (IsRight terms.goods (u (place + 1)))

pub record ArePlaced (terms : Terms) (u : ℕ → List ℕ → ℤ) (placed : Placed) : Type 0 where
  pub told : AreTold terms u placed.told.items
  pub verdicts : AreRight terms u placed.verdicts.items
