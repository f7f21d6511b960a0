-- How observations are kept: those of one demand after another together, and of these a line wherever the prices rise by the
-- same step from one to the next.
use Rattle.std.specs.Prelude.{◌≡◌, ◌≤◌, ℕ, ◌+◌, ◌-◌, ◌==◌, ◌||◌, Bool, List, [], ◌∷◌, ◌++◌, length, if◌then◌else◌}
use Rattle.std.specs.List.{AllByRecursion}
use Rattle.lot_base.specs.declared.limits.TheConstants.{GREATEST_CEILING}
use Rattle.lot_base.specs.Demands.{IsDemand}
use Rattle.rationale.specs.declared.limits.TheConstants.{MOST_OBSERVATIONS}
use Rattle.rationale.specs.declared.lines.Line.{Line}
use Rattle.rationale.specs.declared.stretches.Stretch.{Stretch}
use Rattle.rationale.specs.Observations.{Observation}
use Rattle.rationale.specs.Lines.{after, along}

-- no price is above the greatest ceiling
abbrev pub AreLow : List ℕ → Type 0
AreLow prices = AllByRecursion (λ price. price ≤ GREATEST_CEILING) prices

-- the observations of lines, and of stretches, where each is found by its line and its place there
abbrev pub lines_by : (Line → ℕ → Observation) → List Line → List Observation
lines_by seen [] = []
lines_by seen (line ∷ lines) = along (seen line) line.count ++ lines_by seen lines

abbrev pub all_by : (List (List ℕ) → Line → ℕ → Observation) → List Stretch → List Observation
all_by seen [] = []
all_by seen (s ∷ stretches) = lines_by (seen s.demand) s.lines.items ++ all_by seen stretches

-- the observation at a place of a line
abbrev pub seen_at : List (List ℕ) → Line → ℕ → Observation
seen_at bundles line t = record { prices = after line.first line.step t; bundles = bundles }

-- all observations that are kept, in order
abbrev pub observations_of : List Stretch → List Observation
observations_of stretches = all_by seen_at stretches

-- the same, with bundles only where a line begins and ends
abbrev pub is_end : Line → ℕ → Bool
is_end line t = (t == 0) || (t + 1 == line.count)

abbrev pub thin_at : List (List ℕ) → Line → ℕ → Observation
thin_at bundles line t = record { prices = after line.first line.step t; bundles = if is_end line t then bundles else [] }

abbrev pub thinned : List Stretch → List Observation
thinned stretches = all_by thin_at stretches

-- a line of prices of these goods: its last prices are those after all its steps
pub record IsLine (supply : List ℕ) (line : Line) : Type 0 where
  pub some : 1 ≤ line.count
  pub first_goods : length line.first ≡ length supply
  pub step_goods : length line.step ≡ length supply
  pub last_is : line.last ≡ after line.first line.step (line.count - 1)
  pub first_low : AreLow line.first
  pub last_low : AreLow line.last

-- observations of one demand, in some lines
pub record IsStretch (supply : List ℕ) (s : Stretch) : Type 0 where
  pub reported : IsDemand supply s.demand
  pub some : 1 ≤ length s.lines.items
  pub lines_are : AllByRecursion (IsLine supply) s.lines.items

-- what is kept, and how many observations it is
pub record IsKept (supply : List ℕ) (stretches : List Stretch) (count : ℕ) : Type 0 where
  pub each : AllByRecursion (IsStretch supply) stretches
  pub counted : count ≡ length (observations_of stretches)
  pub few : count ≤ MOST_OBSERVATIONS
