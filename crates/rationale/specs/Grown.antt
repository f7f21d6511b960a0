-- One observation more: of a line, and of a stretch.
use Rattle.std.specs.Prelude.{◌≡◌, ℕ, List, [], ◌∷◌, ◌++◌}
use Rattle.std.specs.List.{AllByRecursion}
use Rattle.rationale.specs.declared.lines.Line.{Line}
use Rattle.rationale.specs.declared.stretches.Stretch.{Stretch}
use Rattle.rationale.specs.Observations.{Observation}
use Rattle.rationale.specs.Lines.{along}
use Rattle.rationale.specs.Kept.{seen_at, lines_by, observations_of, IsLine, IsStretch}

pub record IsExtended (supply : List ℕ) (line new : Line) (p : List ℕ) : Type 0 where
  pub is_line : IsLine supply new
  pub seen : (bundles : List (List ℕ)) →
      along (seen_at bundles new) new.count ≡ along (seen_at bundles line) line.count ++ record { prices = p; bundles = bundles } ∷ []

-- the observations of a stretch
abbrev pub stretch_of : Stretch → List Observation
stretch_of s = lines_by (seen_at s.demand) s.lines.items

pub record IsLonger (supply : List ℕ) (s new : Stretch) (p : List ℕ) : Type 0 where
  pub is_stretch : IsStretch supply new
  pub same : new.demand ≡ s.demand
  pub seen : stretch_of new ≡ stretch_of s ++ record { prices = p; bundles = s.demand } ∷ []

-- the stretches keep one observation more
pub record KeepsMore (supply : List ℕ) (old new : List Stretch) (p : List ℕ) (bundles : List (List ℕ)) : Type 0 where
  pub each : AllByRecursion (IsStretch supply) new
  pub seen : observations_of new ≡ observations_of old ++ record { prices = p; bundles = bundles } ∷ []

-- the stretches keep the same observations
pub record KeepsAll (supply : List ℕ) (old new : List Stretch) : Type 0 where
  pub each : AllByRecursion (IsStretch supply) new
  pub seen : observations_of new ≡ observations_of old
