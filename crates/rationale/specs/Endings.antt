-- What a pass comes to, and all passes: least labels, or parents with a cycle.
use Rattle.std.specs.Prelude.{◌≡◌, ℕ, List, length, Option, Some, None, ℤ}
use Rattle.rationale.specs.declared.labels.Parent.{Parent}
use Rattle.lot_base.specs.Goods.{box_size}
use Rattle.lot_base.specs.Box.{index_of}
use Rattle.rationale.specs.Observations.{Observation}
use Rattle.rationale.specs.Links.{AreLeastWeights}
use Rattle.rationale.specs.Climbs.{IsSound, IsAround}
use Rattle.rationale.specs.Places.{is_edge, edge_weight}
use Rattle.rationale.specs.Shown.{label_of, parent_of}
use Rattle.rationale.specs.Placed.{IsCourse}
use Rattle.rationale.specs.declared.climbing.Around.{Around}
use Rattle.rationale.specs.declared.observing.Passed.{Passed}
use Rattle.rationale.specs.declared.observing.Passed.TheVariants.{Settled, Fell, Contradicted}
use Rattle.rationale.specs.declared.settling.Ending.{Ending}
use Rattle.rationale.specs.declared.settling.Ending.TheVariants.{Least, Cycle}

-- the parents have a cycle along which they are right
abbrev pub HasCycle : List ℕ → List Observation → List (Option Parent) → Around → Type 0
HasCycle supply os parents around = IsAround (parent_of parents) (box_size supply) around.path.items around.first
    × ((m : ℕ → ℤ) × IsSound (is_edge supply os) (edge_weight supply os) m (parent_of parents))

abbrev pub IsEnding : List ℕ → List Observation → List ℕ → List (Option Parent) → Ending → Type 0
IsEnding supply os labels parents Least =
    (length labels ≡ box_size supply) × AreLeastWeights supply os (λ y. label_of labels (index_of supply y))
IsEnding supply os labels parents (Cycle around) = HasCycle supply os parents around

abbrev pub IsPass : List ℕ → List Observation → List ℕ → List (Option Parent) → List ℕ → List (Option Parent) → Passed → Type 0
IsPass supply os labels parents labels' parents' Settled = IsCourse supply os 0 labels parents labels' parents' None
IsPass supply os labels parents labels' parents' (Fell place) = IsCourse supply os 0 labels parents labels' parents' (Some place)
IsPass supply os labels parents labels' parents' (Contradicted around) = HasCycle supply os parents' around
