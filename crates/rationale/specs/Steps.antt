-- How an observation lowers the labels of places.
use Rattle.std.specs.Prelude.{◌≡◌, ◌<◌, ◌≤◌, ◌+◌, ◌-◌, ◌⊎◌, ℕ, List, slice_index, slice_index_or, Option, Some, None}
use Rattle.rationale.specs.declared.labels.Parent.{Parent}

-- a label falls to the next number, with a new parent, or both stay
abbrev pub IsStep : ℕ → Parent → ℕ → Option Parent → ℕ → Option Parent → Type 0
IsStep next new label parent label' parent' =
    ((next < label) × (label' ≡ next) × (parent' ≡ Some new))
    ⊎ ((label ≤ next) × (label' ≡ label) × (parent' ≡ parent))

abbrev pub AreSteps : ℕ → List ℕ → List ℕ → Parent → List ℕ → List (Option Parent) → List ℕ → List (Option Parent) → ℕ → Type 0
AreSteps excess costs gaps new labels parents labels' parents' n = (i : ℕ) → i < n →
    IsStep (excess + slice_index costs i - slice_index gaps i) new
    (slice_index labels i) (slice_index_or parents i None) (slice_index labels' i) (slice_index_or parents' i None)
