-- The edges along a path of places, and their links.
use Rattle.std.specs.Prelude.{◌≡◌, ◌<◌, ◌≤◌, ◌⊎◌, ℕ, slice_index, List, [], ◌∷◌, ◌++◌, Option, Some, None, slice_index_or, IfSome}
use Rattle.rationale.specs.Edges.{Edge}
use Rattle.rationale.specs.Places.{link_at}
use Rattle.rationale.specs.declared.labels.Parent.{Parent}
use Rattle.rationale.specs.declared.links.Link.{Link}

-- each parent is a place below n, of one of the first million observations
abbrev pub AreParents : ℕ → List (Option Parent) → Type 0
AreParents n parents = (y : ℕ) → IfSome (slice_index_or parents y None) (λ p. (p.x < n) × (p.observation < 1000000))

abbrev pub edge_list : Option Edge → List Edge
edge_list None = []
edge_list (Some e) = e ∷ []

abbrev pub link_list : List ℕ → Option Edge → List Link
link_list supply None = []
link_list supply (Some e) = link_at supply e ∷ []

-- the edges to the places
abbrev pub edges_of : (ℕ → Option Edge) → List ℕ → List Edge
edges_of ps [] = []
edges_of ps (x ∷ xs) = edge_list (ps x) ++ edges_of ps xs

-- an edge comes before another one, by observation, then by x, then by y
abbrev pub EdgePrecedes : Edge → Edge → Type 0
EdgePrecedes a b = (a.observation < b.observation) ⊎ ((a.observation ≡ b.observation) × ((a.x < b.x) ⊎ ((a.x ≡ b.x) × (a.y < b.y))))

abbrev pub ComesBefore : Option Edge → Option Edge → Type 0
ComesBefore None b = ⊥
ComesBefore (Some a) None = ⊥
ComesBefore (Some a) (Some b) = EdgePrecedes a b

-- of the path from a place on to another, no edge comes before that at a place
abbrev pub IsLeastOf : (ℕ → Option Edge) → List ℕ → ℕ → ℕ → ℕ → Type 0
IsLeastOf ps path first end least = (i : ℕ) → first ≤ i → i < end → ComesBefore (ps (slice_index path i)) (ps (slice_index path least)) → ⊥
