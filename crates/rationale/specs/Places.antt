-- Links between the places of the bundles.
use Rattle.std.specs.Prelude.{◌+◌, ◌-◌, ◌==◌, ◌&&◌, not, nat_lt, Bool, false, ℕ, List, [], ◌∷◌, Option, Some, None, slice_get, ℤ}
use Rattle.std.specs.List.{AllByRecursion}
use Rattle.lot_base.specs.Goods.{box_size, AtMost}
use Rattle.lot_base.specs.Box.{index_of, bundle_at}
use Rattle.rationale.specs.Edges.{Edge}
use Rattle.rationale.specs.Observations.{Observation}
use Rattle.rationale.specs.Links.{is_in, weight}
use Rattle.rationale.specs.declared.links.Link.{Link}

-- an edge: an observation's place, the place of a bundle of its demand, and another place of the box
unfoldable pub allowed : List ℕ → Option Observation → Edge → Bool
allowed supply None e = false
allowed supply (Some o) e =
    nat_lt e.x (box_size supply) && (nat_lt e.y (box_size supply) && (not (e.x == e.y) && is_in (bundle_at supply e.x) o.bundles))

unfoldable pub is_edge : List ℕ → List Observation → Edge → Bool
is_edge supply os e = allowed supply (slice_get os e.observation) e

-- the link of an edge, and the edge of a link
abbrev pub link_at : List ℕ → Edge → Link
link_at supply e = record { observation = e.observation + 1; x = bundle_at supply e.x; y = bundle_at supply e.y }

abbrev pub edge_at : List ℕ → Link → Edge
edge_at supply l = record { observation = l.observation - 1; x = index_of supply l.x; y = index_of supply l.y }

abbrev pub edge_weight : List ℕ → List Observation → Edge → ℤ
edge_weight supply os e = weight os (link_at supply e)

-- the links of edges, the last edge's first, before others
unfoldable pub links_of : List ℕ → List Edge → List Link → List Link
links_of supply [] behind = behind
links_of supply (e ∷ es) behind = links_of supply es (link_at supply e ∷ behind)

-- each bundle of each demand is in the box
abbrev pub AreBoxed : List ℕ → List Observation → Type 0
AreBoxed supply os = AllByRecursion (λ o. AllByRecursion (λ x. AtMost x supply) o.bundles) os
