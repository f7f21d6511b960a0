-- Links, their weights, chains and cycles. Reports come from a valuation exactly where no cycle is negative: cyclic monotonicity,
-- Rockafellar, "Characterization of the subdifferentials of convex functions", Pacific Journal of Mathematics 17, 1966; Rochet 1987.
use Rattle.std.specs.Prelude.{◌≡◌, ◌≤◌, ◌-◌, ℕ, Bool, List, [], ◌∷◌, Option, Some, None, slice_get, ℤ, pos, ◌+ℤ◌, ◌-ℤ◌, ◌≤ℤ◌, if◌then◌else◌}
use Rattle.std.specs.List.{list_any}
use Rattle.std.specs.Cmp.Lexicographic.{slice_cmp}
use Rattle.std.specs.Ordering.{nat_cmp, is_eq}
use Rattle.lot_base.specs.Goods.{cost, AtMost}
use Rattle.lot_base.specs.Box.{IsIn}
use Rattle.rationale.specs.Observations.{Observation}
use Rattle.rationale.specs.declared.links.Link.{Link}

-- whether the bundle is one of the list
abbrev pub is_in : List ℕ → List (List ℕ) → Bool
is_in y bundles = list_any (λ x. is_eq (slice_cmp nat_cmp x y)) bundles

-- p·y - p·x, less 1 where y is not demanded: so much more than x is y worth at most
abbrev pub weight_at : Option Observation → List ℕ → List ℕ → ℤ
weight_at None x y = pos 0
weight_at (Some o) x y = (pos (cost o.prices y) -ℤ pos (cost o.prices x)) -ℤ (if is_in y o.bundles then pos 0 else pos 1)

abbrev pub weight : List Observation → Link → ℤ
weight os link = weight_at (slice_get os (link.observation - 1)) link.x link.y

-- a link: an observation's number, a bundle of its demand, and another bundle of the box
pub record IsLink (supply : List ℕ) (os : List Observation) (link : Link) : Type 0 where
  pub seen : Observation
  pub numbered : 1 ≤ link.observation
  pub found : slice_get os (link.observation - 1) ≡ Some seen
  pub demanded : IsIn link.x seen.bundles
  pub in_box : AtMost link.y supply
  pub other : link.x ≡ link.y → ⊥

-- a chain of links from a to b: each link's y is the next link's x
abbrev pub IsChain : List ℕ → List Observation → List ℕ → List Link → List ℕ → Type 0
IsChain supply os a [] b = a ≡ b
IsChain supply os a (link ∷ links) b = IsLink supply os link × (link.x ≡ a) × IsChain supply os link.y links b

abbrev pub total : List Observation → List Link → ℤ
total os [] = pos 0
total os (link ∷ links) = weight os link +ℤ total os links

-- a cycle with a sum of weights below 0
pub record IsNegativeCycle (supply : List ℕ) (os : List Observation) (links : List Link) : Type 0 where
  pub start : List ℕ
  pub closed : IsChain supply os start links start
  pub negative : (total os links +ℤ pos 1) ≤ℤ pos 0

-- the least weight sum of a chain that ends in y, where the chain of no links counts 0
pub record IsLeastWeight (supply : List ℕ) (os : List Observation) (y : List ℕ) (n : ℤ) : Type 0 where
  pub from : List ℕ
  pub links : List Link
  pub chain : IsChain supply os from links y
  pub reached : total os links ≡ n
  pub bound : (a : List ℕ) (others : List Link) → IsChain supply os a others y → n ≤ℤ total os others

-- m has the least weight sum at each bundle of the box
abbrev pub AreLeastWeights : List ℕ → List Observation → (List ℕ → ℤ) → Type 0
AreLeastWeights supply os m = (y : List ℕ) → AtMost y supply → IsLeastWeight supply os y (m y)
