-- Labels and parents: a number at each node, and the edge that last lowered it.
use Rattle.std.specs.Prelude.{◌≡◌, ◌≤◌, ◌⊎◌, Bool, true, ℕ, List, [], ◌∷◌, length, drop, slice_index, ◌<◌, Option, Some}
use Rattle.std.specs.Prelude.{None, ℤ, pos, ◌+ℤ◌, ◌≤ℤ◌}
use Rattle.std.specs.List.{list_any}
use lib.Dec.{eqb}
use Rattle.rationale.specs.Edges.{Edge}
use Rattle.rationale.specs.Walks.{sum_of, IsRise}

-- from y up along the parents to b
abbrev pub IsClimb : (ℕ → Option Edge) → ℕ → List Edge → ℕ → Type 0
IsClimb ps y [] b = y ≡ b
IsClimb ps y (e ∷ es) b = (ps y ≡ Some e) × IsClimb ps e.x es b

-- each label is 0 where there is no parent, else no less than its parent's and the edge; no climb comes back to its
-- start with a sum of 0 or more
pub record IsSound (ok : Edge → Bool) (w : Edge → ℤ) (m : ℕ → ℤ) (ps : ℕ → Option Edge) : Type 0 where
  pub root : (y : ℕ) → ps y ≡ None → m y ≡ pos 0
  pub there : (y : ℕ) (e : Edge) → ps y ≡ Some e → ok e ≡ true
  pub ends : (y : ℕ) (e : Edge) → ps y ≡ Some e → e.y ≡ y
  pub above : (y : ℕ) (e : Edge) → ps y ≡ Some e → (m e.x +ℤ w e) ≤ℤ m y
  pub closed : (y : ℕ) (e : Edge) (es : List Edge) → IsClimb ps y (e ∷ es) y → (sum_of w (e ∷ es) +ℤ pos 1) ≤ℤ pos 0

-- the node keeps its label and parent
pub record IsKept (m : ℕ → ℤ) (ps : ℕ → Option Edge) (m' : ℕ → ℤ) (ps' : ℕ → Option Edge) (y : ℕ) : Type 0 where
  pub label : m' y ≡ m y
  pub parent : ps' y ≡ ps y

-- the node's label falls to that of x and an edge from x, which becomes its parent
pub record IsLowered (ok : Edge → Bool) (w : Edge → ℤ) (m : ℕ → ℤ) (m' : ℕ → ℤ) (ps' : ℕ → Option Edge) (x y : ℕ) : Type 0 where
  pub edge : Edge
  pub there : ok edge ≡ true
  pub from : edge.x ≡ x
  pub ends : edge.y ≡ y
  pub parent : ps' y ≡ Some edge
  pub label : m' y ≡ m x +ℤ w edge
  pub falls : (m' y +ℤ pos 1) ≤ℤ m y

-- each node is kept or lowered from x, and x is kept
pub record Lowers (ok : Edge → Bool) (w : Edge → ℤ) (m : ℕ → ℤ) (ps : ℕ → Option Edge)
    (m' : ℕ → ℤ) (ps' : ℕ → Option Edge) (x : ℕ) : Type 0 where
  pub each : (y : ℕ) → IsKept m ps m' ps' y ⊎ IsLowered ok w m m' ps' x y
  pub source : IsKept m ps m' ps' x

-- each label is 0 or less, and the sum of a way that ends in the node
pub record IsReached (ok : Edge → Bool) (w : Edge → ℤ) (y : ℕ) (n : ℤ) : Type 0 where
  pub from : ℕ
  pub way : List Edge
  pub is_way : IsRise ok y way from
  pub sum : sum_of w way ≡ n

pub record AreSums (ok : Edge → Bool) (w : Edge → ℤ) (m : ℕ → ℤ) : Type 0 where
  pub low : (y : ℕ) → m y ≤ℤ pos 0
  pub reached : (y : ℕ) → IsReached ok w y (m y)

-- no label is above the sum of a way of at most k edges
pub record AreBelow (ok : Edge → Bool) (w : Edge → ℤ) (k : ℕ) (m : ℕ → ℤ) : Type 0 where
  pub bound : (y : ℕ) (es : List Edge) (b : ℕ) → IsRise ok y es b → length es ≤ k → m y ≤ℤ sum_of w es

-- a pass over all edges: each edge has been followed, from a label no greater than at its start
pub record IsPassed (ok : Edge → Bool) (w : Edge → ℤ) (m m' : ℕ → ℤ) : Type 0 where
  pub falls : (y : ℕ) → m' y ≤ℤ m y
  pub followed : (e : Edge) → ok e ≡ true → m' e.y ≤ℤ (m e.x +ℤ w e)

-- the places on the way up from a to b, each with a parent
abbrev pub IsTrail : (ℕ → Option Edge) → ℕ → List ℕ → ℕ → Type 0
IsTrail ps a [] b = a ≡ b
IsTrail ps a (x ∷ xs) b = (x ≡ a) × ((e : Edge) × (ps a ≡ Some e) × IsTrail ps e.x xs b)

-- from the place at first on, the path comes back to that place; it has at most n places
pub record IsAround (ps : ℕ → Option Edge) (n : ℕ) (path : List ℕ) (first : ℕ) : Type 0 where
  pub inside : first < length path
  pub few : length path ≤ n
  pub small : (q : ℕ) → list_any (eqb q) path ≡ true → q < n
  pub closed : IsTrail ps (slice_index path first) (drop first path) (slice_index path first)

-- a climb to a root of fewer than n edges
pub record Rooted (ps : ℕ → Option Edge) (y n : ℕ) : Type 0 where
  pub way : List Edge
  pub root : ℕ
  pub climb : IsClimb ps y way root
  pub none : ps root ≡ None
  pub short : length way < n
