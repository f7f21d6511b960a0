-- The quantities of a bundle on all sets of goods, by halves. A set of six goods is a number below 64: eight times its row, which is
-- the set of the goods from 3 on, and the set of the first three goods.
use Rattle.std.specs.Prelude.{◌≡◌, ◌≤◌, ◌<◌, ℕ, ◌+◌, ◌*◌, ◌^◌, List, [], ◌∷◌, slice_index}
use Rattle.lot_base.specs.Goods.{quantity_in}

-- the quantity on each set fits 16 bits
abbrev pub IsShort : List ℕ → Type 0
IsShort x = (set : ℕ) → quantity_in x set < 2 ^ 16

-- the sum of each set of three numbers
abbrev pub AreSumsOf : ℕ → ℕ → ℕ → List ℕ → Type 0
AreSumsOf a b c sums = (set : ℕ) → set < 8 → slice_index sums set ≡ quantity_in (a ∷ b ∷ c ∷ []) set

-- the quantity on each set is one of the first half and one of the second half
abbrev pub AreHalves : List ℕ → List ℕ → List ℕ → Type 0
AreHalves x low high = (row set : ℕ) → row < 8 → set < 8 → slice_index low set + slice_index high row ≡ quantity_in x (8 * row + set)

-- at each place of a row the number that is picked, of the old one and the sum with so much more; the other rows stay
pub record KeepsRow (pick : ℕ → ℕ → ℕ) (row : ℕ) (sums : List ℕ) (more : ℕ) (old new : List ℕ) : Type 0 where
  pub kept : (set : ℕ) → set < 8 → slice_index new (8 * row + set) ≡ pick (slice_index old (8 * row + set)) (slice_index sums set + more)
  pub before : (place : ℕ) → place < 8 * row → slice_index new place ≡ slice_index old place
  pub behind : (place : ℕ) → 8 * row + 8 ≤ place → slice_index new place ≡ slice_index old place

-- the same at each place of the first so many rows
abbrev pub KeepsRows : (ℕ → ℕ → ℕ) → ℕ → List ℕ → List ℕ → List ℕ → List ℕ → Type 0
KeepsRows pick rows low high old new =
    (row set : ℕ) → row < rows → set < 8 → slice_index new (8 * row + set) ≡ pick (slice_index old (8 * row + set)) (slice_index low set + slice_index high row)

-- the numbers of the sets of so many goods, and 0 after them
pub record CopiesSets (goods : ℕ) (table copy : List ℕ) : Type 0 where
  pub entries : (set : ℕ) → set < 2 ^ goods → slice_index copy set ≡ slice_index table set
  pub others : (set : ℕ) → 2 ^ goods ≤ set → slice_index copy set ≡ 0
