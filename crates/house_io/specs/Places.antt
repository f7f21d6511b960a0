-- The place of a name in a list of things that have names.
use Rattle.std.specs.Prelude.{◌≡◌, ◌<◌, ℕ, List, length, bytes_eq, slice_index_or, true, false}

-- nothing below that place has this name
abbrev pub HasNoneBelow : {E : Type 0} → (E → List ℕ) → List E → List ℕ → ℕ → Type 0
HasNoneBelow name_of all name place = (k : ℕ) (other : _) → k < place → bytes_eq (name_of (slice_index_or all k other)) name ≡ false

-- nothing has this name
abbrev pub HasNone : {E : Type 0} → (E → List ℕ) → List E → List ℕ → Type 0
HasNone name_of all name = HasNoneBelow name_of all name (length all)

-- the place of the first of this name
pub record IsFirstAt {E : Type 0} (name_of : E → List ℕ) (all : List E) (name : List ℕ) (place : ℕ) : Type 0 where
  pub inside : place < length all
  pub here : (other : E) → bytes_eq (name_of (slice_index_or all place other)) name ≡ true
  pub first : HasNoneBelow name_of all name place
