-- The names of goods and bidders: 1 to 32 bytes, each a lower-case ASCII letter, a digit or a hyphen. No byte and 33 bytes
-- are no name. A name is kept in 32 cells, with zeros after its bytes.
use Rattle.std.specs.Prelude.{◌≡◌, ◌≢◌, ◌≤◌, ℕ, ◌-◌, ◌==◌, nat_le, Bool, true, ◌&&◌, ◌||◌, if◌then◌else◌, List, [], ◌∷◌, ◌++◌, length, take, replicate, Option, Some, None}
use Rattle.std.specs.List.{list_all, AllByRecursion}

-- a letter a to z, a digit or `-`
abbrev pub is_name_byte : ℕ → Bool
is_name_byte c = ((nat_le 97 c && nat_le c 122) || (nat_le 48 c && nat_le c 57)) || c == 45

-- one to thirty-two such bytes
abbrev pub is_name : List ℕ → Bool
is_name bytes = (nat_le 1 (length bytes) && nat_le (length bytes) 32) && list_all is_name_byte bytes

-- the bytes, if they are a name
abbrev pub name_of : List ℕ → Option (List ℕ)
name_of bytes = if is_name bytes then Some bytes else None

-- a name in the cells, zeros after it
abbrev pub padded : List ℕ → List ℕ
padded bytes = bytes ++ replicate (32 - length bytes) 0

-- the cells hold a name of so many bytes
pub record IsNameIn (cells : List ℕ) (count : ℕ) : Type 0 where
  pub few : count ≤ 32
  pub count_is : length (take count cells) ≡ count
  pub zeros : padded (take count cells) ≡ cells
  pub name : is_name (take count cells) ≡ true

-- no name stands in the list twice
abbrev pub AreDistinct : List (List ℕ) → Type 0
AreDistinct [] = Unit {0}
AreDistinct (name ∷ names) = AllByRecursion (λ other. other ≢ name) names × AreDistinct names
