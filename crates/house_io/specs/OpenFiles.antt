-- What a disk does with the file that it stands on, as far as the file's position and bytes are known.
use Rattle.std.specs.Prelude.{◌≡◌, ◌<◌, ℕ, List, length, take, Option, Some, None, IfSome}
use Rattle.std.specs.Io.KnownBytes.{Appends, Consumes, IsAtEnd}

-- a file whose position was known was moved to this offset
abbrev pub StandsAt : Option ℕ → Option ℕ → ℕ → Type 0
StandsAt before now at = IfSome before (λ _. now ≡ Some at)

-- the number is the length of a file whose position and bytes are known
abbrev pub IsLength : Option ℕ → Option (List ℕ) → ℕ → Type 0
IsLength position bytes n = IfSome position (λ _. IfSome bytes (λ known. n ≡ length known))

-- The file was moved to the offset, and then all these bytes were written to it.
pub record WritesAt {F : Type 0} (position : F → Option ℕ) (contents : F → Option (List ℕ)) (at : ℕ) (bytes : List ℕ) (before after : F) : Type 0 where
  pub moved : F
  pub stands : StandsAt (position before) (position moved) at
  pub appends : Appends (contents moved) (contents after) bytes

-- The file was moved to the offset, and then so many bytes were read from it into the front of the buffer: fewer than it
-- holds only at the file's end.
pub record ReadsAt {F : Type 0} (position : F → Option ℕ) (remaining : F → Option (List ℕ)) (at n : ℕ) (into : List ℕ) (before after : F) : Type 0 where
  pub moved : F
  pub stands : StandsAt (position before) (position moved) at
  pub bytes : Consumes (remaining moved) (remaining after) (take n into)
  pub whole : n < length into → IsAtEnd (remaining after)

-- The number is the length of a file that is there. One that is absent has no byte.
abbrev pub IsLengthOf : {F : Type 0} → (F → Option ℕ) → (F → Option (List ℕ)) → ℕ → Option F → Type 0
IsLengthOf position bytes n None = n ≡ 0
IsLengthOf position bytes n (Some file) = IsLength (position file) (bytes file) n

-- The same of a read: it is one of a file that is there, and is there from then on. One that is absent gives no byte.
abbrev pub ReadsFile : {F : Type 0} → (F → Option ℕ) → (F → Option (List ℕ)) → ℕ → ℕ → List ℕ → Option F → Option F → Type 0
ReadsFile position remaining at n into None after = (n ≡ 0) × (after ≡ None)
ReadsFile position remaining at n into (Some before) None = ⊥
ReadsFile position remaining at n into (Some before) (Some after) = ReadsAt position remaining at n into before after

-- The same of a write, which is one of a file that is there.
abbrev pub WritesFile : {F : Type 0} → (F → Option ℕ) → (F → Option (List ℕ)) → ℕ → List ℕ → Option F → Option F → Type 0
WritesFile position contents at bytes (Some before) (Some after) = WritesAt position contents at bytes before after
WritesFile position contents at bytes _ _ = ⊥
