-- One pull from a source.
use Rattle.std.specs.Prelude.{◌≡◌, ◌<◌, ◌↔◌, ℕ, List, [], ◌++◌, length, take, Result, Ok, Err}
use Rattle.house_io.specs.declared.Failed.{Failed}

-- So many bytes came off the front of what was left into the front of the buffer. A buffer that is not empty gets
-- none exactly where nothing was left.
pub record Takes (count : ℕ) (into before after : List ℕ) : Type 0 where
  pub bytes : before ≡ take count into ++ after
  pub at_end : 0 < length into → (count ≡ 0) ↔ (before ≡ [])

-- what a pull does to the bytes that are left
abbrev pub Pulls : Result ℕ Failed → List ℕ → List ℕ → List ℕ → Type 0
Pulls (Ok count) into before after = Takes count into before after
Pulls (Err failed) into before after = after ≡ before
