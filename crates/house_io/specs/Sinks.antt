-- One push into a sink, and writing a text whole.
use Rattle.std.specs.Prelude.{◌≡◌, ◌≤◌, ◌<◌, ◌-◌, ℕ, List, ◌++◌, length, take, Result, Ok, Err}
use Rattle.house_io.specs.declared.Failed.{Failed}

-- the length of a front of the piece, which is not empty where the piece is not
pub record IsPart (count : ℕ) (from : List ℕ) : Type 0 where
  pub within : count ≤ length from
  pub some : 0 < length from → 0 < count

-- what a push does to the bytes that were written
abbrev pub Pushes : Result ℕ Failed → List ℕ → List ℕ → List ℕ → Type 0
Pushes (Ok count) from before after = after ≡ before ++ take count from
Pushes (Err failed) from before after = after ≡ before

-- the whole text was appended, or a front of it
abbrev pub Writes : Result (Unit {0}) Failed → List ℕ → List ℕ → List ℕ → Type 0
Writes (Ok done) text before after = after ≡ before ++ text
Writes (Err failed) text before after = after ≡ before ++ take (length after - length before) text
