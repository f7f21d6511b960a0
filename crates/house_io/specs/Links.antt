-- Links: what a pull and a push do to the bytes that are left and to those that were written.
use Rattle.std.specs.Prelude.{◌≡◌, ℕ, List, Result}
use Rattle.house_io.specs.declared.Failed.{Failed}
use Rattle.house_io.specs.Sources.{Pulls}
use Rattle.house_io.specs.Sinks.{Pushes, Writes}

-- the bytes that are left, and those that were written
pub record LinkBytes : Type 0 where
  pub left : List ℕ
  pub written : List ℕ

-- a pull changes what is left, and nothing of what was written
abbrev pub Receives : Result ℕ Failed → List ℕ → LinkBytes → LinkBytes → Type 0
Receives result into before after = Pulls result into before.left after.left × (after.written ≡ before.written)

-- a push changes what was written, and nothing of what is left
abbrev pub Sends : Result ℕ Failed → List ℕ → LinkBytes → LinkBytes → Type 0
Sends result from before after = (after.left ≡ before.left) × Pushes result from before.written after.written

-- the whole text was sent, or a front of it
abbrev pub SendsWhole : Result (Unit {0}) Failed → List ℕ → LinkBytes → LinkBytes → Type 0
SendsWhole result text before after = (after.left ≡ before.left) × Writes result text before.written after.written
