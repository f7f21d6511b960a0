-- What a sink in memory stands for.
use Rattle.std.specs.Prelude.{◌≡◌, ◌≤◌, ◌<◌, ◌-◌, ℕ, List, [], ◌++◌, length, Option, Some, None, option_map}

-- the bytes that were written, told until the room was passed, and the room that is left
pub record Kept : Type 0 where
  pub written : Option (List ℕ)
  pub room : ℕ

-- a sink that was given nothing yet
abbrev pub empty_sink : ℕ → Kept
empty_sink room = record { written = Some []; room = room }

-- the sink that kept one more piece
abbrev pub kept_more : Kept → List ℕ → Kept
kept_more kept piece = record { written = option_map (λ bytes. bytes ++ piece) kept.written; room = kept.room - length piece }

-- a sink whose room was passed
abbrev pub passed : Kept
passed = record { written = None; room = 0 }

-- A piece that the room holds is appended. A longer one is not, and nothing is told from then on.
pub record Keeps (before : Kept) (piece : List ℕ) (after : Kept) : Type 0 where
  pub fits : length piece ≤ before.room → after ≡ kept_more before piece
  pub passes : before.room < length piece → after ≡ passed
