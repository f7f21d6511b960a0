-- The ranges that were written since the last sync.
use Rattle.std.specs.Prelude.{ℕ, List, [], ◌∷◌}
use Rattle.house_io.specs.declared.memory.recorded_file.Range.{Range}

-- the ranges, the latest first, before others
abbrev pub latest_first : List Range → List (ℕ × ℕ) → List (ℕ × ℕ)
latest_first [] others = others
latest_first (range ∷ ranges) others = latest_first ranges ((range.at, range.length) ∷ others)
