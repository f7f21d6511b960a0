-- What a crash leaves of the ranges that were written since the last good sync, as it is asked for.
use Rattle.std.specs.Prelude.{ℕ, List, [], ◌∷◌, replicate}
use Rattle.house_io.specs.Moments.{Moment, overlaid}
use Rattle.house_io.specs.declared.memory.recorded_file.Fill.{Fill}
use Rattle.house_io.specs.declared.memory.recorded_file.Fill.TheVariants.{Old, New, Byte}

-- the file with this byte throughout these ranges
abbrev pub filled_with : ℕ → List (ℕ × ℕ) → List ℕ → List ℕ
filled_with byte [] file = file
filled_with byte (range ∷ ranges) file = overlaid (filled_with byte ranges file) range.0 (replicate range.1 byte)

-- the image of the moment that has this in its ranges
abbrev pub image_of : Fill → Moment → List ℕ
image_of Old m = m.synced
image_of New m = m.read
image_of (Byte byte) m = filled_with byte m.ranges m.read
