-- Numbers as bytes, the highest byte first: the bytes of one and what bytes spell in byteorder's words, `big_bytes` and `big_number`, which
-- pass on here, and what pairs of bytes spell.
use Rattle.std.specs.Prelude.{ℕ, List, [], ◌∷◌}
pub use Rattle.byteorder.specs.Endian.{big_bytes, big_number}

-- the numbers that pairs of bytes spell; a last byte alone spells none
abbrev pub short_numbers : List ℕ → List ℕ
short_numbers [] = []
short_numbers (high ∷ []) = []
short_numbers (high ∷ low ∷ rest) = big_number 2 (high ∷ low ∷ []) ∷ short_numbers rest
