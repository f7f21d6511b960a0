-- Texts of lines. The words of a line are separated by one blank each, and every line ends with one newline.
use Rattle.std.specs.Prelude.{ℕ, List, ◌++◌, map, codes, decimal}
use Rattle.std.specs.List.{concat, join_with_byte}

-- the line of these words
abbrev pub line : List (List ℕ) → List ℕ
line words = join_with_byte 32 words ++ codes "\n"

-- the text of these lines
abbrev pub text_of : List (List (List ℕ)) → List ℕ
text_of lines = concat (map line lines)

-- numbers as words, in decimal digits
abbrev pub numerals : List ℕ → List (List ℕ)
numerals ns = map decimal ns
