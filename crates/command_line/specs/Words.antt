-- The words of the command line, without the program's name. Words are lists of bytes. The first word is the command's name. A number is
-- its decimal digits, without a leading zero. No word after the name is empty, and none begins with `-` that is not an option of its
-- command. The limits of supplies, bidders and ceilings are those of `Terms`, which has no value outside them.
use Rattle.std.specs.Prelude.{◌≢◌, ◌≤◌, ℕ, List, [], ◌∷◌, decimal, length, map, String, string_bytes, Bool, false, not, ◌==◌}
use Rattle.std.specs.declared.alloc.Global.{Global}
use Rattle.std.specs.List.{AllByRecursion, join_with_byte}
use Rattle.lot_base.specs.declared.limits.TheConstants.{MOST_GOODS}
use Rattle.lot_base.specs.Goods.{IsRange}

-- words as lists of bytes
abbrev pub words_of : List (String Global) → List (List ℕ)
words_of words = map (λ word. string_bytes word) words

-- whether no command takes the word for an option: it is not empty and does not begin with `-`
abbrev pub is_plain : List ℕ → Bool
is_plain [] = false
is_plain (byte ∷ bytes) = not (byte == 45)

abbrev pub IsPlainWord : List ℕ → Type 0
IsPlainWord [] = ⊥
IsPlainWord (byte ∷ bytes) = byte ≢ 45

-- numbers joined by commas
abbrev pub comma_list : List ℕ → List ℕ
comma_list ns = join_with_byte 44 (map decimal ns)

-- a number for each of some goods, each in a range
pub record AreNumbers (low high : ℕ) (numbers : List ℕ) : Type 0 where
  pub at_least_one : 1 ≤ length numbers
  pub at_most_six : length numbers ≤ MOST_GOODS
  pub within : AllByRecursion (IsRange low high) numbers
