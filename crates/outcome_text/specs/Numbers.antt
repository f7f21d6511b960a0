-- The numbers of a text, in order. Words are what stands between blanks and newlines, and a number is a word of decimal digits,
-- with a sign or without, that is an integer of 64 bits.
use Rattle.std.specs.Prelude.{ℕ, ℤ, pos, negsuc, ◌^◌, ◌==◌, nat_lt, Bool, not, ◌&&◌, ◌||◌, if◌then◌else◌, List, length, Option, Some, None}
use Rattle.std.specs.List.{filter_map, slice_split}
use Rattle.std.specs.Str.{all_ascii_digits}
use Rattle.std.specs.Str.Parse.{without_leading_sign, signed_digits_value}

-- the byte is a blank or a newline
abbrev pub is_gap : ℕ → Bool
is_gap byte = (byte == 32) || (byte == 10)

-- the integer has 64 bits
abbrev pub fits : ℤ → Bool
fits (pos n) = nat_lt n (2 ^ 63)
fits (negsuc n) = nat_lt n (2 ^ 63)

-- the word is a number
abbrev pub is_number : List ℕ → Bool
is_number word = (not (length (without_leading_sign word) == 0) && all_ascii_digits (without_leading_sign word)) && fits (signed_digits_value 10 word)

unfoldable pub number_in : List ℕ → Option ℤ
number_in word = if is_number word then Some (signed_digits_value 10 word) else None

-- all numbers of the text
abbrev pub numbers_in : List ℕ → List ℤ
numbers_in text = filter_map number_in (slice_split is_gap text)
