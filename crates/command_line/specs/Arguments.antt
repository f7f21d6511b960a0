-- The words after a command's name: plain words in order, and the command's options anywhere among them. The value of an option is the
-- word after it, or stands after `=` in the same word.
use Rattle.std.specs.Prelude.{◌≡◌, ◌⊎◌, ℕ, Bool, true, false, not, ◌&&◌, ◌||◌, if◌then◌else◌, List, [], ◌∷◌, ◌++◌, codes, decimal, bytes_eq, length, take}
use Rattle.std.specs.List.{filter, list_all, list_any}
use Rattle.lot_base.specs.Goods.{IsRange}
use Rattle.command_line.specs.Words.{is_plain}

-- the options of the command of this name: those with a value, and those without
abbrev pub valued_of : List ℕ → List (List ℕ)
valued_of name =
    if bytes_eq name (codes "serve") then codes "--doors" ∷ codes "--sessions" ∷ []
    else if bytes_eq name (codes "bid") then codes "--looks" ∷ []
    else if bytes_eq name (codes "trial") then codes "--workers" ∷ []
    else if bytes_eq name (codes "make") then codes "--workers" ∷ []
    else []

abbrev pub flags_of : List ℕ → List (List ℕ)
flags_of name = if bytes_eq name (codes "settle") then codes "--json" ∷ [] else []

abbrev pub is_among : List ℕ → List (List ℕ) → Bool
is_among word words = list_any (λ other. bytes_eq word other) words

-- the word begins so
abbrev pub begins : List ℕ → List ℕ → Bool
begins front word = bytes_eq front (take (length front) word)

-- an option and its value in one word
abbrev pub with_value : List ℕ → List ℕ → List ℕ
with_value option value = option ++ 61 ∷ value

-- the word is an option with a value, and the one after it can be that value
abbrev pub takes : List ℕ → List ℕ → List ℕ → Bool
takes name word value = is_among word (valued_of name) && is_plain value

-- the words with each option and its value in one word, whichever way it is spelled
abbrev pub joined : List ℕ → List (List ℕ) → List (List ℕ)
joined name [] = []
joined name (word ∷ []) = word ∷ []
joined name (word ∷ value ∷ words) = elim (takes name word value) [ true ↦ with_value word value ∷ joined name words | false ↦ word ∷ joined name (value ∷ words) ]

-- the word is an option of the command, with its value if it has one
abbrev pub is_option : List ℕ → List ℕ → Bool
is_option name word = is_among word (flags_of name) || list_any (λ option. begins (with_value option []) word) (valued_of name)

abbrev pub is_argument : List ℕ → List ℕ → Bool
is_argument name word = is_plain word || is_option name word

-- the words that are no option, and the others
abbrev pub plain_in : List (List ℕ) → List (List ℕ)
plain_in words = filter is_plain words

abbrev pub others_in : List (List ℕ) → List (List ℕ)
others_in words = filter (λ word. not (is_plain word)) words

-- The words after the name of a command are these plain ones in this order, and these options of the command anywhere among them.
pub record AreArguments (name : List ℕ) (words plain options : List (List ℕ)) : Type 0 where
  pub known : list_all (is_argument name) (joined name words) ≡ true
  pub plain_are : plain ≡ plain_in (joined name words)
  pub options_are : options ≡ others_in (joined name words)

-- an option without a value is all that stands among the options, or nothing does
abbrev pub HasFlag : List ℕ → List (List ℕ) → Bool → Type 0
HasFlag flag options false = options ≡ []
HasFlag flag options true = options ≡ flag ∷ []

-- those of the options that begin so
abbrev pub own : List ℕ → List (List ℕ) → List (List ℕ)
own front options = filter (begins front) options

-- An option with a number in a range stands once among the options, as `--name=number`, or it does not, and the number is its default.
-- `front` is `--name=`.
abbrev pub IsNumberOption : List ℕ → ℕ → ℕ → ℕ → ℕ → List (List ℕ) → Type 0
IsNumberOption front low high default number options = ((own front options ≡ []) × (number ≡ default)) ⊎ ((own front options ≡ (front ++ decimal number) ∷ []) × IsRange low high number)
