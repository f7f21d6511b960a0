-- The numbers of a plain text are those of its outcome.
use Rattle.std.proofs.Common.{◌≡◌, ◌<◌, ◌++◌, ◌^◌, ℕ, suc, ℤ, pos, negsuc, Bool, true, false, not, ◌&&◌, List, [], ◌∷◌, Option, Some, None, refl, sym, ap, ◌∙◌, arith, append_assoc, w64}
use Rattle.std.specs.Prelude.{codes, decimal}
use Rattle.std.specs.Fmt.{signed_decimal}
use Rattle.std.specs.List.{All, AllByRecursion, list_all, filter_map, cons_option, join_with_byte}
use Rattle.std.specs.Str.Parse.{AllDigits}
use Rattle.std.specs.Char.{digit_value}
use Rattle.std.specs.Int.RustNames.{FitsSigned}
use Rattle.std.proofs.lemmas.Bool.Decides.{nat_tests}
use Rattle.std.proofs.lemmas.Bool.{false≢true}
use Rattle.std.proofs.lemmas.List.Elements.{All-nil, All-cons}
use Rattle.std.proofs.lemmas.List.Splits.{slice_split_at}
use Rattle.std.proofs.lemmas.Fmt.{decimal_is_IsNumeral}
use Rattle.std.proofs.lemmas.Str.Parse.{digit_from_value}
use Rattle.outcome_text.specs.Lines.{line, text_of, numerals}
use Rattle.outcome_text.specs.Numbers.{is_gap, number_in, numbers_in}
use Rattle.outcome_text.specs.Listed.{naturals}
use Rattle.outcome_text.proofs.NumberWords.{number_in-decimal}

-- a word has no blank and no newline
abbrev pub IsClean : List ℕ → Type 0
IsClean word = AllByRecursion (λ b. is_gap b ≡ false) word

-- the numbers among words
abbrev pub among : List (List ℕ) → List ℤ
among words = filter_map number_in words

all-of : (word : List ℕ) → IsClean word → All (λ b. is_gap b ≡ false) word
all-of [] h = All-nil (λ b. is_gap b ≡ false)
all-of (b ∷ word) h = All-cons (λ b. is_gap b ≡ false) b word h.0 (all-of word h.1)

cons-append : {A : Type 0} (o : Option A) (xs ys : List A) → cons_option o (xs ++ ys) ≡ cons_option o xs ++ ys
cons-append None xs ys = refl
cons-append (Some x) xs ys = refl

numbers-word : (word : List ℕ) (gap : ℕ) (rest : List ℕ) → IsClean word → is_gap gap ≡ true → numbers_in (word ++ gap ∷ rest) ≡ cons_option (number_in word) (numbers_in rest)
numbers-word word gap rest clean is = ap (filter_map number_in) (slice_split_at is_gap word gap rest (all-of word clean) is)

nothing : number_in [] ≡ None
unfolding number_in
nothing = refl

-- the numbers of a line stand before those of what follows it
pub numbers-line : (words : List (List ℕ)) (rest : List ℕ) → AllByRecursion IsClean words → numbers_in (line words ++ rest) ≡ among words ++ numbers_in rest
numbers-line [] rest clean = numbers-word [] 10 rest tt refl ∙ ap (λ o. cons_option o (numbers_in rest)) nothing
numbers-line (word ∷ []) rest clean =
    ap numbers_in (append_assoc word (codes "\n") rest) ∙ numbers-word word 10 rest clean.0 refl ∙ cons-append (number_in word) [] (numbers_in rest)
numbers-line (word ∷ next ∷ words) rest clean =
    let others = join_with_byte 32 (next ∷ words) in
    ap numbers_in (append_assoc (word ++ 32 ∷ others) (codes "\n") rest ∙ append_assoc word (32 ∷ others) (codes "\n" ++ rest) ∙ ap (λ t. word ++ 32 ∷ t) (sym (append_assoc others (codes "\n") rest)))
    ∙ numbers-word word 32 (line (next ∷ words) ++ rest) clean.0 refl
    ∙ ap (cons_option (number_in word)) (numbers-line (next ∷ words) rest clean.1)
    ∙ cons-append (number_in word) (among (next ∷ words)) (numbers_in rest)

-- the lines of a text, one after another
abbrev pub AreClean : List (List (List ℕ)) → Type 0
AreClean lines = AllByRecursion (λ words. AllByRecursion IsClean words) lines

unfoldable pub among_lines : List (List (List ℕ)) → List ℤ
among_lines [] = []
among_lines (words ∷ lines) = among words ++ among_lines lines

pub numbers-text : (lines : List (List (List ℕ))) → AreClean lines → numbers_in (text_of lines) ≡ among_lines lines
unfolding among_lines
numbers-text [] clean = ap (λ o. cons_option o []) nothing
numbers-text (words ∷ lines) clean = numbers-line words (text_of lines) clean.0 ∙ ap (λ ns. among words ++ ns) (numbers-text lines clean.1)

-- ---- words of digits

digit-clean : (c : ℕ) → digit_value c < 10 → is_gap c ≡ false
digit-clean c h = let r = digit_from_value c h in grind (arith, nat_tests)

digits-clean : (ds : List ℕ) → AllDigits 10 ds → IsClean ds
digits-clean [] h = tt
digits-clean (c ∷ ds) h = (digit-clean c h.0, digits-clean ds h.1)

pub decimal-clean : (n : ℕ) → n < 2 ^ 64 → IsClean (decimal n)
decimal-clean n small = digits-clean (decimal n) (decimal_is_IsNumeral n small).0.1

pub signed-clean : (z : ℤ) → FitsSigned w64 z → IsClean (signed_decimal z)
signed-clean (pos n) f = decimal-clean n (let s = f.sfits in omega arith)
signed-clean (negsuc n) f = (refl, decimal-clean (suc n) (let s = f.sfits in omega arith))

-- a natural number below 2^63 is one of 64 bits
pub natural-fits : (n : ℕ) → n < 2 ^ 63 → FitsSigned w64 (pos n)
natural-fits n small = record { sfits = small }

pub number_in-natural : (n : ℕ) → n < 2 ^ 63 → number_in (decimal n) ≡ Some (pos n)
number_in-natural n small = number_in-decimal (pos n) (natural-fits n small)

abbrev pub AreSmall : List ℕ → Type 0
AreSmall ns = AllByRecursion (λ n. n < 2 ^ 63) ns

pub numerals-clean : (ns : List ℕ) → AreSmall ns → AllByRecursion IsClean (numerals ns)
numerals-clean [] h = tt
numerals-clean (n ∷ ns) h = (decimal-clean n (let s = h.0 in omega arith), numerals-clean ns h.1)

pub among-numerals : (ns : List ℕ) (words : List (List ℕ)) → AreSmall ns → among (numerals ns ++ words) ≡ naturals ns ++ among words
among-numerals [] words h = refl
among-numerals (n ∷ ns) words h = (λ i. cons_option (number_in-natural n h.0 i) (among-numerals ns words h.1 i))

pub among-none : (ns : List ℕ) → AreSmall ns → among (numerals ns) ≡ naturals ns
among-none [] h = refl
among-none (n ∷ ns) h = (λ i. cons_option (number_in-natural n h.0 i) (among-none ns h.1 i))

pub among_lines-append : (lines others : List (List (List ℕ))) → among_lines (lines ++ others) ≡ among_lines lines ++ among_lines others
unfolding among_lines
among_lines-append [] others = refl
among_lines-append (words ∷ lines) others = ap (λ ns. among words ++ ns) (among_lines-append lines others) ∙ sym (append_assoc (among words) (among_lines lines) (among_lines others))

-- ---- names, which are words without digits

pub clean-from : (word : List ℕ) → list_all (λ b. not (is_gap b)) word ≡ true → IsClean word
clean-from [] e = tt
clean-from (b ∷ word) e = by (is_gap b) refl (clean-from word) e
  where
    by : (g : Bool) → is_gap b ≡ g → (list_all (λ b. not (is_gap b)) word ≡ true → IsClean word) → (not g && list_all (λ b. not (is_gap b)) word) ≡ true → IsClean (b ∷ word)
    by true is more f = absurd (false≢true f)
    by false is more f = (is, more f)
