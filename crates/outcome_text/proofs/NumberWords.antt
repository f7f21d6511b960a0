-- What `parse` reads of a word is the number that it is, and the digits of an integer are a number.
use Rattle.std.proofs.Common.{◌≡◌, ◌<◌, ℕ, ℤ, pos, negsuc, ◌^◌, Bool, true, false, not, ◌&&◌, cond, nat_eq, List, [], ◌∷◌, length, drop, Some, None, Result, Ok, Err, refl, sym, ap, ◌∙◌, arith, w64}
use Rattle.std.proofs.lemmas.Bool.Decides.{nat_tests}
use Rattle.std.proofs.lemmas.Bool.{false≢true}
use Rattle.std.specs.Result.{result_ok}
use Rattle.std.specs.Str.{all_ascii_digits, IsUtf8, IsAscii}
use Rattle.std.specs.Str.Parse.{ParsesSigned, IsNumeral, digits_value, without_leading_sign, signed_digits_value}
use Rattle.std.specs.Int.RustNames.{FitsSigned}
use Rattle.std.proofs.lemmas.Str.Parse.{IsNumeralModel, numerals_by_value, tells_all_ascii_digits}
use Rattle.std.specs.Fmt.{signed_decimal}
use Rattle.std.specs.Int.Signed.{mag}
use Rattle.std.proofs.lemmas.Fmt.{parse-signed_decimal, IsAscii-from_digits}
use Rattle.std.proofs.lemmas.Str.{IsUtf8-from_ascii}
use Rattle.std.proofs.lemmas.Str.Ascii.{IsAscii-nil, IsAscii-cons}
use Rattle.lot_base.proofs.Within.{both}
use Rattle.outcome_text.specs.Numbers.{fits, is_number, number_in}

digits : IsNumeralModel (λ ds. all_ascii_digits ds ≡ true) (digits_value 10)
digits = numerals_by_value (λ ds. all_ascii_digits ds ≡ true) tells_all_ascii_digits

fits-true : (z : ℤ) → FitsSigned w64 z → fits z ≡ true
fits-true (pos n) f = grind (arith, nat_tests)
fits-true (negsuc n) f = grind (arith, nat_tests)

fits-from : (z : ℤ) → fits z ≡ true → FitsSigned w64 z
fits-from (pos n) e = grind (arith, nat_tests)
fits-from (negsuc n) e = grind (arith, nat_tests)

-- what `parse` asks of a word
abbrev Reads : List ℕ → Type 0
Reads word = IsNumeral 10 (without_leading_sign word) × FitsSigned w64 (signed_digits_value 10 word)

some : (n : ℕ) → 0 < n → not (nat_eq n 0) ≡ true
some n h = grind (arith, nat_tests)

some-from : (n : ℕ) → not (nat_eq n 0) ≡ true → 0 < n
some-from n h = grind (arith, nat_tests)

pub is_number-reads : (word : List ℕ) → Reads word → is_number word ≡ true
is_number-reads word r =
    let a = some (length (without_leading_sign word)) r.0.0 in
    let b = digits.from (without_leading_sign word) r.0.1 in
    let c = fits-true (signed_digits_value 10 word) r.1 in
    (λ i. (a i && b i) && c i)

pub reads-is_number : (word : List ℕ) → is_number word ≡ true → Reads word
reads-is_number word e =
    let outer = both (not (nat_eq (length (without_leading_sign word)) 0) && all_ascii_digits (without_leading_sign word)) (fits (signed_digits_value 10 word)) e in
    let inner = both (not (nat_eq (length (without_leading_sign word)) 0)) (all_ascii_digits (without_leading_sign word)) outer.0 in
    ((some-from (length (without_leading_sign word)) inner.0, digits.to (without_leading_sign word) inner.1), fits-from (signed_digits_value 10 word) outer.1)

pub number_in-true : (word : List ℕ) → is_number word ≡ true → number_in word ≡ Some (signed_digits_value 10 word)
unfolding number_in
number_in-true word e = ap (λ b. cond b (Some (signed_digits_value 10 word)) None) e

pub number_in-false : (word : List ℕ) → is_number word ≡ false → number_in word ≡ None
unfolding number_in
number_in-false word e = ap (λ b. cond b (Some (signed_digits_value 10 word)) None) e

-- the number that was read is the word's
pub number_in-parsed : {E : Type 0} (word : List ℕ) (r : Result ℤ E) → ParsesSigned w64 10 word r → result_ok r ≡ number_in word
number_in-parsed word (Ok z) h = ap (λ z. Some z) h.1 ∙ sym (number_in-true word (is_number-reads word h.0))
number_in-parsed word (Err e) h = by (is_number word) refl
  where
    by : (b : Bool) → is_number word ≡ b → None ≡ number_in word
    by true is = absurd (h (reads-is_number word is))
    by false is = sym (number_in-false word is)

-- the digits of an integer of 64 bits are that integer
pub number_in-decimal : (z : ℤ) → FitsSigned w64 z → number_in (signed_decimal z) ≡ Some z
number_in-decimal z f = by (is_number (signed_decimal z)) refl
  where
    small : (z : ℤ) → FitsSigned w64 z → mag z < 2 ^ 63
    small z f = f.sfits

    by : (b : Bool) → is_number (signed_decimal z) ≡ b → number_in (signed_decimal z) ≡ Some z
    by true is =
        let value = signed_digits_value 10 (signed_decimal z) in
        let taken : Result ℤ ℕ = Ok value in
        let read : ParsesSigned w64 10 (signed_decimal z) taken = (reads-is_number (signed_decimal z) is, refl) in
        let same : taken ≡ Ok z = parse-signed_decimal w64 z (signed_decimal z) taken f (small z f) refl read in
        let same-value : value ≡ z = cc in
        number_in-true (signed_decimal z) is ∙ ap (λ v. Some v) same-value
    by false is =
        let refused : Result ℤ ℕ = Err 0 in
        let read : ParsesSigned w64 10 (signed_decimal z) refused = λ r. false≢true (sym is ∙ is_number-reads (signed_decimal z) r) in
        let same : refused ≡ Ok z = parse-signed_decimal w64 z (signed_decimal z) refused f (small z f) refl read in
        absurd (cc)

-- a number is text
signed-ascii : (word : List ℕ) → IsAscii (without_leading_sign word) → IsAscii word
signed-ascii [] h = IsAscii-nil
signed-ascii (b ∷ bs) h = by-minus (nat_eq b 45) refl h
  where
    by-plus : (p : Bool) → nat_eq b 43 ≡ p → IsAscii (drop (cond p 1 0) (b ∷ bs)) → IsAscii (b ∷ bs)
    by-plus true is g = IsAscii-cons b bs (grind (arith, nat_tests)) g
    by-plus false is g = g

    by-minus : (m : Bool) → nat_eq b 45 ≡ m → IsAscii (cond m bs (drop (cond (nat_eq b 43) 1 0) (b ∷ bs))) → IsAscii (b ∷ bs)
    by-minus true is g = IsAscii-cons b bs (grind (arith, nat_tests)) g
    by-minus false is g = by-plus (nat_eq b 43) refl g

pub number_in-no_text : (word : List ℕ) → ¬ (IsUtf8 word) → number_in word ≡ None
number_in-no_text word broken = by (is_number word) refl
  where
    by : (b : Bool) → is_number word ≡ b → number_in word ≡ None
    by true is = absurd (broken (IsUtf8-from_ascii word (signed-ascii word (IsAscii-from_digits (without_leading_sign word) (reads-is_number word is).0.1))))
    by false is = number_in-false word is
