-- A numeral that parses is the decimal digits of its number, and the decimal digits of a number are a numeral that parses.
use Rattle.std.proofs.Common.{◌≡◌, ◌<◌, ℕ, zero, suc, ◌^◌, Bool, true, false, not, ◌&&◌, ◌||◌, nat_eq, List, [], ◌∷◌, length, get_or, Result, Ok, Err, refl, sym, ap, ◌∙◌, subst, arith, decimal}
use Rattle.std.proofs.lemmas.Bool.Decides.{nat_tests}
use Rattle.std.specs.List.{list_all}
use Rattle.std.specs.Char.{is_ascii_digit}
use Rattle.std.specs.Int.{IsInRange}
use Rattle.std.specs.Result.{OkIff}
use Rattle.std.specs.Str.Parse.{ParsesUnsigned, digits_value}
use Rattle.std.proofs.lemmas.Str.Parse.{IsDigitsTest, IsNumeralModel, numerals_by_value, parse_digits}
use Rattle.std.proofs.lemmas.Fmt.{decimal-digits_value, digits_decimal, decimal_nonempty, first_decimal, parse-decimal, decimal_digit}
use Rattle.lot_base.proofs.Within.{both}
use Rattle.command_line.specs.Numerals.{is_empty, is_numeral}

abbrev AllDigits : List ℕ → Type 0
AllDigits ds = list_all is_ascii_digit ds ≡ true

pub digit-range : (c : ℕ) → is_ascii_digit c ≡ true → IsInRange 48 57 c
digit-range c e = grind (arith, nat_tests)

range-digit : (c : ℕ) → IsInRange 48 57 c → is_ascii_digit c ≡ true
range-digit c e = grind (arith, nat_tests)

digits : IsDigitsTest AllDigits
digits = record {
  empty = refl;
  parts = λ c cs e. let k = both (is_ascii_digit c) (list_all is_ascii_digit cs) e in (digit-range c k.0, k.1);
  more = λ c cs k e. let d = range-digit c k in λ i. d i && e i;
}

model : IsNumeralModel AllDigits (digits_value 10)
model = numerals_by_value AllDigits digits

pub decimal-digits : (n : ℕ) → n < 2 ^ 64 → list_all is_ascii_digit (decimal n) ≡ true
decimal-digits n h = digits_decimal model n h

pub record Numeral (ds : List ℕ) : Type 0 where
  pub some : 0 < length ds
  pub digits : AllDigits ds
  pub leading : get_or ds 0 0 ≡ 48 → length ds ≡ 1

single : (cs : List ℕ) → is_empty cs ≡ true → length cs ≡ 0
single [] e = refl
single (c ∷ cs) e = absurd (let f : false ≡ true = e in cc)

pub numeral-parts : (ds : List ℕ) → is_numeral ds ≡ true → Numeral ds
numeral-parts [] e = absurd (let f : false ≡ true = e in cc)
numeral-parts (c ∷ cs) e =
    let h = both (not (nat_eq c 48) || is_empty cs) (list_all is_ascii_digit (c ∷ cs)) e in
    record { some = omega arith; digits = h.1; leading = λ zero_first. by (nat_eq c 48) refl h.0 zero_first }
  where
    by : (b : Bool) → nat_eq c 48 ≡ b → (not b || is_empty cs) ≡ true → c ≡ 48 → suc (length cs) ≡ 1
    by true f g same = ap suc (single cs g)
    by false f g same = absurd (grind (arith, nat_tests))

pub parts-numeral : (ds : List ℕ) → Numeral ds → is_numeral ds ≡ true
parts-numeral [] n = absurd (let s = n.some in omega arith)
parts-numeral (c ∷ cs) n = let first = by cs (nat_eq c 48) refl n.leading in let all = n.digits in λ i. first i && all i
  where
    by : (rest : List ℕ) (b : Bool) → nat_eq c 48 ≡ b → (c ≡ 48 → suc (length rest) ≡ 1) → (not b || is_empty rest) ≡ true
    by rest false f leading = refl
    by [] true f leading = refl
    by (d ∷ rest) true f leading = absurd (let l = leading (grind (arith, nat_tests)) in omega arith)

decimal-leading : (n : ℕ) → n < 2 ^ 64 → get_or (decimal n) 0 0 ≡ 48 → length (decimal n) ≡ 1
decimal-leading zero h e = ap length (decimal_digit 0 (omega arith))
decimal-leading (suc n) h e = absurd (let f = first_decimal (suc n) (omega arith) h in omega arith)

pub decimal-numeral : (n : ℕ) → n < 2 ^ 32 → is_numeral (decimal n) ≡ true
decimal-numeral n h =
    let wide : n < 2 ^ 64 = omega (arith, h) in
    parts-numeral (decimal n) (record { some = decimal_nonempty n wide; digits = digits_decimal model n wide; leading = decimal-leading n wide })

pub number-is : {E : Type 0} (bs : List ℕ) (r : Result ℕ E) (n : ℕ) → is_numeral bs ≡ true → ParsesUnsigned 32 10 bs r → r ≡ Ok n → bs ≡ decimal n
number-is {E} bs r n numeral parses e =
    let p = numeral-parts bs numeral in
    let P : Result ℕ E → Type 0 = λ x. OkIff x ((0 < length bs) × (digits_value 10 bs < 2 ^ 32)) (digits_value 10 bs) in
    let ok : P (Ok n) = subst P e (parse_digits model 32 bs r parses p.digits) in
    sym (ap decimal ok.1 ∙ decimal-digits_value model bs p.digits p.some p.leading (let f = ok.0 in let g = f.1 in omega arith))

-- a word that is refused is not the decimal digits of a number in range
pub no-numeral : (bs : List ℕ) (n : ℕ) → n < 2 ^ 32 → bs ≡ decimal n → is_numeral bs ≡ false → ⊥
no-numeral bs n h e refused = let f : true ≡ false = sym (decimal-numeral n h) ∙ ap is_numeral (sym e) ∙ refused in cc

pub parsed : {E : Type 0} (bs : List ℕ) (r : Result ℕ E) (n m : ℕ) → n < 2 ^ 32 → bs ≡ decimal n → ParsesUnsigned 32 10 bs r → r ≡ Ok m → m ≡ n
parsed bs r n m h e parses is = let f = parse-decimal 32 n bs r h (omega (arith, h)) e parses in let g : Ok m ≡ Ok n = sym is ∙ f in cc

pub not-parsed : {E : Type 0} (bs : List ℕ) (r : Result ℕ E) (n : ℕ) (error : E) → n < 2 ^ 32 → bs ≡ decimal n → ParsesUnsigned 32 10 bs r → r ≡ Err error → ⊥
not-parsed bs r n error h e parses is = let f = parse-decimal 32 n bs r h (omega (arith, h)) e parses in let g : Err error ≡ Ok n = sym is ∙ f in cc
