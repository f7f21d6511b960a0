-- A list of numbers joined by commas, and its parts.
use Rattle.std.proofs.Common.{◌≡◌, ◌<◌, ◌≤◌, ◌⊎◌, inl, inr, ℕ, zero, suc, ◌+◌, ◌*◌, ◌^◌, Bool, true, false, not, nat_eq, cond, Ok, Err, append-nil, length-append, List, [], ◌∷◌, ◌++◌, length, get_or, map, Option, Some, None, refl, sym, ap, ◌∙◌, arith, decimal}
use Rattle.std.specs.Prelude.{All, position, nat_lt}
use Rattle.std.specs.List.{list_all, slice_split, join_with_byte, AllByRecursion, position_or_len, before_first, after_first}
use Rattle.std.specs.Char.{is_ascii_digit}
use Rattle.std.proofs.lemmas.Bool.Decides.{nat_tests}
use Rattle.std.proofs.Math.Nat.{mul-le-mul_left}
use Rattle.std.proofs.lemmas.List.Elements.{All-nil, All-cons}
use Rattle.std.proofs.lemmas.List.Splits.{slice_split_none, slice_split_at, slice_split_first, join_with_byte-slice_split}
use Rattle.std.proofs.lemmas.Fmt.{decimal_injective}
use Rattle.lot_base.specs.Goods.{IsRange, IsSupply, box_size}
use Rattle.lot_base.specs.Limits.{supply_of, supply_with}
use Rattle.lot_base.specs.declared.supply.GoodsFault.TheVariants.{NoGoods, TooManyGoods, BoxTooLarge}
use Rattle.lot_base.proofs.Within.{both}
use Rattle.command_line.specs.Words.{AreNumbers, comma_list}
use Rattle.command_line.proofs.Decimals.{digit-range, decimal-digits}

-- the parts of a text between its commas
abbrev pub parts : List ℕ → List (List ℕ)
parts bytes = slice_split (λ b. nat_eq b 44) bytes

no-comma : (ds : List ℕ) → list_all is_ascii_digit ds ≡ true → All (λ b. nat_eq b 44 ≡ false) ds
no-comma [] e = All-nil (λ b. nat_eq b 44 ≡ false)
no-comma (d ∷ ds) e =
    let h = both (is_ascii_digit d) (list_all is_ascii_digit ds) e in
    let r = digit-range d h.0 in
    All-cons (λ b. nat_eq b 44 ≡ false) d ds (grind (arith, nat_tests)) (no-comma ds h.1)

pub parts-comma_list : (n : ℕ) (ns : List ℕ) → AllByRecursion (λ k. k < 2 ^ 64) (n ∷ ns) → parts (comma_list (n ∷ ns)) ≡ map decimal (n ∷ ns)
parts-comma_list n [] small = slice_split_none (λ b. nat_eq b 44) (decimal n) (no-comma (decimal n) (decimal-digits n small.0))
parts-comma_list n (m ∷ ns) small =
    slice_split_at (λ b. nat_eq b 44) (decimal n) 44 (comma_list (m ∷ ns)) (no-comma (decimal n) (decimal-digits n small.0)) refl ∙ ap (λ ps. decimal n ∷ ps) (parts-comma_list m ns small.1)

pub comma_list-parts : (word : List ℕ) (ns : List ℕ) → map decimal ns ≡ parts word → word ≡ comma_list ns
comma_list-parts word ns e = sym (ap (join_with_byte 44) e ∙ join_with_byte-slice_split 44 word)

-- each supply of what can be sold is at most 2,047
box-some : (supply : List ℕ) → 1 ≤ box_size supply
box-some [] = omega arith
box-some (s ∷ supply) = let r = box-some supply in omega (arith, r)

pub supplies-few : (supply : List ℕ) → box_size supply ≤ 2048 → AllByRecursion (λ k. k ≤ 2047) supply
supplies-few [] small = tt
supplies-few (s ∷ supply) small =
    let r = box-some supply in
    let m : s * 1 ≤ s * box_size supply = mul-le-mul_left s r in
    (omega (arith, m, r, small), supplies-few supply (omega (arith, r, small)))

pub small-enough : (supply : List ℕ) → AllByRecursion (λ k. k ≤ 2047) supply → AllByRecursion (λ k. k < 2 ^ 64) supply
small-enough [] few = tt
small-enough (s ∷ supply) few = (let f = few.0 in omega arith, small-enough supply few.1)

pub parts-supply : (word supply : List ℕ) → IsSupply supply → word ≡ comma_list supply → parts word ≡ map decimal supply
parts-supply word [] is e = absurd (let s = is.some_good in omega arith)
parts-supply word (s ∷ supply) is e = ap parts e ∙ parts-comma_list s supply (small-enough (s ∷ supply) (supplies-few (s ∷ supply) is.small))

-- numbers of which each is in a range

pub small-numbers : (low high : ℕ) (ns : List ℕ) → high < 2 ^ 64 → AllByRecursion (IsRange low high) ns → AllByRecursion (λ k. k < 2 ^ 64) ns
small-numbers low high [] small all = tt
small-numbers low high (n ∷ ns) small all = (let r = all.0 in let m = r.at_most in omega arith, small-numbers low high ns small all.1)

pub parts-numbers : (low high : ℕ) (word ns : List ℕ) → high < 2 ^ 64 → AreNumbers low high ns → word ≡ comma_list ns → parts word ≡ map decimal ns
parts-numbers low high word [] small are e = absurd (let s = are.at_least_one in omega arith)
parts-numbers low high word (n ∷ ns) small are e = ap parts e ∙ parts-comma_list n ns (small-numbers low high (n ∷ ns) small are.within)

range-at : (low high : ℕ) (ns : List ℕ) (k : ℕ) → AllByRecursion (IsRange low high) ns → k < length ns → IsRange low high (get_or ns k 0)
range-at low high [] k all inside = absurd (omega arith)
range-at low high (n ∷ ns) zero all inside = all.0
range-at low high (n ∷ ns) (suc k) all inside = range-at low high ns k all.1 (omega arith)

-- the part after those that were read is the next supply's
pub record NextPart (xs : List ℕ) (piece : List ℕ) (supply : List ℕ) : Type 0 where
  pub more : length xs < length supply
  pub piece_is : piece ≡ decimal (get_or supply (length xs) 0)

pub next-part : (xs : List ℕ) (piece : List ℕ) (others : List (List ℕ)) (supply : List ℕ) → map decimal xs ++ piece ∷ others ≡ map decimal supply → NextPart xs piece supply
next-part [] piece others [] e = absurd (cc)
next-part [] piece others (s ∷ supply) e = record { more = omega arith; piece_is = cc }
next-part (x ∷ xs) piece others [] e = absurd (cc)
next-part (x ∷ xs) piece others (s ∷ supply) e =
    let t : map decimal xs ++ piece ∷ others ≡ map decimal supply = cc in
    let n = next-part xs piece others supply t in
    let m = n.more in
    record { more = omega arith; piece_is = n.piece_is }

-- numbers with the same digits are the same
pub decimals-same : (xs ys : List ℕ) → AllByRecursion (λ k. k < 2 ^ 64) xs → AllByRecursion (λ k. k < 2 ^ 64) ys → map decimal xs ≡ map decimal ys → xs ≡ ys
decimals-same [] [] small few e = refl
decimals-same [] (y ∷ ys) small few e = absurd (cc)
decimals-same (x ∷ xs) [] small few e = absurd (cc)
decimals-same (x ∷ xs) (y ∷ ys) small few e =
    let h : decimal x ≡ decimal y = cc in
    let t : map decimal xs ≡ map decimal ys = cc in
    let i = decimal_injective x y small.0 few.0 h in
    let j = decimals-same xs ys small.1 few.1 t in
    λ k. i k ∷ j k

-- where no element is found, none passes the test
lacks : (p : ℕ → Bool) (xs : List ℕ) → length xs ≤ position_or_len p xs → AllByRecursion (λ x. p x ≡ false) xs
lacks p [] le = tt
lacks p (x ∷ xs) le = by (p x) refl (lacks p xs) le
  where
    by : (b : Bool) → p x ≡ b → (length xs ≤ position_or_len p xs → AllByRecursion (λ y. p y ≡ false) xs) → suc (length xs) ≤ cond (not b) (1 + position_or_len p xs) 0 → AllByRecursion (λ y. p y ≡ false) (x ∷ xs)
    by true e rest k = absurd (omega arith)
    by false e rest k = (e, rest (omega arith))

all-of : (p : ℕ → Bool) (xs : List ℕ) → AllByRecursion (λ x. p x ≡ false) xs → All (λ x. p x ≡ false) xs
all-of p [] h = All-nil (λ x. p x ≡ false)
all-of p (x ∷ xs) h = All-cons (λ x. p x ≡ false) x xs h.0 (all-of p xs h.1)

pub no-cut : (rest : List ℕ) → position_or_len (λ b. nat_eq b 44) rest ≡ length rest → parts rest ≡ rest ∷ []
no-cut rest e = slice_split_none (λ b. nat_eq b 44) rest (all-of (λ b. nat_eq b 44) rest (lacks (λ b. nat_eq b 44) rest (omega arith)))

pub cut : (rest piece behind : List ℕ) → piece ≡ before_first (λ b. nat_eq b 44) rest → behind ≡ after_first (λ b. nat_eq b 44) rest → position_or_len (λ b. nat_eq b 44) rest < length rest → parts rest ≡ piece ∷ parts behind
cut rest piece behind e f found = slice_split_first (λ b. nat_eq b 44) rest 0 found ∙ (λ i. sym e i ∷ parts (sym f i))

none-passes : (p : ℕ → Bool) (xs : List ℕ) → position p xs ≡ None → AllByRecursion (λ x. p x ≡ false) xs
none-passes p xs e = by (nat_lt (position_or_len p xs) (length xs)) refl e
  where
    by : (b : Bool) → nat_lt (position_or_len p xs) (length xs) ≡ b → cond b (Some (position_or_len p xs)) None ≡ None → AllByRecursion (λ x. p x ≡ false) xs
    by true t f = absurd (let g : Some (position_or_len p xs) ≡ None = f in cc)
    by false t f = lacks p xs (grind (arith, nat_tests))

units-range : (supply : List ℕ) → AllByRecursion (λ x. nat_eq x 0 ≡ false) supply → AllByRecursion (λ k. k ≤ 2047) supply → AllByRecursion (IsRange 1 2047) supply
units-range [] units few = tt
units-range (s ∷ supply) units few = (record { at_least = (let f = units.0 in grind (arith, nat_tests)); at_most = few.0 }, units-range supply units.1 few.1)

-- the supplies of what can be sold are such numbers
pub supply-numbers : (supply : List ℕ) → IsSupply supply → AreNumbers 1 2047 supply
supply-numbers supply is = record {
  at_least_one = is.some_good;
  at_most_six = is.few_goods;
  within = units-range supply (none-passes (λ s. nat_eq s 0) supply is.units) (supplies-few supply is.small);
}

-- a piece that is refused is no part of a list of numbers
pub refused : (low high : ℕ) (xs piece word ns : List ℕ) (others : List (List ℕ)) → high < 2 ^ 64 → (6 ≤ length xs) ⊎ ((n : ℕ) → IsRange low high n → piece ≡ decimal n → ⊥) → map decimal xs ++ piece ∷ others ≡ parts word
    → AreNumbers low high ns → word ≡ comma_list ns → ⊥
refused low high xs piece word ns others small why read are e =
    let n = next-part xs piece others ns (read ∙ parts-numbers low high word ns small are e) in
    by n why
  where
    by : NextPart xs piece ns → (6 ≤ length xs) ⊎ ((n : ℕ) → IsRange low high n → piece ≡ decimal n → ⊥) → ⊥
    by n (inl full) = let m = n.more in let f = are.at_most_six in omega arith
    by n (inr none) = none (get_or ns (length xs) 0) (range-at low high ns (length xs) are.within n.more) n.piece_is

-- a piece that is read is one number more
pub grows : (xs new : List ℕ) (units : ℕ) (piece : List ℕ) (others all : List (List ℕ)) → new ≡ xs ++ units ∷ [] → piece ≡ decimal units → map decimal xs ++ piece ∷ others ≡ all → map decimal new ++ others ≡ all
grows xs new units piece others all e f read =
    ap (λ ns. map decimal ns ++ others) e ∙ shifted xs ∙ ap (λ p. map decimal xs ++ p ∷ others) (sym f) ∙ read
  where
    shifted : (xs : List ℕ) → map decimal (xs ++ units ∷ []) ++ others ≡ map decimal xs ++ decimal units ∷ others
    shifted [] = refl
    shifted (x ∷ xs) = ap (λ ps. decimal x ∷ ps) (shifted xs)

pub whole : (xs : List ℕ) (all : List (List ℕ)) → map decimal xs ++ [] ≡ all → map decimal xs ≡ all
whole xs all e = sym (append-nil (map decimal xs)) ∙ e

-- supplies that were read from the list of what can be sold are it, and so they are not refused
pub supply-accepted : (supply : List ℕ) → IsSupply supply → supply_of supply ≡ Ok supply
supply-accepted supply is =
    let a : nat_eq (length supply) 0 ≡ false = (let s = is.some_good in grind (arith, nat_tests)) in
    let b : nat_lt 6 (length supply) ≡ false = (let s = is.few_goods in grind (arith, nat_tests)) in
    let c : nat_lt 2048 (box_size supply) ≡ false = (let s = is.small in grind (arith, nat_tests)) in
    ap (λ x. cond x (Err NoGoods) (cond (nat_lt 6 (length supply)) (Err (TooManyGoods (length supply))) (supply_with (position (λ s. nat_eq s 0) supply) supply))) a
    ∙ ap (λ x. cond x (Err (TooManyGoods (length supply))) (supply_with (position (λ s. nat_eq s 0) supply) supply)) b
    ∙ ap (λ o. supply_with o supply) is.units
    ∙ ap (λ x. cond x (Err (BoxTooLarge (box_size supply))) (Ok supply)) c

-- lists of such numbers are the same where they are spelled alike
pub numbers-same : (low high : ℕ) (xs ys : List ℕ) → high < 2 ^ 64 → AreNumbers low high xs → AreNumbers low high ys → comma_list xs ≡ comma_list ys → xs ≡ ys
numbers-same low high xs ys small are others e =
    decimals-same xs ys (small-numbers low high xs small are.within) (small-numbers low high ys small others.within)
    (sym (parts-numbers low high (comma_list xs) xs small are refl) ∙ parts-numbers low high (comma_list xs) ys small others e)

-- what the supplies give are the supplies
pub goods-are : (supplies goods : List ℕ) → Ok goods ≡ supply_of supplies → goods ≡ supplies
goods-are supplies goods e = by-none (nat_eq (length supplies) 0) e
  where
    by-small : (b : Bool) → Ok goods ≡ cond b (Err (BoxTooLarge (box_size supplies))) (Ok supplies) → goods ≡ supplies
    by-small true f = absurd (cc)
    by-small false f = cc

    by-units : (o : Option ℕ) → Ok goods ≡ supply_with o supplies → goods ≡ supplies
    by-units (Some good) f = absurd (cc)
    by-units None f = by-small (nat_lt 2048 (box_size supplies)) f

    by-many : (b : Bool) → Ok goods ≡ cond b (Err (TooManyGoods (length supplies))) (supply_with (position (λ s. nat_eq s 0) supplies) supplies) → goods ≡ supplies
    by-many true f = absurd (cc)
    by-many false f = by-units (position (λ s. nat_eq s 0) supplies) f

    by-none : (b : Bool) → Ok goods ≡ cond b (Err NoGoods) (cond (nat_lt 6 (length supplies)) (Err (TooManyGoods (length supplies))) (supply_with (position (λ s. nat_eq s 0) supplies) supplies)) → goods ≡ supplies
    by-none true f = absurd (cc)
    by-none false f = by-many (nat_lt 6 (length supplies)) f

-- numbers of which one more was read
pub made-numbers : (low high : ℕ) (xs new : List ℕ) (n : ℕ) → new ≡ xs ++ n ∷ [] → length new ≤ 6 → AllByRecursion (IsRange low high) new → AreNumbers low high new
made-numbers low high xs new n e few all = record { at_least_one = (let l = ap length e ∙ length-append xs (n ∷ []) in omega (arith, l)); at_most_six = few; within = all }
