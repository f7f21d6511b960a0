-- The values of options.
use Rattle.std.proofs.Common.{◌≡◌, ◌≤◌, ◌<◌, ◌^◌, ◌∙◌, ℕ, suc, Bool, true, false, List, [], ◌∷◌, ◌++◌, ◌+◌, length, get_or, take, drop, Option, Some, None, refl, sym, ap, subst, arith, decimal, inl, inr, ⊎_elim}
use Rattle.std.specs.Prelude.{IfNone, IfSome}
use Rattle.std.specs.Borrow.{Bor}
use Rattle.std.specs.Str.Pattern.{FindsTextPrefix, StripsPrefix}
use Rattle.std.proofs.lemmas.Bool.{cases_Bool}
use Rattle.std.proofs.lemmas.Fmt.{decimal_injective}
use Rattle.std.proofs.lemmas.List.{append_cancel_left, map-append, take_more}
use Rattle.lot_base.specs.Goods.{IsRange}
use Rattle.command_line.specs.Arguments.{HasFlag, IsNumberOption, begins, own}
use Rattle.command_line.specs.Positionals.{texts}
use Rattle.command_line.proofs.Parting.{begins-front, front-begins, kept, passed}

-- what `strip_prefix` says at a text
pub stripped : (front word : List ℕ) (value : Bor (List ℕ)) → StripsPrefix (FindsTextPrefix front) word value.now → word ≡ front ++ value.now
stripped front word value h = h.1.1 ∙ ap (λ xs. front ++ xs) (sym h.2)

pub not-stripped : (front word : List ℕ) → FindsTextPrefix front word None → begins front word ≡ false
not-stripped front word h = ⊎_elim (λ e. absurd (h (drop (length front) word) (front-begins front word e))) (λ e. e) (cases_Bool (begins front word))

pub flag-once : (flag : List ℕ) (options : List (List ℕ)) (one other : Bool) → HasFlag flag options one → HasFlag flag options other → one ≡ other
flag-once flag options false false is it = refl
flag-once flag options false true is it = let bad : [] ≡ flag ∷ [] = sym is ∙ it in cc
flag-once flag options true false is it = let bad : [] ≡ flag ∷ [] = sym it ∙ is in cc
flag-once flag options true true is it = refl

-- an option gives one number at most
number-once : (front : List ℕ) (low high default n m : ℕ) (options : List (List ℕ)) → high < 2 ^ 64 → IsNumberOption front low high default n options → IsNumberOption front low high default m options → n ≡ m
number-once front low high default n m options small (inl is) (inl it) = is.1 ∙ sym it.1
number-once front low high default n m options small (inl is) (inr it) = let bad : [] ≡ (front ++ decimal m) ∷ [] = sym is.0 ∙ it.0 in cc
number-once front low high default n m options small (inr is) (inl it) = let bad : [] ≡ (front ++ decimal n) ∷ [] = sym it.0 ∙ is.0 in cc
number-once front low high default n m options small (inr is) (inr it) =
    let words : (front ++ decimal n) ∷ [] ≡ (front ++ decimal m) ∷ [] = sym is.0 ∙ it.0 in
    let word : front ++ decimal n ≡ front ++ decimal m = cc in
    let a = is.1.at_most in
    let b = it.1.at_most in
    decimal_injective n m (omega arith) (omega arith) (append_cancel_left front (decimal n) (decimal m) word)

pub same-number : (front : List ℕ) (low high default n m : ℕ) (options others : List (List ℕ)) → high < 2 ^ 64 → options ≡ others → IsNumberOption front low high default n options → IsNumberOption front low high default m others → n ≡ m
same-number front low high default n m options others small same is it = number-once front low high default n m others small (subst (IsNumberOption front low high default n) same is) it

-- the number of an option is in its range
pub number-range : (front : List ℕ) (low high default n : ℕ) (options : List (List ℕ)) → IsRange low high default → IsNumberOption front low high default n options → IsRange low high n
number-range front low high default n options range (inl is) = subst (IsRange low high) (sym is.1) range
number-range front low high default n options range (inr is) = is.1

-- the options, one by one

text-more : (options : List (Bor (List ℕ))) (k : ℕ) (d : Bor (List ℕ)) → k < length options → texts (take (k + 1) options) ≡ texts (take k options) ++ (get_or options k d).now ∷ []
text-more options k d inside = ap texts (take_more options k d inside) ∙ map-append (λ (text : Bor (List ℕ)). text.now) (take k options) (get_or options k d ∷ [])

pub own-kept : (front word value : List ℕ) (options : List (Bor (List ℕ))) (k : ℕ) (d : Bor (List ℕ)) → k < length options → (get_or options k d).now ≡ word → word ≡ front ++ value
    → own front (texts (take (k + 1) options)) ≡ own front (texts (take k options)) ++ (front ++ value) ∷ []
own-kept front word value options k d inside is e =
    ap (own front) (text-more options k d inside ∙ ap (λ w. texts (take k options) ++ w ∷ []) (is ∙ e)) ∙ kept (begins front) (texts (take k options)) (front ++ value) (begins-front front value (front ++ value) refl)

pub own-passed : (front word : List ℕ) (options : List (Bor (List ℕ))) (k : ℕ) (d : Bor (List ℕ)) → k < length options → (get_or options k d).now ≡ word → begins front word ≡ false
    → own front (texts (take (k + 1) options)) ≡ own front (texts (take k options))
own-passed front word options k d inside is e =
    ap (own front) (text-more options k d inside ∙ ap (λ w. texts (take k options) ++ w ∷ []) is) ∙ passed (begins front) (texts (take k options)) word e

pub single-text : (options : List (Bor (List ℕ))) (d : Bor (List ℕ)) (flag : List ℕ) → length options ≡ 1 → (get_or options 0 d).now ≡ flag → texts options ≡ flag ∷ []
single-text [] d flag one is = absurd (omega arith)
single-text (option ∷ []) d flag one is = ap (λ w. w ∷ []) is
single-text (option ∷ other ∷ options) d flag one is = absurd (omega arith)

pub no-flag : (options : List (Bor (List ℕ))) (flag : List ℕ) → (texts options ≡ [] → ⊥) → (texts options ≡ flag ∷ [] → ⊥) → (given : Bool) → HasFlag flag (texts options) given → ⊥
no-flag options flag some other false has = some has
no-flag options flag some other true has = other has

pub head-text : (options : List (Bor (List ℕ))) (d : Bor (List ℕ)) (flag : List ℕ) → texts options ≡ flag ∷ [] → (get_or options 0 d).now ≡ flag
head-text [] d flag is = absurd (let bad : [] ≡ flag ∷ [] = is in let no : ⊥ = cc in no)
head-text (option ∷ options) d flag is = let e : option.now ∷ texts options ≡ flag ∷ [] = is in cc

pub some-text : (options : List (Bor (List ℕ))) → 1 ≤ length options → texts options ≡ [] → ⊥
some-text [] some is = omega arith
some-text (option ∷ options) some is = let e : option.now ∷ texts options ≡ [] = is in cc

pub none-then : {A : Type 0} (r : Option A) (P Q : Type 0) → (P → Q) → IfNone r P → IfNone r Q
none-then None P Q f p = f p
none-then (Some a) P Q f p = tt

pub some-value : {A : Type 0} (r : Option A) (P Q : A → Type 0) → ((a : A) → P a → Q a) → IfSome r P → IfSome r Q
some-value None P Q f p = tt
some-value (Some a) P Q f p = f a p

-- a value that is no number in the range
pub value-refused : (front value : List ℕ) (low high default : ℕ) (options : List (List ℕ)) → own front options ≡ (front ++ value) ∷ [] → ((n : ℕ) → low ≤ n → n ≤ high → value ≡ decimal n → ⊥)
    → (number : ℕ) → IsNumberOption front low high default number options → ⊥
value-refused front value low high default options once none number (inl is) = let bad : [] ≡ (front ++ value) ∷ [] = sym is.0 ∙ once in cc
value-refused front value low high default options once none number (inr is) =
    let words : (front ++ value) ∷ [] ≡ (front ++ decimal number) ∷ [] = sym once ∙ is.0 in
    let word : front ++ value ≡ front ++ decimal number = cc in
    none number is.1.at_least is.1.at_most (append_cancel_left front value (decimal number) word)

text-length : (words : List (Bor (List ℕ))) → length (texts words) ≡ length words
text-length [] = refl
text-length (word ∷ words) = ap suc (text-length words)

pub text-count : (words : List (Bor (List ℕ))) (others : List (List ℕ)) → texts words ≡ others → length words ≡ length others
text-count words others is = sym (text-length words) ∙ ap length is
