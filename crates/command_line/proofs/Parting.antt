-- Words that are parted into plain ones and others.
use Rattle.std.proofs.Common.{◌≡◌, ◌∙◌, ◌<◌, ◌+◌, ◌++◌, ℕ, Bool, true, false, not, ◌&&◌, ◌||◌, cond, List, [], ◌∷◌, length, take, drop, get_or, String, Global, refl, sym, ap, subst, arith, append-nil, append_assoc}
use Rattle.std.specs.Prelude.{◌==◌, bytes_eq, string_bytes}
use Rattle.std.specs.List.{filter, list_all, list_any, AllByRecursion}
use Rattle.std.proofs.lemmas.Bool.Decides.{nat_tests}
use Rattle.std.proofs.lemmas.List.{take_at, take_more, take-append-drop, map-append}
use Rattle.std.proofs.lemmas.List.Elements.{filter-append}
use Rattle.std.proofs.lemmas.Slice.Eq.{bytes_eq-Decides}
use Rattle.lot_base.proofs.Within.{both}
use Rattle.command_line.specs.Arguments.{AreArguments, begins, flags_of, is_among, is_argument, is_option, joined, others_in, plain_in, takes, valued_of, with_value}
use Rattle.command_line.specs.Words.{IsPlainWord, is_plain, words_of}

-- a plain word by either test

other-byte : (n m : ℕ) → (n ≡ m → ⊥) → not (n == m) ≡ true
other-byte n m other = grind (arith, nat_tests)

pub plain-true : (word : List ℕ) → IsPlainWord word → is_plain word ≡ true
plain-true [] plain = absurd plain
plain-true (byte ∷ bytes) plain = other-byte byte 45 plain

pub true-plain : (word : List ℕ) → is_plain word ≡ true → IsPlainWord word
true-plain [] is = let bad : false ≡ true = is in cc
true-plain (byte ∷ bytes) is = λ e. let P : ℕ → Type 0 = λ b. is_plain (b ∷ bytes) ≡ true in let bad : false ≡ true = subst P e is in cc

pub all-plain : (words : List (List ℕ)) → AllByRecursion IsPlainWord words → plain_in words ≡ words
all-plain [] plain = refl
all-plain (word ∷ words) plain = ap (λ b. cond b (word ∷ plain_in words) (plain_in words)) (plain-true word plain.0) ∙ ap (λ ws. word ∷ ws) (all-plain words plain.1)

plain-more : (word : List ℕ) (words : List (List ℕ)) (b : Bool) → is_plain word ≡ b → AllByRecursion IsPlainWord (plain_in words) → AllByRecursion IsPlainWord (plain_in (word ∷ words))
plain-more word words true e all = subst (AllByRecursion IsPlainWord) (sym (ap (λ b. cond b (word ∷ plain_in words) (plain_in words)) e)) (true-plain word e, all)
plain-more word words false e all = subst (AllByRecursion IsPlainWord) (sym (ap (λ b. cond b (word ∷ plain_in words) (plain_in words)) e)) all

pub plain-plain : (words : List (List ℕ)) → AllByRecursion IsPlainWord (plain_in words)
plain-plain [] = tt
plain-plain (word ∷ words) = plain-more word words (is_plain word) refl (plain-plain words)

-- one word more

word-more : (ws : List (String Global)) (k : ℕ) (d : String Global) → k < length ws → words_of (take (k + 1) ws) ≡ words_of (take k ws) ++ string_bytes (get_or ws k d) ∷ []
word-more ws k d inside = ap words_of (take_more ws k d inside) ∙ map-append (λ (w : String Global). string_bytes w) (take k ws) (get_or ws k d ∷ [])

pub kept : (p : List ℕ → Bool) (xs : List (List ℕ)) (w : List ℕ) → p w ≡ true → filter p (xs ++ w ∷ []) ≡ filter p xs ++ w ∷ []
kept p xs w e = filter-append p xs (w ∷ []) ∙ ap (λ b. filter p xs ++ cond b (w ∷ []) []) e

pub passed : (p : List ℕ → Bool) (xs : List (List ℕ)) (w : List ℕ) → p w ≡ false → filter p (xs ++ w ∷ []) ≡ filter p xs
passed p xs w e = filter-append p xs (w ∷ []) ∙ ap (λ b. filter p xs ++ cond b (w ∷ []) []) e ∙ append-nil (filter p xs)

pub plain-kept : (ws : List (String Global)) (k : ℕ) (d : String Global) (w : List ℕ) → k < length ws → string_bytes (get_or ws k d) ≡ w → is_plain w ≡ true → plain_in (words_of (take (k + 1) ws)) ≡ plain_in (words_of (take k ws)) ++ w ∷ []
plain-kept ws k d w inside is e = ap plain_in (word-more ws k d inside ∙ ap (λ v. words_of (take k ws) ++ v ∷ []) is) ∙ kept is_plain (words_of (take k ws)) w e

pub plain-passed : (ws : List (String Global)) (k : ℕ) (d : String Global) (w : List ℕ) → k < length ws → string_bytes (get_or ws k d) ≡ w → is_plain w ≡ false → plain_in (words_of (take (k + 1) ws)) ≡ plain_in (words_of (take k ws))
plain-passed ws k d w inside is e = ap plain_in (word-more ws k d inside ∙ ap (λ v. words_of (take k ws) ++ v ∷ []) is) ∙ passed is_plain (words_of (take k ws)) w e

pub others-passed : (ws : List (String Global)) (k : ℕ) (d : String Global) (w : List ℕ) → k < length ws → string_bytes (get_or ws k d) ≡ w → is_plain w ≡ true → others_in (words_of (take (k + 1) ws)) ≡ others_in (words_of (take k ws))
others-passed ws k d w inside is e = ap others_in (word-more ws k d inside ∙ ap (λ v. words_of (take k ws) ++ v ∷ []) is) ∙ passed (λ word. not (is_plain word)) (words_of (take k ws)) w (ap not e)

pub others-kept : (ws : List (String Global)) (k : ℕ) (d : String Global) (w : List ℕ) → k < length ws → string_bytes (get_or ws k d) ≡ w → is_plain w ≡ false → others_in (words_of (take (k + 1) ws)) ≡ others_in (words_of (take k ws)) ++ w ∷ []
others-kept ws k d w inside is e = ap others_in (word-more ws k d inside ∙ ap (λ v. words_of (take k ws) ++ v ∷ []) is) ∙ kept (λ word. not (is_plain word)) (words_of (take k ws)) w (ap not e)

-- joined words

pub joins-value : (name word value : List ℕ) (words : List (List ℕ)) → takes name word value ≡ true → joined name (word ∷ value ∷ words) ≡ with_value word value ∷ joined name words
joins-value name word value words e =
    let F : Bool → List (List ℕ) = λ b. elim b [ true ↦ with_value word value ∷ joined name words | false ↦ word ∷ joined name (value ∷ words) ] in
    ap F e

pub joins-none : (name word value : List ℕ) (words : List (List ℕ)) → takes name word value ≡ false → joined name (word ∷ value ∷ words) ≡ word ∷ joined name (value ∷ words)
joins-none name word value words e =
    let F : Bool → List (List ℕ) = λ b. elim b [ true ↦ with_value word value ∷ joined name words | false ↦ word ∷ joined name (value ∷ words) ] in
    ap F e

-- the front of a word

pub begins-front : (front rest word : List ℕ) → word ≡ front ++ rest → begins front word ≡ true
begins-front front rest word e = (bytes_eq-Decides front (take (length front) word)).1 (sym (ap (take (length front)) e ∙ take_at front rest (length front) refl))

pub front-begins : (front word : List ℕ) → begins front word ≡ true → word ≡ front ++ drop (length front) word
front-begins front word e = sym (take-append-drop (length front) word) ∙ ap (λ xs. xs ++ drop (length front) word) (sym ((bytes_eq-Decides front (take (length front) word)).0 e))

-- an option that is joined with its value is known

or-right : (a b : Bool) → b ≡ true → (a || b) ≡ true
or-right true b e = refl
or-right false b e = e

or-left : (a b : Bool) → a ≡ true → (a || b) ≡ true
or-left a b e = ap (λ x. x || b) e

and-left : (a b : Bool) → (a && b) ≡ true → a ≡ true
and-left true b e = refl
and-left false b e = absurd (let f : false ≡ true = e in cc)

fronted : (word value : List ℕ) (options : List (List ℕ)) → is_among word options ≡ true → list_any (λ option. begins (with_value option []) (with_value word value)) options ≡ true
fronted word value [] among = absurd (let f : false ≡ true = among in cc)
fronted word value (option ∷ options) among = by (bytes_eq word option) refl (fronted word value options)
  where
    by : (b : Bool) → bytes_eq word option ≡ b → (is_among word options ≡ true → list_any (λ o. begins (with_value o []) (with_value word value)) options ≡ true) → list_any (λ o. begins (with_value o []) (with_value word value)) (option ∷ options) ≡ true
    by true e rest =
        let same : word ≡ option = (bytes_eq-Decides word option).0 e in
        let split : with_value word value ≡ with_value option [] ++ value = ap (λ w. w ++ 61 ∷ value) same ∙ sym (append_assoc option (61 ∷ []) value) in
        or-left _ _ (begins-front (with_value option []) value (with_value word value) split)
    by false e rest = or-right _ _ (rest (sym (ap (λ b. b || is_among word options) e) ∙ among))

pub valued-known : (name word value : List ℕ) → takes name word value ≡ true → is_argument name (with_value word value) ≡ true
valued-known name word value e = or-right _ _ (or-right _ _ (fronted word value (valued_of name) (and-left _ _ e)))

pub plain-known : (name : List ℕ) (words : List (List ℕ)) → AllByRecursion IsPlainWord words → list_all (is_argument name) words ≡ true
plain-known name [] plain = refl
plain-known name (word ∷ words) plain = let a = or-left (is_plain word) (is_option name word) (plain-true word plain.0) in let b = plain-known name words plain.1 in λ i. a i && b i

-- the arguments of a command without options

pub no-values : (name : List ℕ) (words : List (List ℕ)) → valued_of name ≡ [] → joined name words ≡ words
no-values name [] none = refl
no-values name (word ∷ []) none = refl
no-values name (word ∷ value ∷ words) none =
    joins-none name word value words (ap (λ options. is_among word options && is_plain value) none) ∙ ap (λ ws. word ∷ ws) (no-values name (value ∷ words) none)

argument-plain : (name word : List ℕ) → valued_of name ≡ [] → flags_of name ≡ [] → is_argument name word ≡ true → is_plain word ≡ true
argument-plain name word none no-flags e =
    by (is_plain word) (sym (λ i. is_plain word || (is_among word (no-flags i) || list_any (λ option. begins (with_value option []) word) (none i))) ∙ e)
  where
    by : (b : Bool) → (b || false) ≡ true → b ≡ true
    by true f = refl
    by false f = f

known-plain : (name : List ℕ) (words : List (List ℕ)) → valued_of name ≡ [] → flags_of name ≡ [] → list_all (is_argument name) words ≡ true → AllByRecursion IsPlainWord words
known-plain name [] none no-flags known = tt
known-plain name (word ∷ words) none no-flags known =
    let k = both (is_argument name word) (list_all (is_argument name) words) known in
    (true-plain word (argument-plain name word none no-flags k.0), known-plain name words none no-flags k.1)

pub no-option : (name : List ℕ) (behind plain options : List (List ℕ)) → valued_of name ≡ [] → flags_of name ≡ [] → AreArguments name behind plain options → behind ≡ plain
no-option name behind plain options none no-flags are =
    let e = no-values name behind none in
    let P : List (List ℕ) → Type 0 = λ ws. list_all (is_argument name) ws ≡ true in
    sym (are.plain_are ∙ ap plain_in e ∙ all-plain behind (known-plain name behind none no-flags (subst P e are.known)))

-- the arguments of the same words

pub record SameArguments (plain options other rest : List (List ℕ)) : Type 0 where
  pub plain_same : plain ≡ other
  pub options_same : options ≡ rest

pub same-arguments : (name : List ℕ) (words behind more plain options other rest : List (List ℕ)) → words ≡ name ∷ behind → words ≡ name ∷ more → AreArguments name behind plain options → AreArguments name more other rest → SameArguments plain options other rest
same-arguments name words behind more plain options other rest is it are others =
    let e : name ∷ behind ≡ name ∷ more = sym is ∙ it in
    let b : behind ≡ more = cc in
    record {
      plain_same = are.plain_are ∙ ap (λ ws. plain_in (joined name ws)) b ∙ sym others.plain_are;
      options_same = are.options_are ∙ ap (λ ws. others_in (joined name ws)) b ∙ sym others.options_are;
    }
