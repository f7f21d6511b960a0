-- The search through all choices, demand by demand: the first bundle of the first demand from which the search through the
-- demands after finds something.
use Rattle.std.proofs.Common.{◌≡◌, ◌<◌, ◌⊎◌, inl, inr, ℕ, zero, suc, Bool, true, false, cond, List, [], ◌∷◌, map, Option, Some, None, refl, sym, ◌∙◌, ap, arith}
use Rattle.std.specs.Prelude.{find, flat_map, option_map, slice_get}
use Rattle.std.specs.Option.{option_or}
use Rattle.std.proofs.lemmas.List.Folds.{find-append}
use Rattle.std.proofs.lemmas.List.Concat.{flat_map-cons}
use Rattle.lot_base.specs.Box.{IsIn}
use Rattle.lot_base.specs.Choices.{IsChoice, choices}

-- what is found after the first bundle with which something is found
abbrev pub pick : (List (List ℕ) → Bool) → List (List ℕ) → List (List (List ℕ)) → Option (List (List ℕ))
pick test [] rest = None
pick test (x ∷ d) rest = option_or (option_map (λ xs. x ∷ xs) (find (λ xs. test (x ∷ xs)) rest)) (pick test d rest)

find-row : (test : List (List ℕ) → Bool) (x : List ℕ) (rest : List (List (List ℕ))) → find test (map (λ xs. x ∷ xs) rest) ≡ option_map (λ xs. x ∷ xs) (find (λ xs. test (x ∷ xs)) rest)
find-row test x [] = refl
find-row test x (xs ∷ rest) = by (test (x ∷ xs)) (find-row test x rest)
  where
    by : (b : Bool) → find test (map (λ xs. x ∷ xs) rest) ≡ option_map (λ xs. x ∷ xs) (find (λ xs. test (x ∷ xs)) rest)
        → cond b (Some (x ∷ xs)) (find test (map (λ xs. x ∷ xs) rest)) ≡ option_map (λ xs. x ∷ xs) (cond b (Some xs) (find (λ xs. test (x ∷ xs)) rest))
    by true e = refl
    by false e = e

find-rows : (test : List (List ℕ) → Bool) (d : List (List ℕ)) (rest : List (List (List ℕ))) → find test (flat_map (λ x. map (λ xs. x ∷ xs) rest) d) ≡ pick test d rest
find-rows test [] rest = refl
find-rows test (x ∷ d) rest =
    ap (find test) (flat_map-cons (λ x. map (λ xs. x ∷ xs) rest) x d)
    ∙ find-append test (map (λ xs. x ∷ xs) rest) (flat_map (λ x. map (λ xs. x ∷ xs) rest) d)
    ∙ (λ i. option_or (find-row test x rest i) (find-rows test d rest i))

pub find-choices : (test : List (List ℕ) → Bool) (d : List (List ℕ)) (ds : List (List (List ℕ))) → find test (choices (d ∷ ds)) ≡ pick test d (choices ds)
find-choices test d ds = find-rows test d (choices ds)

-- where the search after a bundle finds nothing, and where it finds something
pub pick-skips : (test : List (List ℕ) → Bool) (x : List ℕ) (d : List (List ℕ)) (rest : List (List (List ℕ))) → find (λ xs. test (x ∷ xs)) rest ≡ None → pick test (x ∷ d) rest ≡ pick test d rest
pick-skips test x d rest e = ap (λ o. option_or (option_map (λ xs. x ∷ xs) o) (pick test d rest)) e

pub pick-takes : (test : List (List ℕ) → Bool) (x : List ℕ) (d : List (List ℕ)) (rest : List (List (List ℕ))) (found : List (List ℕ)) → find (λ xs. test (x ∷ xs)) rest ≡ Some found
    → pick test (x ∷ d) rest ≡ Some (x ∷ found)
pick-takes test x d rest found e = ap (λ o. option_or (option_map (λ xs. x ∷ xs) o) (pick test d rest)) e

-- which bundle was taken
pub record Picked (test : List (List ℕ) → Bool) (d : List (List ℕ)) (rest : List (List (List ℕ))) (choice : List (List ℕ)) : Type 0 where
  pub place : ℕ
  pub bundle : List ℕ
  pub behind : List (List ℕ)
  pub stands : slice_get d place ≡ Some bundle
  pub is : choice ≡ bundle ∷ behind
  pub found : find (λ xs. test (bundle ∷ xs)) rest ≡ Some behind
  pub before : (j : ℕ) (y : List ℕ) → j < place → slice_get d j ≡ Some y → find (λ xs. test (y ∷ xs)) rest ≡ None

pub picked : (test : List (List ℕ) → Bool) (d : List (List ℕ)) (rest : List (List (List ℕ))) (choice : List (List ℕ)) → pick test d rest ≡ Some choice → Picked test d rest choice
picked test [] rest choice e = absurd (let f : None ≡ Some choice = e in cc)
picked test (x ∷ d) rest choice e = by (find (λ xs. test (x ∷ xs)) rest) refl (picked test d rest choice)
  where
    by : (o : Option (List (List ℕ))) → find (λ xs. test (x ∷ xs)) rest ≡ o → (pick test d rest ≡ Some choice → Picked test d rest choice) → Picked test (x ∷ d) rest choice
    by (Some found) f later =
        let s : Some (x ∷ found) ≡ Some choice = sym (pick-takes test x d rest found f) ∙ e in
        record { place = 0; bundle = x; behind = found; stands = refl; is = cc; found = f; before = λ j y lt at. absurd (omega arith) }
    by None f later =
        let h = later (sym (pick-skips test x d rest f) ∙ e) in
        record { place = suc h.place; bundle = h.bundle; behind = h.behind; stands = h.stands; is = h.is; found = h.found; before = earlier h }
      where
        earlier : (h : Picked test d rest choice) → (j : ℕ) (y : List ℕ) → j < suc h.place → slice_get (x ∷ d) j ≡ Some y → find (λ xs. test (y ∷ xs)) rest ≡ None
        earlier h zero y lt at = let s : x ≡ y = cc in ap (λ z. find (λ xs. test (z ∷ xs)) rest) (sym s) ∙ f
        earlier h (suc j) y lt at = h.before j y (omega arith) at

-- nothing was taken
pub pick-none : (test : List (List ℕ) → Bool) (d : List (List ℕ)) (rest : List (List (List ℕ))) (x : List ℕ) → IsIn x d → pick test d rest ≡ None → find (λ xs. test (x ∷ xs)) rest ≡ None
pick-none test [] rest x among e = absurd among
pick-none test (y ∷ d) rest x among e = by (find (λ xs. test (y ∷ xs)) rest) refl among (λ later. pick-none test d rest x later)
  where
    by : (o : Option (List (List ℕ))) → find (λ xs. test (y ∷ xs)) rest ≡ o → (x ≡ y) ⊎ IsIn x d → (IsIn x d → pick test d rest ≡ None → find (λ xs. test (x ∷ xs)) rest ≡ None) → find (λ xs. test (x ∷ xs)) rest ≡ None
    by (Some found) f where_in later = absurd (let s : Some (y ∷ found) ≡ None = sym (pick-takes test y d rest found f) ∙ e in cc)
    by None f (inl same) later = ap (λ z. find (λ xs. test (z ∷ xs)) rest) same ∙ f
    by None f (inr m) later = later m (sym (pick-skips test y d rest f) ∙ e)

-- where the search finds nothing, no choice passes
pub choices-none : (test : List (List ℕ) → Bool) (ds : List (List (List ℕ))) (choice : List (List ℕ)) → IsChoice ds choice → find test (choices ds) ≡ None → test choice ≡ false
choices-none test [] [] chosen e = by (test []) e
  where
    by : (b : Bool) → cond {A = Option (List (List ℕ))} b (Some []) None ≡ None → b ≡ false
    by true f = absurd (cc)
    by false f = refl
choices-none test [] (x ∷ xs) chosen e = absurd chosen
choices-none test (d ∷ ds) [] chosen e = absurd chosen
choices-none test (d ∷ ds) (x ∷ xs) chosen e =
    choices-none (λ ys. test (x ∷ ys)) ds xs chosen.1 (pick-none test d (choices ds) x chosen.0 (sym (find-choices test d ds) ∙ e))
