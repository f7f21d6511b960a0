-- The choice that is found stands at the first places.
use Rattle.std.proofs.Common.{◌≡◌, ◌<◌, ◌⊎◌, inl, inr, ℕ, zero, suc, Bool, true, false, ◌&&◌, ◌||◌, nat_eq, cond, List, [], ◌∷◌, Option, Some, None, refl, sym, ◌∙◌, ap, subst, arith}
use Rattle.std.specs.Prelude.{find, slice_get, nat_le, ◌≤◌}
use Rattle.std.specs.Cmp.Lexicographic.{slice_cmp}
use Rattle.std.specs.Ordering.{nat_cmp, ordering_then, MatchOrdering}
use Rattle.std.specs.declared.cmp.Ordering.{Ordering}
use Rattle.std.specs.declared.cmp.Ordering.TheVariants.{Less, Equal, Greater}
use Rattle.std.proofs.lemmas.Cmp.{ranked}
use Rattle.std.proofs.lemmas.Bool.Decides.{nat_tests}
use Rattle.lot_base.specs.Box.{IsIn}
use Rattle.lot_base.specs.Choices.{sum_of, Clears, IsChoice, IsClearingChoice, StandsAt, IsFirstChoice, choices, clears, first_choice}
use Rattle.lot_base.proofs.Within.{both}
use Rattle.award_assembly.proofs.Picks.{find-choices, Picked, picked, choices-none}

pub slice_get-in : (d : List (List ℕ)) (place : ℕ) (x : List ℕ) → slice_get d place ≡ Some x → IsIn x d
slice_get-in [] place x at = absurd (let f : None ≡ Some x = at in cc)
slice_get-in (y ∷ d) zero x at = inl (let f : Some y ≡ Some x = at in cc)
slice_get-in (y ∷ d) (suc place) x at = inr (slice_get-in d place x at)

stands-choice : (ds : List (List (List ℕ))) (places : List ℕ) (choice : List (List ℕ)) → StandsAt ds places choice → IsChoice ds choice
stands-choice [] [] [] s = tt
stands-choice [] [] (x ∷ xs) s = absurd s
stands-choice [] (place ∷ places) choice s = absurd s
stands-choice (d ∷ ds) [] choice s = absurd s
stands-choice (d ∷ ds) (place ∷ places) [] s = absurd s
stands-choice (d ∷ ds) (place ∷ places) (x ∷ xs) s = (slice_get-in d place x s.0, stands-choice ds places xs s.1)

-- the places of a choice that passes a test, before which no choice passes
record FirstPlaces (test : List (List ℕ) → Bool) (ds : List (List (List ℕ))) (choice : List (List ℕ)) : Type 0 where
  pub places : List ℕ
  pub stands : StandsAt ds places choice
  pub passes : test choice ≡ true
  pub first : (others : List ℕ) (other : List (List ℕ)) → StandsAt ds others other → test other ≡ true → slice_cmp nat_cmp places others ≡ Greater → ⊥

found-empty : (test : List (List ℕ) → Bool) (choice : List (List ℕ)) → find test (choices []) ≡ Some choice → FirstPlaces test [] choice
found-empty test choice e = by (test []) refl e
  where
    by : (b : Bool) → test [] ≡ b → cond {A = Option (List (List ℕ))} b (Some []) None ≡ Some choice → FirstPlaces test [] choice
    by true t f =
        let s : [] ≡ choice = cc in
        record { places = []; stands = subst (StandsAt [] []) s tt; passes = ap test (sym s) ∙ t; first = λ others other stand pass greater. none others other stand greater }
      where
        none : (others : List ℕ) (other : List (List ℕ)) → StandsAt [] others other → slice_cmp nat_cmp [] others ≡ Greater → ⊥
        none [] other stand greater = let f : Equal ≡ Greater = greater in cc
        none (place ∷ others) other stand greater = stand
    by false t f = absurd (cc)

-- the order of two places and of the places after
not_greater : (i j : ℕ) (o behind : Ordering) → MatchOrdering o (i < j) (i ≡ j) (j < i) → ordering_then o behind ≡ Greater → (j < i) ⊎ ((i ≡ j) × (behind ≡ Greater))
not_greater i j Less behind m e = absurd (let f : Less ≡ Greater = e in cc)
not_greater i j Equal behind m e = inr (m, e)
not_greater i j Greater behind m e = inl m

found-first : (test : List (List ℕ) → Bool) (ds : List (List (List ℕ))) (choice : List (List ℕ)) → find test (choices ds) ≡ Some choice → FirstPlaces test ds choice
found-first test [] choice e = found-empty test choice e
found-first test (d ∷ ds) choice e = with_pick (picked test d (choices ds) choice (sym (find-choices test d ds) ∙ e)) (λ x behind f. found-first (λ xs. test (x ∷ xs)) ds behind f)
  where
    with_pick : Picked test d (choices ds) choice → ((x : List ℕ) (behind : List (List ℕ)) → find (λ xs. test (x ∷ xs)) (choices ds) ≡ Some behind → FirstPlaces (λ xs. test (x ∷ xs)) ds behind)
        → FirstPlaces test (d ∷ ds) choice
    with_pick p later =
        let rest = later p.bundle p.behind p.found in
        record {
          places = p.place ∷ rest.places;
          stands = subst (StandsAt (d ∷ ds) (p.place ∷ rest.places)) (sym p.is) (p.stands, rest.stands);
          passes = ap test p.is ∙ rest.passes;
          first = λ others other stand pass greater. no_earlier rest others other stand pass greater;
        }
      where
        no_earlier : (rest : FirstPlaces (λ xs. test (p.bundle ∷ xs)) ds p.behind) (others : List ℕ) (other : List (List ℕ)) → StandsAt (d ∷ ds) others other → test other ≡ true
            → slice_cmp nat_cmp (p.place ∷ rest.places) others ≡ Greater → ⊥
        no_earlier rest [] other stand pass greater = stand
        no_earlier rest (j ∷ js) [] stand pass greater = stand
        no_earlier rest (j ∷ js) (y ∷ ys) stand pass greater =
            by (not_greater p.place j (nat_cmp p.place j) (slice_cmp nat_cmp rest.places js) (ranked p.place j (nat_cmp p.place j) refl) greater)
          where
            by : (j < p.place) ⊎ ((p.place ≡ j) × (slice_cmp nat_cmp rest.places js ≡ Greater)) → ⊥
            by (inl earlier) =
                let f = choices-none (λ xs. test (y ∷ xs)) ds ys (stands-choice ds js ys stand.1) (p.before j y earlier stand.0) in
                let g : true ≡ false = sym pass ∙ f in cc
            by (inr same) =
                let at : Some p.bundle ≡ Some y = sym p.stands ∙ ap (slice_get d) same.0 ∙ stand.0 in
                let x : p.bundle ≡ y = cc in
                rest.first js ys stand.1 (ap (λ z. test (z ∷ ys)) x ∙ pass) same.1

-- the test and the relation
either : (a b : Bool) → (a || b) ≡ true → (a ≡ true) ⊎ (b ≡ true)
either true b e = inl refl
either false b e = inr e

pub clears-says : (o p t s : List ℕ) → clears o p t s ≡ true → Clears o p t s
clears-says [] [] [] [] e = tt
clears-says (o ∷ os) (p ∷ ps) (t ∷ ts) (s ∷ ss) e =
    let h = both (nat_le t s && (nat_le p o || nat_eq t s)) (clears os ps ts ss) e in
    let k = both (nat_le t s) (nat_le p o || nat_eq t s) h.0 in (
      (let x = k.0 in grind (arith, nat_tests)),
      (λ some. elim (either (nat_le p o) (nat_eq t s) k.1) [
        | inl x ↦ absurd (let y : p ≤ o = grind (arith, nat_tests) in omega arith)
        | inr x ↦ grind (arith, nat_tests)
      ]),
      clears-says os ps ts ss h.1,
    )
clears-says [] [] [] (s ∷ ss) e = absurd (let f : false ≡ true = e in cc)
clears-says [] [] (t ∷ ts) ss e = absurd (let f : false ≡ true = e in cc)
clears-says [] (p ∷ ps) ts ss e = absurd (let f : false ≡ true = e in cc)
clears-says (o ∷ os) [] ts ss e = absurd (let f : false ≡ true = e in cc)
clears-says (o ∷ os) (p ∷ ps) [] ss e = absurd (let f : false ≡ true = e in cc)
clears-says (o ∷ os) (p ∷ ps) (t ∷ ts) [] e = absurd (let f : false ≡ true = e in cc)

pub clears-true : (o p t s : List ℕ) → Clears o p t s → clears o p t s ≡ true
clears-true [] [] [] [] c = refl
clears-true [] [] [] (s ∷ ss) c = absurd c
clears-true [] [] (t ∷ ts) ss c = absurd c
clears-true [] (p ∷ ps) ts ss c = absurd c
clears-true (o ∷ os) [] ts ss c = absurd c
clears-true (o ∷ os) (p ∷ ps) [] ss c = absurd c
clears-true (o ∷ os) (p ∷ ps) (t ∷ ts) [] c = absurd c
clears-true (o ∷ os) (p ∷ ps) (t ∷ ts) (s ∷ ss) c =
    let a : nat_le t s ≡ true = (let x = c.0 in grind (arith, nat_tests)) in
    let b : (nat_le p o || nat_eq t s) ≡ true = here (nat_le p o) refl in
    let r = clears-true os ps ts ss c.2 in
    λ i. (a i && b i) && r i
  where
    here : (q : Bool) → nat_le p o ≡ q → (nat_le p o || nat_eq t s) ≡ true
    here true e = ap (λ b. b || nat_eq t s) e
    here false e = let above : o < p = grind (arith, nat_tests) in let y : t ≡ s = c.1 above in let z : nat_eq t s ≡ true = grind (arith, nat_tests) in λ i. e i || z i

pub first_choice-first : (supply opening p : List ℕ) (demands : List (List (List ℕ))) (choice : List (List ℕ)) → first_choice supply opening p demands ≡ Some choice → IsFirstChoice supply opening p demands choice
first_choice-first supply opening p demands choice e =
    let h = found-first (λ xs. clears opening p (sum_of supply xs) supply) demands choice e in
    record {
      places = h.places;
      stands = h.stands;
      clears = clears-says opening p (sum_of supply choice) supply h.passes;
      first = λ others other stand clear greater. h.first others other stand (clears-true opening p (sum_of supply other) supply clear) greater;
    }

pub first_choice-clearing : (supply opening p : List ℕ) (demands : List (List (List ℕ))) (choice : List (List ℕ)) → first_choice supply opening p demands ≡ Some choice → IsClearingChoice supply opening p demands choice
first_choice-clearing supply opening p demands choice e =
    let h = first_choice-first supply opening p demands choice e in
    record { chosen = stands-choice demands h.places choice h.stands; clears = h.clears }

pub first_choice-none : (supply opening p : List ℕ) (demands : List (List (List ℕ))) → first_choice supply opening p demands ≡ None → (choice : List (List ℕ)) → IsClearingChoice supply opening p demands choice → ⊥
first_choice-none supply opening p demands e choice c =
    let f = choices-none (λ xs. clears opening p (sum_of supply xs) supply) demands choice c.chosen e in
    let g : true ≡ false = sym (clears-true opening p (sum_of supply choice) supply c.clears) ∙ f in
    cc
