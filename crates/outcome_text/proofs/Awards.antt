-- Award rows and choices that are taken one after another.
use Rattle.std.proofs.Common.{◌≡◌, ◌<◌, ◌+◌, ◌++◌, ℕ, suc, ℤ, List, [], ◌∷◌, length, get_or, take, drop, Option, Some, None, sym, ap, ◌∙◌, subst, refl, arith, append_assoc}
use Rattle.std.specs.List.{AllByRecursion}
use Rattle.std.proofs.lemmas.List.{length-append, drop_more, take_more}
use Rattle.clock.proofs.Append.{all-push}
use Rattle.settlement.specs.declared.outcome.AwardRow.{AwardRow}
use Rattle.outcome_text.specs.Listed.{award_numbers, awards_numbers, choice_numbers, choices_numbers}
use Rattle.outcome_text.specs.Parts.{IsBundleOf, IsAwardOf, AreAwardsOf, AreChoicesOf}
use Rattle.outcome_text.proofs.Cells.{all-at}

-- What was made so far fits, and it is what stood in front.
pub record AreAwardsTaken (goods bidders i : ℕ) (old rest : List ℤ) (made : List AwardRow) : Type 0 where
  pub counted : length made ≡ i
  pub each : AllByRecursion (IsAwardOf goods) made
  pub back : (rows : List AwardRow) (behind : List ℤ) → AreAwardsOf goods bidders rows → old ≡ awards_numbers 1 rows ++ behind → (made ≡ take i rows) × (rest ≡ awards_numbers (i + 1) (drop i rows) ++ behind)

-- what a call that takes the next row says
abbrev pub TakesAward : ℕ → List ℤ → List ℤ → Option AwardRow → Type 0
TakesAward goods old new result = (bidder : ℕ) (row : AwardRow) (behind : List ℤ) → IsAwardOf goods row → old ≡ award_numbers bidder row ++ behind → (result ≡ Some row) × (new ≡ behind)

length-push : {A : Type 0} (xs : List A) (x : A) (i : ℕ) → length xs ≡ i → length (xs ++ x ∷ []) ≡ i + 1
length-push xs x i e = length-append xs (x ∷ []) ∙ omega arith

-- the next row, and the numbers after it
next-award : (i : ℕ) (rest : List ℤ) (rows : List AwardRow) (behind : List ℤ) (d : AwardRow) → i < length rows → rest ≡ awards_numbers (i + 1) (drop i rows) ++ behind
    → rest ≡ award_numbers (i + 1) (get_or rows i d) ++ (awards_numbers (i + 1 + 1) (drop (i + 1) rows) ++ behind)
next-award i rest rows behind d inside e =
    let more : suc (i + 1) ≡ i + 1 + 1 = omega arith in
    e ∙ ap (λ rs. awards_numbers (i + 1) rs ++ behind) (drop_more rows i d inside)
    ∙ append_assoc (award_numbers (i + 1) (get_or rows i d)) (awards_numbers (suc (i + 1)) (drop (i + 1) rows)) behind
    ∙ ap (λ n. award_numbers (i + 1) (get_or rows i d) ++ (awards_numbers n (drop (i + 1) rows) ++ behind)) more

pub one-more-award : (goods bidders i : ℕ) (old rest new : List ℤ) (made after : List AwardRow) (row : AwardRow) → AreAwardsTaken goods bidders i old rest made → i < bidders → IsAwardOf goods row → TakesAward goods rest new (Some row) → after ≡ made ++ row ∷ []
    → AreAwardsTaken goods bidders (i + 1) old new after
one-more-award goods bidders i old rest new made after row h below fit next pushed =
    record {
      counted = ap length pushed ∙ length-push made row i h.counted;
      each = let P : List AwardRow → Type 0 = AllByRecursion (IsAwardOf goods) in subst P (sym pushed) (all-push (IsAwardOf goods) made row h.each fit);
      back = λ rows behind are e.
          let before = h.back rows behind are e in
          let here : i < length rows = omega (arith, are.count) in
          let taken = next (i + 1) (get_or rows i row) (awards_numbers (i + 1 + 1) (drop (i + 1) rows) ++ behind) (all-at (IsAwardOf goods) rows i row are.each here) (next-award i rest rows behind row here before.1) in
          let same : row ≡ get_or rows i row = let s = taken.0 in cc in
          (pushed ∙ (λ j. before.0 j ++ same j ∷ []) ∙ sym (take_more rows i row here), taken.1);
    }

-- where no row can be taken, there are no such rows
pub no-award : (goods bidders i : ℕ) (old rest new : List ℤ) (made rows : List AwardRow) (behind : List ℤ) → AreAwardsTaken goods bidders i old rest made → i < bidders → TakesAward goods rest new None → AreAwardsOf goods bidders rows → old ≡ awards_numbers 1 rows ++ behind → ⊥
no-award goods bidders i old rest new made rows behind h below next are e = by rows refl
  where
    by : (rs : List AwardRow) → rows ≡ rs → ⊥
    by [] is = let none : length rows ≡ 0 = ap length is in omega (arith, are.count)
    by (d ∷ rs) is =
        let here : i < length rows = omega (arith, are.count) in
        let taken = next (i + 1) (get_or rows i d) (awards_numbers (i + 1 + 1) (drop (i + 1) rows) ++ behind) (all-at (IsAwardOf goods) rows i d are.each here) (next-award i rest rows behind d here (h.back rows behind are e).1) in
        let s : None ≡ Some (get_or rows i d) = taken.0 in cc

-- The same of choices.
pub record AreChoicesTaken (goods count i : ℕ) (old rest : List ℤ) (made : List (List ℕ)) : Type 0 where
  pub counted : length made ≡ i
  pub each : AllByRecursion (IsBundleOf goods) made
  pub back : (clock : ℕ) (js : List ℕ) (choices : List (List ℕ)) (behind : List ℤ) → length js ≡ count → AreChoicesOf goods count choices → old ≡ choices_numbers clock js choices ++ behind
      → (made ≡ take i choices) × (rest ≡ choices_numbers clock (drop i js) (drop i choices) ++ behind)

abbrev pub TakesChoice : ℕ → List ℤ → List ℤ → Option (List ℕ) → Type 0
TakesChoice goods old new result = (clock bidder : ℕ) (bundle : List ℕ) (behind : List ℤ) → IsBundleOf goods bundle → old ≡ choice_numbers clock bidder bundle ++ behind → (result ≡ Some bundle) × (new ≡ behind)

next-choice : (clock i : ℕ) (rest : List ℤ) (js : List ℕ) (choices : List (List ℕ)) (behind : List ℤ) → i < length js → i < length choices → rest ≡ choices_numbers clock (drop i js) (drop i choices) ++ behind
    → rest ≡ choice_numbers clock (get_or js i 0) (get_or choices i []) ++ (choices_numbers clock (drop (i + 1) js) (drop (i + 1) choices) ++ behind)
next-choice clock i rest js choices behind inside here e =
    e ∙ (λ k. choices_numbers clock (drop_more js i 0 inside k) (drop_more choices i [] here k) ++ behind)
    ∙ append_assoc (choice_numbers clock (get_or js i 0) (get_or choices i [])) (choices_numbers clock (drop (i + 1) js) (drop (i + 1) choices)) behind

pub one-more-choice : (goods count i : ℕ) (old rest new : List ℤ) (made after : List (List ℕ)) (bundle : List ℕ) → AreChoicesTaken goods count i old rest made → i < count → IsBundleOf goods bundle → TakesChoice goods rest new (Some bundle) → after ≡ made ++ bundle ∷ []
    → AreChoicesTaken goods count (i + 1) old new after
one-more-choice goods count i old rest new made after bundle h below fit next pushed =
    record {
      counted = ap length pushed ∙ length-push made bundle i h.counted;
      each = let P : List (List ℕ) → Type 0 = AllByRecursion (IsBundleOf goods) in subst P (sym pushed) (all-push (IsBundleOf goods) made bundle h.each fit);
      back = λ clock js choices behind l are e.
          let before = h.back clock js choices behind l are e in
          let inside : i < length js = omega arith in
          let here : i < length choices = omega (arith, are.counted) in
          let taken = next clock (get_or js i 0) (get_or choices i []) (choices_numbers clock (drop (i + 1) js) (drop (i + 1) choices) ++ behind) (all-at (IsBundleOf goods) choices i [] are.each here) (next-choice clock i rest js choices behind inside here before.1) in
          let same : bundle ≡ get_or choices i [] = let s = taken.0 in cc in
          (pushed ∙ (λ j. before.0 j ++ same j ∷ []) ∙ sym (take_more choices i [] here), taken.1);
    }

pub no-choice : (goods count i : ℕ) (old rest new : List ℤ) (made : List (List ℕ)) (clock : ℕ) (js : List ℕ) (choices : List (List ℕ)) (behind : List ℤ) → AreChoicesTaken goods count i old rest made → i < count → TakesChoice goods rest new None
    → length js ≡ count → AreChoicesOf goods count choices → old ≡ choices_numbers clock js choices ++ behind → ⊥
no-choice goods count i old rest new made clock js choices behind h below next l are e =
    let inside : i < length js = omega arith in
    let here : i < length choices = omega (arith, are.counted) in
    let taken = next clock (get_or js i 0) (get_or choices i []) (choices_numbers clock (drop (i + 1) js) (drop (i + 1) choices) ++ behind) (all-at (IsBundleOf goods) choices i [] are.each here)
    (next-choice clock i rest js choices behind inside here (h.back clock js choices behind l are e).1) in
    let s : None ≡ Some (get_or choices i []) = taken.0 in cc
