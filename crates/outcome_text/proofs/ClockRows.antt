-- Clock rows that are taken one after another, and how many members a clock has.
use Rattle.std.proofs.Common.{◌≡◌, ◌<◌, ◌≤◌, ◌+◌, ◌++◌, ◌^◌, ℕ, zero, suc, ℤ, pos, Bool, true, false, not, nat_eq, cond, List, [], ◌∷◌, length, get_or, take, drop, Option, Some, None, refl, sym, ap, ◌∙◌, subst, arith, append_assoc}
use Rattle.std.proofs.lemmas.Bool.Decides.{nat_tests}
use Rattle.std.specs.Prelude.{filter}
use Rattle.std.specs.List.{AllByRecursion, AllZip, range_with_len}
use Rattle.std.proofs.Math.ListN.{drop_of_length-le}
use Rattle.std.proofs.lemmas.List.{drop_more, take_more, take_all}
use Rattle.clock.specs.Reports.{members}
use Rattle.settlement.specs.declared.outcome.ClockRow.{ClockRow}
use Rattle.outcome_text.specs.Listed.{naturals, choices_numbers, clock_numbers, clocks_numbers}
use Rattle.settlement.specs.Shapes.{IsOf}
use Rattle.settlement.proofs.Zips.{zip-push}
use Rattle.outcome_text.specs.Reading.{AreQuantities}
use Rattle.outcome_text.specs.Parts.{IsBundleOf, ArePricesOf, AreChoicesOf, IsClockOf, AreClocksOf}

-- ---- how many members a clock has

others-after : (a n clock : ℕ) → clock < a → length (filter (λ j. not (nat_eq j clock)) (range_with_len a n)) ≡ n
others-after a zero clock below = refl
others-after a (suc n) clock below =
    let t : nat_eq a clock ≡ false = grind (arith, nat_tests) in
    let rest = filter (λ j. not (nat_eq j clock)) (range_with_len (a + 1) n) in
    ap (λ b. length (cond (not b) (a ∷ rest) rest)) t ∙ ap suc (others-after (a + 1) n clock (omega arith))

others-with : (a n clock : ℕ) → a ≤ clock → clock < a + n → suc (length (filter (λ j. not (nat_eq j clock)) (range_with_len a n))) ≡ n
others-with a zero clock low high = absurd (omega arith)
others-with a (suc n) clock low high = by (nat_eq a clock) refl (λ k. others-with (a + 1) n clock k (omega arith))
  where
    by : (b : Bool) → nat_eq a clock ≡ b → (a + 1 ≤ clock → suc (length (filter (λ j. not (nat_eq j clock)) (range_with_len (a + 1) n))) ≡ n)
        → suc (length (cond (not (nat_eq a clock)) (a ∷ filter (λ j. not (nat_eq j clock)) (range_with_len (a + 1) n)) (filter (λ j. not (nat_eq j clock)) (range_with_len (a + 1) n)))) ≡ suc n
    by true t more =
        let same : a ≡ clock = grind (arith, nat_tests) in
        let rest = filter (λ j. not (nat_eq j clock)) (range_with_len (a + 1) n) in
        ap (λ b. suc (length (cond (not b) (a ∷ rest) rest))) t ∙ ap suc (others-after (a + 1) n clock (omega arith))
    by false t more =
        let other : a + 1 ≤ clock = grind (arith, nat_tests) in
        let rest = filter (λ j. not (nat_eq j clock)) (range_with_len (a + 1) n) in
        ap (λ b. suc (length (cond (not b) (a ∷ rest) rest))) t ∙ ap suc (more other)

pub count-all : (bidders : ℕ) → length (members bidders 0) ≡ bidders
count-all bidders = others-after 1 bidders 0 (omega arith)

pub count-others : (bidders clock : ℕ) → 1 ≤ clock → clock ≤ bidders → suc (length (members bidders clock)) ≡ bidders
count-others bidders clock low high = others-with 1 bidders clock low (omega arith)

-- ---- rows of clocks

range-push : (a n : ℕ) → range_with_len a (n + 1) ≡ range_with_len a n ++ (a + n) ∷ []
range-push a zero = let e : a ≡ a + 0 = omega arith in ap (λ k. k ∷ []) e
range-push a (suc n) =
    let e : suc n + 1 ≡ suc (n + 1) = omega arith in
    let f : a + 1 + n ≡ a + suc n = omega arith in
    ap (range_with_len a) e ∙ ap (λ ks. a ∷ ks) (range-push (a + 1) n ∙ ap (λ k. range_with_len (a + 1) n ++ k ∷ []) f)

zip-at : {B : Type 0} (R : ℕ → B → Type 0) (a n i : ℕ) (ys : List B) (d : B) → AllZip R (range_with_len a n) ys → i < n → R (a + i) (get_or ys i d)
zip-at R a zero i ys d all h = absurd (omega arith)
zip-at R a (suc n) i [] d all h = absurd all
zip-at R a (suc n) zero (y ∷ ys) d all h = let e : a ≡ a + 0 = omega arith in subst (λ k. R k y) e all.0
zip-at R a (suc n) (suc i) (y ∷ ys) d all h = let e : a + 1 + i ≡ a + suc i = omega arith in subst (λ k. R k (get_or ys i d)) e (zip-at R (a + 1) n i ys d all.1 (omega arith))

pub zip-length : {B : Type 0} (R : ℕ → B → Type 0) (a n : ℕ) (ys : List B) → AllZip R (range_with_len a n) ys → length ys ≡ n
zip-length R a zero [] all = refl
zip-length R a zero (y ∷ ys) all = absurd all
zip-length R a (suc n) [] all = absurd all
zip-length R a (suc n) (y ∷ ys) all = ap suc (zip-length R (a + 1) n ys all.1)

-- ---- one row

all-both : {A : Type 0} (P Q R : A → Type 0) (xs : List A) → ((x : A) → P x → Q x → R x) → AllByRecursion P xs → AllByRecursion Q xs → AllByRecursion R xs
all-both P Q R [] f p q = tt
all-both P Q R (x ∷ xs) f p q = (f x p.0 q.0, all-both P Q R xs f p.1 q.1)

-- what the calls that take the front and the choices of a clock say
abbrev pub TakesHead : ℕ → List ℤ → List ℤ → Option (ℕ × List ℕ) → Type 0
TakesHead goods old new result = (clock steps : ℕ) (prices : List ℕ) (behind : List ℤ) → steps < 2 ^ 32 → ArePricesOf goods prices → old ≡ pos clock ∷ pos steps ∷ naturals prices ++ behind → (result ≡ Some (steps, prices)) × (new ≡ behind)

abbrev pub TakesChoices : ℕ → ℕ → List ℤ → List ℤ → Option (List (List ℕ)) → Type 0
TakesChoices goods count old new result = (clock : ℕ) (js : List ℕ) (choices : List (List ℕ)) (behind : List ℤ) → length js ≡ count → AreChoicesOf goods count choices → old ≡ choices_numbers clock js choices ++ behind → (result ≡ Some choices) × (new ≡ behind)

pub record FoundRow (row : ClockRow) (behind new : List ℤ) (head : Option (ℕ × List ℕ)) (choices : Option (List (List ℕ))) : Type 0 where
  pub head_is : head ≡ Some (row.steps, row.prices)
  pub choices_are : choices ≡ Some row.choices
  pub rest_is : new ≡ behind

pub row-found : (goods bidders clock count : ℕ) (old mid new : List ℤ) (head : Option (ℕ × List ℕ)) (choices : Option (List (List ℕ))) → count ≡ length (members bidders clock) → TakesHead goods old mid head → TakesChoices goods count mid new choices
    → (row : ClockRow) (behind : List ℤ) → IsClockOf goods bidders clock row → old ≡ clock_numbers bidders clock row ++ behind → FoundRow row behind new head choices
row-found goods bidders clock count old mid new head choices counted takes-head takes-choices row behind is e =
    let js = members bidders clock in
    let front = takes-head clock row.steps row.prices (choices_numbers clock js row.choices ++ behind) is.in_range.steps (record { fit = is.fit.prices_fit; in_range = is.in_range.prices })
    (e ∙ append_assoc (pos clock ∷ pos row.steps ∷ naturals row.prices) (choices_numbers clock js row.choices) behind) in
    let back = takes-choices clock js row.choices behind (sym counted)
    (record { counted = is.fit.members_choose ∙ sym counted; each = all-both (IsOf goods) AreQuantities (IsBundleOf goods) row.choices (λ x f r. record { fit = f; in_range = r }) is.fit.choices_fit is.in_range.choices }) front.1 in
    record { head_is = front.0; choices_are = back.0; rest_is = back.1 }

-- ---- all rows

-- What was made so far fits, and it is what stood in front.
pub record AreClocksTaken (goods bidders i : ℕ) (old rest : List ℤ) (made : List ClockRow) : Type 0 where
  pub fit : AllZip (IsClockOf goods bidders) (range_with_len 0 i) made
  pub back : (rows : List ClockRow) (behind : List ℤ) → AreClocksOf goods bidders rows → old ≡ clocks_numbers bidders 0 rows ++ behind → (made ≡ take i rows) × (rest ≡ clocks_numbers bidders i (drop i rows) ++ behind)

abbrev pub TakesClock : ℕ → ℕ → ℕ → List ℤ → List ℤ → Option ClockRow → Type 0
TakesClock goods bidders clock old new result = (row : ClockRow) (behind : List ℤ) → IsClockOf goods bidders clock row → old ≡ clock_numbers bidders clock row ++ behind → (result ≡ Some row) × (new ≡ behind)

next-clock : (bidders i : ℕ) (rest : List ℤ) (rows : List ClockRow) (behind : List ℤ) (d : ClockRow) → i < length rows → rest ≡ clocks_numbers bidders i (drop i rows) ++ behind
    → rest ≡ clock_numbers bidders i (get_or rows i d) ++ (clocks_numbers bidders (i + 1) (drop (i + 1) rows) ++ behind)
next-clock bidders i rest rows behind d inside e =
    let more : suc i ≡ i + 1 = omega arith in
    e ∙ ap (λ rs. clocks_numbers bidders i rs ++ behind) (drop_more rows i d inside)
    ∙ append_assoc (clock_numbers bidders i (get_or rows i d)) (clocks_numbers bidders (suc i) (drop (i + 1) rows)) behind
    ∙ ap (λ n. clock_numbers bidders i (get_or rows i d) ++ (clocks_numbers bidders n (drop (i + 1) rows) ++ behind)) more

pub one-more-clock : (goods bidders i : ℕ) (old rest new : List ℤ) (made after : List ClockRow) (row : ClockRow) → AreClocksTaken goods bidders i old rest made → i < bidders + 1 → IsClockOf goods bidders i row → TakesClock goods bidders i rest new (Some row) → after ≡ made ++ row ∷ []
    → AreClocksTaken goods bidders (i + 1) old new after
one-more-clock goods bidders i old rest new made after row h below fit next pushed =
    let R = IsClockOf goods bidders in
    record {
      fit = subst (λ ks. AllZip R ks after) (sym (range-push 0 i)) (subst (λ rs. AllZip R (range_with_len 0 i ++ (0 + i) ∷ []) rs) (sym pushed) (zip-push R (range_with_len 0 i) made (0 + i) row h.fit (let e : i ≡ 0 + i = omega arith in subst (λ k. R k row) e fit)));
      back = λ rows behind are e.
          let before = h.back rows behind are e in
          let here : i < length rows = omega (arith, zip-length R 0 (bidders + 1) rows are) in
          let its : R i (get_or rows i row) = let z : 0 + i ≡ i = omega arith in subst (λ k. R k (get_or rows i row)) z (zip-at R 0 (bidders + 1) i rows row are below) in
          let taken = next (get_or rows i row) (clocks_numbers bidders (i + 1) (drop (i + 1) rows) ++ behind) its (next-clock bidders i rest rows behind row here before.1) in
          let same : row ≡ get_or rows i row = let s = taken.0 in cc in
          (pushed ∙ (λ j. before.0 j ++ same j ∷ []) ∙ sym (take_more rows i row here), taken.1);
    }

pub no-clock : (goods bidders i : ℕ) (old rest new : List ℤ) (made rows : List ClockRow) (behind : List ℤ) → AreClocksTaken goods bidders i old rest made → i < bidders + 1 → TakesClock goods bidders i rest new None → AreClocksOf goods bidders rows → old ≡ clocks_numbers bidders 0 rows ++ behind → ⊥
no-clock goods bidders i old rest new made rows behind h below next are e = by rows refl
  where
    by : (rs : List ClockRow) → rows ≡ rs → ⊥
    by [] is = let none : length rows ≡ 0 = ap length is in omega (arith, zip-length (IsClockOf goods bidders) 0 (bidders + 1) rows are)
    by (d ∷ rs) is =
        let R = IsClockOf goods bidders in
        let here : i < length rows = omega (arith, zip-length R 0 (bidders + 1) rows are) in
        let its : R i (get_or rows i d) = let z : 0 + i ≡ i = omega arith in subst (λ k. R k (get_or rows i d)) z (zip-at R 0 (bidders + 1) i rows d are below) in
        let taken = next (get_or rows i d) (clocks_numbers bidders (i + 1) (drop (i + 1) rows) ++ behind) its (next-clock bidders i rest rows behind d here (h.back rows behind are e).1) in
        let s : None ≡ Some (get_or rows i d) = taken.0 in cc

pub all-clocks : (goods bidders : ℕ) (old rest : List ℤ) (made rows : List ClockRow) (behind : List ℤ) → AreClocksTaken goods bidders (bidders + 1) old rest made → AreClocksOf goods bidders rows → old ≡ clocks_numbers bidders 0 rows ++ behind → (made ≡ rows) × (rest ≡ behind)
all-clocks goods bidders old rest made rows behind h are e =
    let done = h.back rows behind are e in
    let few = zip-length (IsClockOf goods bidders) 0 (bidders + 1) rows are in
    (done.0 ∙ take_all (bidders + 1) rows (omega (arith, few)), done.1 ∙ ap (λ rs. clocks_numbers bidders (bidders + 1) rs ++ behind) (drop_of_length-le rows (omega (arith, few))))
