-- The numbers of each line of a plain text.
use Rattle.std.proofs.Common.{◌≡◌, ◌<◌, ◌≤◌, ◌+◌, ◌++◌, ◌^◌, ℕ, zero, suc, ℤ, pos, negsuc, Bool, true, false, not, nat_eq, List, [], ◌∷◌, length, cond, refl, sym, ap, ◌∙◌, arith, append_assoc, w64, Option, Some, None, append-nil}
use Rattle.std.specs.Prelude.{codes, filter, IfSome}
use Rattle.std.specs.Fmt.{signed_decimal}
use Rattle.std.specs.List.{AllByRecursion, cons_option, range_with_len}
use Rattle.std.specs.Int.RustNames.{FitsSigned}
use Rattle.std.proofs.lemmas.Int.{ints}
use Rattle.clock.specs.Reports.{members}
use Rattle.settlement.specs.declared.outcome.AwardRow.{AwardRow}
use Rattle.settlement.specs.declared.outcome.ClockRow.{ClockRow}
use Rattle.outcome_text.specs.Lines.{numerals}
use Rattle.outcome_text.specs.Plain.{head_words, price_words, bidder_words, bidder_lines, choice_words, choice_lines, clock_words, clock_lines, opening_lines}
use Rattle.outcome_text.specs.Reading.{AreQuantities, ArePrices, IsAmount, IsAwardInRange, IsClockInRange}
use Rattle.outcome_text.specs.Listed.{naturals, award_numbers, awards_numbers, choice_numbers, choices_numbers, clocks_numbers, opening_numbers}
use Rattle.outcome_text.proofs.NumberWords.{number_in-decimal, number_in-false}
use Rattle.outcome_text.proofs.TextNumbers.{IsClean, AreClean, AreSmall, among, among_lines, among_lines-append, among-numerals, among-none, clean-from, decimal-clean, signed-clean, numerals-clean, number_in-natural}

pub all-append : {A : Type 0} (P : A → Type 0) (xs ys : List A) → AllByRecursion P xs → AllByRecursion P ys → AllByRecursion P (xs ++ ys)
all-append P [] ys p q = q
all-append P (x ∷ xs) ys p q = (p.0, all-append P xs ys p.1 q)

all-below : (low high : ℕ) (ns : List ℕ) → low ≤ high → AllByRecursion (λ n. n < low) ns → AllByRecursion (λ n. n < high) ns
all-below low high [] h all = tt
all-below low high (n ∷ ns) h all = ((let s = all.0 in omega arith), all-below low high ns h all.1)

quantities-small : (ns : List ℕ) → AreQuantities ns → AreSmall ns
quantities-small ns h = all-below (2 ^ 16) (2 ^ 63) ns (omega arith) h

prices-small : (ns : List ℕ) → ArePrices ns → AreSmall ns
prices-small ns h = all-below (2 ^ 32) (2 ^ 63) ns (omega arith) h

amount-fits : (z : ℤ) → IsAmount z → FitsSigned w64 z
amount-fits (pos n) h = record { sfits = let a = h.high in omega (arith, ints) }
amount-fits (negsuc n) h = record { sfits = let a = h.low in omega (arith, ints) }

-- ---- the head and the prices

pub among-head : (goods bidders : ℕ) → goods ≤ 100 → bidders ≤ 100 → among (head_words goods bidders) ≡ pos goods ∷ pos bidders ∷ []
among-head goods bidders g b = λ i.
    cons_option (number_in-false (codes "settled") refl i) (cons_option (number_in-false (codes "goods") refl i) (cons_option (number_in-natural goods (omega arith) i)
    (cons_option (number_in-false (codes "bidders") refl i) (cons_option (number_in-natural bidders (omega arith) i) []))))

pub head-clean : (goods bidders : ℕ) → goods ≤ 100 → bidders ≤ 100 → AllByRecursion IsClean (head_words goods bidders)
head-clean goods bidders g b =
    (clean-from (codes "settled") refl, (clean-from (codes "goods") refl, (decimal-clean goods (omega arith), (clean-from (codes "bidders") refl, (decimal-clean bidders (omega arith), tt)))))

pub among-prices : (prices : List ℕ) → ArePrices prices → among (price_words prices) ≡ naturals prices
among-prices prices h = λ i. cons_option (number_in-false (codes "prices") refl i) (among-none prices (prices-small prices h) i)

pub prices-clean : (prices : List ℕ) → ArePrices prices → AllByRecursion IsClean (price_words prices)
prices-clean prices h = (clean-from (codes "prices") refl, numerals-clean prices (prices-small prices h))

-- ---- the line of the opening prices

pub among-opening : (opening : Option (List ℕ)) → IfSome opening ArePrices → among_lines (opening_lines opening) ≡ opening_numbers opening
unfolding among_lines
among-opening None h = refl
among-opening (Some opening) h = append-nil (among (codes "opening" ∷ numerals opening)) ∙ (λ i. cons_option (number_in-false (codes "opening") refl i) (among-none opening (prices-small opening h) i))

pub opening-clean : (opening : Option (List ℕ)) → IfSome opening ArePrices → AreClean (opening_lines opening)
opening-clean None h = tt
opening-clean (Some opening) h = ((clean-from (codes "opening") refl, numerals-clean opening (prices-small opening h)), tt)

-- ---- the lines of the bidders

amounts : AwardRow → List (List ℕ)
amounts row = codes "debit" ∷ signed_decimal row.debit ∷ codes "credit" ∷ signed_decimal row.credit ∷ codes "pays" ∷ signed_decimal row.pays ∷ []

among-amounts : (row : AwardRow) → IsAwardInRange row → among (amounts row) ≡ row.debit ∷ row.credit ∷ row.pays ∷ []
unfolding amounts
among-amounts row h = λ i.
    cons_option (number_in-false (codes "debit") refl i) (cons_option (number_in-decimal row.debit (amount-fits row.debit h.debit) i)
    (cons_option (number_in-false (codes "credit") refl i) (cons_option (number_in-decimal row.credit (amount-fits row.credit h.credit) i)
    (cons_option (number_in-false (codes "pays") refl i) (cons_option (number_in-decimal row.pays (amount-fits row.pays h.pays) i) [])))))

amounts-clean : (row : AwardRow) → IsAwardInRange row → AllByRecursion IsClean (amounts row)
unfolding amounts
amounts-clean row h = (
  clean-from (codes "debit") refl,
  (
    signed-clean row.debit (amount-fits row.debit h.debit),
    (
      clean-from (codes "credit") refl,
      (
        signed-clean row.credit (amount-fits row.credit h.credit),
        (clean-from (codes "pays") refl, (signed-clean row.pays (amount-fits row.pays h.pays), tt)),
      ),
    ),
  ),
)

among-bidder : (bidder : ℕ) (row : AwardRow) → bidder ≤ 100 → IsAwardInRange row → among (bidder_words bidder row) ≡ award_numbers bidder row
unfolding amounts
among-bidder bidder row b h = λ i.
    cons_option (number_in-false (codes "bidder") refl i) (cons_option (number_in-natural bidder (omega arith) i) (cons_option (number_in-false (codes "award") refl i)
    ((among-numerals row.award (amounts row) (quantities-small row.award h.award) ∙ ap (λ ns. naturals row.award ++ ns) (among-amounts row h)) i)))

bidder-clean : (bidder : ℕ) (row : AwardRow) → bidder ≤ 100 → IsAwardInRange row → AllByRecursion IsClean (bidder_words bidder row)
unfolding amounts
bidder-clean bidder row b h = (
  clean-from (codes "bidder") refl,
  (
    decimal-clean bidder (omega arith),
    (
      clean-from (codes "award") refl,
      all-append IsClean (numerals row.award) (amounts row) (numerals-clean row.award (quantities-small row.award h.award)) (amounts-clean row h),
    ),
  ),
)

pub among-bidders : (bidder : ℕ) (rows : List AwardRow) → bidder + length rows ≤ 100 → AllByRecursion IsAwardInRange rows → among_lines (bidder_lines bidder rows) ≡ awards_numbers bidder rows
unfolding among_lines
among-bidders bidder [] b h = refl
among-bidders bidder (row ∷ rows) b h = λ i. among-bidder bidder row (omega arith) h.0 i ++ among-bidders (suc bidder) rows (omega arith) h.1 i

pub bidders-clean : (bidder : ℕ) (rows : List AwardRow) → bidder + length rows ≤ 100 → AllByRecursion IsAwardInRange rows → AreClean (bidder_lines bidder rows)
bidders-clean bidder [] b h = tt
bidders-clean bidder (row ∷ rows) b h = (bidder-clean bidder row (omega arith) h.0, bidders-clean (suc bidder) rows (omega arith) h.1)

-- ---- the lines of the choices

abbrev pub AreFew : List ℕ → Type 0
AreFew js = AllByRecursion (λ j. j ≤ 100) js

among-choice : (clock bidder : ℕ) (bundle : List ℕ) → clock ≤ 100 → bidder ≤ 100 → AreQuantities bundle → among (choice_words clock bidder bundle) ≡ choice_numbers clock bidder bundle
among-choice clock bidder bundle c b h = λ i.
    cons_option (number_in-false (codes "choice") refl i) (cons_option (number_in-natural clock (omega arith) i) (cons_option (number_in-natural bidder (omega arith) i) (among-none bundle (quantities-small bundle h) i)))

choice-clean : (clock bidder : ℕ) (bundle : List ℕ) → clock ≤ 100 → bidder ≤ 100 → AreQuantities bundle → AllByRecursion IsClean (choice_words clock bidder bundle)
choice-clean clock bidder bundle c b h = (clean-from (codes "choice") refl, (decimal-clean clock (omega arith), (decimal-clean bidder (omega arith), numerals-clean bundle (quantities-small bundle h))))

among-choices : (clock : ℕ) (js : List ℕ) (choices : List (List ℕ)) → clock ≤ 100 → AreFew js → AllByRecursion AreQuantities choices → among_lines (choice_lines clock js choices) ≡ choices_numbers clock js choices
unfolding among_lines
among-choices clock [] choices c few h = refl
among-choices clock (j ∷ js) [] c few h = refl
among-choices clock (j ∷ js) (bundle ∷ choices) c few h = λ i. among-choice clock j bundle c few.0 h.0 i ++ among-choices clock js choices c few.1 h.1 i

choices-clean : (clock : ℕ) (js : List ℕ) (choices : List (List ℕ)) → clock ≤ 100 → AreFew js → AllByRecursion AreQuantities choices → AreClean (choice_lines clock js choices)
choices-clean clock [] choices c few h = tt
choices-clean clock (j ∷ js) [] c few h = tt
choices-clean clock (j ∷ js) (bundle ∷ choices) c few h = (choice-clean clock j bundle c few.0 h.0, choices-clean clock js choices c few.1 h.1)

-- ---- the lines of the clocks

few-range : (a n : ℕ) → a + n ≤ 100 → AreFew (range_with_len a n)
few-range a zero h = tt
few-range a (suc n) h = (omega arith, few-range (a + 1) n (omega arith))

few-filter : (p : ℕ → Bool) (js : List ℕ) → AreFew js → AreFew (filter p js)
few-filter p [] h = tt
few-filter p (j ∷ js) h = by (p j) h.0 (few-filter p js h.1)
  where
    by : (b : Bool) → j ≤ 100 → AreFew (filter p js) → AreFew (cond b (j ∷ filter p js) (filter p js))
    by true here rest = (here, rest)
    by false here rest = rest

members-few : (bidders clock : ℕ) → bidders ≤ 99 → AreFew (members bidders clock)
members-few bidders clock h = few-filter (λ j. not (nat_eq j clock)) (range_with_len 1 bidders) (few-range 1 bidders (omega arith))

among-clock : (clock : ℕ) (row : ClockRow) → clock ≤ 100 → IsClockInRange row → among (clock_words clock row) ≡ pos clock ∷ pos row.steps ∷ naturals row.prices
among-clock clock row c h = λ i.
    cons_option (number_in-false (codes "clock") refl i) (cons_option (number_in-natural clock (omega arith) i) (cons_option (number_in-false (codes "steps") refl i)
    (cons_option (number_in-natural row.steps (let s = h.steps in omega arith) i) (cons_option (number_in-false (codes "prices") refl i) (among-none row.prices (prices-small row.prices h.prices) i)))))

clock-clean : (clock : ℕ) (row : ClockRow) → clock ≤ 100 → IsClockInRange row → AllByRecursion IsClean (clock_words clock row)
clock-clean clock row c h =
    (clean-from (codes "clock") refl, (decimal-clean clock (omega arith), (clean-from (codes "steps") refl, (decimal-clean row.steps (let s = h.steps in omega arith), (clean-from (codes "prices") refl, numerals-clean row.prices (prices-small row.prices h.prices))))))

pub among-clocks : (bidders clock : ℕ) (rows : List ClockRow) → bidders ≤ 99 → clock + length rows ≤ 100 → AllByRecursion IsClockInRange rows → among_lines (clock_lines bidders clock rows) ≡ clocks_numbers bidders clock rows
unfolding among_lines
among-clocks bidders clock [] b c h = refl
among-clocks bidders clock (row ∷ rows) b c h =
    let chosen = choice_lines clock (members bidders clock) row.choices in
    let behind = clock_lines bidders (suc clock) rows in
    ap (λ ns. among (clock_words clock row) ++ ns) (among_lines-append chosen behind)
    ∙ (λ i. among-clock clock row (omega arith) h.0 i ++ (among-choices clock (members bidders clock) row.choices (omega arith) (members-few bidders clock b) h.0.choices i ++ among-clocks bidders (suc clock) rows b (omega arith) h.1 i))
    ∙ sym (append_assoc (pos clock ∷ pos row.steps ∷ naturals row.prices) (choices_numbers clock (members bidders clock) row.choices) (clocks_numbers bidders (suc clock) rows))

pub clocks-clean : (bidders clock : ℕ) (rows : List ClockRow) → bidders ≤ 99 → clock + length rows ≤ 100 → AllByRecursion IsClockInRange rows → AreClean (clock_lines bidders clock rows)
clocks-clean bidders clock [] b c h = tt
clocks-clean bidders clock (row ∷ rows) b c h = (
  clock-clean clock row (omega arith) h.0,
  all-append (λ words. AllByRecursion IsClean words) (choice_lines clock (members bidders clock) row.choices) (clock_lines bidders (suc clock) rows)
      (choices-clean clock (members bidders clock) row.choices (omega arith) (members-few bidders clock b) h.0.choices) (clocks-clean bidders (suc clock) rows b (omega arith) h.1),
)
