-- A text is that of one outcome at most: its numbers are those of one.
use Rattle.std.proofs.Common.{◌≡◌, ◌≤◌, ◌+◌, ◌++◌, ℕ, zero, suc, ℤ, Bool, true, false, List, [], ◌∷◌, length, Option, Some, None, is_some, refl, sym, ap, ◌∙◌, subst, arith, append_assoc}
use Rattle.std.specs.Prelude.{IfSome, slice_index}
use Rattle.std.specs.List.{AllByRecursion, AllZip, range_with_len}
use Rattle.clock.specs.Reports.{members}
use Rattle.settlement.specs.Shapes.{IsOf, IsRowOfClock}
use Rattle.settlement.specs.declared.outcome.AwardRow.{AwardRow}
use Rattle.settlement.specs.declared.outcome.ClockRow.{ClockRow}
use Rattle.settlement.specs.declared.outcome.Outcome.{Outcome}
use Rattle.outcome_text.specs.Lines.{line, text_of}
use Rattle.outcome_text.specs.Plain.{head_words, price_words, opening_lines, bidder_lines, clock_lines, plain_text}
use Rattle.outcome_text.specs.Listed.{naturals, opening_numbers, award_numbers, awards_numbers, choices_numbers, clock_numbers, clocks_numbers, outcome_numbers}
use Rattle.outcome_text.specs.Parts.{IsReadable}
use Rattle.outcome_text.specs.Reading.{IsTextOf}
use Rattle.outcome_text.proofs.OutcomeNumbers.{readable, numbers-of}

-- two lists that begin with lists of one length
split : {A : Type 0} (xs ys rs ss : List A) → length xs ≡ length ys → xs ++ rs ≡ ys ++ ss → (xs ≡ ys) × (rs ≡ ss)
split [] [] rs ss l e = (refl, e)
split [] (y ∷ ys) rs ss l e = absurd (omega arith)
split (x ∷ xs) [] rs ss l e = absurd (omega arith)
split (x ∷ xs) (y ∷ ys) rs ss l e =
    let first : x ≡ y = cc in
    let rest : xs ++ rs ≡ ys ++ ss = cc in
    let both = split xs ys rs ss (omega arith) rest in
    ((λ i. first i ∷ both.0 i), both.1)

length-naturals : (ns : List ℕ) → length (naturals ns) ≡ length ns
length-naturals [] = refl
length-naturals (n ∷ ns) = ap suc (length-naturals ns)

same-naturals : (ms ns : List ℕ) → naturals ms ≡ naturals ns → ms ≡ ns
same-naturals [] [] e = refl
same-naturals [] (n ∷ ns) e = absurd (cc)
same-naturals (m ∷ ms) [] e = absurd (cc)
same-naturals (m ∷ ms) (n ∷ ns) e =
    let first : m ≡ n = cc in
    let rest : naturals ms ≡ naturals ns = cc in
    λ i. first i ∷ same-naturals ms ns rest i

-- two lists that begin with as many natural numbers
split-naturals : (ms ns : List ℕ) (rs ss : List ℤ) → length ms ≡ length ns → naturals ms ++ rs ≡ naturals ns ++ ss → (ms ≡ ns) × (rs ≡ ss)
split-naturals ms ns rs ss l e =
    let both = split (naturals ms) (naturals ns) rs ss (length-naturals ms ∙ l ∙ sym (length-naturals ns)) e in
    (same-naturals ms ns both.0, both.1)

same-award : (goods bidder : ℕ) (a b : AwardRow) (rs ss : List ℤ) → IsOf goods a.award → IsOf goods b.award → award_numbers bidder a ++ rs ≡ award_numbers bidder b ++ ss → (a ≡ b) × (rs ≡ ss)
same-award goods bidder a b rs ss fit-a fit-b e =
    let tail : naturals a.award ++ (a.debit ∷ a.credit ∷ a.pays ∷ []) ++ rs ≡ naturals b.award ++ (b.debit ∷ b.credit ∷ b.pays ∷ []) ++ ss = cc in
    let both = split-naturals a.award b.award (a.debit ∷ a.credit ∷ a.pays ∷ rs) (b.debit ∷ b.credit ∷ b.pays ∷ ss) (fit-a ∙ sym fit-b)
    (sym (append_assoc (naturals a.award) (a.debit ∷ a.credit ∷ a.pays ∷ []) rs) ∙ tail ∙ append_assoc (naturals b.award) (b.debit ∷ b.credit ∷ b.pays ∷ []) ss) in
    let amounts = both.1 in
    let debit : a.debit ≡ b.debit = cc in
    let credit : a.credit ≡ b.credit = cc in
    let pays : a.pays ≡ b.pays = cc in
    ((λ i. record { award = both.0 i; debit = debit i; credit = credit i; pays = pays i }), (let r : rs ≡ ss = cc in r))

same-awards : (goods bidder : ℕ) (xs ys : List AwardRow) (rs ss : List ℤ) → length xs ≡ length ys → AllByRecursion (λ (row : AwardRow). IsOf goods row.award) xs → AllByRecursion (λ (row : AwardRow). IsOf goods row.award) ys
    → awards_numbers bidder xs ++ rs ≡ awards_numbers bidder ys ++ ss → (xs ≡ ys) × (rs ≡ ss)
same-awards goods bidder [] [] rs ss l fit-x fit-y e = (refl, e)
same-awards goods bidder [] (y ∷ ys) rs ss l fit-x fit-y e = absurd (omega arith)
same-awards goods bidder (x ∷ xs) [] rs ss l fit-x fit-y e = absurd (omega arith)
same-awards goods bidder (x ∷ xs) (y ∷ ys) rs ss l fit-x fit-y e =
    let first = same-award goods bidder x y (awards_numbers (suc bidder) xs ++ rs) (awards_numbers (suc bidder) ys ++ ss) fit-x.0 fit-y.0
    (sym (append_assoc (award_numbers bidder x) (awards_numbers (suc bidder) xs) rs) ∙ e ∙ append_assoc (award_numbers bidder y) (awards_numbers (suc bidder) ys) ss) in
    let rest = same-awards goods (suc bidder) xs ys rs ss (omega arith) fit-x.1 fit-y.1 first.1 in
    ((λ i. first.0 i ∷ rest.0 i), rest.1)

same-choices : (goods clock : ℕ) (js : List ℕ) (xs ys : List (List ℕ)) (rs ss : List ℤ) → length xs ≡ length js → length ys ≡ length js → AllByRecursion (IsOf goods) xs → AllByRecursion (IsOf goods) ys
    → choices_numbers clock js xs ++ rs ≡ choices_numbers clock js ys ++ ss → (xs ≡ ys) × (rs ≡ ss)
same-choices goods clock [] [] [] rs ss l k fit-x fit-y e = (refl, e)
same-choices goods clock [] [] (y ∷ ys) rs ss l k fit-x fit-y e = absurd (omega arith)
same-choices goods clock [] (x ∷ xs) ys rs ss l k fit-x fit-y e = absurd (omega arith)
same-choices goods clock (j ∷ js) [] ys rs ss l k fit-x fit-y e = absurd (omega arith)
same-choices goods clock (j ∷ js) (x ∷ xs) [] rs ss l k fit-x fit-y e = absurd (omega arith)
same-choices goods clock (j ∷ js) (x ∷ xs) (y ∷ ys) rs ss l k fit-x fit-y e =
    let tail : naturals x ++ choices_numbers clock js xs ++ rs ≡ naturals y ++ choices_numbers clock js ys ++ ss = cc in
    let first = split-naturals x y (choices_numbers clock js xs ++ rs) (choices_numbers clock js ys ++ ss) (fit-x.0 ∙ sym fit-y.0)
    (sym (append_assoc (naturals x) (choices_numbers clock js xs) rs) ∙ tail ∙ append_assoc (naturals y) (choices_numbers clock js ys) ss) in
    let rest = same-choices goods clock js xs ys rs ss (omega arith) (omega arith) fit-x.1 fit-y.1 first.1 in
    ((λ i. first.0 i ∷ rest.0 i), rest.1)

same-clock : (goods bidders clock : ℕ) (x y : ClockRow) (rs ss : List ℤ) → IsRowOfClock goods bidders clock x → IsRowOfClock goods bidders clock y → clock_numbers bidders clock x ++ rs ≡ clock_numbers bidders clock y ++ ss → (x ≡ y) × (rs ≡ ss)
same-clock goods bidders clock x y rs ss fit-x fit-y e =
    let js = members bidders clock in
    let steps : x.steps ≡ y.steps = cc in
    let tail : naturals x.prices ++ choices_numbers clock js x.choices ++ rs ≡ naturals y.prices ++ choices_numbers clock js y.choices ++ ss = cc in
    let first = split-naturals x.prices y.prices (choices_numbers clock js x.choices ++ rs) (choices_numbers clock js y.choices ++ ss) (fit-x.prices_fit ∙ sym fit-y.prices_fit)
    (sym (append_assoc (naturals x.prices) (choices_numbers clock js x.choices) rs) ∙ tail ∙ append_assoc (naturals y.prices) (choices_numbers clock js y.choices) ss) in
    let rest = same-choices goods clock js x.choices y.choices rs ss fit-x.members_choose fit-y.members_choose fit-x.choices_fit fit-y.choices_fit first.1 in
    ((λ i. record { steps = steps i; prices = first.0 i; choices = rest.0 i }), rest.1)

same-clocks : (goods bidders clock n : ℕ) (xs ys : List ClockRow) → AllZip (IsRowOfClock goods bidders) (range_with_len clock n) xs → AllZip (IsRowOfClock goods bidders) (range_with_len clock n) ys
    → clocks_numbers bidders clock xs ≡ clocks_numbers bidders clock ys → xs ≡ ys
same-clocks goods bidders clock zero [] [] fit-x fit-y e = refl
same-clocks goods bidders clock zero [] (y ∷ ys) fit-x fit-y e = absurd fit-y
same-clocks goods bidders clock zero (x ∷ xs) ys fit-x fit-y e = absurd fit-x
same-clocks goods bidders clock (suc n) [] ys fit-x fit-y e = absurd fit-x
same-clocks goods bidders clock (suc n) (x ∷ xs) [] fit-x fit-y e = absurd fit-y
same-clocks goods bidders clock (suc n) (x ∷ xs) (y ∷ ys) fit-x fit-y e =
    let next : clock + 1 ≡ suc clock = omega arith in
    let first = same-clock goods bidders clock x y (clocks_numbers bidders (suc clock) xs) (clocks_numbers bidders (suc clock) ys) fit-x.0 fit-y.0 e in
    let rest = same-clocks goods bidders (clock + 1) n xs ys fit-x.1 fit-y.1 (ap (λ k. clocks_numbers bidders k xs) next ∙ first.1 ∙ ap (λ k. clocks_numbers bidders k ys) (sym next)) in
    λ i. first.0 i ∷ rest i

-- the openings have one length, where both or neither are shown
split-opening : (a b : Option (List ℕ)) (rs ss : List ℤ) (goods : ℕ) → IfSome a (IsOf goods) → IfSome b (IsOf goods) → is_some a ≡ is_some b → opening_numbers a ++ rs ≡ opening_numbers b ++ ss → (a ≡ b) × (rs ≡ ss)
split-opening None None rs ss goods fit-a fit-b shown e = (refl, e)
split-opening None (Some b) rs ss goods fit-a fit-b shown e = absurd (cc)
split-opening (Some a) None rs ss goods fit-a fit-b shown e = absurd (cc)
split-opening (Some a) (Some b) rs ss goods fit-a fit-b shown e = let both = split-naturals a b rs ss (fit-a ∙ sym fit-b) e in ((λ i. Some (both.0 i)), both.1)

-- what an outcome's numbers begin with
pub record SameFront (o p : Outcome) : Type 0 where
  pub same_prices : o.prices ≡ p.prices
  pub same_bidders : length o.rows ≡ length p.rows
  pub rest_are : opening_numbers o.opening ++ (awards_numbers 1 o.rows ++ clocks_numbers (length o.rows) 0 o.clocks) ≡ opening_numbers p.opening ++ (awards_numbers 1 p.rows ++ clocks_numbers (length p.rows) 0 p.clocks)

same-front : (o p : Outcome) → outcome_numbers o ≡ outcome_numbers p → SameFront o p
unfolding outcome_numbers
same-front o p e =
    let goods : length o.prices ≡ length p.prices = cc in
    let bidders : length o.rows ≡ length p.rows = cc in
    let rest-o = opening_numbers o.opening ++ (awards_numbers 1 o.rows ++ clocks_numbers (length o.rows) 0 o.clocks) in
    let rest-p = opening_numbers p.opening ++ (awards_numbers 1 p.rows ++ clocks_numbers (length p.rows) 0 p.clocks) in
    let tail : naturals o.prices ++ rest-o ≡ naturals p.prices ++ rest-p = cc in
    let prices = split-naturals o.prices p.prices rest-o rest-p goods tail in
    record { same_prices = prices.0; same_bidders = bidders; rest_are = prices.1 }

same-outcome : (o p : Outcome) → IsReadable o → IsReadable p → is_some o.opening ≡ is_some p.opening → SameFront o p → o ≡ p
same-outcome o p h k shown front =
    let goods : length o.prices ≡ length p.prices = ap length front.same_prices in
    let bidders = front.same_bidders in
    let Opens : ℕ → Type 0 = λ g. IfSome p.opening (IsOf g) in
    let opening = split-opening o.opening p.opening (awards_numbers 1 o.rows ++ clocks_numbers (length o.rows) 0 o.clocks) (awards_numbers 1 p.rows ++ clocks_numbers (length p.rows) 0 p.clocks) (length o.prices)
    h.whole.shape.opening_fits (subst Opens (sym goods) k.whole.shape.opening_fits) shown front.rest_are in
    let OfP : ℕ → Type 0 = λ g. AllByRecursion (λ (row : AwardRow). IsOf g row.award) p.rows in
    let rows = same-awards (length o.prices) 1 o.rows p.rows (clocks_numbers (length o.rows) 0 o.clocks) (clocks_numbers (length p.rows) 0 p.clocks) bidders h.whole.shape.awards_fit (subst OfP (sym goods) k.whole.shape.awards_fit) opening.1 in
    let ClocksP : ℕ × ℕ → Type 0 = λ s. AllZip (IsRowOfClock s.0 s.1) (range_with_len 0 (s.1 + 1)) p.clocks in
    let size : (length p.prices, length p.rows) ≡ (length o.prices, length o.rows) = λ i. (sym goods i, sym bidders i) in
    let clocks = same-clocks (length o.prices) (length o.rows) 0 (length o.rows + 1) o.clocks p.clocks h.whole.shape.clocks_fit (subst ClocksP size k.whole.shape.clocks_fit)
    (rows.1 ∙ ap (λ n. clocks_numbers n 0 p.clocks) (sym bidders)) in
    λ i. record { prices = front.same_prices i; opening = opening.0 i; rows = rows.0 i; clocks = clocks i }

-- ---- the line after the prices tells whether the opening is shown

abbrev head-text : ℕ → ℕ → List ℕ → List ℕ
head-text goods bidders prices = line (head_words goods bidders) ++ line (price_words prices)

abbrev rest-text : Outcome → List ℕ
rest-text o = text_of (opening_lines o.opening ++ (bidder_lines 1 o.rows ++ clock_lines (length o.rows) 0 o.clocks))

in-two : (o : Outcome) → plain_text o ≡ head-text (length o.prices) (length o.rows) o.prices ++ rest-text o
unfolding plain_text
in-two o = sym (append_assoc (line (head_words (length o.prices) (length o.rows))) (line (price_words o.prices)) (rest-text o))

abbrev first_of : Bool → ℕ
first_of true = 111
first_of false = 98

-- its first byte is that of `opening`, or of `bidder`
first-byte : (opening : Option (List ℕ)) (rows : List AwardRow) (clocks : List (List (List ℕ))) → 1 ≤ length rows → slice_index (text_of (opening_lines opening ++ (bidder_lines 1 rows ++ clocks))) 0 ≡ first_of (is_some opening)
first-byte (Some []) rows clocks some = refl
first-byte (Some (p ∷ ps)) rows clocks some = refl
first-byte None [] clocks some = absurd (omega arith)
first-byte None (row ∷ rows) clocks some = refl

byte-tells : (a b : Bool) → first_of a ≡ first_of b → a ≡ b
byte-tells true true e = refl
byte-tells true false e = absurd (omega arith)
byte-tells false true e = absurd (omega arith)
byte-tells false false e = refl

same-shown : (bytes : List ℕ) (o p : Outcome) → IsTextOf bytes o → IsTextOf bytes p → SameFront o p → is_some o.opening ≡ is_some p.opening
same-shown bytes o p is-o is-p front =
    let heads : head-text (length o.prices) (length o.rows) o.prices ≡ head-text (length p.prices) (length p.rows) p.prices = λ i. head-text (length (front.same_prices i)) (front.same_bidders i) (front.same_prices i) in
    let whole = sym (in-two o) ∙ sym is-o.spelled ∙ is-p.spelled ∙ in-two p in
    let rests = split (head-text (length o.prices) (length o.rows) o.prices) (head-text (length p.prices) (length p.rows) p.prices) (rest-text o) (rest-text p) (ap length heads) whole in
    byte-tells (is_some o.opening) (is_some p.opening)
    (sym (first-byte o.opening o.rows (clock_lines (length o.rows) 0 o.clocks) is-o.whole.some_bidders)
    ∙ ap (λ t. slice_index t 0) rests.1
    ∙ first-byte p.opening p.rows (clock_lines (length p.rows) 0 p.clocks) is-p.whole.some_bidders)

pub one-outcome : (bytes : List ℕ) (o p : Outcome) → IsTextOf bytes o → IsTextOf bytes p → o ≡ p
one-outcome bytes o p is-o is-p =
    let front = same-front o p (sym (numbers-of bytes o is-o) ∙ numbers-of bytes p is-p) in
    same-outcome o p (readable bytes o is-o) (readable bytes p is-p) (same-shown bytes o p is-o is-p front) front
