-- The lines of a plain text as they are written, one part after another.
use Rattle.std.proofs.Common.{◌≡◌, ◌≢◌, ◌<◌, ◌≤◌, ◌+◌, ◌++◌, ℕ, ℤ, suc, List, [], ◌∷◌, length, get_or, drop, Some, refl, sym, ap, ◌∙◌, append_assoc, append-nil, arith}
use Rattle.std.specs.Prelude.{codes, decimal}
use Rattle.std.specs.Fmt.{signed_decimal}
use Rattle.std.proofs.lemmas.List.{drop_more}
use Rattle.std.proofs.lemmas.Option.{get_or_from_slice_get}
use Rattle.std.proofs.Math.ListN.{drop_of_length-le}
use Rattle.std.specs.Prelude.{slice_get}
use Rattle.clock.specs.Reports.{members}
use Rattle.clock.proofs.Members.{members_from, members-keep, members-skip}
use Rattle.settlement.specs.declared.outcome.AwardRow.{AwardRow}
use Rattle.settlement.specs.declared.outcome.ClockRow.{ClockRow}
use Rattle.settlement.specs.declared.outcome.Outcome.{Outcome}
use Rattle.outcome_text.specs.Lines.{line, text_of, numerals}
use Rattle.outcome_text.specs.Spaced.{spaced}
use Rattle.outcome_text.specs.Plain.{bidder_words, bidder_lines, choice_words, choice_lines, clock_words, clock_lines, head_words, price_words, opening_lines, plain_text}
use Rattle.outcome_text.proofs.Lining.{line-spaced, spaced-append}

pub text_of-append : (lines others : List (List (List ℕ))) → text_of (lines ++ others) ≡ text_of lines ++ text_of others
text_of-append [] others = refl
text_of-append (l ∷ lines) others = ap (λ x. line l ++ x) (text_of-append lines others) ∙ sym (append_assoc (line l) (text_of lines) (text_of others))

choice-parts : (t k s c d ns n : List ℕ) → t ++ ((k ++ s) ++ (c ++ (s ++ d))) ++ ns ++ n ≡ t ++ ((k ++ ((s ++ c) ++ ((s ++ d) ++ ns))) ++ n)
choice-parts t k s c d ns n = simp append_assoc

pub choice-written : (clock member : ℕ) (bundle : List ℕ) (t a b new : List ℕ) → a ≡ t ++ (codes "choice " ++ (decimal clock ++ (codes " " ++ decimal member))) → b ≡ a ++ spaced (numerals bundle) → new ≡ b ++ codes "\n"
    → new ≡ t ++ line (choice_words clock member bundle)
choice-written clock member bundle t a b new is-a is-b is-new =
    is-new ∙ ap (λ x. x ++ codes "\n") (is-b ∙ ap (λ x. x ++ spaced (numerals bundle)) is-a)
    ∙ choice-parts t (codes "choice") (codes " ") (decimal clock) (decimal member) (spaced (numerals bundle)) (codes "\n")
    ∙ ap (λ x. t ++ x) (sym (line-spaced (codes "choice") (decimal clock ∷ decimal member ∷ numerals bundle)))

clock-parts : (t k s c w d p ns n : List ℕ) → t ++ ((k ++ s) ++ (c ++ ((w ++ s) ++ (d ++ p)))) ++ ns ++ n ≡ t ++ ((k ++ ((s ++ c) ++ (w ++ ((s ++ d) ++ (p ++ ns))))) ++ n)
clock-parts t k s c w d p ns n = simp append_assoc

pub clock-written : (clock : ℕ) (row : ClockRow) (t a b new : List ℕ) → a ≡ t ++ (codes "clock " ++ (decimal clock ++ (codes " steps " ++ (decimal row.steps ++ codes " prices")))) → b ≡ a ++ spaced (numerals row.prices) → new ≡ b ++ codes "\n"
    → new ≡ t ++ line (clock_words clock row)
clock-written clock row t a b new is-a is-b is-new =
    is-new ∙ ap (λ x. x ++ codes "\n") (is-b ∙ ap (λ x. x ++ spaced (numerals row.prices)) is-a)
    ∙ clock-parts t (codes "clock") (codes " ") (decimal clock) (codes " steps") (decimal row.steps) (codes " prices") (spaced (numerals row.prices)) (codes "\n")
    ∙ ap (λ x. t ++ x) (sym (line-spaced (codes "clock") (decimal clock ∷ codes "steps" ∷ decimal row.steps ∷ codes "prices" ∷ numerals row.prices)))

row-parts : (t k s b w ns u v x n : List ℕ) → t ++ ((k ++ s) ++ (b ++ w)) ++ ns ++ u ++ v ++ x ++ n ≡ t ++ ((k ++ ((s ++ b) ++ (w ++ (ns ++ (u ++ (v ++ x)))))) ++ n)
row-parts t k s b w ns u v x n = simp append_assoc

pub row-written : (bidder : ℕ) (row : AwardRow) (debit credit pays : ℤ) (t a b d e f new : List ℕ) → debit ≡ row.debit → credit ≡ row.credit → pays ≡ row.pays
    → a ≡ t ++ (codes "bidder " ++ (decimal bidder ++ codes " award")) → b ≡ a ++ spaced (numerals row.award)
    → d ≡ b ++ spaced (codes "debit" ∷ signed_decimal debit ∷ []) → e ≡ d ++ spaced (codes "credit" ∷ signed_decimal credit ∷ []) → f ≡ e ++ spaced (codes "pays" ∷ signed_decimal pays ∷ []) → new ≡ f ++ codes "\n"
    → new ≡ t ++ line (bidder_words bidder row)
row-written bidder row debit credit pays t a b d e f new debit-is credit-is pays-is is-a is-b is-d is-e is-f is-new =
    let ds : ℤ → List (List ℕ) = λ z. codes "debit" ∷ signed_decimal z ∷ [] in
    let cs : ℤ → List (List ℕ) = λ z. codes "credit" ∷ signed_decimal z ∷ [] in
    let ps : ℤ → List (List ℕ) = λ z. codes "pays" ∷ signed_decimal z ∷ [] in
    let amounts : spaced (numerals row.award ++ (ds row.debit ++ (cs row.credit ++ ps row.pays))) ≡ spaced (numerals row.award) ++ (spaced (ds row.debit) ++ (spaced (cs row.credit) ++ spaced (ps row.pays))) =
    spaced-append (numerals row.award) (ds row.debit ++ (cs row.credit ++ ps row.pays)) ∙ ap (λ x. spaced (numerals row.award) ++ x) (spaced-append (ds row.debit) (cs row.credit ++ ps row.pays) ∙ ap (λ x. spaced (ds row.debit) ++ x) (spaced-append (cs row.credit) (ps row.pays))) in
    is-new ∙ ap (λ x. x ++ codes "\n") (is-f ∙ ap (λ x. x ++ spaced (ps pays)) (is-e ∙ ap (λ x. x ++ spaced (cs credit)) (is-d ∙ ap (λ x. x ++ spaced (ds debit)) (is-b ∙ ap (λ x. x ++ spaced (numerals row.award)) is-a))))
    ∙ (λ i. t ++ (codes "bidder " ++ (decimal bidder ++ codes " award")) ++ spaced (numerals row.award) ++ spaced (ds (debit-is i)) ++ spaced (cs (credit-is i)) ++ spaced (ps (pays-is i)) ++ codes "\n")
    ∙ row-parts t (codes "bidder") (codes " ") (decimal bidder) (codes " award") (spaced (numerals row.award)) (spaced (ds row.debit)) (spaced (cs row.credit)) (spaced (ps row.pays)) (codes "\n")
    ∙ ap (λ x. t ++ ((codes "bidder" ++ ((codes " " ++ decimal bidder) ++ (codes " award" ++ x))) ++ codes "\n")) (sym amounts)
    ∙ ap (λ x. t ++ x) (sym (line-spaced (codes "bidder") (decimal bidder ∷ codes "award" ∷ numerals row.award ++ (ds row.debit ++ (cs row.credit ++ ps row.pays)))))

head-parts : (k s g w b n p ns : List ℕ) → ((k ++ s) ++ (g ++ ((w ++ s) ++ (b ++ (n ++ p))))) ++ ns ++ n ≡ ((k ++ ((s ++ g) ++ (w ++ ((s ++ b) ++ [])))) ++ n) ++ ((p ++ ns) ++ n)
head-parts k s g w b n p ns = simp (append_assoc, append-nil)

pub head-written : (goods bidders : ℕ) (prices : List ℕ) (a b c : List ℕ) → a ≡ codes "settled goods " ++ (decimal goods ++ (codes " bidders " ++ (decimal bidders ++ codes "\nprices"))) → b ≡ a ++ spaced (numerals prices) → c ≡ b ++ codes "\n"
    → c ≡ line (head_words goods bidders) ++ line (price_words prices)
head-written goods bidders prices a b c is-a is-b is-c =
    is-c ∙ ap (λ x. x ++ codes "\n") (is-b ∙ ap (λ x. x ++ spaced (numerals prices)) is-a)
    ∙ head-parts (codes "settled goods") (codes " ") (decimal goods) (codes " bidders") (decimal bidders) (codes "\n") (codes "prices") (spaced (numerals prices))
    ∙ (λ i. sym (line-spaced (codes "settled") (codes "goods" ∷ decimal goods ∷ codes "bidders" ∷ decimal bidders ∷ [])) i ++ sym (line-spaced (codes "prices") (numerals prices)) i)

pub opening-written : (opening : List ℕ) (t a b new : List ℕ) → a ≡ t ++ codes "opening" → b ≡ a ++ spaced (numerals opening) → new ≡ b ++ codes "\n" → new ≡ t ++ line (codes "opening" ∷ numerals opening)
opening-written opening t a b new is-a is-b is-new =
    is-new ∙ ap (λ x. x ++ codes "\n") (is-b ∙ ap (λ x. x ++ spaced (numerals opening)) is-a)
    ∙ parts t (codes "opening") (spaced (numerals opening)) (codes "\n")
    ∙ ap (λ x. t ++ x) (sym (line-spaced (codes "opening") (numerals opening)))
  where
    parts : (t k ns n : List ℕ) → t ++ k ++ ns ++ n ≡ t ++ ((k ++ ns) ++ n)
    parts t k ns n = simp append_assoc

pub outcome-written : (o : Outcome) (goods : ℕ) (rows : List AwardRow) (clocks : List ClockRow) (a b c f d e : List ℕ) → goods ≡ length o.prices → rows ≡ o.rows → clocks ≡ o.clocks
    → a ≡ codes "settled goods " ++ (decimal goods ++ (codes " bidders " ++ (decimal (length rows) ++ codes "\nprices"))) → b ≡ a ++ spaced (numerals o.prices) → c ≡ b ++ codes "\n"
    → f ≡ c ++ text_of (opening_lines o.opening) → d ≡ f ++ text_of (bidder_lines 1 rows) → e ≡ d ++ text_of (clock_lines (length rows) 0 clocks) → e ≡ plain_text o
unfolding plain_text
outcome-written o goods rows clocks a b c f d e goods-are rows-are clocks-are is-a is-b is-c is-f is-d is-e =
    let opens = opening_lines o.opening in
    let awards = bidder_lines 1 o.rows in
    let ends = clock_lines (length o.rows) 0 o.clocks in
    is-e ∙ ap (λ x. x ++ text_of (clock_lines (length rows) 0 clocks)) (is-d ∙ ap (λ x. x ++ text_of (bidder_lines 1 rows)) (is-f ∙ ap (λ x. x ++ text_of opens) (head-written goods (length rows) o.prices a b c is-a is-b is-c)))
    ∙ (λ i. line (head_words (goods-are i) (length (rows-are i))) ++ line (price_words o.prices) ++ text_of opens ++ text_of (bidder_lines 1 (rows-are i)) ++ text_of (clock_lines (length (rows-are i)) 0 (clocks-are i)))
    ∙ joined (line (head_words (length o.prices) (length o.rows))) (line (price_words o.prices)) (text_of opens) (text_of awards) (text_of ends)
    ∙ ap (λ x. line (head_words (length o.prices) (length o.rows)) ++ (line (price_words o.prices) ++ (text_of opens ++ x))) (sym (text_of-append awards ends))
    ∙ ap (λ x. line (head_words (length o.prices) (length o.rows)) ++ (line (price_words o.prices) ++ x)) (sym (text_of-append opens (awards ++ ends)))
  where
    joined : (h p q r c : List ℕ) → h ++ p ++ q ++ r ++ c ≡ h ++ (p ++ (q ++ (r ++ c)))
    joined h p q r c = simp append_assoc

-- one clock more is written
pub clocks-step : (bidders clock : ℕ) (row : ClockRow) (clocks : List ClockRow) (text a new whole : List ℕ) → clock < length clocks → row ≡ get_or clocks clock row
    → a ≡ text ++ line (clock_words clock row) → new ≡ a ++ text_of (choice_lines clock (members bidders clock) row.choices)
    → text ++ text_of (clock_lines bidders clock (drop clock clocks)) ≡ whole → new ++ text_of (clock_lines bidders (clock + 1) (drop (clock + 1) clocks)) ≡ whole
clocks-step bidders clock row clocks text a new whole below is is-a is-new h =
    let rest = drop (clock + 1) clocks in
    let chosen = choice_lines clock (members bidders clock) row.choices in
    let more : clock + 1 ≡ suc clock = omega arith in
    let split : drop clock clocks ≡ row ∷ rest = drop_more clocks clock row below ∙ ap (λ r. r ∷ rest) (sym is) in
    let behind = clock_lines bidders (suc clock) rest in
    ap (λ n. new ++ text_of (clock_lines bidders n rest)) more
    ∙ ap (λ x. x ++ text_of behind) (is-new ∙ ap (λ x. x ++ text_of chosen) is-a)
    ∙ joined text (line (clock_words clock row)) (text_of chosen) (text_of behind)
    ∙ ap (λ x. text ++ (line (clock_words clock row) ++ x)) (sym (text_of-append chosen behind))
    ∙ ap (λ cs. text ++ text_of (clock_lines bidders clock cs)) (sym split) ∙ h
  where
    joined : (t l c b : List ℕ) → ((t ++ l) ++ c) ++ b ≡ t ++ (l ++ (c ++ b))
    joined t l c b = simp append_assoc

-- one bidder more is looked at: it has chosen, it is left out, or no choice is left
pub choices-keep : (bidders clock step place : ℕ) (choices : List (List ℕ)) (bundle : List ℕ) (text new whole : List ℕ) → step < bidders → step + 1 ≢ clock → place < length choices → slice_get choices place ≡ Some bundle
    → new ≡ text ++ line (choice_words clock (step + 1) bundle)
    → text ++ text_of (choice_lines clock (members_from step bidders clock) (drop place choices)) ≡ whole
    → new ++ text_of (choice_lines clock (members_from (step + 1) bidders clock) (drop (place + 1) choices)) ≡ whole
choices-keep bidders clock step place choices bundle text new whole below other inside is is-new h =
    let rest = drop (place + 1) choices in
    let behind = text_of (choice_lines clock (members_from (step + 1) bidders clock) rest) in
    let same : get_or choices place bundle ≡ bundle = get_or_from_slice_get choices place bundle bundle is in
    let split : drop place choices ≡ bundle ∷ rest = drop_more choices place bundle inside ∙ ap (λ r. r ∷ rest) same in
    ap (λ x. x ++ behind) is-new ∙ append_assoc text (line (choice_words clock (step + 1) bundle)) behind
    ∙ (λ i. text ++ text_of (choice_lines clock (sym (members-keep step bidders clock below other) i) (sym split i))) ∙ h

pub choices-skip : (bidders clock step : ℕ) (choices : List (List ℕ)) (text whole : List ℕ) → step < bidders → step + 1 ≡ clock
    → text ++ text_of (choice_lines clock (members_from step bidders clock) choices) ≡ whole → text ++ text_of (choice_lines clock (members_from (step + 1) bidders clock) choices) ≡ whole
choices-skip bidders clock step choices text whole below same h = ap (λ js. text ++ text_of (choice_lines clock js choices)) (sym (members-skip step bidders clock below same)) ∙ h

no-choice : (clock : ℕ) (js : List ℕ) → choice_lines clock js [] ≡ []
no-choice clock [] = refl
no-choice clock (j ∷ js) = refl

pub choices-none : (bidders clock step place : ℕ) (choices : List (List ℕ)) (text whole : List ℕ) → length choices ≤ place
    → text ++ text_of (choice_lines clock (members_from step bidders clock) (drop place choices)) ≡ whole → text ++ text_of (choice_lines clock (members_from (step + 1) bidders clock) (drop place choices)) ≡ whole
choices-none bidders clock step place choices text whole past h =
    let none : drop place choices ≡ [] = drop_of_length-le choices past in
    ap (λ bs. text ++ text_of (choice_lines clock (members_from (step + 1) bidders clock) bs)) none
    ∙ ap (λ ls. text ++ text_of ls) (no-choice clock (members_from (step + 1) bidders clock) ∙ sym (no-choice clock (members_from step bidders clock)))
    ∙ ap (λ bs. text ++ text_of (choice_lines clock (members_from step bidders clock) bs)) (sym none) ∙ h
