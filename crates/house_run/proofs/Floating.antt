-- What a market floats to, and its text as it is written.
use Rattle.std.proofs.Common.{◌≡◌, ◌∙◌, ◌<◌, ◌+◌, ◌++◌, ℕ, suc, List, [], ◌∷◌, length, get_or, drop, Some, arith, sym, ap, append_assoc}
use Rattle.std.specs.Prelude.{codes, decimal}
use Rattle.std.proofs.lemmas.List.{drop_more}
use Rattle.lot_base.specs.declared.auction_terms.Terms.{Terms}
use Rattle.clock.specs.Reports.{members}
use Rattle.settlement.specs.declared.outcome.AwardRow.{AwardRow}
use Rattle.two_way.specs.FloatHistories.{IsRefusal}
use Rattle.two_way.specs.Floated.{AreFloatedBy, choice_of}
use Rattle.two_way.specs.Histories.{TwoWayHistory}
use Rattle.two_way.specs.Standing.{downs_after, prices_of, steps_of, ups_after}
use Rattle.two_way.specs.declared.floating.FloatFault.{FloatFault}
use Rattle.two_way.specs.declared.floating.FloatFault.TheVariants as floats
use Rattle.outcome_text.specs.Lines.{line, numerals, text_of}
use Rattle.outcome_text.specs.Plain.{bidder_lines, choice_lines, price_words}
use Rattle.outcome_text.specs.Spaced.{spaced}
use Rattle.outcome_text.proofs.Lining.{line-spaced}
use Rattle.house_run.specs.FloatCommand.{float_text, floated_words, turn_lines, turn_words}
use Rattle.house_run.specs.Markets.{market_bidders}
use Rattle.house_run.specs.Steps.{IsTrialEnd, float_end}
use Rattle.house_run.proofs.GoodStarts.{zip-long}
use Rattle.house_run.proofs.Lining.{text-append}

pub float-refused : (terms : Terms) (valuations : List (List ℕ)) (fault : FloatFault) → IsRefusal terms (market_bidders terms valuations) fault → IsTrialEnd terms valuations (float_end fault)
float-refused terms valuations (floats.NotSubstitutes bidder x y good) is = is
float-refused terms valuations floats.NoMemory is = tt

-- there is a choice for each clock
pub choices-count : (clocks : List TwoWayHistory) (prices : List ℕ) (rows : List AwardRow) (choices : List (List (List ℕ))) → AreFloatedBy clocks prices rows choices → length clocks ≡ length choices
choices-count [] prices rows choices are = absurd are
choices-count (all ∷ others) prices rows choices are = zip-long (λ h choice. choice_of h ≡ Some choice) (all ∷ others) choices are.choices_are

-- the line of a clock

turn-parts : (t k s c u a d b p ns n : List ℕ) → t ++ ((k ++ s) ++ (c ++ ((u ++ s) ++ (a ++ ((d ++ s) ++ (b ++ p)))))) ++ ns ++ n ≡ t ++ ((k ++ ((s ++ c) ++ (u ++ ((s ++ a) ++ (d ++ ((s ++ b) ++ (p ++ ns))))))) ++ n)
turn-parts t k s c u a d b p ns n = simp append_assoc

abbrev turn-by : ℕ → ℕ → ℕ → List ℕ → List (List ℕ)
turn-by clock ups downs prices = codes "clock" ∷ decimal clock ∷ codes "up" ∷ decimal ups ∷ codes "down" ∷ decimal downs ∷ codes "prices" ∷ numerals prices

pub turn-written : (clock : ℕ) (h : TwoWayHistory) (ups downs : ℕ) (prices t a b new : List ℕ) → ups ≡ ups_after h (steps_of h) → downs ≡ downs_after h (steps_of h) → prices ≡ prices_of h
    → a ≡ t ++ (codes "clock " ++ (decimal clock ++ (codes " up " ++ (decimal ups ++ (codes " down " ++ (decimal downs ++ codes " prices")))))) → b ≡ a ++ spaced (numerals prices) → new ≡ b ++ codes "\n"
    → new ≡ t ++ line (turn_words clock h)
turn-written clock h ups downs prices t a b new ups-are downs-are prices-are is-a is-b is-new =
    is-new ∙ ap (λ x. x ++ codes "\n") (is-b ∙ ap (λ x. x ++ spaced (numerals prices)) is-a)
    ∙ turn-parts t (codes "clock") (codes " ") (decimal clock) (codes " up") (decimal ups) (codes " down") (decimal downs) (codes " prices") (spaced (numerals prices)) (codes "\n")
    ∙ ap (λ x. t ++ x) (sym (line-spaced (codes "clock") (decimal clock ∷ codes "up" ∷ decimal ups ∷ codes "down" ∷ decimal downs ∷ codes "prices" ∷ numerals prices)))
    ∙ (λ i. t ++ line (turn-by clock (ups-are i) (downs-are i) (prices-are i)))

-- one clock more is written
pub turns-step : (bidders clock : ℕ) (h : TwoWayHistory) (choice : List (List ℕ)) (clocks : List TwoWayHistory) (choices : List (List (List ℕ))) (text a new whole : List ℕ) → clock < length clocks → clock < length choices → h ≡ get_or clocks clock h → choice ≡ get_or choices clock choice
    → a ≡ text ++ line (turn_words clock h) → new ≡ a ++ text_of (choice_lines clock (members bidders clock) choice)
    → text ++ text_of (turn_lines bidders clock (drop clock clocks) (drop clock choices)) ≡ whole → new ++ text_of (turn_lines bidders (clock + 1) (drop (clock + 1) clocks) (drop (clock + 1) choices)) ≡ whole
turns-step bidders clock h choice clocks choices text a new whole below within is chosen is-a is-new are =
    let rest = drop (clock + 1) clocks in
    let others = drop (clock + 1) choices in
    let lines = choice_lines clock (members bidders clock) choice in
    let more : clock + 1 ≡ suc clock = omega arith in
    let split : drop clock clocks ≡ h ∷ rest = drop_more clocks clock h below ∙ ap (λ r. r ∷ rest) (sym is) in
    let parted : drop clock choices ≡ choice ∷ others = drop_more choices clock choice within ∙ ap (λ r. r ∷ others) (sym chosen) in
    let behind = turn_lines bidders (suc clock) rest others in
    ap (λ n. new ++ text_of (turn_lines bidders n rest others)) more
    ∙ ap (λ x. x ++ text_of behind) (is-new ∙ ap (λ x. x ++ text_of lines) is-a)
    ∙ joined text (line (turn_words clock h)) (text_of lines) (text_of behind)
    ∙ ap (λ x. text ++ (line (turn_words clock h) ++ x)) (sym (text-append lines behind))
    ∙ (λ i. text ++ text_of (turn_lines bidders clock (sym split i) (sym parted i))) ∙ are
  where
    joined : (t l c b : List ℕ) → ((t ++ l) ++ c) ++ b ≡ t ++ (l ++ (c ++ b))
    joined t l c b = simp append_assoc

-- the whole text

head-parts : (k s g w b v ns l p ps : List ℕ) → ((((k ++ s) ++ (g ++ ((w ++ s) ++ (b ++ v)))) ++ ns) ++ (l ++ p)) ++ ps ++ l ≡ ((k ++ ((s ++ g) ++ (w ++ ((s ++ b) ++ (v ++ ns))))) ++ l) ++ ((p ++ ps) ++ l)
head-parts k s g w b v ns l p ps = simp append_assoc

pub float-written : (terms : Terms) (goods : ℕ) (start prices : List ℕ) (clocks : List TwoWayHistory) (rows : List AwardRow) (choices : List (List (List ℕ))) (a b c d e f g : List ℕ) → goods ≡ length terms.goods
    → a ≡ codes "floated goods " ++ (decimal goods ++ (codes " bidders " ++ (decimal terms.bidders ++ codes " start"))) → b ≡ a ++ spaced (numerals start) → c ≡ b ++ codes "\nprices" → d ≡ c ++ spaced (numerals prices) → e ≡ d ++ codes "\n"
    → f ≡ e ++ text_of (bidder_lines 1 rows) → g ≡ f ++ text_of (turn_lines terms.bidders 0 clocks choices) → g ≡ float_text terms start clocks prices rows choices
unfolding float_text
float-written terms goods start prices clocks rows choices a b c d e f g goods-are is-a is-b is-c is-d is-e is-f is-g =
    let awards = bidder_lines 1 rows in
    let turns = turn_lines terms.bidders 0 clocks choices in
    let head : e ≡ line (codes "floated" ∷ codes "goods" ∷ decimal goods ∷ codes "bidders" ∷ decimal terms.bidders ∷ codes "start" ∷ numerals start) ++ line (price_words prices) =
    is-e ∙ ap (λ x. x ++ codes "\n") (is-d ∙ ap (λ x. x ++ spaced (numerals prices)) (is-c ∙ ap (λ x. x ++ codes "\nprices") (is-b ∙ ap (λ x. x ++ spaced (numerals start)) is-a)))
    ∙ head-parts (codes "floated goods") (codes " ") (decimal goods) (codes " bidders") (decimal terms.bidders) (codes " start") (spaced (numerals start)) (codes "\n") (codes "prices") (spaced (numerals prices))
    ∙ (λ i. sym (line-spaced (codes "floated") (codes "goods" ∷ decimal goods ∷ codes "bidders" ∷ decimal terms.bidders ∷ codes "start" ∷ numerals start)) i ++ sym (line-spaced (codes "prices") (numerals prices)) i) in
    is-g ∙ ap (λ x. x ++ text_of turns) (is-f ∙ ap (λ x. x ++ text_of awards) (head ∙ ap (λ n. line (codes "floated" ∷ codes "goods" ∷ decimal n ∷ codes "bidders" ∷ decimal terms.bidders ∷ codes "start" ∷ numerals start) ++ line (price_words prices)) goods-are))
    ∙ joined (line (floated_words terms start)) (line (price_words prices)) (text_of awards) (text_of turns)
    ∙ ap (λ x. line (floated_words terms start) ++ (line (price_words prices) ++ x)) (sym (text-append awards turns))
  where
    joined : (h p r c : List ℕ) → ((h ++ p) ++ r) ++ c ≡ h ++ (p ++ (r ++ c))
    joined h p r c = simp append_assoc
