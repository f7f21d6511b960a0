-- Rows of bidders, as a loop over them fills their table, and how much a bundle of a clearing choice can cost.
use Rattle.std.proofs.Common.{◌≡◌, ◌<◌, ◌≤◌, ℕ, suc, ◌+◌, ◌^◌, List, [], ◌∷◌, ◌++◌, length, take, drop, map, get_or, Option, Some, add-one, sym, ◌∙◌, ap, arith, subst}
use Rattle.std.specs.Prelude.{slice_get}
use Rattle.std.specs.List.{AllByRecursion, AllZip, range_with_len}
use Rattle.std.proofs.lemmas.List.{map-append, length-map}
use Rattle.lot_base.specs.Goods.{cost}
use Rattle.lot_base.specs.Choices.{sum_of, first_choice}
use Rattle.lot_base.specs.declared.auction_terms.Terms.{Terms}
use Rattle.clock.specs.Reports.{members, all_bidders}
use Rattle.settlement.specs.declared.outcome.AwardRow.{AwardRow}
use Rattle.settlement.proofs.Zips.{zip-push, take-next, take-got}
use Rattle.settlement.proofs.Bounds.{cost-up, each-cost, few-goods, sum-up}
use Rattle.settlement.proofs.Efficient.{all-are-members}
use Rattle.two_way.specs.Histories.{TwoWayHistory, IsStart, members_in}
use Rattle.two_way.specs.Standing.{prices_of, steps_of, last_demands}
use Rattle.two_way.specs.Floated.{choice_of, AreEnded, AreFloatedBy, IsAwardRow}
use Rattle.two_way.proofs.Rounds.{on_the_way, before-last}
use Rattle.two_way.proofs.Settled.{choice-clears, choice-count, numbers-of}

-- the first choice of these demands is the clock's
pub choice-from : (h : TwoWayHistory) (terms : Terms) (prices : List ℕ) (demands : List (List (List ℕ))) (answer : Option (List (List ℕ))) → h.terms ≡ terms → prices ≡ prices_of h → demands ≡ map (last_demands h) (members_in h)
    → answer ≡ first_choice terms.goods terms.opening prices demands → choice_of h ≡ answer
unfolding choice_of
choice-from h terms prices demands answer same p d e =
    let back = sym same in sym (e ∙ (λ i. first_choice (back i).goods (back i).opening (p i) (d i)))

-- a row more
pub awards-more : (all own : TwoWayHistory) (others : List TwoWayHistory) (awards : List (List ℕ)) (rows next : List AwardRow) (row : AwardRow) (award : List ℕ) (place : ℕ)
    → place < length others → own ≡ get_or others place own → slice_get awards place ≡ Some award → IsAwardRow all own row → row.award ≡ award → next ≡ rows ++ row ∷ []
    → (AllZip (IsAwardRow all) (take place others) rows × (map (λ (row : AwardRow). row.award) rows ≡ take place awards))
    → (AllZip (IsAwardRow all) (take (place + 1) others) next × (map (λ (row : AwardRow). row.award) next ≡ take (place + 1) awards))
awards-more all own others awards rows next row award place below at got is same pushed before =
    let Z : List AwardRow → Type 0 = λ rs. AllZip (IsAwardRow all) (take (place + 1) others) rs in
    let Y : List TwoWayHistory → Type 0 = λ cs. AllZip (IsAwardRow all) cs (rows ++ row ∷ []) in (
      subst Z (sym pushed) (subst Y (sym (take-next others place own below at)) (zip-push (IsAwardRow all) (take place others) rows own row before.0 is)),
      ap (map (λ (row : AwardRow). row.award)) pushed ∙ map-append (λ (row : AwardRow). row.award) rows (row ∷ []) ∙ ap (λ xs. xs ++ row.award ∷ []) before.1
          ∙ ap (λ x. take place awards ++ x ∷ []) same ∙ sym (take-got awards place award got),
    )

choice-small : (h : TwoWayHistory) (xs : List (List ℕ)) → IsStart h.terms h.start → choice_of h ≡ Some xs → AllByRecursion (λ x. cost (prices_of h) x < 2 ^ 51) xs
choice-small h xs start e =
    let way = on_the_way h start (steps_of h) (before-last h) in
    let clears = (choice-clears h xs e).clears in
    let t = sum_of h.terms.goods xs in
    let low = cost-up h.terms.ceiling 2047 (prices_of h) t way.up (sum-up h.terms.opening (prices_of h) t h.terms.goods clears h.terms.supply.small) in
    let few : length (prices_of h) ≤ 6 = let s = h.terms.supply.few_goods in let g = way.goods in omega arith in
    let limit = few-goods (length (prices_of h)) h.terms.ceiling few h.terms.ceiling_in_range.at_most in
    each-cost (prices_of h) h.terms.goods xs (2 ^ 51) (omega arith)

-- the clock of all is the first of an auction's clocks, and its choice the first of the choices
abbrev HasChoice : TwoWayHistory → List (List ℕ) → Type 0
HasChoice h choice = choice_of h ≡ Some choice

some-clock : (terms : Terms) → [] ≡ range_with_len 0 (terms.bidders + 1) → ⊥
some-clock terms e =
    let n : terms.bidders + 1 ≡ suc terms.bidders = add-one terms.bidders in
    (let f : [] ≡ 0 ∷ range_with_len 1 terms.bidders = e ∙ ap (range_with_len 0) n in cc)

pub clocks-some : (terms : Terms) (start : List ℕ) (clocks : List TwoWayHistory) → AreEnded terms start clocks → 0 < length clocks
clocks-some terms start [] ended = absurd (some-clock terms ended.numbers)
clocks-some terms start (h ∷ clocks) ended = omega arith

pub choices-some : (terms : Terms) (start : List ℕ) (clocks : List TwoWayHistory) (choices : List (List (List ℕ))) → AreEnded terms start clocks → AllZip HasChoice clocks choices → 0 < length choices
choices-some terms start [] choices ended zip = absurd (some-clock terms ended.numbers)
choices-some terms start (h ∷ clocks) [] ended zip = absurd zip
choices-some terms start (h ∷ clocks) (x ∷ choices) ended zip = omega arith

pub first-count : (terms : Terms) (start : List ℕ) (clocks others : List TwoWayHistory) (choices : List (List (List ℕ))) (awards : List (List ℕ)) → AreEnded terms start clocks → AllZip HasChoice clocks choices
    → others ≡ drop 1 clocks → awards ≡ get_or choices 0 awards → length awards ≡ length others
first-count terms start [] others choices awards ended zip o a = absurd (some-clock terms ended.numbers)
first-count terms start (h ∷ clocks) others [] awards ended zip o a = absurd zip
first-count terms start (h ∷ clocks) others (x ∷ choices) awards ended zip o a =
    let numbers = numbers-of terms h clocks ended.numbers in
    let all : members_in h ≡ all_bidders terms.bidders = (λ i. members (ended.terms_are.0 i).bidders (numbers.0 i)) ∙ all-are-members terms.bidders in
    ap length a ∙ choice-count h x zip.0 ∙ ap length all ∙ ap length (sym numbers.1) ∙ length-map clocks (λ (k : TwoWayHistory). k.number) ∙ ap length (sym o)

pub first-small : (terms : Terms) (start : List ℕ) (clocks : List TwoWayHistory) (choices : List (List (List ℕ))) (all : TwoWayHistory) (awards : List (List ℕ)) (prices : List ℕ) → IsStart terms start → AreEnded terms start clocks → AllZip HasChoice clocks choices
    → all ≡ get_or clocks 0 all → awards ≡ get_or choices 0 awards → prices ≡ prices_of all → AllByRecursion (λ x. cost prices x < 2 ^ 51) awards
first-small terms start [] choices all awards prices may ended zip c a p = absurd (some-clock terms ended.numbers)
first-small terms start (h ∷ clocks) [] all awards prices may ended zip c a p = absurd zip
first-small terms start (h ∷ clocks) (x ∷ choices) all awards prices may ended zip c a p =
    let S : Terms → Type 0 = λ t. IsStart t start in
    let Q : List ℕ → Type 0 = λ q. IsStart h.terms q in
    let begins = subst Q (sym ended.starts.0) (subst S (sym ended.terms_are.0) may) in
    let P : List ℕ → Type 0 = λ q. AllByRecursion (λ y. cost q y < 2 ^ 51) awards in
    let A : List (List ℕ) → Type 0 = λ ys. AllByRecursion (λ y. cost (prices_of h) y < 2 ^ 51) ys in
    subst P (sym (p ∙ ap prices_of c)) (subst A (sym a) (choice-small h x begins zip.0))

pub floated-by : (terms : Terms) (start : List ℕ) (clocks others : List TwoWayHistory) (choices : List (List (List ℕ))) (all : TwoWayHistory) (awards : List (List ℕ)) (prices : List ℕ) (rows : List AwardRow) → AreEnded terms start clocks → AllZip HasChoice clocks choices
    → all ≡ get_or clocks 0 all → others ≡ drop 1 clocks → awards ≡ get_or choices 0 awards → prices ≡ prices_of all → AllZip (IsAwardRow all) others rows → map (λ (row : AwardRow). row.award) rows ≡ awards → AreFloatedBy clocks prices rows choices
floated-by terms start [] others choices all awards prices rows ended zip c o a p are same = absurd (some-clock terms ended.numbers)
floated-by terms start (h ∷ clocks) others [] all awards prices rows ended zip c o a p are same = absurd zip
floated-by terms start (h ∷ clocks) others (x ∷ choices) all awards prices rows ended zip c o a p are same =
    let R : TwoWayHistory → Type 0 = λ k. AllZip (IsAwardRow k) others rows in
    let O : List TwoWayHistory → Type 0 = λ ks. AllZip (IsAwardRow h) ks rows in
    record {
      prices_are = p ∙ ap prices_of c;
      awards_are = zip.0 ∙ ap Some (sym (same ∙ a));
      rows_are = subst O o (subst R c are);
      choices_are = zip;
    }
