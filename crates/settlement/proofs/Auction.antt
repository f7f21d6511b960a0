-- The clocks of an auction: the clock of all bidders stands first, and one clock for each bidder after it.
use Rattle.std.proofs.Common.{◌≡◌, ◌<◌, ℕ, zero, suc, ◌+◌, List, [], ◌∷◌, ◌++◌, length, map, drop, get_or, add-one, sym, ◌∙◌, ap, subst, arith}
use Rattle.std.specs.List.{AllByRecursion, AllZip, range_with_len}
use Rattle.lot_base.specs.Goods.{cost}
use Rattle.lot_base.specs.declared.auction_terms.Terms.{Terms}
use Rattle.clock.specs.Reports.{ClockHistory, members, members_of}
use Rattle.settlement.specs.Clocks.{AreClocksOf}
use Rattle.settlement.specs.Settling.{IsClockRow}
use Rattle.settlement.specs.declared.outcome.ClockRow.{ClockRow}
use Rattle.std.proofs.lemmas.List.{length-map, map-append}
use Rattle.std.proofs.lemmas.List.FromFn.{length-range_with_len}
use Rattle.clock.proofs.Append.{all-push}
use Rattle.settlement.proofs.Members.{count-members}
use Rattle.settlement.proofs.Bounds.{choice-count, choice-small}

pub count-clocks : (terms : Terms) (clocks : List ClockHistory) → AreClocksOf terms clocks → length clocks ≡ terms.bidders + 1
count-clocks terms clocks h = sym (length-map clocks (λ (c : ClockHistory). c.number)) ∙ ap length h.numbers ∙ length-range_with_len 0 (terms.bidders + 1)

-- the first clock has all bidders as members, and as many clocks stand after it
pub count-others : (terms : Terms) (clocks : List ClockHistory) (all : ClockHistory) → AreClocksOf terms clocks → all ≡ get_or clocks 0 all → length (members_of all) ≡ length (drop 1 clocks)
count-others terms [] all h e = let n = count-clocks terms [] h in absurd (omega arith)
count-others terms (c ∷ clocks) all h e =
    let n = count-clocks terms (c ∷ clocks) h in
    let k : length clocks ≡ terms.bidders = omega arith in
    let P : ClockHistory → Type 0 = λ x. length (members x.terms.bidders x.number) ≡ length clocks in
    let number : c.number ≡ 0 = ap (λ ns. get_or ns 0 0) h.numbers ∙ ap (λ m. get_or (range_with_len 0 m) 0 0) (let s : terms.bidders + 1 ≡ _ = add-one terms.bidders in s) in
    subst P (sym e) ((λ i. length (members (h.terms_are.0 i).bidders (number i))) ∙ count-members terms.bidders ∙ sym k)

pub first-row : (clocks : List ClockHistory) (rows : List ClockRow) (all : ClockHistory) (row : ClockRow) → AllZip IsClockRow clocks rows → 0 < length clocks → all ≡ get_or clocks 0 all → row ≡ get_or rows 0 row → IsClockRow all row
first-row [] rows all row zip some e f = absurd (omega arith)
first-row (c ∷ clocks) [] all row zip some e f = absurd zip
first-row (c ∷ clocks) (r ∷ rows) all row zip some e f = let R : ClockRow → Type 0 = λ x. IsClockRow c x in let C : ClockHistory → Type 0 = λ x. IsClockRow x row in subst C (sym e) (subst R (sym f) zip.0)

pub first-count : (terms : Terms) (clocks : List ClockHistory) (rows : List ClockRow) (all : ClockHistory) (row : ClockRow) → AreClocksOf terms clocks → AllZip IsClockRow clocks rows → all ≡ get_or clocks 0 all → row ≡ get_or rows 0 row
    → length row.choices ≡ length (drop 1 clocks)
first-count terms clocks rows all row h zip e f =
    let n = count-clocks terms clocks h in
    let r = first-row clocks rows all row zip (omega arith) e f in
    choice-count all row.choices r.choice_is ∙ count-others terms clocks all h e

pub first-small : (terms : Terms) (clocks : List ClockHistory) (rows : List ClockRow) (all : ClockHistory) (row : ClockRow) → AreClocksOf terms clocks → AllZip IsClockRow clocks rows → all ≡ get_or clocks 0 all → row ≡ get_or rows 0 row
    → AllByRecursion (λ x. cost row.prices x < 2251799813685248) row.choices
first-small terms clocks rows all row h zip e f =
    let n = count-clocks terms clocks h in
    let r = first-row clocks rows all row zip (omega arith) e f in
    let P : List ℕ → Type 0 = λ p. AllByRecursion (λ x. cost p x < 2251799813685248) row.choices in
    subst P (sym r.prices_are) (choice-small all row.choices r.choice_is)

-- the first so many clocks of an auction, as a loop makes one after the other
pub record AreFirst (terms : Terms) (count : ℕ) (clocks : List ClockHistory) : Type 0 where
  pub numbers : map (λ (c : ClockHistory). c.number) clocks ≡ range_with_len 0 count
  pub terms_are : AllByRecursion (λ (c : ClockHistory). c.terms ≡ terms) clocks

range-push : (a n : ℕ) → range_with_len a (suc n) ≡ range_with_len a n ++ (a + n) ∷ []
range-push a zero = let e : a ≡ a + 0 = omega arith in ap (λ k. k ∷ []) e
range-push a (suc n) = let e : a + 1 + n ≡ a + suc n = omega arith in ap (λ ks. a ∷ ks) (range-push (a + 1) n ∙ ap (λ k. range_with_len (a + 1) n ++ k ∷ []) e)

pub first-more : (terms : Terms) (count : ℕ) (clocks next : List ClockHistory) (c : ClockHistory) → AreFirst terms count clocks → c.terms ≡ terms → c.number ≡ count → next ≡ clocks ++ c ∷ [] → AreFirst terms (count + 1) next
first-more terms count clocks next c h same number pushed =
    let N : ClockHistory → ℕ = λ c. c.number in
    let n : suc count ≡ count + 1 = omega arith in
    let z : count ≡ 0 + count = omega arith in
    let T : List ClockHistory → Type 0 = AllByRecursion (λ (c : ClockHistory). c.terms ≡ terms) in
    record {
      numbers = ap (map N) pushed ∙ map-append N clocks (c ∷ []) ∙ ap (λ ks. ks ++ c.number ∷ []) h.numbers ∙ ap (λ k. range_with_len 0 count ++ k ∷ []) (number ∙ z) ∙ sym (range-push 0 count) ∙ ap (range_with_len 0) n;
      terms_are = subst T (sym pushed) (all-push (λ (c : ClockHistory). c.terms ≡ terms) clocks c h.terms_are same);
    }
