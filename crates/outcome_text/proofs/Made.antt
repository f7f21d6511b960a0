-- An outcome that is made of its parts can be read, and one that can be read has such parts.
use Rattle.std.proofs.Common.{◌≡◌, ◌+◌, ◌++◌, ℕ, suc, ℤ, pos, List, [], ◌∷◌, length, get_or, Option, Some, None, is_some, Bool, refl, sym, ap, ◌∙◌, subst, arith, append-nil}
use Rattle.std.specs.Prelude.{IfSome}
use Rattle.std.specs.List.{AllByRecursion, AllZip, range_with_len}
use Rattle.lot_base.specs.Goods.{IsRange}
use Rattle.settlement.specs.Shapes.{IsOf, IsRowOfClock, HasShape, ArePricesOfFirst}
use Rattle.settlement.specs.declared.outcome.AwardRow.{AwardRow}
use Rattle.settlement.specs.declared.outcome.ClockRow.{ClockRow}
use Rattle.settlement.specs.declared.outcome.Outcome.{Outcome}
use Rattle.outcome_text.specs.declared.building.Head.{Head}
use Rattle.outcome_text.specs.Reading.{ArePrices, IsAwardInRange, IsClockInRange}
use Rattle.outcome_text.specs.Listed.{naturals, opening_numbers, awards_numbers, clocks_numbers, outcome_numbers}
use Rattle.outcome_text.specs.Parts.{ArePricesOf, IsOpeningOf, IsHead, IsAwardOf, AreAwardsOf, IsClockOf, AreClocksOf, IsReadable}

all-map : {A : Type 0} (P Q : A → Type 0) (xs : List A) → ((x : A) → P x → Q x) → AllByRecursion P xs → AllByRecursion Q xs
all-map P Q [] f all = tt
all-map P Q (x ∷ xs) f all = (f x all.0, all-map P Q xs f all.1)

zip-map : {A B : Type 0} (R S : A → B → Type 0) (xs : List A) (ys : List B) → ((x : A) (y : B) → R x y → S x y) → AllZip R xs ys → AllZip S xs ys
zip-map R S [] [] f all = tt
zip-map R S [] (y ∷ ys) f all = absurd all
zip-map R S (x ∷ xs) [] f all = absurd all
zip-map R S (x ∷ xs) (y ∷ ys) f all = (f x y all.0, zip-map R S xs ys f all.1)

zip-second : {A B : Type 0} (R : A → B → Type 0) (P : B → Type 0) (xs : List A) (ys : List B) → ((x : A) (y : B) → R x y → P y) → AllZip R xs ys → AllByRecursion P ys
zip-second R P [] [] f all = tt
zip-second R P [] (y ∷ ys) f all = absurd all
zip-second R P (x ∷ xs) [] f all = absurd all
zip-second R P (x ∷ xs) (y ∷ ys) f all = (f x y all.0, zip-second R P xs ys f all.1)

zip-with : {A B : Type 0} (R S : A → B → Type 0) (P : B → Type 0) (xs : List A) (ys : List B) → ((x : A) (y : B) → R x y → P y → S x y) → AllZip R xs ys → AllByRecursion P ys → AllZip S xs ys
zip-with R S P [] [] f all each = tt
zip-with R S P [] (y ∷ ys) f all each = absurd all
zip-with R S P (x ∷ xs) [] f all each = absurd all
zip-with R S P (x ∷ xs) (y ∷ ys) f all each = (f x y all.0 each.0, zip-with R S P xs ys f all.1 each.1)

all-with : {A : Type 0} (P Q R : A → Type 0) (xs : List A) → ((x : A) → P x → Q x → R x) → AllByRecursion P xs → AllByRecursion Q xs → AllByRecursion R xs
all-with P Q R [] f p q = tt
all-with P Q R (x ∷ xs) f p q = (f x p.0 q.0, all-with P Q R xs f p.1 q.1)

-- ---- what was made of parts

opening-parts : (goods : ℕ) (opening : Option (List ℕ)) → IsOpeningOf goods opening → IfSome opening (IsOf goods) × IfSome opening ArePrices
opening-parts goods None h = (tt, tt)
opening-parts goods (Some opening) h = (h.fit, h.in_range)

pub made-readable : (goods bidders : ℕ) (opening : Option (List ℕ)) (rows : List AwardRow) (clocks : List ClockRow) (d : ClockRow) → IsRange 1 6 goods → IsRange 1 12 bidders → IsOpeningOf goods opening → AreAwardsOf goods bidders rows → AreClocksOf goods bidders clocks
    → IsReadable (record { prices = (get_or clocks 0 d).prices; opening = opening; rows = rows; clocks = clocks })
made-readable goods bidders opening rows [] d some-goods some-bidders opens awards ends =
    let more : bidders + 1 ≡ suc bidders = omega arith in
    absurd (subst (λ n. AllZip (IsClockOf goods bidders) (range_with_len 0 n) []) more ends)
made-readable goods bidders opening rows (first ∷ clocks) d some-goods some-bidders opens awards ends =
    let more : bidders + 1 ≡ suc bidders = omega arith in
    let here : IsClockOf goods bidders 0 first = (subst (λ n. AllZip (IsClockOf goods bidders) (range_with_len 0 n) (first ∷ clocks)) more ends).0 in
    let made : Outcome = record { prices = first.prices; opening = opening; rows = rows; clocks = first ∷ clocks } in
    let shape : HasShape goods bidders made = record {
      prices_fit = here.fit.prices_fit;
      opening_fits = (opening-parts goods opening opens).0;
      bidders_fit = awards.count;
      awards_fit = all-map (IsAwardOf goods) (λ (row : AwardRow). IsOf goods row.award) rows (λ row h. h.fit) awards.each;
      clocks_fit = zip-map (IsClockOf goods bidders) (IsRowOfClock goods bidders) (range_with_len 0 (bidders + 1)) (first ∷ clocks) (λ n row h. h.fit) ends;
      first = refl;
    } in
    let same-goods : goods ≡ length first.prices = sym here.fit.prices_fit in
    let same-bidders : bidders ≡ length rows = sym awards.count in
    record {
      whole = record {
        some_goods = omega (arith, same-goods, some-goods.at_least);
        few_goods = omega (arith, same-goods, some-goods.at_most);
        some_bidders = omega (arith, same-bidders, some-bidders.at_least);
        few_bidders = omega (arith, same-bidders, some-bidders.at_most);
        shape = subst (λ n. HasShape (length first.prices) n made) same-bidders (subst (λ n. HasShape n bidders made) same-goods shape);
      };
      in_range = record {
        prices = here.in_range.prices;
        opening = (opening-parts goods opening opens).1;
        rows = all-map (IsAwardOf goods) IsAwardInRange rows (λ row h. h.in_range) awards.each;
        clocks = zip-second (IsClockOf goods bidders) IsClockInRange (range_with_len 0 (bidders + 1)) (first ∷ clocks) (λ n row h. h.in_range) ends;
      };
    }

-- ---- the parts of what can be read

prices-of : (o : Outcome) → IsReadable o → ArePricesOf (length o.prices) o.prices
prices-of o h = record { fit = refl; in_range = h.in_range.prices }

awards-of : (o : Outcome) → IsReadable o → AreAwardsOf (length o.prices) (length o.rows) o.rows
awards-of o h = record {
  count = refl;
  each = all-with (λ (row : AwardRow). IsOf (length o.prices) row.award) IsAwardInRange (IsAwardOf (length o.prices)) o.rows (λ row f r. record { fit = f; in_range = r }) h.whole.shape.awards_fit h.in_range.rows;
}

clocks-of : (o : Outcome) → IsReadable o → AreClocksOf (length o.prices) (length o.rows) o.clocks
clocks-of o h =
    zip-with (IsRowOfClock (length o.prices) (length o.rows)) (IsClockOf (length o.prices) (length o.rows)) IsClockInRange (range_with_len 0 (length o.rows + 1)) o.clocks
    (λ n row f r. record { fit = f; in_range = r }) h.whole.shape.clocks_fit h.in_range.clocks

opening-of : (goods : ℕ) (opening : Option (List ℕ)) → IfSome opening (IsOf goods) → IfSome opening ArePrices → IsOpeningOf goods opening
opening-of goods None f r = tt
opening-of goods (Some opening) f r = record { fit = f; in_range = r }

-- what the text of an outcome begins with
abbrev pub head_of : Outcome → Head
head_of o = record { goods = length o.prices; bidders = length o.rows; opening = o.opening }

is-head : (o : Outcome) → IsReadable o → IsHead (head_of o)
is-head o h =
    let w = h.whole in
    record {
      goods = record { at_least = w.some_goods; at_most = w.few_goods };
      bidders = record { at_least = w.some_bidders; at_most = w.few_bidders };
      opening = opening-of (length o.prices) o.opening w.shape.opening_fits h.in_range.opening;
    }

-- ---- what the calls that take the parts say

abbrev pub TakesFront : Bool → List ℤ → List ℤ → Option Head → Type 0
TakesFront shown old new result = (h : Head) (prices : List ℕ) (behind : List ℤ) → IsHead h → is_some h.opening ≡ shown → ArePricesOf h.goods prices → old ≡ pos h.goods ∷ pos h.bidders ∷ naturals prices ++ (opening_numbers h.opening ++ behind)
    → (result ≡ Some h) × (new ≡ behind)

abbrev pub TakesAwards : ℕ → ℕ → List ℤ → List ℤ → Option (List AwardRow) → Type 0
TakesAwards goods bidders old new result = (rows : List AwardRow) (behind : List ℤ) → AreAwardsOf goods bidders rows → old ≡ awards_numbers 1 rows ++ behind → (result ≡ Some rows) × (new ≡ behind)

abbrev pub TakesClocks : ℕ → ℕ → List ℤ → List ℤ → Option (List ClockRow) → Type 0
TakesClocks goods bidders old new result = (rows : List ClockRow) (behind : List ℤ) → AreClocksOf goods bidders rows → old ≡ clocks_numbers bidders 0 rows ++ behind → (result ≡ Some rows) × (new ≡ behind)

pub record FrontFound (o : Outcome) (new : List ℤ) (front : Option Head) : Type 0 where
  pub front_is : front ≡ Some (head_of o)
  pub rest_is : new ≡ awards_numbers 1 o.rows ++ clocks_numbers (length o.rows) 0 o.clocks

pub front-found : (shown : Bool) (old new : List ℤ) (front : Option Head) → TakesFront shown old new front → (o : Outcome) → IsReadable o → is_some o.opening ≡ shown → old ≡ outcome_numbers o → FrontFound o new front
unfolding outcome_numbers
front-found shown old new front takes o h shows e =
    let taken = takes (head_of o) o.prices (awards_numbers 1 o.rows ++ clocks_numbers (length o.rows) 0 o.clocks) (is-head o h) shows (prices-of o h) e in
    record { front_is = taken.0; rest_is = taken.1 }

pub same-some : {h k : Head} → ◌≡◌ {A = Option Head} (Some h) (Some k) → h ≡ k
same-some e = cc

pub record AwardsFound (o : Outcome) (new : List ℤ) (rows : Option (List AwardRow)) : Type 0 where
  pub rows_are : rows ≡ Some o.rows
  pub rest_is : new ≡ clocks_numbers (length o.rows) 0 o.clocks

pub awards-found : (goods bidders : ℕ) (opening : Option (List ℕ)) (old new : List ℤ) (rows : Option (List AwardRow)) → TakesAwards goods bidders old new rows → (o : Outcome) → IsReadable o → FrontFound o old (Some (record { goods = goods; bidders = bidders; opening = opening })) → AwardsFound o new rows
awards-found goods bidders opening old new rows takes o h front =
    let f = same-some front.front_is in
    let pair : (goods, bidders) ≡ (length o.prices, length o.rows) = λ i. ((f i).goods, (f i).bidders) in
    let are : AreAwardsOf goods bidders o.rows = let P : ℕ × ℕ → Type 0 = λ p. AreAwardsOf p.0 p.1 o.rows in subst P (sym pair) (awards-of o h) in
    let taken = takes o.rows (clocks_numbers (length o.rows) 0 o.clocks) are front.rest_is in
    record { rows_are = taken.0; rest_is = taken.1 }

pub clocks-found : (goods bidders : ℕ) (opening : Option (List ℕ)) (old mid new : List ℤ) (rows : Option (List AwardRow)) (clocks : Option (List ClockRow)) → TakesClocks goods bidders mid new clocks → (o : Outcome) → IsReadable o → FrontFound o old (Some (record { goods = goods; bidders = bidders; opening = opening })) → AwardsFound o mid rows → clocks ≡ Some o.clocks
clocks-found goods bidders opening old mid new rows clocks takes o h front awards =
    let f = same-some front.front_is in
    let pair : (goods, bidders) ≡ (length o.prices, length o.rows) = λ i. ((f i).goods, (f i).bidders) in
    let are : AreClocksOf goods bidders o.clocks = let P : ℕ × ℕ → Type 0 = λ p. AreClocksOf p.0 p.1 o.clocks in subst P (sym pair) (clocks-of o h) in
    let bidders-are : length o.rows ≡ bidders = sym (ap (λ (p : ℕ × ℕ). p.1) pair) in
    (takes o.clocks [] are (awards.rest_is ∙ ap (λ n. clocks_numbers n 0 o.clocks) bidders-are ∙ sym (append-nil (clocks_numbers bidders 0 o.clocks)))).0

-- the prices are those of the first clock
pub first-prices : (o : Outcome) (clocks : List ClockRow) (d : ClockRow) → IsReadable o → clocks ≡ o.clocks → (get_or clocks 0 d).prices ≡ o.prices
first-prices o clocks d h e = ap (λ (cs : List ClockRow). (get_or cs 0 d).prices) e ∙ by o.clocks h.whole.shape.first
  where
    by : (cs : List ClockRow) → ArePricesOfFirst o.prices cs → (get_or cs 0 d).prices ≡ o.prices
    by [] f = absurd f
    by (c ∷ cs) f = sym f
