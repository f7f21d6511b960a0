-- Reports among their packed places: what is found in them, and what one more changes.
use Rattle.std.proofs.Common.{Option, ◌≡◌, ◌≢◌, ◌≤◌, ℕ, zero, suc, ◌+◌, ◌-◌, ◌*◌, ◌/◌, Bool, true, false, nat_eq, cond, List, [], ◌∷◌, ◌++◌, length, take, drop, Some, None, refl, sym, ◌∙◌, ap, subst, arith, length-drop, append_assoc, length-append}
use Rattle.std.specs.Prelude.{find, is_some, map, option_map, unwrap_or}
use Rattle.std.specs.List.{AllByRecursion, concat}
use Rattle.std.specs.Cmp.Lexicographic.{pointwise}
use Rattle.std.proofs.Math.Nat.{mul-div_cancel}
use Rattle.std.proofs.lemmas.Bool.Decides.{nat_tests}
use Rattle.std.proofs.lemmas.List.{length-take-le, take-append-drop, map-append}
use Rattle.demand_set.specs.Reading.{groups}
use Rattle.demand_set.specs.Held.{IsSomeDemand}
use Rattle.demand_set.specs.Same.{same_demand}
use Rattle.demand_set.specs.declared.reports.Report.{Report}
use Rattle.demand_set.proofs.Groups.{length-groups}
use Rattle.demand_set.proofs.Same.{same_slices, same-test}
use Rattle.demand_set.proofs.Joined.{length-concat}
use Rattle.demand_set.proofs.PackedForm.{concat-groups}
use Rattle.clock.specs.declared.kept_quantities.Place.{Place}
use Rattle.clock.specs.Past.{AllFit, Fits, IsPast, IsSharedAt, IsStoredAt, PastOf, again_among, history_of, quantities_of, report_at, with_again}
use Rattle.clock.proofs.Appended.{demand-back, fit-more, fitted, groups-front, history-more, pushed}

pub history-drop : (goods k : ℕ) (q : List ℕ) (places : List Place) → drop k (history_of goods q places) ≡ history_of goods q (drop k places)
history-drop goods zero q places = refl
history-drop goods (suc k) q [] = refl
history-drop goods (suc k) q (p ∷ places) = history-drop goods k q places

pub history-take : (goods k : ℕ) (q : List ℕ) (places : List Place) → take k (history_of goods q places) ≡ history_of goods q (take k places)
history-take goods zero q places = refl
history-take goods (suc k) q [] = refl
history-take goods (suc k) q (p ∷ places) = ap (λ rs. report_at goods q p ∷ rs) (history-take goods k q places)

pub history-find : (goods b : ℕ) (q : List ℕ) (places : List Place) → find (λ (r : Report). nat_eq r.bidder b) (history_of goods q places) ≡ option_map (report_at goods q) (find (λ (p : Place). nat_eq p.bidder b) places)
history-find goods b q [] = refl
history-find goods b q (p ∷ places) = by (nat_eq p.bidder b) (history-find goods b q places)
  where
    by : (t : Bool) → find (λ (r : Report). nat_eq r.bidder b) (history_of goods q places) ≡ option_map (report_at goods q) (find (λ (p : Place). nat_eq p.bidder b) places)
        → cond t (Some (report_at goods q p)) (find (λ (r : Report). nat_eq r.bidder b) (history_of goods q places)) ≡ option_map (report_at goods q) (cond t (Some p) (find (λ (p : Place). nat_eq p.bidder b) places))
    by true rest = refl
    by false rest = rest

-- among some of the reports
pub slice-find : (goods from count b : ℕ) (q : List ℕ) (places : List Place) → find (λ (r : Report). nat_eq r.bidder b) (take count (drop from (history_of goods q places)))
    ≡ option_map (report_at goods q) (find (λ (p : Place). nat_eq p.bidder b) (take count (drop from places)))
slice-find goods from count b q places =
    ap (λ rs. find (λ (r : Report). nat_eq r.bidder b) rs) (ap (take count) (history-drop goods from q places) ∙ history-take goods count q (drop from places))
    ∙ history-find goods b q (take count (drop from places))

pub fit-drop : (goods k : ℕ) (q : List ℕ) (places : List Place) → AllFit goods q places → AllFit goods q (drop k places)
fit-drop goods zero q places fit = fit
fit-drop goods (suc k) q [] fit = tt
fit-drop goods (suc k) q (p ∷ places) fit = fit-drop goods k q places fit.1

pub fit-take : (goods k : ℕ) (q : List ℕ) (places : List Place) → AllFit goods q places → AllFit goods q (take k places)
fit-take goods zero q places fit = tt
fit-take goods (suc k) q [] fit = tt
fit-take goods (suc k) q (p ∷ places) fit = (fit.0, fit-take goods k q places fit.1)

pub found-fit : (goods b : ℕ) (q : List ℕ) (places : List Place) (found : Place) → find (λ (p : Place). nat_eq p.bidder b) places ≡ Some found → AllFit goods q places → Fits goods q found
found-fit goods b q [] found e fit = absurd (let f : None ≡ Some found = e in cc)
found-fit goods b q (p ∷ places) found e fit = by (nat_eq p.bidder b) (λ f. found-fit goods b q places found f fit.1) e
  where
    by : (t : Bool) → (find (λ (p : Place). nat_eq p.bidder b) places ≡ Some found → Fits goods q found) → cond t (Some p) (find (λ (p : Place). nat_eq p.bidder b) places) ≡ Some found → Fits goods q found
    by true rest f = let F : Place → Type 0 = λ z. Fits goods q z in let g : p ≡ found = cc in subst F g fit.0
    by false rest f = rest f

pub length-quantities : (goods : ℕ) (q : List ℕ) (p : Place) → Fits goods q p → length (quantities_of goods q p) ≡ p.count * goods
length-quantities goods q p fits = let l = length-drop p.start q in length-take-le (p.count * goods) (drop p.start q) (omega (arith, l, fits))

-- the bundles at a place are those of its quantities
pub groups-quantities : (goods : ℕ) (q : List ℕ) (p : Place) → Fits goods q p → groups p.count goods (drop p.start q) ≡ groups p.count goods (quantities_of goods q p)
groups-quantities goods q p fits =
    let l = length-quantities goods q p fits in
    ap (groups p.count goods) (sym (take-append-drop (p.count * goods) (drop p.start q)))
    ∙ groups-front p.count goods (quantities_of goods q p) (drop (p.count * goods) (drop p.start q)) (omega (arith, l))

-- shared quantities of a place
pub shared-at : (goods : ℕ) (q more : List ℕ) (p : Place) → Fits goods q p → quantities_of goods q p ≡ more → IsSharedAt q more p.start
shared-at goods q more p fits same =
    let l = length-quantities goods q p fits in
    let n : length more ≡ p.count * goods = sym (ap length same) ∙ l in
    record { inside = omega (arith, n, fits); same = ap (λ k. take k (drop p.start q)) n ∙ same }

-- quantities of so many bundles are those of a demand where they are its quantities
goods-same : (goods other count : ℕ) → 1 ≤ count → goods * count ≡ other * count → goods ≡ other
goods-same goods other count some e = sym (mul-div_cancel goods some) ∙ ap (λ n. n / count) e ∙ mul-div_cancel other some

pub demand-of-kept : (goods count : ℕ) (kept : List ℕ) (d : List (List ℕ)) → 1 ≤ goods → length kept ≡ count * goods → count ≡ length d → IsSomeDemand d → kept ≡ concat d → groups count goods kept ≡ d
demand-of-kept goods count kept d some whole n held same =
    let other = held.one_length.0 in
    let l = length-concat other d held.one_length.2 in
    let m : length d * other ≡ count * other = ap (λ k. k * other) (sym n) in
    let up : 1 ≤ count = (let s = held.some in omega (arith, s, n)) in
    let e : goods * count ≡ other * count = omega (arith, ap length same, whole, l, m) in
    let g : other ≡ goods = sym (goods-same goods other count up e) in
    let A : ℕ → Type 0 = λ k. AllByRecursion (λ x. length x ≡ k) d in
    (λ i. groups (n i) goods (same i)) ∙ demand-back goods [] d some (subst A g held.one_length.2)

pub same-kept : (goods count : ℕ) (kept lent : List ℕ) (d : List (List ℕ)) (r : Bool) → 1 ≤ goods → length kept ≡ count * goods → count ≡ length d → IsSomeDemand d → lent ≡ concat d → r ≡ pointwise nat_eq kept lent → r ≡ same_demand (groups count goods kept) d
same-kept goods count kept lent d r some whole n held is e =
    let t = same_slices kept lent kept (concat d) r refl is e in
    same-test (groups count goods kept) d r (
      (λ yes. demand-of-kept goods count kept d some whole n held (t.0 yes)),
      (λ same. t.1 (sym (concat-groups count goods kept whole) ∙ ap concat same)),
    )

pub other-count : (goods count : ℕ) (kept : List ℕ) (d : List (List ℕ)) (n : ℕ) → n ≡ length d → count ≢ n → nat_eq count n ≡ same_demand (groups count goods kept) d
other-count goods count kept d n is other =
    let l = length-groups count goods kept in
    same-test (groups count goods kept) d (nat_eq count n)
    ((λ t. absurd (other (grind (arith, nat_tests)))), (λ same. absurd (other (sym l ∙ ap length same ∙ sym is))))

-- what is kept with one report more
pub record IsPushed (goods : ℕ) (old now : List ℕ) (places after : List Place) (r : Report) : Type 0 where
  pub history : history_of goods now after ≡ history_of goods old places ++ r ∷ []
  pub fit : AllFit goods now after

pub is-pushed : (goods start count : ℕ) (old now more : List ℕ) (places after : List Place) (r : Report) → 1 ≤ goods → AllByRecursion (λ x. length x ≡ goods) r.demand → more ≡ concat r.demand → count ≡ length r.demand
    → IsStoredAt old now start more → after ≡ places ++ (record { bidder = r.bidder; round = r.round; start = start; count = count }) ∷ [] → AllFit goods old places → IsPushed goods old now places after r
is-pushed goods start count old now more places after r some all is n stored e fit =
    let p : Place = record { bidder = r.bidder; round = r.round; start = start; count = count } in
    let front : now ≡ old ++ drop (length old) now = sym (take-append-drop (length old) now) ∙ ap (λ xs. xs ++ drop (length old) now) stored.front in
    let l : length more ≡ count * goods = ap length is ∙ length-concat goods r.demand all ∙ ap (λ k. k * goods) (sym n) in
    let inside : Fits goods now p = (let i = stored.stored.inside in omega (arith, i, l)) in
    let kept : quantities_of goods now p ≡ concat r.demand = ap (λ k. take k (drop start now)) (sym l) ∙ stored.stored.same ∙ is in
    let d : groups count goods (drop start now) ≡ r.demand = groups-quantities goods now p inside ∙ (λ i. groups (n i) goods (kept i)) ∙ demand-back goods [] r.demand some all in
    let same : report_at goods now p ≡ r = λ i. record { bidder = r.bidder; round = r.round; demand = d i } in
    record {
      history = pushed goods old (drop (length old) now) now places after p r front e fit same;
      fit = fitted goods old (drop (length old) now) now places after p front e fit inside;
    }

pub past-pushed : (goods start count : ℕ) (old now more : List ℕ) (places after : List Place) (r : Report) (reports quantities rq rp rs rq' rp' : ℕ) → IsPast goods old places reports quantities rq rp rs
    → AllFit goods now after → length after ≡ suc (length places) → length now ≤ length old + length more → 1 ≤ reports → length more ≤ quantities → rq ≤ rq' → rp ≤ rp'
    → IsPast goods now after (reports - 1) (quantities - length more) rq' rp' rs
past-pushed goods start count old now more places after r reports quantities rq rp rs rq' rp' past fit n few one most up up' =
    let a = past.quantities_in in
    let b = past.places_in in
    let d = past.sets_in in
    let e = past.starts in
    record {
      some_good = past.some_good;
      few_goods = past.few_goods;
      fit = fit;
      quantities_in = omega (arith, a, few, most, up);
      places_in = omega (arith, b, n, one, up');
      sets_in = omega (arith, d, n, one);
      starts = omega (arith, e, few, most);
    }

pub room-at : (goods : ℕ) (q : List ℕ) (p : Place) → Fits goods q p → p.count * goods ≤ length (drop p.start q)
room-at goods q p fits = let l = length-drop p.start q in omega (arith, l, fits)

pub found-bidder : (b : ℕ) (places : List Place) (found : Place) → find (λ (p : Place). nat_eq p.bidder b) places ≡ Some found → found.bidder ≡ b
found-bidder b [] found e = absurd (let f : None ≡ Some found = e in cc)
found-bidder b (p ∷ places) found e = by (nat_eq p.bidder b) refl (λ f. found-bidder b places found f) e
  where
    by : (t : Bool) → nat_eq p.bidder b ≡ t → (find (λ (p : Place). nat_eq p.bidder b) places ≡ Some found → found.bidder ≡ b) → cond t (Some p) (find (λ (p : Place). nat_eq p.bidder b) places) ≡ Some found → found.bidder ≡ b
    by true is rest f = let g : p ≡ found = cc in ap (λ (z : Place). z.bidder) (sym g) ∙ (grind (arith, nat_tests))
    by false is rest f = rest f

-- the place of a report that is found
pub record IsThere (goods b : ℕ) (q : List ℕ) (places : List Place) : Type 0 where
  pub place : Place
  pub found : find (λ (p : Place). nat_eq p.bidder b) places ≡ Some place

there-by : (goods b : ℕ) (q : List ℕ) (places : List Place) (o : Option Place) → find (λ (p : Place). nat_eq p.bidder b) places ≡ o → is_some (option_map (report_at goods q) o) ≡ true → IsThere goods b q places
there-by goods b q places None e some = absurd (let f : false ≡ true = some in cc)
there-by goods b q places (Some p) e some = record { place = p; found = e }

pub is-there : (goods from count b : ℕ) (q : List ℕ) (places : List Place) → is_some (find (λ (r : Report). nat_eq r.bidder b) (take count (drop from (history_of goods q places)))) ≡ true → IsThere goods b q (take count (drop from places))
is-there goods from count b q places some =
    there-by goods b q (take count (drop from places)) (find (λ (p : Place). nat_eq p.bidder b) (take count (drop from places))) refl (sym (ap is_some (slice-find goods from count b q places)) ∙ some)

-- once more in another round
pub again-history : (goods from count b round : ℕ) (q : List ℕ) (places after : List Place) (p place : Place) → find (λ (p : Place). nat_eq p.bidder b) (take count (drop from places)) ≡ Some p → place ≡ record p { round = round } → after ≡ places ++ place ∷ [] → AllFit goods q places
    → history_of goods q after ≡ history_of goods q places ++ again_among (take count (drop from (history_of goods q places))) round b ∷ []
again-history goods from count b round q places after p place found is e fit =
    let bidder = found-bidder b (take count (drop from places)) p found in
    let here : find (λ (r : Report). nat_eq r.bidder b) (take count (drop from (history_of goods q places))) ≡ Some (report_at goods q p) = slice-find goods from count b q places ∙ ap (option_map (report_at goods q)) found in
    let same : report_at goods q place ≡ again_among (take count (drop from (history_of goods q places))) round b =
    ap (report_at goods q) is ∙ (λ i. record { bidder = bidder i; round = round; demand = unwrap_or (option_map (λ (r : Report). r.demand) (sym here i)) [] }) in
    ap (history_of goods q) e ∙ history-more goods q places place ∙ ap (λ r. history_of goods q places ++ r ∷ []) same

pub again-fits : (goods from count b round : ℕ) (q : List ℕ) (places after : List Place) (p place : Place) → find (λ (p : Place). nat_eq p.bidder b) (take count (drop from places)) ≡ Some p → place ≡ record p { round = round } → after ≡ places ++ place ∷ [] → AllFit goods q places → AllFit goods q after
again-fits goods from count b round q places after p place found is e fit =
    let f = found-fit goods b q (take count (drop from places)) p found (fit-take goods count q (drop from places) (fit-drop goods from q places fit)) in
    let P : List Place → Type 0 = λ ps. AllFit goods q ps in
    let Q : Place → Type 0 = λ z. Fits goods q z in
    subst P (sym e) (fit-more goods q places place fit (subst Q (sym is) f))

-- some of the reports, where more come after them
pub slice-front : (from count : ℕ) (reports more : List Report) → from + count ≤ length reports → take count (drop from (reports ++ more)) ≡ take count (drop from reports)
slice-front zero zero reports more inside = refl
slice-front zero (suc count) [] more inside = absurd (omega arith)
slice-front zero (suc count) (r ∷ reports) more inside = ap (λ rs. r ∷ rs) (slice-front zero count reports more (omega arith))
slice-front (suc from) count [] more inside = absurd (omega arith)
slice-front (suc from) count (r ∷ reports) more inside = slice-front from count reports more (omega arith)

-- a round that is pushed so far, and one report more
pub round-next : (old now next : PastOf) (from count round j : ℕ) (ms : List ℕ) → from + count ≤ length old.reports → now ≡ with_again old (map (again_among (take count (drop from old.reports)) round) ms)
    → next ≡ with_again now (again_among (take count (drop from now.reports)) round j ∷ []) → next ≡ with_again old (map (again_among (take count (drop from old.reports)) round) (ms ++ j ∷ []))
round-next old now next from count round j ms inside is next_is =
    let slice = take count (drop from old.reports) in
    let xs = map (again_among slice round) ms in
    let same : again_among (take count (drop from (old.reports ++ xs))) round j ≡ again_among slice round j = ap (λ s. again_among s round j) (slice-front from count old.reports xs inside) in
    let more : xs ++ again_among slice round j ∷ [] ≡ map (again_among slice round) (ms ++ j ∷ []) = sym (map-append (again_among slice round) ms (j ∷ [])) in
    let l = length-append xs (again_among slice round j ∷ []) in
    let spare : old.spare_reports - length xs - 1 ≡ old.spare_reports - length (xs ++ again_among slice round j ∷ []) = omega (arith, l) in
    let reports : (old.reports ++ xs) ++ again_among slice round j ∷ [] ≡ old.reports ++ (xs ++ again_among slice round j ∷ []) = append_assoc old.reports xs (again_among slice round j ∷ []) in
    next_is ∙ ap (λ p. with_again p (again_among (take count (drop from p.reports)) round j ∷ [])) is
    ∙ ap (λ y. with_again (with_again old xs) (y ∷ [])) same
    ∙ (λ i. record old { reports = reports i; spare_reports = spare i })
    ∙ ap (with_again old) more
