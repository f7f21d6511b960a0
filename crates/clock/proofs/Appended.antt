-- What is kept packed stays where more is kept after it.
use Rattle.std.proofs.Common.{◌≡◌, ◌≤◌, ◌<◌, ℕ, zero, suc, ◌+◌, ◌*◌, ◌/◌, List, [], ◌∷◌, ◌++◌, length, take, drop, length-append, length-drop, arith, refl, sym, ap, ◌∙◌, subst, get_or}
use Rattle.std.specs.List.{AllByRecursion, concat}
use Rattle.std.specs.Prelude.{slice_get, Some}
use Rattle.std.proofs.Math.Seq.{drop-append_seam}
use Rattle.std.proofs.Math.Nat.{mul-div_cancel}
use Rattle.std.proofs.lemmas.List.{take-append-le}
use Rattle.demand_set.specs.Reading.{groups}
use Rattle.demand_set.specs.declared.reports.Report.{Report}
use Rattle.demand_set.proofs.Joined.{length-concat, bundles_of-concat}
use Rattle.std.proofs.lemmas.List.{length-take-le, take-append-drop}
use Rattle.lot_base.specs.Demands.{IsDemand}
use Rattle.demand_set.specs.Reading.{demand_of, bundles_of}
use Rattle.demand_set.proofs.Joined.{demand_of-demand}
use Rattle.std.specs.Prelude.{Ok}
use Rattle.clock.specs.Past.{report_at, history_of, AllFit}
use Rattle.clock.specs.declared.kept_quantities.Place.{Place}

drop-front : (n : ℕ) (xs ys : List ℕ) → n ≤ length xs → drop n (xs ++ ys) ≡ drop n xs ++ ys
drop-front zero xs ys h = refl
drop-front (suc n) [] ys h = absurd (omega arith)
drop-front (suc n) (x ∷ xs) ys h = drop-front n xs ys (omega arith)

pub groups-front : (count goods : ℕ) (xs ys : List ℕ) → count * goods ≤ length xs → groups count goods (xs ++ ys) ≡ groups count goods xs
groups-front zero goods xs ys h = refl
groups-front (suc count) goods xs ys h =
    let m : suc count * goods ≡ goods + count * goods = omega arith in
    let first = take-append-le goods xs ys (omega (arith, m, h)) in
    let rest = drop-front goods xs ys (omega (arith, m, h)) in
    let l = length-drop goods xs in
    (λ i. first i ∷ groups count goods (rest i)) ∙ ap (λ gs. take goods xs ∷ gs) (groups-front count goods (drop goods xs) ys (omega (arith, m, h, l)))

report-front : (goods : ℕ) (xs ys : List ℕ) (p : Place) → p.start + p.count * goods ≤ length xs → report_at goods (xs ++ ys) p ≡ report_at goods xs p
report-front goods xs ys p h =
    let l = length-drop p.start xs in
    let same : groups p.count goods (drop p.start (xs ++ ys)) ≡ groups p.count goods (drop p.start xs) =
    ap (groups p.count goods) (drop-front p.start xs ys (omega (arith, h))) ∙ groups-front p.count goods (drop p.start xs) ys (omega (arith, h, l)) in
    λ i. record { bidder = p.bidder; round = p.round; demand = same i }

pub history-front : (goods : ℕ) (xs ys : List ℕ) (places : List Place) → AllFit goods xs places → history_of goods (xs ++ ys) places ≡ history_of goods xs places
history-front goods xs ys [] h = refl
history-front goods xs ys (p ∷ places) h = let r = report-front goods xs ys p h.0 in let rest = history-front goods xs ys places h.1 in λ i. r i ∷ rest i

pub history-more : (goods : ℕ) (xs : List ℕ) (places : List Place) (p : Place) → history_of goods xs (places ++ p ∷ []) ≡ history_of goods xs places ++ report_at goods xs p ∷ []
history-more goods xs [] p = refl
history-more goods xs (q ∷ places) p = ap (λ rs. report_at goods xs q ∷ rs) (history-more goods xs places p)

pub fit-front : (goods : ℕ) (xs ys : List ℕ) (places : List Place) → AllFit goods xs places → AllFit goods (xs ++ ys) places
fit-front goods xs ys [] h = tt
fit-front goods xs ys (p ∷ places) h = let l = length-append xs ys in let f = h.0 in (omega (arith, l, f), fit-front goods xs ys places h.1)

pub fit-more : (goods : ℕ) (xs : List ℕ) (places : List Place) (p : Place) → AllFit goods xs places → p.start + p.count * goods ≤ length xs → AllFit goods xs (places ++ p ∷ [])
fit-more goods xs [] p h f = (f, tt)
fit-more goods xs (q ∷ places) p h f = (h.0, fit-more goods xs places p h.1 f)

-- the quantities of a demand, after others, are read as the demand
pub demand-back : (goods : ℕ) (xs : List ℕ) (d : List (List ℕ)) → 1 ≤ goods → AllByRecursion (λ x. length x ≡ goods) d → groups (length d) goods (drop (length xs) (xs ++ concat d)) ≡ d
demand-back goods xs d some all =
    let n : length (concat d) / goods ≡ length d = ap (λ k. k / goods) (length-concat goods d all) ∙ mul-div_cancel (length d) some in
    ap (groups (length d) goods) (drop-append_seam xs (concat d))
    ∙ ap (λ k. groups k goods (concat d)) (sym n)
    ∙ bundles_of-concat goods d some all

pub length-history : (goods : ℕ) (xs : List ℕ) (places : List Place) → length (history_of goods xs places) ≡ length places
length-history goods xs [] = refl
length-history goods xs (p ∷ places) = ap suc (length-history goods xs places)

-- the report of a place
pub history-get : (goods : ℕ) (xs : List ℕ) (places : List Place) (i : ℕ) (p : Place) (r : Report) → slice_get places i ≡ Some p → slice_get (history_of goods xs places) i ≡ Some r → r ≡ report_at goods xs p
history-get goods xs [] i p r e f = absurd (cc)
history-get goods xs (q ∷ places) zero p r e f = let a : q ≡ p = cc in let b : report_at goods xs q ≡ r = cc in sym b ∙ ap (report_at goods xs) a
history-get goods xs (q ∷ places) (suc i) p r e f = history-get goods xs places i p r e f

-- one report more: its quantities after the others, or some that are there
pub pushed : (goods : ℕ) (xs ys now : List ℕ) (places after : List Place) (p : Place) (r : Report) → now ≡ xs ++ ys → after ≡ places ++ p ∷ [] → AllFit goods xs places →
    report_at goods now p ≡ r → history_of goods now after ≡ history_of goods xs places ++ r ∷ []
pushed goods xs ys now places after p r e f fit is =
    ap (history_of goods now) f
    ∙ history-more goods now places p
    ∙ ap (λ q. history_of goods now places ++ q ∷ []) is
    ∙ ap (λ hs. hs ++ r ∷ []) (ap (λ q. history_of goods q places) e ∙ history-front goods xs ys places fit)

pub stayed : (goods : ℕ) (xs ys now : List ℕ) (places : List Place) → now ≡ xs ++ ys → AllFit goods xs places → history_of goods now places ≡ history_of goods xs places
stayed goods xs ys now places e fit = ap (λ q. history_of goods q places) e ∙ history-front goods xs ys places fit

pub fitted : (goods : ℕ) (xs ys now : List ℕ) (places after : List Place) (p : Place) → now ≡ xs ++ ys → after ≡ places ++ p ∷ [] → AllFit goods xs places → p.start + p.count * goods ≤ length now → AllFit goods now after
fitted goods xs ys now places after p e f fit inside =
    let P : List ℕ → Type 0 = λ q. AllFit goods q places in
    let Q : List Place → Type 0 = λ ps. AllFit goods now ps in
    subst Q (sym f) (fit-more goods now places p (subst P (sym e) (fit-front goods xs ys places fit)) inside)

-- the demand at a place after the others
pub report-back : (goods start count : ℕ) (xs now : List ℕ) (r : Report) → 1 ≤ goods → AllByRecursion (λ x. length x ≡ goods) r.demand → start ≡ length xs → count ≡ length r.demand → now ≡ xs ++ concat r.demand →
    report_at goods now (record { bidder = r.bidder; round = r.round; start = start; count = count }) ≡ r
report-back goods start count xs now r some all s n e =
    let same : groups count goods (drop start now) ≡ r.demand = (λ i. groups (n i) goods (drop (s i) (e i))) ∙ demand-back goods xs r.demand some all in
    λ i. record { bidder = r.bidder; round = r.round; demand = same i }

pub place-inside : (goods start count : ℕ) (xs now : List ℕ) (d : List (List ℕ)) → AllByRecursion (λ x. length x ≡ goods) d → start ≡ length xs → count ≡ length d → now ≡ xs ++ concat d → start + count * goods ≤ length now
place-inside goods start count xs now d all s n e =
    let l = ap length e ∙ length-append xs (concat d) in
    let k = length-concat goods d all in
    let c : count * goods ≡ length d * goods = ap (λ z. z * goods) n in
    omega (arith, l, k, c, s)

pub fits-at : (goods : ℕ) (xs : List ℕ) (places : List Place) (i : ℕ) (p d : Place) → i < length places → p ≡ get_or places i d → AllFit goods xs places → p.start + p.count * goods ≤ length xs
fits-at goods xs [] i p d inside is fit = absurd (omega arith)
fits-at goods xs (q ∷ places) zero p d inside is fit = let P : Place → Type 0 = λ r. r.start + r.count * goods ≤ length xs in subst P (sym is) fit.0
fits-at goods xs (q ∷ places) (suc i) p d inside is fit = fits-at goods xs places i p d (omega arith) is fit.1

pub get-at : (places : List Place) (i : ℕ) (p d : Place) → i < length places → p ≡ get_or places i d → slice_get places i ≡ Some p
get-at [] i p d inside is = absurd (omega arith)
get-at (q ∷ places) zero p d inside is = ap Some (sym is)
get-at (q ∷ places) (suc i) p d inside is = get-at places i p d (omega arith) is

pub history-at : (goods : ℕ) (xs : List ℕ) (places : List Place) (i : ℕ) (p : Place) → slice_get places i ≡ Some p → slice_get (history_of goods xs places) i ≡ Some (report_at goods xs p)
history-at goods xs [] i p e = absurd (cc)
history-at goods xs (q ∷ places) zero p e = let a : q ≡ p = cc in ap (λ z. Some (report_at goods xs z)) a
history-at goods xs (q ∷ places) (suc i) p e = history-at goods xs places i p e

pub all-get : (P : Report → Type 0) (rs : List Report) (i : ℕ) (r : Report) → AllByRecursion P rs → slice_get rs i ≡ Some r → P r
all-get P [] i r all e = absurd (cc)
all-get P (q ∷ rs) zero r all e = let a : q ≡ r = cc in subst P a all.0
all-get P (q ∷ rs) (suc i) r all e = all-get P rs i r all.1 e

-- quantities that were taken out are read as the demand that they are
pub unpacked-is : (supply : List ℕ) (goods count : ℕ) (xs items : List ℕ) (d : List (List ℕ)) → goods ≡ length supply → 1 ≤ length supply → count * length supply ≤ length xs → items ≡ take (count * length supply) xs →
    IsDemand supply (groups count (length supply) xs) → Ok d ≡ demand_of supply goods (bundles_of goods items) → d ≡ groups count (length supply) xs
unpacked-is supply goods count xs items d size some inside is demand read =
    let n = count * length supply in
    let long : length (take n xs) ≡ n = length-take-le n xs inside in
    let whole : length (take n xs) / length supply ≡ count = ap (λ k. k / length supply) long ∙ mul-div_cancel count some in
    let b : bundles_of goods items ≡ groups count (length supply) xs =
    (λ i. bundles_of (size i) (is i))
    ∙ ap (λ k. groups k (length supply) (take n xs)) whole
    ∙ sym (groups-front count (length supply) (take n xs) (drop n xs) (omega (arith, long)))
    ∙ ap (groups count (length supply)) (take-append-drop n xs) in
    let e : Ok d ≡ Ok (groups count (length supply) xs) = read ∙ ap (demand_of supply goods) b ∙ demand_of-demand supply goods (groups count (length supply) xs) demand size in
    cc

-- the same, where the number of goods is that of the supply
pub read-back : (supply : List ℕ) (goods count : ℕ) (xs items : List ℕ) (d : List (List ℕ)) → goods ≡ length supply → 1 ≤ goods → count * goods ≤ length xs → items ≡ take (count * goods) xs →
    IsDemand supply (groups count goods xs) → Ok d ≡ demand_of supply goods (bundles_of goods items) → d ≡ groups count goods xs
read-back supply goods count xs items d size some inside is demand read =
    let one : 1 ≤ length supply = omega (arith, some, size) in
    let I : ℕ → Type 0 = λ g. count * g ≤ length xs in
    let T : ℕ → Type 0 = λ g. items ≡ take (count * g) xs in
    let D : ℕ → Type 0 = λ g. IsDemand supply (groups count g xs) in
    unpacked-is supply goods count xs items d size one (subst I size inside) (subst T size is) (subst D size demand) read ∙ ap (λ g. groups count g xs) (sym size)
