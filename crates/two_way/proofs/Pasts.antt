-- Reports that are kept by the places of their demands.
use Rattle.std.proofs.Common.{◌≡◌, ◌≤◌, ◌<◌, ℕ, suc, zero, ◌+◌, Bool, true, false, ◌&&◌, nat_eq, cond, List, [], ◌∷◌, ◌++◌, length, take, drop, get_or, Option, Some, None, refl, sym, ◌∙◌, ap, arith, subst}
use Rattle.std.specs.Prelude.{find, reverse, option_map, is_some, slice_index_or, unwrap_or}
use Rattle.lot_base.specs.Demands.{IsTable, least}
use Rattle.std.proofs.lemmas.List.{get_or-take}
use mathlib.Core.List.{reverse_aux}
use Rattle.demand_set.specs.declared.reports.Report.{Report}
use Rattle.clock.specs.Reports.{demand_in, demands_in, is_named}
use Rattle.two_way.specs.declared.past.Place.{Place}
use Rattle.two_way.specs.declared.past.Kept.{Kept}
use Rattle.two_way.specs.Past.{report_at, reports_of, AllThere, AreTabled, IsKeptAt, nothing_kept}

-- the first place of a bidder in a round
abbrev pub named_place : ℕ → ℕ → List Place → Option Place
named_place round bidder places = find (λ (p : Place). nat_eq p.round round && nat_eq p.bidder bidder) places

find-reports : (demands : List Kept) (round bidder : ℕ) (places : List Place) → find (is_named round bidder) (reports_of demands places) ≡ option_map (report_at demands) (named_place round bidder places)
find-reports demands round bidder [] = refl
find-reports demands round bidder (p ∷ places) = by (nat_eq p.round round && nat_eq p.bidder bidder) (find-reports demands round bidder places)
  where
    by : (b : Bool) → find (is_named round bidder) (reports_of demands places) ≡ option_map (report_at demands) (named_place round bidder places)
        → cond b (Some (report_at demands p)) (find (is_named round bidder) (reports_of demands places)) ≡ option_map (report_at demands) (cond b (Some p) (named_place round bidder places))
    by true rest = refl
    by false rest = rest

drop-reports : (demands : List Kept) (n : ℕ) (places : List Place) → drop n (reports_of demands places) ≡ reports_of demands (drop n places)
drop-reports demands zero places = refl
drop-reports demands (suc n) [] = refl
drop-reports demands (suc n) (p ∷ places) = drop-reports demands n places

pub length-reports : (demands : List Kept) (places : List Place) → length (reports_of demands places) ≡ length places
length-reports demands [] = refl
length-reports demands (p ∷ places) = ap suc (length-reports demands places)

-- what is found there is the demand
pub demand-named : (demands : List Kept) (from round bidder : ℕ) (places : List Place)
    → demand_in (drop from (reports_of demands places)) round bidder ≡ option_map (λ (p : Place). (slice_index_or demands p.number nothing_kept).demand) (named_place round bidder (drop from places))
demand-named demands from round bidder places =
    ap (λ rs. demand_in rs round bidder) (drop-reports demands from places)
    ∙ ap (option_map (λ (r : Report). r.demand)) (find-reports demands round bidder (drop from places))
    ∙ twice (named_place round bidder (drop from places))
  where
    twice : (o : Option Place) → option_map (λ (r : Report). r.demand) (option_map (report_at demands) o) ≡ option_map (λ (p : Place). (slice_index_or demands p.number nothing_kept).demand) o
    twice None = refl
    twice (Some p) = refl

there-drop : (demands : List Kept) (n : ℕ) (places : List Place) → AllThere demands places → AllThere demands (drop n places)
there-drop demands zero places all = all
there-drop demands (suc n) [] all = tt
there-drop demands (suc n) (p ∷ places) all = there-drop demands n places all.1

there-onto : (demands : List Kept) (places others : List Place) → AllThere demands places → AllThere demands others → AllThere demands (reverse_aux places others)
there-onto demands [] others all rest = rest
there-onto demands (p ∷ places) others all rest = there-onto demands places (p ∷ others) all.1 (all.0, rest)

found-there : (demands : List Kept) (test : Place → Bool) (places : List Place) (p : Place) → AllThere demands places → find test places ≡ Some p → p.number < length demands
found-there demands test [] p all e = absurd (let f : None ≡ Some p = e in cc)
found-there demands test (x ∷ places) p all e = by (test x) (found-there demands test places p all.1) e
  where
    out : Option Place → ℕ
    out None = 0
    out (Some q) = q.number

    by : (b : Bool) → (find test places ≡ Some p → p.number < length demands) → cond b (Some x) (find test places) ≡ Some p → p.number < length demands
    by true rest e = (let f : x.number ≡ p.number = ap out e in let a = all.0 in omega (arith, f, a))
    by false rest e = rest e

-- the place that is found has its demand
pub named-there : (demands : List Kept) (from round bidder : ℕ) (places : List Place) (p : Place) → AllThere demands places → named_place round bidder (drop from places) ≡ Some p → p.number < length demands
named-there demands from round bidder places p all e = found-there demands (λ (q : Place). nat_eq q.round round && nat_eq q.bidder bidder) (drop from places) p (there-drop demands from places all) e

pub latest-there : (demands : List Kept) (bidder : ℕ) (places : List Place) (p : Place) → AllThere demands places → find (λ (q : Place). nat_eq q.bidder bidder) (reverse places) ≡ Some p → p.number < length demands
latest-there demands bidder places p all e = found-there demands (λ (q : Place). nat_eq q.bidder bidder) (reverse places) p (there-onto demands places [] all tt) e

-- demands after those that are kept change no report
kept-front : (old new : List Kept) (n : ℕ) → take (length old) new ≡ old → n < length old → slice_index_or new n nothing_kept ≡ slice_index_or old n nothing_kept
kept-front old new n front below = sym (get_or-take (length old) new n nothing_kept below) ∙ ap (λ ds. get_or ds n nothing_kept) front

no-shorter : (old new : List Kept) → take (length old) new ≡ old → length old ≤ length new
no-shorter [] new front = omega arith
no-shorter (x ∷ old) [] front = absurd (let f : [] ≡ x ∷ old = front in cc)
no-shorter (x ∷ old) (y ∷ new) front = let r = no-shorter old new (ap rest front) in omega (arith, r)
  where
    rest : List Kept → List Kept
    rest [] = []
    rest (z ∷ zs) = zs

pub there-more : (old new : List Kept) (places : List Place) → take (length old) new ≡ old → AllThere old places → AllThere new places
there-more old new [] front all = tt
there-more old new (p ∷ places) front all = (let l = no-shorter old new front in let a = all.0 in omega (arith, l, a), there-more old new places front all.1)

same-reports : (old new : List Kept) (places : List Place) → take (length old) new ≡ old → AllThere old places → reports_of new places ≡ reports_of old places
same-reports old new [] front all = refl
same-reports old new (p ∷ places) front all =
    let d = kept-front old new p.number front all.0 in
    let rest = same-reports old new places front all.1 in
    λ i. (record { bidder = p.bidder; round = p.round; demand = (d i).demand }) ∷ rest i

reports-append : (demands : List Kept) (places others : List Place) → reports_of demands (places ++ others) ≡ reports_of demands places ++ reports_of demands others
reports-append demands [] others = refl
reports-append demands (p ∷ places) others = ap (λ rs. report_at demands p ∷ rs) (reports-append demands places others)

there-append : (demands : List Kept) (places : List Place) (p : Place) → AllThere demands places → p.number < length demands → AllThere demands (places ++ p ∷ [])
there-append demands [] p all here = (here, tt)
there-append demands (q ∷ places) p all here = (all.0, there-append demands places p all.1 here)

-- what is kept with a report more
pub record HasPushed (old new : List Kept) (before after : List Place) (r : Report) : Type 0 where
  pub there : AllThere new after
  pub reports : reports_of new after ≡ reports_of old before ++ r ∷ []

pub has-pushed : (old new : List Kept) (before after : List Place) (number : ℕ) (r : Report) → AllThere old before → IsKeptAt old new number r.demand
    → after ≡ before ++ (record { bidder = r.bidder; round = r.round; number = number }) ∷ [] → HasPushed old new before after r
has-pushed old new before after number r all kept is =
    let p : Place = record { bidder = r.bidder; round = r.round; number = number } in
    let T : List Place → Type 0 = AllThere new in
    let one : report_at new p ≡ r = (λ i. record { bidder = r.bidder; round = r.round; demand = kept.kept i }) in
    record {
      there = subst T (sym is) (there-append new before p (there-more old new before kept.front all) kept.inside);
      reports = ap (reports_of new) is ∙ reports-append new before (p ∷ []) ∙ (λ i. same-reports old new before kept.front all i ++ one i ∷ []);
    }

-- each table is there with its demand
pub tabled-at : (goods : ℕ) (demands : List Kept) (n : ℕ) → AreTabled goods demands → n < length demands
    → IsTable goods (least (slice_index_or demands n nothing_kept).demand) (slice_index_or demands n nothing_kept).least.0
tabled-at goods [] n all below = absurd (omega arith)
tabled-at goods (k ∷ demands) zero all below = all.0
tabled-at goods (k ∷ demands) (suc n) all below = tabled-at goods demands n all.1 (omega (arith, below))

-- a place that says again what another says
pub record SaysAgain (demands : List Kept) (before after : List Place) (from round bidder number : ℕ) : Type 0 where
  pub there : AllThere demands after
  pub reports : reports_of demands after
      ≡ reports_of demands before ++ (record { bidder = bidder; round = round + 1; demand = demands_in (drop from (reports_of demands before)) round bidder }) ∷ []

pub says-again : (demands : List Kept) (before after : List Place) (from round bidder number : ℕ) → AllThere demands before
    → is_some (demand_in (drop from (reports_of demands before)) round bidder) ≡ true
    → ((p : Place) → named_place round bidder (drop from before) ≡ Some p → number ≡ p.number)
    → after ≡ before ++ (record { bidder = bidder; round = round + 1; number = number }) ∷ [] → SaysAgain demands before after from round bidder number
says-again demands before after from round bidder number all some same is = by (named_place round bidder (drop from before)) refl
  where
    says : demand_in (drop from (reports_of demands before)) round bidder ≡ option_map (λ (p : Place). (slice_index_or demands p.number nothing_kept).demand) (named_place round bidder (drop from before))
    says = demand-named demands from round bidder before

    by : (o : Option Place) → named_place round bidder (drop from before) ≡ o → SaysAgain demands before after from round bidder number
    by None e = absurd (let f : false ≡ true = sym (ap is_some (says ∙ ap (option_map (λ (p : Place). (slice_index_or demands p.number nothing_kept).demand)) e)) ∙ some in cc)
    by (Some p) e =
        let q : Place = record { bidder = bidder; round = round + 1; number = number } in
        let n = same p e in
        let T : List Place → Type 0 = AllThere demands in
        let B : ℕ → Type 0 = λ k. k < length demands in
        let below = subst B (sym n) (named-there demands from round bidder before p all e) in
        let told : demands_in (drop from (reports_of demands before)) round bidder ≡ (slice_index_or demands number nothing_kept).demand =
        ap (λ o. unwrap_or o []) (says ∙ ap (option_map (λ (r : Place). (slice_index_or demands r.number nothing_kept).demand)) e) ∙ ap (λ k. (slice_index_or demands k nothing_kept).demand) (sym n) in
        record {
          there = subst T (sym is) (there-append demands before q all below);
          reports = ap (reports_of demands) is ∙ reports-append demands before (q ∷ [])
              ∙ (λ i. reports_of demands before ++ (record { bidder = bidder; round = round + 1; demand = sym told i }) ∷ []);
        }
