-- In a legal history each report is the one of its name. So legal histories that hold the same reports have the same demand
-- under each round and bidder, and stand alike.
use Rattle.std.proofs.Common.{◌≡◌, ◌⊎◌, inl, inr, ◌<◌, ℕ, zero, suc, Bool, true, false, ◌&&◌, nat_eq, cond, List, [], ◌∷◌, ◌++◌, length, Option, Some, None, refl, sym, ◌∙◌, ap, subst, arith}
use Rattle.std.proofs.lemmas.Bool.Decides.{nat_tests}
use Rattle.std.proofs.lemmas.List.{append_assoc}
use Rattle.std.specs.Prelude.{find, option_map, slice_index_or}
use Rattle.std.specs.List.{Contains}
use Rattle.demand_set.specs.declared.reports.Report.{Report}
use Rattle.clock.specs.Reports.{ClockHistory, with_report, demand_in, is_named}
use Rattle.clock.specs.Judging.{IsJudgement, TakesAll, IsLegal}
use Rattle.clock.specs.declared.judging.Judgement.{Judgement}
use Rattle.clock.proofs.Judges.{judgement-is}
use Rattle.clock.proofs.Pushed.{none-found}
use Rattle.lot_base.proofs.Within.{both}
use Rattle.settlement.specs.Alike.{HoldSame, StandAlike}
use Rattle.settlement.proofs.Alike.{stand-alike}

abbrev In : Report → List Report → Type 0
In r [] = ⊥
In r (x ∷ xs) = (x ≡ r) ⊎ In r xs

in-from : (xs : List Report) (r : Report) (k : ℕ) → k < length xs → slice_index_or xs k r ≡ r → In r xs
in-from [] r k below e = absurd (omega arith)
in-from (x ∷ xs) r zero below e = inl e
in-from (x ∷ xs) r (suc k) below e = let b : k < length xs = omega arith in inr (in-from xs r k b e)

contains-from : (xs : List Report) (r : Report) → In r xs → Contains xs r
contains-from [] r h = absurd h
contains-from (x ∷ xs) r (inl e) = (0, omega arith, e)
contains-from (x ∷ xs) r (inr h) = let t = contains-from xs r h in let b = t.1 in (suc t.0, omega arith, t.2)

-- after reports of other names the report of a name is found
find-behind : (test : Report → Bool) (xs ys : List Report) → find test xs ≡ None → find test (xs ++ ys) ≡ find test ys
find-behind test [] ys e = refl
find-behind test (x ∷ xs) ys e = by (test x) refl e (find-behind test xs ys)
  where
    by : (b : Bool) → test x ≡ b → cond b (Some x) (find test xs) ≡ None → (find test xs ≡ None → find test (xs ++ ys) ≡ find test ys) → cond (test x) (Some x) (find test (xs ++ ys)) ≡ find test ys
    by true t e rest = absurd (let f : Some x ≡ None = e in cc)
    by false t e rest = ap (λ b. cond b (Some x) (find test (xs ++ ys))) t ∙ rest e

names-itself : (r : Report) → is_named r.round r.bidder r ≡ true
names-itself r = let a : nat_eq r.round r.round ≡ true = grind (arith, nat_tests) in let b : nat_eq r.bidder r.bidder ≡ true = grind (arith, nat_tests) in λ i. a i && b i

-- each report that was taken is the one of its name
taken-found : (c : ClockHistory) (rest : List Report) (r : Report) → TakesAll c rest → In r rest → demand_in (c.reports ++ rest) r.round r.bidder ≡ Some r.demand
taken-found c [] r takes h = absurd h
taken-found c (x ∷ rest) r takes (inl e) =
    let J : Judgement → Type 0 = λ j. IsJudgement c x j in
    let none = none-found (find (is_named x.round x.bidder) c.reports) (subst J takes.0 (judgement-is c x)).1 in
    let here = find-behind (is_named x.round x.bidder) c.reports (x ∷ rest) none ∙ ap (λ b. cond b (Some x) (find (is_named x.round x.bidder) rest)) (names-itself x) in
    let P : Report → Type 0 = λ y. demand_in (c.reports ++ (x ∷ rest)) y.round y.bidder ≡ Some y.demand in
    subst P e (ap (option_map (λ (r : Report). r.demand)) here)
taken-found c (x ∷ rest) r takes (inr h) =
    ap (λ reports. demand_in reports r.round r.bidder) (sym (append_assoc c.reports (x ∷ []) rest)) ∙ taken-found (with_report c x) rest r takes.1 h

legal-found : (c : ClockHistory) (r : Report) → IsLegal c → In r c.reports → demand_in c.reports r.round r.bidder ≡ Some r.demand
legal-found c r legal h = taken-found (record c { reports = [] }) c.reports r legal.takes h

-- what is found under a name is a report of that name
record FoundIn (reports : List Report) (round bidder : ℕ) (d : List (List ℕ)) : Type 0 where
  pub report : Report
  pub among : In report reports
  pub round_is : report.round ≡ round
  pub bidder_is : report.bidder ≡ bidder
  pub demand_is : report.demand ≡ d

found-in : (reports : List Report) (round bidder : ℕ) (d : List (List ℕ)) → demand_in reports round bidder ≡ Some d → FoundIn reports round bidder d
found-in [] round bidder d e = absurd (let f : None ≡ Some d = e in cc)
found-in (x ∷ xs) round bidder d e = by (is_named round bidder x) refl e (found-in xs round bidder d)
  where
    by : (b : Bool) → is_named round bidder x ≡ b → option_map (λ (r : Report). r.demand) (cond b (Some x) (find (is_named round bidder) xs)) ≡ Some d
        → (demand_in xs round bidder ≡ Some d → FoundIn xs round bidder d) → FoundIn (x ∷ xs) round bidder d
    by true t e rest =
        let k = both (nat_eq x.round round) (nat_eq x.bidder bidder) t in
        let a = k.0 in
        let b = k.1 in
        record { report = x; among = inl refl; round_is = grind (arith, nat_tests); bidder_is = grind (arith, nat_tests); demand_is = cc }
    by false t e rest = let f = rest e in record { report = f.report; among = inr f.among; round_is = f.round_is; bidder_is = f.bidder_is; demand_is = f.demand_is }

carried : (c d : ClockHistory) (round bidder : ℕ) (x : List (List ℕ)) → IsLegal d → ((r : Report) → Contains c.reports r → Contains d.reports r) → demand_in c.reports round bidder ≡ Some x → demand_in d.reports round bidder ≡ Some x
carried c d round bidder x legal same e =
    let f = found-in c.reports round bidder x e in
    let k = same f.report (contains-from c.reports f.report f.among) in
    let g = legal-found d f.report legal (in-from d.reports f.report k.0 k.1 k.2) in
    (λ i. demand_in d.reports (sym f.round_is i) (sym f.bidder_is i)) ∙ g ∙ ap (λ y. Some y) f.demand_is

same-demand : (c d : ClockHistory) → HoldSame c d → (round bidder : ℕ) → demand_in c.reports round bidder ≡ demand_in d.reports round bidder
same-demand c d h round bidder = by (demand_in c.reports round bidder) (demand_in d.reports round bidder) refl refl
  where
    by : (o p : Option (List (List ℕ))) → demand_in c.reports round bidder ≡ o → demand_in d.reports round bidder ≡ p → demand_in c.reports round bidder ≡ demand_in d.reports round bidder
    by (Some x) p e f = e ∙ sym (carried c d round bidder x h.legal.1 (λ r. (h.reports_are r).0) e)
    by None None e f = e ∙ sym f
    by None (Some x) e f = carried d c round bidder x h.legal.0 (λ r. (h.reports_are r).1) f ∙ sym f

pub same-stand : (c d : ClockHistory) → HoldSame c d → StandAlike c d
same-stand c d h = stand-alike c d h.terms_are h.number_is (same-demand c d h)
