-- Clocks whose numbers are all known: whether they are legal, and explained by valuations, computes.
use Rattle.std.proofs.Common.{◌≡◌, ◌≤◌, inl, inr, ℕ, ◌-◌, Bool, true, false, ◌&&◌, List, [], ◌∷◌, refl, sym, ◌∙◌, ap, subst, arith}
use Rattle.std.specs.Prelude.{nat_le, int_le, ℤ, pos, ◌+ℤ◌, ◌≤ℤ◌}
use Rattle.std.specs.List.{AllByRecursion, list_all}
use Rattle.std.proofs.lemmas.Int.{ints}
use Rattle.lot_base.specs.Box.{box, IsIn}
use Rattle.lot_base.specs.Demands.{IsDemand}
use Rattle.lot_base.specs.Economy.{demand, AllStrongSubstitutes, AllValuations, AllBelowCeiling}
use Rattle.lot_base.specs.declared.auction_terms.Terms.{Terms}
use Rattle.lot_base.proofs.Ascending.{IsDemand-demand}
use Rattle.lot_base.proofs.Lists.{IsIn-box}
use Rattle.lot_base.proofs.Within.{both}
use Rattle.demand_set.specs.declared.reports.Report.{Report}
use Rattle.demand_set.specs.Same.{same_demand}
use Rattle.clock.specs.Reports.{ClockHistory, with_report, members_of, all_bidders}
use Rattle.clock.specs.Standing.{prices_after}
use Rattle.clock.specs.Judging.{judgement_of, TakesAll, IsLegal}
use Rattle.clock.specs.Explained.{Explains, IsTrueReport}
use Rattle.clock.specs.declared.judging.Judgement.{Judgement}
use Rattle.clock.specs.declared.judging.Judgement.TheVariants.{Take, Again, NotMember, Early, Conflict, Over, NoRound}
use Rattle.clock.proofs.Judges.{same-means}
use Rattle.settlement.specs.Clocks.{AreClocksOf}
use Rattle.settlement.specs.Settling.{IsOutcomeOf}
use Rattle.settlement.specs.Efficient.{ExplainsAll}
use Rattle.settlement.specs.Examples.{IsWorked}
use Rattle.settlement.specs.declared.outcome.Outcome.{Outcome}
use Rattle.settlement.specs.declared.outcome.Settlement.TheVariants.{Settled}
use Rattle.settlement.proofs.One.{one-outcome, all-alike}
use Rattle.settlement.proofs.Efficient.{efficient-if}

-- the demand of the report is the demand set at the prices of its round
abbrev pub is_true : (ℕ → List ℕ → ℤ) → ClockHistory → Report → Bool
is_true u c r = nat_le 1 r.round && same_demand r.demand (demand c.terms.goods (u r.bidder) (prices_after c (r.round - 1)))

true-report : (u : ℕ → List ℕ → ℤ) (c : ClockHistory) (r : Report) → is_true u c r ≡ true → IsTrueReport u c r × IsDemand c.terms.goods r.demand
true-report u c r e =
    let h = both (nat_le 1 r.round) (same_demand r.demand (demand c.terms.goods (u r.bidder) (prices_after c (r.round - 1)))) e in
    let same = (same-means r.demand (demand c.terms.goods (u r.bidder) (prices_after c (r.round - 1)))).0 h.1 in (
      λ steps up round. let n : r.round - 1 ≡ steps = omega arith in same ∙ ap (λ k. demand c.terms.goods (u r.bidder) (prices_after c k)) n,
      subst (IsDemand c.terms.goods) (sym same) (IsDemand-demand c.terms.goods (u r.bidder) (prices_after c (r.round - 1))),
    )

true-reports : (u : ℕ → List ℕ → ℤ) (c : ClockHistory) (reports : List Report) → list_all (is_true u c) reports ≡ true
    → AllByRecursion (IsTrueReport u c) reports × AllByRecursion (λ (r : Report). IsDemand c.terms.goods r.demand) reports
true-reports u c [] e = (tt, tt)
true-reports u c (r ∷ reports) e =
    let h = both (is_true u c r) (list_all (is_true u c) reports) e in
    let first = true-report u c r h.0 in
    let rest = true-reports u c reports h.1 in
    ((first.0, rest.0), (first.1, rest.1))

-- each report is taken
abbrev is_take : Judgement → Bool
is_take Take = true
is_take Again = false
is_take NotMember = false
is_take (Early round) = false
is_take (Conflict round) = false
is_take (Over round) = false
is_take NoRound = false

abbrev pub takes : ClockHistory → List Report → Bool
takes c [] = true
takes c (r ∷ more) = is_take (judgement_of c r) && takes (with_report c r) more

take-from : (j : Judgement) → is_take j ≡ true → j ≡ Take
take-from Take e = refl
take-from _ e = absurd (let f : false ≡ true = e in cc)

takes-all : (c : ClockHistory) (reports : List Report) → takes c reports ≡ true → TakesAll c reports
takes-all c [] e = tt
takes-all c (r ∷ more) e =
    let h = both (is_take (judgement_of c r)) (takes (with_report c r) more) e in
    (take-from (judgement_of c r) h.0, takes-all (with_report c r) more h.1)

-- a legal clock that the valuations explain
pub record Stands (u : ℕ → List ℕ → ℤ) (c : ClockHistory) : Type 0 where
  pub legal : IsLegal c
  pub explained : Explains u c

pub stands : (u : ℕ → List ℕ → ℤ) (c : ClockHistory) → c.number ≤ c.terms.bidders → AllValuations c.terms.goods u (members_of c) → AllStrongSubstitutes c.terms.goods u (members_of c)
    → list_all (is_true u c) c.reports ≡ true → takes (record c { reports = [] }) c.reports ≡ true → Stands u c
stands u c number valuations substitutes true-sets taken =
    let t = true-reports u c c.reports true-sets in
    record {
      legal = record { number = number; demands = t.1; takes = takes-all (record c { reports = [] }) c.reports taken };
      explained = record { valuations = valuations; substitutes = substitutes; reports = t.0 };
    }

each : {A : Type 0} (P Q : A → Type 0) → ((x : A) → P x → Q x) → (xs : List A) → AllByRecursion P xs → AllByRecursion Q xs
each P Q f [] all = tt
each P Q f (x ∷ xs) all = (f x all.0, each P Q f xs all.1)

pub worked : (u : ℕ → List ℕ → ℤ) (terms : Terms) (clocks : List ClockHistory) (o : Outcome) → AreClocksOf terms clocks → AllByRecursion (Stands u) clocks
    → AllBelowCeiling terms.goods u terms.ceiling (all_bidders terms.bidders) → IsOutcomeOf clocks (Settled o) → IsWorked u terms clocks o
worked u terms clocks o are all below is =
    let explained : ExplainsAll u clocks = each (Stands u) (Explains u) (λ c h. h.explained) clocks all in
    record {
      clocks_are = are;
      legal = each (Stands u) IsLegal (λ c h. h.legal) clocks all;
      explained = explained;
      below = below;
      outcome = is;
      only = λ s other. one-outcome clocks clocks s (Settled o) (all-alike clocks) other is;
      efficient = efficient-if u terms clocks (Settled o) are explained is;
    }

-- no bundle of the box is worth as much as the ceiling
below-in : (u : List ℕ → ℤ) (ceiling : ℕ) (xs : List (List ℕ)) (x : List ℕ) → list_all (λ y. int_le (u y +ℤ pos 1) (pos ceiling)) xs ≡ true → IsIn x xs → (u x +ℤ pos 1) ≤ℤ pos ceiling
below-in u ceiling [] x all h = absurd h
below-in u ceiling (y ∷ xs) x all (inl e) =
    let h : int_le (u y +ℤ pos 1) (pos ceiling) ≡ true = (both (int_le (u y +ℤ pos 1) (pos ceiling)) (list_all (λ y. int_le (u y +ℤ pos 1) (pos ceiling)) xs) all).0 in
    subst (λ z. (u z +ℤ pos 1) ≤ℤ pos ceiling) (sym e) (from-test (u y +ℤ pos 1) (pos ceiling) h)
  where
    from-test : (a b : ℤ) → int_le a b ≡ true → a ≤ℤ b
    from-test a b e = grind (arith, ints)
below-in u ceiling (y ∷ xs) x all (inr h) = below-in u ceiling xs x (both (int_le (u y +ℤ pos 1) (pos ceiling)) (list_all (λ y. int_le (u y +ℤ pos 1) (pos ceiling)) xs) all).1 h

abbrev pub is_below : List ℕ → (List ℕ → ℤ) → ℕ → Bool
is_below supply u ceiling = list_all (λ y. int_le (u y +ℤ pos 1) (pos ceiling)) (box supply)

pub below : (supply : List ℕ) (u : ℕ → List ℕ → ℤ) (ceiling : ℕ) (js : List ℕ) → list_all (λ j. is_below supply (u j) ceiling) js ≡ true → AllBelowCeiling supply u ceiling js
below supply u ceiling [] all = tt
below supply u ceiling (j ∷ js) all =
    let h = both (is_below supply (u j) ceiling) (list_all (λ j. is_below supply (u j) ceiling) js) all in
    (λ x at. below-in (u j) ceiling (box supply) x h.0 (IsIn-box x supply at), below supply u ceiling js h.1)
