-- The clock without a bidder: the bidder is no member, so a legal history has no report of it.
use Rattle.std.proofs.Common.{◌≡◌, ◌≢◌, ◌≤◌, ℕ, Bool, true, false, not, ◌&&◌, nat_eq, cond, List, [], ◌∷◌, refl, sym, ◌∙◌, ap, arith, subst}
use Rattle.std.specs.Prelude.{nat_le, ℤ}
use Rattle.std.specs.List.{AllByRecursion}
use Rattle.std.proofs.lemmas.Bool.Decides.{nat_tests}
use Rattle.lot_base.specs.Economy.{without, IsValuation, IsStrongSubstitutes}
use Rattle.lot_base.proofs.Within.{both}
use Rattle.demand_set.specs.declared.reports.Report.{Report}
use Rattle.clock.specs.Reports.{ClockHistory, members_of, all_bidders, with_report, demand_in}
use Rattle.clock.specs.Standing.{phase_of, last_round}
use Rattle.clock.specs.Judging.{IsLegal, TakesAll, judgement_of, is_member, repeat_of, late_by}
use Rattle.clock.specs.Explained.{Explains, IsTrueReport}
use Rattle.clock.specs.declared.judging.Judgement.TheVariants.{Take, NotMember, NoRound}
use Rattle.settlement.specs.Incentives.{ExplainsBut, IsTrueUnlessOf}

taken-member : (c : ClockHistory) (r : Report) → judgement_of c r ≡ Take → (1 ≤ r.bidder) × (r.bidder ≢ c.number)
taken-member c r e = by (is_member c r.bidder) refl e
  where
    by : (b : Bool) → is_member c r.bidder ≡ b
        → cond b (cond (nat_eq r.round 0) NoRound (cond (nat_le r.round (last_round c)) (repeat_of r.round r.demand (demand_in c.reports r.round r.bidder)) (late_by (phase_of c) (last_round c)))) NotMember ≡ Take → (1 ≤ r.bidder) × (r.bidder ≢ c.number)
    by false m e = absurd (let f : NotMember ≡ Take = e in cc)
    by true m e =
        let h = both (nat_le 1 r.bidder) (nat_le r.bidder c.terms.bidders && not (nat_eq r.bidder c.number)) m in
        let k = both (nat_le r.bidder c.terms.bidders) (not (nat_eq r.bidder c.number)) h.1 in
        let low = h.0 in
        (grind (arith, nat_tests), λ same. let t : nat_eq r.bidder c.number ≡ true = grind (arith, nat_tests) in let f : false ≡ true = ap not (sym t) ∙ k.1 in absurd cc)

pub all-members : (c : ClockHistory) (reports : List Report) → TakesAll c reports → AllByRecursion (λ (r : Report). (1 ≤ r.bidder) × (r.bidder ≢ c.number)) reports
all-members c [] takes = tt
all-members c (r ∷ more) takes = (taken-member c r takes.0, all-members (with_report c r) more takes.1)

twice : (i : ℕ) (js : List ℕ) → without i (without i js) ≡ without i js
twice i [] = refl
twice i (j ∷ js) = by (nat_eq j i) refl (twice i js)
  where
    by : (b : Bool) → nat_eq j i ≡ b → without i (without i js) ≡ without i js → without i (cond (not b) (j ∷ without i js) (without i js)) ≡ cond (not b) (j ∷ without i js) (without i js)
    by true e rest = rest
    by false e rest = ap (λ v. cond (not v) (j ∷ without i (without i js)) (without i (without i js))) e ∙ ap (λ ks. j ∷ ks) rest

pub own-explains : (i : ℕ) (u : ℕ → List ℕ → ℤ) (c : ClockHistory) → IsLegal c → c.number ≡ i → ExplainsBut i u c → Explains u c
own-explains i u c legal number h =
    let members-are : without i (members_of c) ≡ members_of c = ap (λ k. without k (members_of c)) (sym number) ∙ twice c.number (all_bidders c.terms.bidders) in
    let V : List ℕ → Type 0 = AllByRecursion (λ j. IsValuation c.terms.goods (u j)) in
    let S : List ℕ → Type 0 = AllByRecursion (λ j. IsStrongSubstitutes c.terms.goods (u j)) in
    record {
      valuations = subst V members-are h.valuations;
      substitutes = subst S members-are h.substitutes;
      reports = each c.reports h.reports (all-members (record c { reports = [] }) c.reports legal.takes);
    }
  where
    each : (reports : List Report) → AllByRecursion (IsTrueUnlessOf i u c) reports → AllByRecursion (λ (r : Report). (1 ≤ r.bidder) × (r.bidder ≢ c.number)) reports → AllByRecursion (IsTrueReport u c) reports
    each [] all others = tt
    each (r ∷ reports) all others = (all.0 (λ e. others.0.1 (e ∙ sym number)), each reports all.1 others.1)
