-- The judgement that the function gives is the one of the table.
use Rattle.std.proofs.Common.{◌≡◌, ◌≤◌, ℕ, Bool, true, false, not, ◌&&◌, nat_eq, cond, List, Option, Some, None, refl, sym, ◌∙◌, ap, arith, subst}
use Rattle.std.proofs.lemmas.Bool.Decides.{nat_tests}
use Rattle.std.specs.Prelude.{nat_le, length, zip}
use Rattle.std.specs.List.{list_all}
use Rattle.lot_base.specs.declared.phases.Phase.{Phase}
use Rattle.lot_base.specs.declared.phases.Phase.TheVariants.{Running, Ended, Halted}
use Rattle.demand_set.specs.declared.reports.Report.{Report}
use Rattle.demand_set.specs.Same.{same_demand}
use Rattle.clock.specs.declared.judging.Judgement.TheVariants.{NotMember, NoRound}
use Rattle.clock.specs.Reports.{ClockHistory, demand_in}
use Rattle.clock.specs.Standing.{phase_of, last_round}
use Rattle.clock.specs.Judging.{IsMember, IsInRound, IsBeyond, IsJudgement, is_member, judgement_of, repeat_of, repeated, late_by}
use Rattle.demand_set.proofs.Same.{same_pair, same_lists, same_self}
use Rattle.lot_base.proofs.Within.{both}

pub same-means : (xs ys : List (List ℕ)) → (same_demand xs ys ≡ true → xs ≡ ys) × (xs ≡ ys → same_demand xs ys ≡ true)
same-means xs ys = (to, from)
  where
    to : same_demand xs ys ≡ true → xs ≡ ys
    to e = let h = both (nat_eq (length xs) (length ys)) (list_all same_pair (zip xs ys)) e in same_lists xs ys (let t = h.0 in grind (arith, nat_tests)) h.1

    from : xs ≡ ys → same_demand xs ys ≡ true
    from e =
        let n : nat_eq (length xs) (length xs) ≡ true = grind (arith, nat_tests) in
        let whole : same_demand xs xs ≡ true = (λ i. n i && same_self xs i) in
        let P : List (List ℕ) → Type 0 = λ zs. same_demand xs zs ≡ true in
        subst P e whole

pub member-is : (c : ClockHistory) (bidder : ℕ) → is_member c bidder ≡ true → IsMember c bidder
member-is c bidder e =
    let h = both (nat_le 1 bidder) (nat_le bidder c.terms.bidders && not (nat_eq bidder c.number)) e in
    let k = both (nat_le bidder c.terms.bidders) (not (nat_eq bidder c.number)) h.1 in
    record {
      from_one = let t = h.0 in grind (arith, nat_tests);
      to_last = let t = k.0 in grind (arith, nat_tests);
      other = λ same. let t = k.1 in let n : nat_eq bidder c.number ≡ true = grind (arith, nat_tests) in let f : false ≡ true = sym (ap not n) ∙ t in cc;
    }

pub is-member : (c : ClockHistory) (bidder : ℕ) → IsMember c bidder → is_member c bidder ≡ true
is-member c bidder m =
    let a : nat_le 1 bidder ≡ true = let t = m.from_one in grind (arith, nat_tests) in
    let b : nat_le bidder c.terms.bidders ≡ true = let t = m.to_last in grind (arith, nat_tests) in
    let d : nat_eq bidder c.number ≡ false = let t = m.other in grind (arith, nat_tests) in
    λ i. a i && (b i && not (d i))

late-is : (c : ClockHistory) (r : Report) (phase : Phase) → phase_of c ≡ phase → IsBeyond c r (last_round c) → IsJudgement c r (late_by phase (last_round c))
late-is c r Running e beyond = (beyond, e)
late-is c r Ended e beyond = (beyond, λ f. let g : Ended ≡ Running = sym e ∙ f in cc)
late-is c r (Halted k) e beyond = (beyond, λ f. let g : Halted k ≡ Running = sym e ∙ f in cc)

repeat-is : (c : ClockHistory) (r : Report) (before : Option (List (List ℕ))) → IsInRound c r → demand_in c.reports r.round r.bidder ≡ before → IsJudgement c r (repeat_of r.round r.demand before)
repeat-is c r None in_round e = (in_round, e)
repeat-is c r (Some before) in_round e = by (same_demand before r.demand) refl
  where
    by : (b : Bool) → same_demand before r.demand ≡ b → IsJudgement c r (repeated b r.round)
    by true f = (in_round, e ∙ ap (λ d. Some d) ((same-means before r.demand).0 f))
    by false f = (in_round, refl, (before, (λ same. let g : same_demand before r.demand ≡ true = (same-means before r.demand).1 same in let h : true ≡ false = sym g ∙ f in cc), e))

pub judgement-is : (c : ClockHistory) (r : Report) → IsJudgement c r (judgement_of c r)
judgement-is c r = by (is_member c r.bidder) refl
  where
    in_time : IsMember c r.bidder → (1 ≤ r.round) → (l : Bool) → nat_le r.round (last_round c) ≡ l
        → IsJudgement c r (cond l (repeat_of r.round r.demand (demand_in c.reports r.round r.bidder)) (late_by (phase_of c) (last_round c)))
    in_time member from_one true e = repeat-is c r (demand_in c.reports r.round r.bidder) (record { member = member; from_one = from_one; to_last = grind (arith, nat_tests) }) refl
    in_time member from_one false e = late-is c r (phase_of c) refl (record { member = member; last_is = refl; beyond = grind (arith, nat_tests) })

    in_some : IsMember c r.bidder → (z : Bool) → nat_eq r.round 0 ≡ z
        → IsJudgement c r (cond z NoRound (cond (nat_le r.round (last_round c)) (repeat_of r.round r.demand (demand_in c.reports r.round r.bidder)) (late_by (phase_of c) (last_round c))))
    in_some member true e = (member, grind (arith, nat_tests))
    in_some member false e = in_time member (grind (arith, nat_tests)) (nat_le r.round (last_round c)) refl

    by : (m : Bool) → is_member c r.bidder ≡ m
        → IsJudgement c r (cond m (cond (nat_eq r.round 0) NoRound (cond (nat_le r.round (last_round c)) (repeat_of r.round r.demand (demand_in c.reports r.round r.bidder)) (late_by (phase_of c) (last_round c)))) NotMember)
    by true e = in_some (member-is c r.bidder e) (nat_eq r.round 0) refl
    by false e = λ member. let g : true ≡ false = sym (is-member c r.bidder member) ∙ e in cc
