-- A report that is to be taken is one of the current round, and says what its bidder demands now.
use Rattle.std.proofs.Common.{◌≡◌, ◌+◌, ◌-◌, ◌∙◌, ℕ, Bool, true, false, nat_eq, cond, List, [], Option, Some, None, refl, sym, ap, arith}
use Rattle.std.specs.Prelude.{nat_le, slice_index_or, unwrap_or}
use Rattle.std.proofs.lemmas.Bool.Decides.{nat_tests}
use Rattle.demand_set.specs.declared.reports.Report.{Report}
use Rattle.clock.specs.declared.judging.Judgement.TheVariants.{Take, NoRound, NotMember}
use Rattle.clock.specs.Reports.{ClockHistory, demand_in}
use Rattle.clock.specs.Standing.{steps_of, last_round, phase_of}
use Rattle.clock.specs.Judging.{is_member, judgement_of, late_by, repeat_of}
use Rattle.clock.specs.Kept.{KeepsLatest, report_of}
use Rattle.clock.proofs.Append.{take-says}
use Rattle.clock.proofs.Latest.{some-there}
use Rattle.clock.proofs.Path.{has_steps}
use Rattle.clock.proofs.Present.{taken-now}
use Rattle.clock.proofs.Pushed.{none-taken}

pub taken-round : (c : ClockHistory) (r : Report) → judgement_of c r ≡ Take → r.round ≡ last_round c
taken-round c r take = taken-now c (steps_of c) (steps_of c + 1) (phase_of c) r (has_steps c).before refl take

pub taken-absent : (c : ClockHistory) (r : Report) → judgement_of c r ≡ Take → demand_in c.reports (last_round c) r.bidder ≡ None
taken-absent c r take =
    let says = take-says c (steps_of c + 1) (phase_of c) r take in
    ap (λ n. demand_in c.reports n r.bidder) (sym (taken-round c r take)) ∙ none-taken r.round r.demand (demand_in c.reports r.round r.bidder) says.2

-- it is the report of its demand, whether that is told or is that of the round before
pub taken-told : (c : ClockHistory) (r : Report) → judgement_of c r ≡ Take → report_of c r.bidder (Some r.demand) ≡ r
taken-told c r take = let e = taken-round c r take in λ i. record { bidder = r.bidder; round = sym e i; demand = r.demand }

pub taken-again : (c : ClockHistory) (r : Report) → judgement_of c r ≡ Take → demand_in c.reports (steps_of c) r.bidder ≡ Some r.demand → report_of c r.bidder None ≡ r
taken-again c r take same = (λ i. record { bidder = r.bidder; round = last_round c; demand = unwrap_or (same i) [] }) ∙ taken-told c r take

-- a member's report of the current round is to be taken where it has not reported in it
pub is-taken : (c : ClockHistory) (r : Report) → is_member c r.bidder ≡ true → r.round ≡ last_round c → demand_in c.reports (last_round c) r.bidder ≡ None → judgement_of c r ≡ Take
is-taken c r member now absent =
    let some : nat_eq r.round 0 ≡ false = grind (arith, nat_tests) in
    let up : nat_le r.round (last_round c) ≡ true = grind (arith, nat_tests) in
    let none : demand_in c.reports r.round r.bidder ≡ None = ap (λ n. demand_in c.reports n r.bidder) now ∙ absent in
    λ i. cond (member i) (cond (some i) NoRound (cond (up i) (repeat_of r.round r.demand (none i)) (late_by (phase_of c) (last_round c)))) NotMember

-- What is known of a bidder that has not reported in the round, and whose latest demand is kept.
pub record IsKnown (c : ClockHistory) (b : ℕ) (d : List (List ℕ)) : Type 0 where
  pub member : is_member c b ≡ true
  pub absent : demand_in c.reports (last_round c) b ≡ None
  pub before : demand_in c.reports (steps_of c) b ≡ Some d

pub is-known : (c : ClockHistory) (steps : ℕ) (latest : List (Option (List (List ℕ)))) (marks : List Bool) (b : ℕ) (d : List (List ℕ)) → steps ≡ steps_of c → KeepsLatest c (steps + 1) latest marks
    → slice_index_or latest b None ≡ Some d → slice_index_or marks b false ≡ false → IsKnown c b d
is-known c steps latest marks b d are k there unmarked = by (is_member c b) refl
  where
    absent : demand_in c.reports (steps + 1) b ≡ None
    absent = some-there (demand_in c.reports (steps + 1) b) (sym (k.marked b) ∙ unmarked)

    by : (m : Bool) → is_member c b ≡ m → IsKnown c b d
    by false e = absurd (let f : None ≡ Some d = sym (k.nobody b e) ∙ there in cc)
    by true e =
        let before : steps + 1 - 1 ≡ steps = omega arith in
        record {
          member = e;
          absent = ap (λ n. demand_in c.reports (n + 1) b) (sym are) ∙ absent;
          before = ap (λ n. demand_in c.reports n b) (sym are ∙ sym before) ∙ sym (k.earlier b e absent) ∙ there;
        }
