use Rattle.std.proofs.Common.{◌≡◌, ◌≢◌, ℕ, Bool, true, false, nat_eq, cond, List, Option, Some, None, refl, sym, ◌∙◌, ap, arith}
use Rattle.std.proofs.lemmas.Bool.Decides.{nat_tests}
use Rattle.std.specs.Prelude.{nat_le}
use Rattle.lot_base.specs.declared.phases.Phase.{Phase}
use Rattle.lot_base.specs.declared.phases.Phase.TheVariants.{Running, Ended, Halted}
use Rattle.demand_set.specs.declared.reports.Report.{Report}
use Rattle.demand_set.specs.Same.{same_demand}
use Rattle.clock.specs.declared.judging.Judgement.{Judgement}
use Rattle.clock.specs.declared.judging.Judgement.TheVariants.{Take, Again, NotMember, Early, Conflict, Over, NoRound}
use Rattle.clock.specs.Reports.{ClockHistory, demand_in}
use Rattle.clock.specs.Standing.{phase_of, last_round}
use Rattle.clock.specs.Judging.{IsMember, IsInRound, IsBeyond, IsJudgement, is_member, judgement_of, repeat_of, repeated, late_by}
use Rattle.clock.proofs.Judges.{judgement-is, member-is, is-member, same-means}
use Rattle.clock.proofs.laws.judgement_law.Goals as goal

-- the judgement by the tests that the report passes
by_tests : (c : ClockHistory) (r : Report) (member zero in_time : Bool) → is_member c r.bidder ≡ member → nat_eq r.round 0 ≡ zero → nat_le r.round (last_round c) ≡ in_time
    → judgement_of c r ≡ cond member (cond zero NoRound (cond in_time (repeat_of r.round r.demand (demand_in c.reports r.round r.bidder)) (late_by (phase_of c) (last_round c)))) NotMember
by_tests c r member zero in_time m z t =
    λ i. cond (m i) (cond (z i) NoRound (cond (t i) (repeat_of r.round r.demand (demand_in c.reports r.round r.bidder)) (late_by (phase_of c) (last_round c)))) NotMember

in-round : (c : ClockHistory) (r : Report) (found : Option (List (List ℕ))) → IsInRound c r → demand_in c.reports r.round r.bidder ≡ found → judgement_of c r ≡ repeat_of r.round r.demand found
in-round c r found h e =
    let low = h.from_one in
    let high = h.to_last in
    by_tests c r true false true (is-member c r.bidder h.member) (grind (arith, nat_tests)) (grind (arith, nat_tests)) ∙ ap (repeat_of r.round r.demand) e

beyond : (c : ClockHistory) (r : Report) (last : ℕ) → IsBeyond c r last → judgement_of c r ≡ late_by (phase_of c) last
beyond c r last h =
    let above = h.beyond in
    let same = h.last_is in
    by_tests c r true false false (is-member c r.bidder h.member) (grind (arith, nat_tests)) (grind (arith, nat_tests)) ∙ ap (late_by (phase_of c)) (sym same)

not-running : (phase : Phase) (last : ℕ) → phase ≢ Running → Over last ≡ late_by phase last
not-running Running last other = absurd (other refl)
not-running Ended last other = refl
not-running (Halted k) last other = refl

other-demand : (before demand : List (List ℕ)) → before ≢ demand → (b : Bool) → same_demand before demand ≡ b → b ≡ false
other-demand before demand other true e = absurd (other ((same-means before demand).0 e))
other-demand before demand other false e = refl

no-member : (c : ClockHistory) (bidder : ℕ) → (IsMember c bidder → ⊥) → (b : Bool) → is_member c bidder ≡ b → b ≡ false
no-member c bidder none true e = absurd (none (member-is c bidder e))
no-member c bidder none false e = refl

only : (c : ClockHistory) (r : Report) (judgement : Judgement) → IsJudgement c r judgement → judgement ≡ judgement_of c r
only c r NotMember h = sym (by_tests c r false (nat_eq r.round 0) (nat_le r.round (last_round c)) (no-member c r.bidder h (is_member c r.bidder) refl) refl refl)
only c r NoRound h =
    let none = h.1 in
    sym (by_tests c r true true (nat_le r.round (last_round c)) (is-member c r.bidder h.0) (grind (arith, nat_tests)) refl)
only c r Again h = sym (in-round c r (Some r.demand) h.0 h.1 ∙ ap (λ b. repeated b r.round) ((same-means r.demand r.demand).1 refl))
only c r (Conflict round) h =
    let found = h.2 in
    let other = found.0 in
    sym (in-round c r (Some other) h.0 found.2 ∙ ap (λ b. repeated b r.round) (other-demand other r.demand found.1 (same_demand other r.demand) refl) ∙ ap (λ n. Conflict n) (sym h.1))
only c r (Early last) h = sym (beyond c r last h.0 ∙ ap (λ phase. late_by phase last) h.1)
only c r (Over last) h = not-running (phase_of c) last h.1 ∙ sym (beyond c r last h.0)
only c r Take h = sym (in-round c r None h.0 h.1)

pub returns-clause-exists : goal.returns-clause-exists
returns-clause-exists c = λ history r. judgement-is history r

pub returns-clause-unique : goal.returns-clause-unique
returns-clause-unique c = λ history r judgement h. only history r judgement h
