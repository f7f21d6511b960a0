-- The clocks of a hall in a list.
use Rattle.std.proofs.Common.{◌≡◌, ◌⊎◌, inl, inr, ⊎_elim, ℕ, ◌<◌, ◌-◌, zero, suc, List, [], ◌∷◌, length, get_or, set, Option, Some, None, refl, sym, ◌∙◌, ap, subst, arith}
use Rattle.std.proofs.Common.{Bool, true, false, not, cond, ◌≤◌, nat_eq}
use Rattle.std.specs.Prelude.{slice_get, nat_le}
use Rattle.std.proofs.lemmas.Bool.{cases_eq, and_from, not_from_false, ne_eqb}
use Rattle.std.proofs.lemmas.Bool.Decides.{nat_tests}
use Rattle.std.proofs.lemmas.List.{get_or-set_same, get_or-set_other, length-set}
use Rattle.std.proofs.lemmas.Option.{get_or_from_slice_get, slice_get-get_or, slice_get_within}
use Rattle.lot_base.specs.declared.auction_terms.Terms.{Terms}
use Rattle.lot_base.specs.declared.phases.Phase.{Phase}
use Rattle.lot_base.specs.declared.phases.Phase.TheVariants.{Running, Ended, Halted}
use Rattle.demand_set.specs.declared.reports.Report.{Report}
use Rattle.clock.specs.Reports.{ClockHistory, ClockOf, applied, demand_in}
use Rattle.clock.specs.Judging.{judgement_of, repeated, repeat_of, late_by, is_member}
use Rattle.clock.specs.Standing.{last_round, phase_of}
use Rattle.demand_set.specs.Same.{same_demand}
use Rattle.clock.specs.declared.judging.Judgement.{Judgement}
use Rattle.clock.specs.declared.judging.Judgement.TheVariants.{Take, Again, NotMember, Early, Conflict, Over, NoRound}
use Rattle.clock.specs.declared.judging.Offered.{Offered}
use Rattle.session.specs.Asking.{IsGoodOf, IsOffered}
use Rattle.session.specs.Lists.{AreClocks, IsClockAt, supply_in, IsAnswer, IsOffer}

pub good_of : (goods : ℕ) (phase : Phase) → ((good : ℕ) → phase ≡ Halted good → good < goods) → IsGoodOf goods phase
good_of goods Running h = tt
good_of goods Ended h = tt
good_of goods (Halted good) h = h good refl

abbrev Alike : ClockOf → ClockOf → Type 0
Alike d c = (d.history.terms ≡ c.history.terms) × (d.history.number ≡ c.history.number)

answered : (j : Judgement) (answer : Offered) (before taken after : ClockOf) → Alike taken before → IsAnswer j answer before taken after → Alike after before
answered Take answer before taken after t (inl h) = subst (λ (x : ClockOf). (x.history.terms ≡ before.history.terms) × (x.history.number ≡ before.history.number)) (sym h.1) t
answered Take answer before taken after t (inr h) = (ap (λ (x : ClockOf). x.history.terms) h.1, ap (λ (x : ClockOf). x.history.number) h.1)
answered Again answer before taken after t h = (ap (λ (x : ClockOf). x.history.terms) h.1, ap (λ (x : ClockOf). x.history.number) h.1)
answered NotMember answer before taken after t h = (ap (λ (x : ClockOf). x.history.terms) h.1, ap (λ (x : ClockOf). x.history.number) h.1)
answered (Early r) answer before taken after t h = (ap (λ (x : ClockOf). x.history.terms) h.1, ap (λ (x : ClockOf). x.history.number) h.1)
answered (Conflict r) answer before taken after t h = (ap (λ (x : ClockOf). x.history.terms) h.1, ap (λ (x : ClockOf). x.history.number) h.1)
answered (Over r) answer before taken after t h = (ap (λ (x : ClockOf). x.history.terms) h.1, ap (λ (x : ClockOf). x.history.number) h.1)
answered NoRound answer before taken after t h = (ap (λ (x : ClockOf). x.history.terms) h.1, ap (λ (x : ClockOf). x.history.number) h.1)

pub alike : (before after : ClockOf) (r : Report) (answer : Offered) → IsOffer before r answer after → (after.history.terms ≡ before.history.terms) × (after.history.number ≡ before.history.number)
alike before after r answer h = answered (judgement_of before.history r) answer before (applied before r) after (refl, refl) h

set_cases : (cs : List ClockOf) (i k : ℕ) (d e : ClockOf) → i < length cs → slice_get (set cs i d) k ≡ Some e → ((k ≡ i) × (e ≡ d)) ⊎ (slice_get cs k ≡ Some e)
set_cases cs i k d e lt h =
    let at : get_or (set cs i d) k e ≡ e = get_or_from_slice_get (set cs i d) k e e h in
    let in_set = slice_get_within (set cs i d) k e h in
    let size = length-set cs i d in
    ⊎_elim
    (λ same. inl (same, sym (sym (get_or-set_same cs i d e lt) ∙ ap (λ (n : ℕ). get_or (set cs i d) n e) (sym same) ∙ at)))
    (λ other. inr (slice_get-get_or cs k e (omega (arith, in_set, size)) ∙ ap Some (sym (get_or-set_other cs i k d e other) ∙ at)))
    (cases_eq k i)

supply_set : (cs : List ClockOf) (i : ℕ) (c d : ClockOf) → slice_get cs i ≡ Some c → d.history.terms ≡ c.history.terms → supply_in (set cs i d) ≡ supply_in cs
supply_set [] i c d h e = refl
supply_set (x ∷ xs) zero c d h e = ap (λ (t : Terms). t.goods) e ∙ (let f : Some x ≡ Some c = h in let q : x ≡ c = cc in ap (λ (y : ClockOf). y.history.terms.goods) (sym q))
supply_set (x ∷ xs) (suc i) c d h e = refl

pub still : (cs : List ClockOf) (i : ℕ) (c d : ClockOf) → i < length cs → slice_get cs i ≡ Some c → (d.history.terms ≡ c.history.terms) × (d.history.number ≡ c.history.number) → AreClocks cs
    → AreClocks (set cs i d) × (supply_in (set cs i d) ≡ supply_in cs) × (length (set cs i d) ≡ length cs)
still cs i c d lt at same are =
    let size = length-set cs i d in
    let goods = supply_set cs i c d at same.0 in
    let here = are.each i c at in
    let moved : (k : ℕ) (e : ClockOf) → IsClockAt (supply_in cs) (length cs - 1) k e → IsClockAt (supply_in (set cs i d)) (length (set cs i d) - 1) k e =
    λ k e is. record { number = is.number; goods = is.goods ∙ sym goods; bidders_are = is.bidders_are ∙ ap (λ (n : ℕ). n - 1) (sym size) } in
    let new : IsClockAt (supply_in cs) (length cs - 1) i d =
    record { number = same.1 ∙ here.number; goods = ap (λ (t : Terms). t.goods) same.0 ∙ here.goods; bidders_are = ap (λ (t : Terms). t.bidders) same.0 ∙ here.bidders_are } in (
      record {
        some = (let s = are.some in omega (arith, size, s));
        each = λ k e h. ⊎_elim
            (λ p. moved k e (subst (λ (n : ℕ). IsClockAt (supply_in cs) (length cs - 1) n e) (sym p.0) (subst (λ (x : ClockOf). IsClockAt (supply_in cs) (length cs - 1) i x) (sym p.1) new)))
            (λ p. moved k e (are.each k e p))
            (set_cases cs i k d e lt h);
      },
      goods,
      size,
    )

pub hall_answer : (clock : ℕ) (before after : ClockOf) (r : Report) (answer : Offered) → (judgement_of before.history r ≡ NotMember → r.bidder ≡ clock) → IsOffer before r answer after → IsOffered (r.bidder ≡ clock) answer
hall_answer clock before after r answer member h = by (judgement_of before.history r) refl h
  where
    by : (j : Judgement) → judgement_of before.history r ≡ j → IsAnswer j answer before (applied before r) after → IsOffered (r.bidder ≡ clock) answer
    by Take e (inl g) = subst (IsOffered (r.bidder ≡ clock)) (sym g.0) tt
    by Take e (inr g) = subst (IsOffered (r.bidder ≡ clock)) (sym g.0) tt
    by Again e g = subst (IsOffered (r.bidder ≡ clock)) (sym g.0) tt
    by NotMember e g = subst (IsOffered (r.bidder ≡ clock)) (sym g.0) (member e)
    by (Early x) e g = subst (IsOffered (r.bidder ≡ clock)) (sym g.0) tt
    by (Conflict x) e g = subst (IsOffered (r.bidder ≡ clock)) (sym g.0) tt
    by (Over x) e g = subst (IsOffered (r.bidder ≡ clock)) (sym g.0) tt
    by NoRound e g = subst (IsOffered (r.bidder ≡ clock)) (sym g.0) tt

repeated_not : (t : Bool) (round : ℕ) → repeated t round ≡ NotMember → ⊥
repeated_not true round e = let f : Again ≡ NotMember = e in cc
repeated_not false round e = let f : Conflict round ≡ NotMember = e in cc

repeat_not : (round : ℕ) (demand : List (List ℕ)) (o : Option (List (List ℕ))) → repeat_of round demand o ≡ NotMember → ⊥
repeat_not round demand None e = let f : Take ≡ NotMember = e in cc
repeat_not round demand (Some other) e = repeated_not (same_demand other demand) round e

late_not : (phase : Phase) (last : ℕ) → late_by phase last ≡ NotMember → ⊥
late_not Running last e = let f : Early last ≡ NotMember = e in cc
late_not Ended last e = let f : Over last ≡ NotMember = e in cc
late_not (Halted k) last e = let f : Over last ≡ NotMember = e in cc

judged_not : (m a b : Bool) (x y : Judgement) → m ≡ true → (x ≡ NotMember → ⊥) → (y ≡ NotMember → ⊥) → cond m (cond a NoRound (cond b x y)) NotMember ≡ NotMember → ⊥
judged_not true true b x y is p q e = let f : NoRound ≡ NotMember = e in cc
judged_not true false true x y is p q e = p e
judged_not true false false x y is p q e = q e
judged_not false a b x y is p q e = let f : false ≡ true = is in cc

no_stranger : (c : ClockHistory) (r : Report) → 1 ≤ r.bidder → r.bidder ≤ c.terms.bidders → (r.bidder ≡ c.number → ⊥) → judgement_of c r ≡ NotMember → ⊥
no_stranger c r low high other e =
    let a : nat_le 1 r.bidder ≡ true = grind (arith, nat_tests) in
    let b : nat_le r.bidder c.terms.bidders ≡ true = grind (arith, nat_tests) in
    let d : not (nat_eq r.bidder c.number) ≡ true = not_from_false _ (ne_eqb r.bidder c.number other) in
    judged_not (is_member c r.bidder) (nat_eq r.round 0) (nat_le r.round (last_round c)) (repeat_of r.round r.demand (demand_in c.reports r.round r.bidder)) (late_by (phase_of c) (last_round c))
    (and_from _ _ a (and_from _ _ b d))
    (repeat_not r.round r.demand (demand_in c.reports r.round r.bidder))
    (late_not (phase_of c) (last_round c))
    e

-- one of the bidders is no member of its own clock alone
pub own_clock : (c : ClockHistory) (r : Report) → 1 ≤ r.bidder → r.bidder ≤ c.terms.bidders → judgement_of c r ≡ NotMember → r.bidder ≡ c.number
own_clock c r low high e = ⊎_elim (λ same. same) (λ other. absurd (no_stranger c r low high other e)) (cases_eq r.bidder c.number)
