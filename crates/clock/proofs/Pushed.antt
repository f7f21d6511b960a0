-- What a report that is taken changes of its round.
use Rattle.std.proofs.Common.{◌≡◌, ◌≢◌, ℕ, ◌+◌, Bool, true, false, ◌&&◌, nat_eq, cond, List, [], ◌∷◌, ◌++◌, take, Option, Some, None, is_some, refl, sym, ◌∙◌, ap, arith}
use Rattle.std.specs.Prelude.{find, option_map}
use Rattle.std.proofs.lemmas.Bool.Decides.{nat_tests}
use Rattle.lot_base.specs.declared.phases.Phase.{Phase}
use Rattle.credit_book.specs.Account.{Sums}
use Rattle.demand_set.specs.declared.reports.Report.{Report}
use Rattle.clock.specs.declared.judging.Judgement.TheVariants.{Take, Again, Conflict}
use Rattle.clock.specs.Reports.{ClockHistory, is_named, demand_in, members_of, with_report}
use Rattle.clock.specs.Standing.{steps_of, phase_of}
use Rattle.clock.specs.Judging.{judgement_of, repeat_of, repeated, is_member}
use Rattle.demand_set.specs.Same.{same_demand}
use Rattle.clock.specs.Kept.{HasStanding, missing_count}
use Rattle.clock.proofs.Append.{find-some, find-none, take-says}
use Rattle.clock.proofs.Present.{taken-now}
use Rattle.clock.proofs.After.{kept-path}
use Rattle.clock.proofs.Totals.{total-one}

pub none-taken : (round : ℕ) (demand : List (List ℕ)) (o : Option (List (List ℕ))) → repeat_of round demand o ≡ Take → o ≡ None
none-taken round demand None e = refl
none-taken round demand (Some before) e = absurd (by (same_demand before demand) e)
  where
    by : (same : Bool) → repeated same round ≡ Take → ⊥
    by true f = (let g : Again ≡ Take = f in cc)
    by false f = (let g : Conflict round ≡ Take = f in cc)

-- the report is of a member that has not reported in the round
pub record IsNew (c : ClockHistory) (r : Report) (steps : ℕ) : Type 0 where
  pub member : is_member c r.bidder ≡ true
  pub round : r.round ≡ steps + 1
  pub absent : demand_in c.reports (steps + 1) r.bidder ≡ None

pub is-new : (c : ClockHistory) (r : Report) (current steps : ℕ) (phase : Phase) (prices : List ℕ) (account : Sums) → HasStanding c current steps phase prices account → judgement_of c r ≡ Take → IsNew c r steps
is-new c r current steps phase prices account k take =
    let says = take-says c (steps_of c + 1) (phase_of c) r take in
    let now = taken-now c steps (steps_of c + 1) (phase_of c) r (kept-path c current steps phase prices account k) (omega (arith, k.steps_are)) take in
    record { member = says.0; round = now; absent = ap (λ t. demand_in c.reports t r.bidder) (sym now) ∙ none-taken r.round r.demand (demand_in c.reports r.round r.bidder) says.2 }

pub none-found : (o : Option Report) → option_map (λ (r : Report). r.demand) o ≡ None → o ≡ None
none-found None e = refl
none-found (Some r) e = absurd (let f : Some r.demand ≡ None = e in cc)

find-new : {X : Type 0} (test : X → Bool) (xs : List X) (y : X) → find test xs ≡ None → test y ≡ true → find test (xs ++ y ∷ []) ≡ Some y
find-new test [] y e f = ap (λ b. cond b (Some y) None) f
find-new {X} test (x ∷ xs) y e f = by (test x) (λ g. find-new test xs y g f) e
  where
    by : (b : Bool) → (find test xs ≡ None → find test (xs ++ y ∷ []) ≡ Some y) → cond b (Some x) (find test xs) ≡ None → cond b (Some x) (find test (xs ++ y ∷ [])) ≡ Some y
    by true rest e = absurd (let g : Some x ≡ None = e in cc)
    by false rest e = rest e

-- it is found, and nobody else's demand changes
pub demand-new : (c : ClockHistory) (r : Report) (steps : ℕ) → IsNew c r steps → demand_in (with_report c r).reports (steps + 1) r.bidder ≡ Some r.demand
demand-new c r steps new =
    let named : is_named (steps + 1) r.bidder r ≡ true = (let a : nat_eq r.round (steps + 1) ≡ true = (let e = new.round in grind (arith, nat_tests)) in let b : nat_eq r.bidder r.bidder ≡ true = grind (arith, nat_tests) in λ i. a i && b i) in
    ap (option_map (λ (x : Report). x.demand)) (find-new (is_named (steps + 1) r.bidder) c.reports r (none-found (find (is_named (steps + 1) r.bidder) c.reports) new.absent) named)

other-found : (reports : List Report) (r : Report) (round j : ℕ) → is_named round j r ≡ false → (o : Option Report) → find (is_named round j) reports ≡ o → find (is_named round j) (reports ++ r ∷ []) ≡ o
other-found reports r round j other None e = find-none (is_named round j) reports r e other
other-found reports r round j other (Some v) e = find-some (is_named round j) reports r v e

pub demand-other : (c : ClockHistory) (r : Report) (round j : ℕ) → r.bidder ≢ j → demand_in (with_report c r).reports round j ≡ demand_in c.reports round j
demand-other c r round j other =
    let b : nat_eq r.bidder j ≡ false = grind (arith, nat_tests) in
    let named : is_named round j r ≡ false = ap (λ t. nat_eq r.round round && t) b ∙ and-false (nat_eq r.round round) in
    ap (option_map (λ (x : Report). x.demand)) (other-found c.reports r round j named (find (is_named round j) c.reports) refl)
  where
    and-false : (a : Bool) → (a && false) ≡ false
    and-false true = refl
    and-false false = refl

-- one member fewer is missing
pub missing-pushed : (c : ClockHistory) (r : Report) (steps : ℕ) → IsNew c r steps → missing_count (members_of c) c.reports (steps + 1) ≡ missing_count (members_of c) (with_report c r).reports (steps + 1) + 1
missing-pushed c r steps new =
    let f = λ (j : ℕ). cond (is_some (demand_in (with_report c r).reports (steps + 1) j)) 0 1 in
    let g = λ (j : ℕ). cond (is_some (demand_in c.reports (steps + 1) j)) 0 1 in
    let none : f r.bidder ≡ 0 = ap (λ o. cond (is_some o) 0 1) (demand-new c r steps new) in
    let some : g r.bidder ≡ 1 = ap (λ o. cond (is_some o) 0 1) new.absent in
    total-one c f g r.bidder 1 new.member (omega (arith, none, some)) (λ j other. ap (λ o. cond (is_some o) 0 1) (sym (demand-other c r (steps + 1) j (λ e. other (sym e)))))
