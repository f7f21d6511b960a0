-- A report that is taken is one of the current round, since the rounds before are full; so those kept from a place on stay so.
use Rattle.std.proofs.Common.{◌≡◌, ◌<◌, ◌≤◌, ◌⊎◌, inl, inr, ℕ, zero, suc, ◌+◌, Bool, true, false, not, ◌&&◌, nat_eq, cond, List, [], ◌∷◌, ◌++◌, Option, Some, None, is_some, is_none, refl, sym, ◌∙◌, ap, arith, length, take, drop}
use Rattle.std.proofs.lemmas.Bool.Decides.{nat_tests}
use Rattle.std.proofs.Math.Nat.{eq-or-lt_of_le}
use Rattle.std.specs.Prelude.{filter, nat_le}
use Rattle.std.specs.List.{range_with_len, list_all, AllByRecursion}
use Rattle.demand_set.specs.Same.{same_demand}
use Rattle.demand_set.specs.declared.reports.Report.{Report}
use Rattle.lot_base.specs.declared.phases.Phase.{Phase}
use Rattle.clock.specs.declared.judging.Judgement.{Judgement}
use Rattle.clock.specs.declared.judging.Judgement.TheVariants.{Take, Again, NotMember, Conflict, NoRound}
use Rattle.clock.specs.Reports.{demand_in, is_full, ClockHistory, members_of}
use Rattle.clock.specs.Standing.{step_set_after, leads_on, is_full_after, good_at_ceiling}
use Rattle.clock.specs.Judging.{is_member, judged, late_by, repeated, repeat_of}
use Rattle.lot_base.proofs.Within.{both}
use Rattle.clock.proofs.Path.{compare-or}
use Rattle.clock.proofs.Append.{take-says}

-- in a full round each member has a report
each-passes : (test q : ℕ → Bool) (a n b : ℕ) → a ≤ b → b < a + n → q b ≡ true → list_all test (filter q (range_with_len a n)) ≡ true → test b ≡ true
each-passes test q a zero b above below here all = absurd (omega arith)
each-passes test q a (suc n) b above below here all = by (q a) refl (eq-or-lt_of_le above) (λ later rest. each-passes test q (a + 1) n b (omega (arith, later)) (omega arith) here rest) all
  where
    by : (v : Bool) → q a ≡ v → (a ≡ b) ⊎ (a < b) → (a < b → list_all test (filter q (range_with_len (a + 1) n)) ≡ true → test b ≡ true)
        → list_all test (cond v (a ∷ filter q (range_with_len (a + 1) n)) (filter q (range_with_len (a + 1) n))) ≡ true → test b ≡ true
    by true e (inl same) rest all = ap test (sym same) ∙ (both (test a) (list_all test (filter q (range_with_len (a + 1) n))) all).0
    by true e (inr later) rest all = rest later (both (test a) (list_all test (filter q (range_with_len (a + 1) n))) all).1
    by false e (inl same) rest all = absurd (let f : false ≡ true = sym e ∙ ap q same ∙ here in cc)
    by false e (inr later) rest all = rest later all

pub reported : (c : ClockHistory) (round b : ℕ) → is_member c b ≡ true → is_full (members_of c) c.reports round ≡ true → is_some (demand_in c.reports round b) ≡ true
reported c round b member full =
    let h = both (nat_le 1 b) (nat_le b c.terms.bidders && not (nat_eq b c.number)) member in
    let k = both (nat_le b c.terms.bidders) (not (nat_eq b c.number)) h.1 in
    let low : 1 ≤ b = (let t = h.0 in grind (arith, nat_tests)) in
    let high : b ≤ c.terms.bidders = (let t = k.0 in grind (arith, nat_tests)) in
    each-passes (λ j. is_some (demand_in c.reports round j)) (λ j. not (nat_eq j c.number)) 1 c.terms.bidders b low (omega arith) k.1 full

pub not-taken : (round : ℕ) (demand : List (List ℕ)) (o : Option (List (List ℕ))) → is_some o ≡ true → repeat_of round demand o ≡ Take → ⊥
not-taken round demand None e take = (let f : false ≡ true = e in cc)
not-taken round demand (Some before) e take = by (same_demand before demand) take
  where
    by : (same : Bool) → repeated same round ≡ Take → ⊥
    by true f = (let g : Again ≡ Take = f in cc)
    by false f = (let g : Conflict round ≡ Take = f in cc)

pub some-round : (m z : Bool) (j : Judgement) → cond m (cond z NoRound j) NotMember ≡ Take → z ≡ false
some-round false z j e = absurd (let f : NotMember ≡ Take = e in cc)
some-round true true j e = absurd (let f : NoRound ≡ Take = e in cc)
some-round true false j e = refl

pub taken-now : (c : ClockHistory) (steps last : ℕ) (phase : Phase) (r : Report) → ((m : ℕ) → m < steps → leads_on c m ≡ true) → last ≡ steps + 1 → judged c last phase r ≡ Take → r.round ≡ steps + 1
taken-now c steps last phase r path is take = by r.round refl
  where
    says : (is_member c r.bidder ≡ true) × (nat_le r.round last ≡ true) × (repeat_of r.round r.demand (demand_in c.reports r.round r.bidder) ≡ Take)
    says = take-says c last phase r take

    from_one : nat_eq r.round 0 ≡ false
    from_one = some-round (is_member c r.bidder) (nat_eq r.round 0) (cond (nat_le r.round last) (repeat_of r.round r.demand (demand_in c.reports r.round r.bidder)) (late_by phase last)) take

    to_last : r.round ≤ steps + 1
    to_last = let t = says.1 in grind (arith, nat_tests)

    old : (m : ℕ) → r.round ≡ m + 1 → m < steps → ⊥
    old m e below =
        let full : is_full (members_of c) c.reports (m + 1) ≡ true = (both (is_full_after c m) (not (nat_eq (step_set_after c m) 0) && is_none (good_at_ceiling c m)) (path m below)).0 in
        let here = reported c (m + 1) r.bidder says.0 full in
        not-taken r.round r.demand (demand_in c.reports r.round r.bidder) (ap (λ n. is_some (demand_in c.reports n r.bidder)) e ∙ here) says.2

    by : (n : ℕ) → r.round ≡ n → r.round ≡ steps + 1
    by zero e = absurd (let t = from_one in let f : nat_eq r.round 0 ≡ true = grind (arith, nat_tests) in let g : true ≡ false = sym f ∙ t in cc)
    by (suc m) e = at (compare-or m steps)
      where
        at : (m < steps) ⊎ ((steps < m) ⊎ (m ≡ steps)) → r.round ≡ steps + 1
        at (inl below) = absurd (old m (omega arith) below)
        at (inr (inl above)) = absurd (let t = to_last in omega arith)
        at (inr (inr same)) = omega arith

-- what stands from a place on, with a report more
pub drop-push : (n : ℕ) (reports : List Report) (r : Report) → n ≤ length reports → drop n (reports ++ r ∷ []) ≡ drop n reports ++ r ∷ []
drop-push zero reports r up = refl
drop-push (suc n) [] r up = absurd (omega arith)
drop-push (suc n) (x ∷ reports) r up = drop-push n reports r (omega arith)

pub drop-whole : (reports : List Report) → drop (length reports) reports ≡ []
drop-whole [] = refl
drop-whole (x ∷ reports) = drop-whole reports

-- no report is of a round beyond
pub none-beyond : (n steps : ℕ) (reports : List Report) → AllByRecursion (λ (r : Report). r.round ≤ steps) (take n reports) → AllByRecursion (λ (r : Report). r.round ≡ steps + 1) (drop n reports)
    → AllByRecursion (λ (r : Report). r.round ≤ steps + 1) reports
none-beyond zero steps [] past present = tt
none-beyond zero steps (x ∷ reports) past present = (omega (arith, present.0), none-beyond zero steps reports past present.1)
none-beyond (suc n) steps [] past present = tt
none-beyond (suc n) steps (x ∷ reports) past present = (omega (arith, past.0), none-beyond n steps reports past.1 present)
