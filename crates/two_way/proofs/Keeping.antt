-- What a two-way clock keeps beside its reports, where its rounds lead, and what becomes of it with a report that is taken.
use Rattle.std.proofs.Common.{◌*◌, ◌≡◌, ◌≢◌, ◌<◌, ◌≤◌, ◌⊎◌, inl, inr, ℕ, zero, suc, ◌+◌, Bool, true, false, not, ◌&&◌, ◌||◌, nat_eq, cond, List, [], ◌∷◌, ◌++◌, length, take, drop, Option, Some, None, is_some, is_none, refl, sym, ◌∙◌, ap, arith, subst}
use Rattle.std.specs.Prelude.{IfSome, unwrap_or, nat_le, ℤ, pos, ◌+ℤ◌, ◌-ℤ◌}
use Rattle.std.proofs.lemmas.Int.{ints}
use Rattle.std.specs.List.{AllByRecursion, list_all}
use Rattle.std.proofs.lemmas.Bool.Decides.{nat_tests}
use Rattle.std.proofs.Math.Nat.{mul-le-mul}
use Rattle.lot_base.specs.Goods.{raised, lowered}
use Rattle.lot_base.specs.Demands.{IsDemand}
use Rattle.lot_base.specs.Economy.{without}
use Rattle.lot_base.specs.Steps.{excess}
use Rattle.lot_base.specs.declared.phases.Phase.{Phase}
use Rattle.lot_base.specs.declared.phases.Phase.TheVariants.{Running, Ended, Halted}
use Rattle.demand_set.specs.declared.reports.Report.{Report}
use Rattle.credit_book.specs.Account.{Sums, sum_without as kept_without}
use Rattle.clock.specs.declared.judging.Judgement.TheVariants.{Take}
use Rattle.clock.specs.Reports.{demand_in, demands_in, is_full}
use Rattle.clock.specs.Standing.{good_from, leads_on_by, phase_by}
use Rattle.clock.specs.Judging.{is_member, judged, late_by, repeat_of}
use Rattle.clock.proofs.Current.{demand-current, all-drop}
use Rattle.clock.proofs.Excesses.{found-fits}
use Rattle.clock.proofs.Append.{take-says, past-push, all-push, not_full-beyond}
use Rattle.clock.proofs.Ceiling.{AllUpTo}
use Rattle.clock.proofs.Next.{below-limit}
use Rattle.clock.proofs.Path.{compare-or}
use Rattle.clock.proofs.Present.{reported, not-taken, some-round, drop-push, drop-whole, none-beyond}
use Rattle.clock.proofs.After.{longer, take-whole}
use Rattle.overshoot.specs.Shortfall.{shortfall}
use Rattle.two_way.specs.Falling.{fall_set}
use Rattle.two_way.specs.Histories.{TwoWayHistory, IsStart, members_in, told, as_clock}
use Rattle.two_way.specs.Standing.{demands_after, is_full_after, up_set_after, is_down, prices_after, down_set_after, set_after, good_at_ceiling, leads_on, phase_after, steps_of, phase_of, last_round, judgement_of, ups_after, downs_after, sum_after}
use Rattle.two_way.specs.Turns.{GoesDown, IsTurned, Rises, Halts, Falls, Ends, HasRoom, set_down}
use Rattle.two_way.specs.declared.next_step.Standing.{Standing}
use Rattle.two_way.specs.Kept.{was_down, HasCome, StandsAt, IsKept}
use Rattle.two_way.proofs.Rounds.{leads, one-more, set-down, set-up, good-up, good-down, prices-down, prices-up, ups-up, ups-down, downs-up, downs-down, steps-only, on_the_way, few-on_way, few-downs}
use Rattle.two_way.proofs.Growing.{is_down-stays, prices-stay, leads_on-stays, ups-stay, downs-stay, sum-stays}
use Rattle.two_way.proofs.Truthful.{sum-up, sum-down}

pub kept-steps : (h : TwoWayHistory) (begin : ℕ) (s : Standing) → IsKept h begin s → steps_of h ≡ s.steps
kept-steps h begin s k = sym k.steps_are

-- a report that is taken is one of the current round
taken-now : (h : TwoWayHistory) (steps last : ℕ) (phase : Phase) (r : Report) → ((m : ℕ) → m < steps → leads_on h m ≡ true) → last ≡ steps + 1 → judged (as_clock h) last phase r ≡ Take
    → (is_member (as_clock h) r.bidder ≡ true) × (r.round ≡ steps + 1)
taken-now h steps last phase r path is take = (says.0, by r.round refl)
  where
    says : (is_member (as_clock h) r.bidder ≡ true) × (nat_le r.round last ≡ true) × (repeat_of r.round r.demand (demand_in h.reports r.round r.bidder) ≡ Take)
    says = take-says (as_clock h) last phase r take

    from_one : nat_eq r.round 0 ≡ false
    from_one = some-round (is_member (as_clock h) r.bidder) (nat_eq r.round 0) (cond (nat_le r.round last) (repeat_of r.round r.demand (demand_in h.reports r.round r.bidder)) (late_by phase last)) take

    to_last : r.round ≤ steps + 1
    to_last = let t = says.1 in grind (arith, nat_tests)

    old : (m : ℕ) → r.round ≡ m + 1 → m < steps → ⊥
    old m e below =
        let here = reported (as_clock h) (m + 1) r.bidder says.0 (leads h m (path m below)).full in
        not-taken r.round r.demand (demand_in h.reports r.round r.bidder) (ap (λ n. is_some (demand_in h.reports n r.bidder)) e ∙ here) says.2

    by : (n : ℕ) → r.round ≡ n → r.round ≡ steps + 1
    by zero e = absurd (let t = from_one in let f : nat_eq r.round 0 ≡ true = grind (arith, nat_tests) in let g : true ≡ false = sym f ∙ t in cc)
    by (suc m) e = at (compare-or m steps)
      where
        at : (m < steps) ⊎ ((steps < m) ⊎ (m ≡ steps)) → r.round ≡ steps + 1
        at (inl below) = absurd (old m (omega arith) below)
        at (inr (inl above)) = absurd (let t = to_last in omega arith)
        at (inr (inr same)) = omega arith

-- by the direction before and the step set of the round
goes-down : (h : TwoWayHistory) (n : ℕ) → (was_down h n ≡ true) ⊎ (up_set_after h n ≡ 0) → is_down h n ≡ true
unfolding is_down
goes-down h zero (inl e) = absurd (let f : false ≡ true = e in cc)
goes-down h zero (inr e) = ap (λ k. nat_eq k 0) e
goes-down h (suc n) (inl e) = ap (λ b. b || nat_eq (up_set_after h (suc n)) 0) e
goes-down h (suc n) (inr e) = either (is_down h n) (nat_eq (up_set_after h (suc n)) 0) (ap (λ k. nat_eq k 0) e)
  where
    either : (a b : Bool) → b ≡ true → (a || b) ≡ true
    either true b e = refl
    either false b e = e

some-set : (m : ℕ) → m ≢ 0 → nat_eq m 0 ≡ false
some-set m some = grind (arith, nat_tests)

goes-up : (h : TwoWayHistory) (n : ℕ) → was_down h n ≡ false → up_set_after h n ≢ 0 → is_down h n ≡ false
unfolding is_down
goes-up h zero e some = some-set (up_set_after h 0) some
goes-up h (suc n) e some = let f = some-set (up_set_after h (suc n)) some in λ i. e i || f i

-- a round that is not full waits
waits : (h : TwoWayHistory) (n : ℕ) → is_full_after h n ≡ false → (phase_after h n ≡ Running) × (leads_on h n ≡ false)
waits h n e = (ap (λ b. phase_by b (nat_eq (set_after h n) 0) (good_at_ceiling h n)) e, ap (λ b. leads_on_by b (set_after h n) (good_at_ceiling h n)) e)

-- and a full one leads on, or has ended or halted
goes : (h : TwoWayHistory) (n : ℕ) → is_full_after h n ≡ true → set_after h n ≢ 0 → good_at_ceiling h n ≡ None → leads_on h n ≡ true
goes h n full some good = let f = some-set (set_after h n) some in λ i. full i && (not (f i) && is_none (good i))

ends : (h : TwoWayHistory) (n : ℕ) → is_full_after h n ≡ true → set_after h n ≡ 0 → (phase_after h n ≡ Ended) × (leads_on h n ≡ false)
ends h n full none = (by (good_at_ceiling h n), λ i. full i && (not (nat_eq (none i) 0) && is_none (good_at_ceiling h n)))
  where
    by : (good : Option ℕ) → phase_by (is_full_after h n) (nat_eq (set_after h n) 0) good ≡ Ended
    by good = λ i. phase_by (full i) (nat_eq (none i) 0) good

halts : (h : TwoWayHistory) (n k : ℕ) → is_full_after h n ≡ true → set_after h n ≢ 0 → good_at_ceiling h n ≡ Some k → (phase_after h n ≡ Halted k) × (leads_on h n ≡ false)
halts h n k full some good = let f = some-set (set_after h n) some in (λ i. phase_by (full i) (f i) (good i), λ i. full i && (not (f i) && is_none (good i)))

pub take-longer : (begin : ℕ) (reports : List Report) (r : Report) → begin ≤ length reports → take begin (reports ++ r ∷ []) ≡ take begin reports
take-longer zero reports r up = refl
take-longer (suc n) [] r up = absurd (omega arith)
take-longer (suc n) (x ∷ reports) r up = ap (λ xs. x ∷ xs) (take-longer n reports r (omega arith))

-- a clock of these terms has at most so many steps, either way and together
most-steps : (h : TwoWayHistory) → length h.terms.goods * h.terms.ceiling ≤ 60000
most-steps h = let p : length h.terms.goods * h.terms.ceiling ≤ 6 * 10000 = mul-le-mul h.terms.supply.few_goods h.terms.ceiling_in_range.at_most in omega arith

pub few-steps : (h : TwoWayHistory) (n : ℕ) → IsStart h.terms h.start → ((m : ℕ) → m < n → leads_on h m ≡ true) → n ≤ 120000
few-steps h n start path = omega (arith, few-on_way h n (on_the_way h start n path), most-steps h)

-- the direction and the sets of a round, by the standing
down-now : (h : TwoWayHistory) (s : Standing) → HasCome h s → GoesDown h.terms (demands_after h s.steps) (members_in h) s → is_down h s.steps ≡ true
down-now h s c (inl before) = goes-down h s.steps (inl (sym c.was_is ∙ before))
down-now h s c (inr none) = goes-down h s.steps (inr none)

up-now : (h : TwoWayHistory) (s : Standing) → HasCome h s → s.was_down ≡ false → up_set_after h s.steps ≢ 0 → is_down h s.steps ≡ false
up-now h s c up some = goes-up h s.steps (sym c.was_is ∙ up) some

set-now : (h : TwoWayHistory) (s : Standing) → HasCome h s → set_down h.terms (demands_after h s.steps) (members_in h) s ≡ down_set_after h s.steps
set-now h s c = ap (λ q. fall_set h.terms.goods h.terms.opening q (demands_after h s.steps) (members_in h)) c.prices_are

good-now : (h : TwoWayHistory) (s : Standing) → HasCome h s → is_down h s.steps ≡ false → good_at_ceiling h s.steps ≡ good_from 0 h.terms.ceiling s.prices (up_set_after h s.steps)
good-now h s c up = good-up h s.steps up ∙ (λ i. good_from 0 h.terms.ceiling (sym c.prices_are i) (up_set_after h s.steps))

-- a full round that rises, or falls, leads on
leads-up : (h : TwoWayHistory) (s : Standing) → HasCome h s → is_full_after h s.steps ≡ true → s.was_down ≡ false → up_set_after h s.steps ≢ 0 → good_from 0 h.terms.ceiling s.prices (up_set_after h s.steps) ≡ None → leads_on h s.steps ≡ true
leads-up h s c full up some free =
    let d = up-now h s c up some in
    goes h s.steps full (λ none. some (sym (set-up h s.steps d) ∙ none)) (good-now h s c d ∙ free)

leads-down : (h : TwoWayHistory) (s : Standing) → HasCome h s → is_full_after h s.steps ≡ true → GoesDown h.terms (demands_after h s.steps) (members_in h) s → set_down h.terms (demands_after h s.steps) (members_in h) s ≢ 0 → leads_on h s.steps ≡ true
leads-down h s c full down some =
    let d = down-now h s c down in
    goes h s.steps full (λ none. some (set-now h s c ∙ sym (set-down h s.steps d) ∙ none)) (good-down h s.steps d)

-- so there is room for it
pub has-room : (h : TwoWayHistory) (s : Standing) → IsStart h.terms h.start → HasCome h s → is_full_after h s.steps ≡ true → HasRoom h.terms (demands_after h s.steps) (members_in h) s
has-room h s start c full =
    let n = s.steps in
    let w = on_the_way h start n c.path in
    let G : List ℕ → Type 0 = λ p. length p ≡ length h.terms.goods in
    let most = h.terms.ceiling_in_range.at_most in
    record {
      goods = subst G (sym c.prices_are) w.goods;
      steps = omega (arith, few-steps h n start c.path);
      below = λ set. below-limit h.terms.ceiling 4294967295 s.prices set (omega arith) (subst (AllUpTo h.terms.ceiling) (sym c.prices_are) w.up);
      up = λ up some free.
          let next = on_the_way h start (suc n) (one-more h n c.path (leads-up h s c full up some free)) in
          omega (arith, next.ups, ups-up h n (up-now h s c up some), c.ups_are, most-steps h);
      down = λ down some.
          let next = on_the_way h start (suc n) (one-more h n c.path (leads-down h s c full down some)) in
          omega (arith, few-downs h (suc n) next, downs-down h n (down-now h s c down), c.downs_are, most-steps h);
    }

-- where a round leads: to the next one, or nowhere
pub record GoesOn (h : TwoWayHistory) (s t : Standing) : Type 0 where
  pub come : HasCome h t
  pub steps : t.steps ≡ s.steps + 1
  pub phase : t.phase ≡ s.phase
  pub leads : leads_on h s.steps ≡ true

pub record Stays (h : TwoWayHistory) (s t : Standing) : Type 0 where
  pub stands : StandsAt h t
  pub steps : t.steps ≡ s.steps

-- what is so after a step more
come-next : (h : TwoWayHistory) (s t : Standing) → HasCome h s → leads_on h s.steps ≡ true → t.steps ≡ s.steps + 1 → t.was_down ≡ is_down h s.steps → t.prices ≡ prices_after h (suc s.steps)
    → t.up.steps ≡ ups_after h (suc s.steps) → t.down.steps ≡ downs_after h (suc s.steps)
    → ((b : ℕ) → kept_without t.up b -ℤ kept_without t.down b ≡ sum_after h (without b (members_in h)) (suc s.steps)) → HasCome h t
come-next h s t c goes steps was prices ups downs sums =
    let next : suc s.steps ≡ t.steps = omega arith in
    record {
      path = λ m below. one-more h s.steps c.path goes m (omega arith);
      was_is = was ∙ ap (was_down h) next;
      prices_are = prices ∙ ap (prices_after h) next;
      ups_are = ups ∙ ap (ups_after h) next;
      downs_are = downs ∙ ap (downs_after h) next;
      sums_are = λ b. sums b ∙ ap (sum_after h (without b (members_in h))) next;
    }

up-sum : (up down up' down' x old new : ℤ) → up' ≡ up -ℤ x → down' ≡ down → up -ℤ down ≡ old → new ≡ old -ℤ x → up' -ℤ down' ≡ new
up-sum up down up' down' x old new e f g h = omega (arith, ints)

down-sum : (up down up' down' x old new : ℤ) → up' ≡ up → down' ≡ down +ℤ x → up -ℤ down ≡ old → new ≡ old -ℤ x → up' -ℤ down' ≡ new
down-sum up down up' down' x old new e f g h = omega (arith, ints)

rises-on : (h : TwoWayHistory) (s t : Standing) → HasCome h s → is_full_after h s.steps ≡ true → Rises h.terms (demands_after h s.steps) (members_in h) s t → GoesOn h s t
rises-on h s t c full r =
    let n = s.steps in
    let d = up-now h s c r.up r.some in
    let on = leads-up h s c full r.up r.some r.free in
    let set = up_set_after h n in
    record {
      come = come-next h s t c on r.steps (r.was_down ∙ sym d) (r.prices ∙ (λ i. raised (c.prices_are i) set) ∙ sym (prices-up h n d))
          (omega (arith, r.ups, c.ups_are, ups-up h n d)) (ap (λ (a : Sums). a.steps) r.down ∙ c.downs_are ∙ sym (downs-up h n d))
          (λ b. let bs = without b (members_in h) in
          up-sum (kept_without s.up b) (kept_without s.down b) (kept_without t.up b) (kept_without t.down b) (excess h.terms.goods (demands_after h n) bs set) (sum_after h bs n) (sum_after h bs (suc n))
          (r.added b) (ap (λ a. kept_without a b) r.down) (c.sums_are b) (sum-up h bs n d));
      steps = r.steps;
      phase = r.phase;
      leads = on;
    }

falls-on : (h : TwoWayHistory) (s t : Standing) → HasCome h s → is_full_after h s.steps ≡ true → Falls h.terms (demands_after h s.steps) (members_in h) s t → GoesOn h s t
falls-on h s t c full r =
    let n = s.steps in
    let d = down-now h s c r.goes_down in
    let on = leads-down h s c full r.goes_down r.some in
    let is = set-now h s c in
    record {
      come = come-next h s t c on r.steps (r.was_down ∙ sym d) (r.prices ∙ (λ i. lowered (c.prices_are i) (is i)) ∙ sym (prices-down h n d))
          (ap (λ (a : Sums). a.steps) r.up ∙ c.ups_are ∙ sym (ups-down h n d)) (omega (arith, r.downs, c.downs_are, downs-down h n d))
          (λ b. let bs = without b (members_in h) in
          down-sum (kept_without s.up b) (kept_without s.down b) (kept_without t.up b) (kept_without t.down b) (shortfall h.terms.goods (demands_after h n) bs (down_set_after h n)) (sum_after h bs n) (sum_after h bs (suc n))
          (ap (λ a. kept_without a b) r.up) (r.added b ∙ ap (λ m. kept_without s.down b +ℤ shortfall h.terms.goods (demands_after h n) bs m) is) (c.sums_are b) (sum-down h bs n d));
      steps = r.steps;
      phase = r.phase;
      leads = on;
    }

-- another phase changes nothing else
abbrev with-phase : Standing → Phase → Standing
with-phase s phase = record s { phase = phase }

come-phase : (h : TwoWayHistory) (s : Standing) (phase : Phase) → HasCome h s → HasCome h (with-phase s phase)
come-phase h s phase c = record { path = c.path; was_is = c.was_is; prices_are = c.prices_are; ups_are = c.ups_are; downs_are = c.downs_are; sums_are = c.sums_are }

stays-by : (h : TwoWayHistory) (s t : Standing) (phase : Phase) → HasCome h s → t ≡ with-phase s phase → phase_after h s.steps ≡ phase → leads_on h s.steps ≡ false → Stays h s t
stays-by h s t phase c e is stops =
    let P : Standing → Type 0 = Stays h s in
    let here : Stays h s (with-phase s phase) = record { stands = record { come = come-phase h s phase c; stops = stops; phase_is = sym is }; steps = refl } in
    subst P (sym e) here

halts-here : (h : TwoWayHistory) (s t : Standing) → HasCome h s → is_full_after h s.steps ≡ true → Halts h.terms (demands_after h s.steps) (members_in h) s t → Stays h s t
halts-here h s t c full r =
    let d = up-now h s c r.up r.some in
    let v = halts h s.steps r.good full (λ none. r.some (sym (set-up h s.steps d) ∙ none)) (good-now h s c d ∙ r.at_ceiling) in
    stays-by h s t (Halted r.good) c r.stays v.0 v.1

ends-here : (h : TwoWayHistory) (s t : Standing) → HasCome h s → is_full_after h s.steps ≡ true → Ends h.terms (demands_after h s.steps) (members_in h) s t → Stays h s t
ends-here h s t c full r =
    let d = down-now h s c r.goes_down in
    let v = ends h s.steps full (set-down h s.steps d ∙ sym (set-now h s c) ∙ r.none) in
    stays-by h s t Ended c r.stays v.0 v.1

pub turned-round : (h : TwoWayHistory) (s t : Standing) → HasCome h s → is_full_after h s.steps ≡ true → IsTurned h.terms (demands_after h s.steps) (members_in h) s t → GoesOn h s t ⊎ Stays h s t
turned-round h s t c full (inl (inl r)) = inl (rises-on h s t c full r)
turned-round h s t c full (inl (inr r)) = inr (halts-here h s t c full r)
turned-round h s t c full (inr (inl r)) = inl (falls-on h s t c full r)
turned-round h s t c full (inr (inr r)) = inr (ends-here h s t c full r)

-- a round that is not full is open
pub open-round : (h : TwoWayHistory) (s t : Standing) → HasCome h s → s.phase ≡ Running → is_full_after h s.steps ≡ false → t ≡ s → Stays h s t
open-round h s t c running open_ e =
    let v = waits h s.steps open_ in
    let P : Standing → Type 0 = Stays h s in
    let here : Stays h s s = record { stands = record { come = c; stops = v.1; phase_is = running ∙ sym v.0 }; steps = refl } in
    subst P (sym e) here

-- either way
pub advanced : (h : TwoWayHistory) (s t : Standing) → HasCome h s → s.phase ≡ Running → (is_full_after h s.steps ≡ false → t ≡ s)
    → (is_full_after h s.steps ≡ true → IsTurned h.terms (demands_after h s.steps) (members_in h) s t) → GoesOn h s t ⊎ Stays h s t
advanced h s t c running open_ full = by (is_full_after h s.steps) refl
  where
    by : (b : Bool) → is_full_after h s.steps ≡ b → GoesOn h s t ⊎ Stays h s t
    by true e = turned-round h s t c e (full e)
    by false e = inr (open-round h s t c running e (open_ e))

-- the clock has come as far with the report
come-told : (h : TwoWayHistory) (r : Report) (s : Standing) → HasCome h s → HasCome (told h r) s
come-told h r s c =
    let full : (m : ℕ) → m < s.steps → is_full_after h m ≡ true = λ m below. (leads h m (c.path m below)).full in
    record {
      path = λ m below. leads_on-stays h r m (λ j up. c.path j (omega arith));
      was_is = c.was_is ∙ sym (was-stays s.steps full);
      prices_are = c.prices_are ∙ sym (prices-stay h r s.steps full);
      ups_are = c.ups_are ∙ sym (ups-stay h r s.steps full);
      downs_are = c.downs_are ∙ sym (downs-stay h r s.steps full);
      sums_are = λ b. c.sums_are b ∙ sym (sum-stays h r b s.steps full);
    }
  where
    was-stays : (n : ℕ) → ((m : ℕ) → m < n → is_full_after h m ≡ true) → was_down (told h r) n ≡ was_down h n
    was-stays zero full = refl
    was-stays (suc n) full = is_down-stays h r n (λ m up. full m (omega arith))

-- what is known of the history with the report
pub record WithReport (h : TwoWayHistory) (r : Report) (begin : ℕ) (s : Standing) : Type 0 where
  pub running : s.phase ≡ Running
  pub come : HasCome (told h r) s
  pub fit : AllByRecursion (λ (x : Report). IsDemand h.terms.goods x.demand) (told h r).reports
  pub begins : begin ≤ length (told h r).reports
  pub past : AllByRecursion (λ (x : Report). x.round ≤ s.steps) (take begin (told h r).reports)
  pub present : AllByRecursion (λ (x : Report). x.round ≡ s.steps + 1) (drop begin (told h r).reports)
  pub all : AllByRecursion (λ (x : Report). x.round ≤ s.steps + 1) (told h r).reports
  pub beyond : is_full_after (told h r) (s.steps + 1) ≡ false

pub with-report : (h : TwoWayHistory) (r : Report) (begin : ℕ) (s : Standing) → IsKept h begin s → judgement_of h r ≡ Take → IsDemand h.terms.goods r.demand → WithReport h r begin s
with-report h r begin s k taken fits =
    let c = k.stands.come in
    let now = taken-now h s.steps (last_round h) (phase_of h) r c.path (ap (λ n. n + 1) (sym k.steps_are)) taken in
    let all = past-push (s.steps + 1) h.reports r (none-beyond begin s.steps h.reports k.past k.present) (omega (arith, now.1)) in
    let A : List Report → Type 0 = λ xs. AllByRecursion (λ (x : Report). x.round ≤ s.steps) xs in
    let B : List Report → Type 0 = λ xs. AllByRecursion (λ (x : Report). x.round ≡ s.steps + 1) xs in
    let l = longer h.reports r in
    record {
      running = k.stands.phase_is ∙ (waits h s.steps (open-before now (is_full_after h s.steps) refl)).0;
      come = come-told h r s c;
      fit = all-push (λ (x : Report). IsDemand h.terms.goods x.demand) h.reports r k.fit fits;
      begins = omega (arith, k.begins);
      past = subst A (sym (take-longer begin h.reports r k.begins)) k.past;
      present = subst B (sym (drop-push begin h.reports r k.begins)) (all-push (λ (x : Report). x.round ≡ s.steps + 1) (drop begin h.reports) r k.present now.1);
      all = all;
      beyond = not_full-beyond (as_clock (told h r)) (s.steps + 1) (s.steps + 1 + 1) r.bidder now.0 (omega arith) all;
    }
  where
    open-before : (is_member (as_clock h) r.bidder ≡ true) × (r.round ≡ s.steps + 1) → (b : Bool) → is_full_after h s.steps ≡ b → is_full_after h s.steps ≡ false
    open-before now false e = e
    open-before now true e =
        let here = reported (as_clock h) (s.steps + 1) r.bidder now.0 e in
        let says = take-says (as_clock h) (last_round h) (phase_of h) r taken in
        absurd (not-taken r.round r.demand (demand_in h.reports r.round r.bidder) (ap (λ n. is_some (demand_in h.reports n r.bidder)) now.1 ∙ here) says.2)

-- the round stays
kept-here : (h : TwoWayHistory) (r : Report) (begin : ℕ) (s t : Standing) → IsStart h.terms h.start → h.number ≤ h.terms.bidders → WithReport h r begin s → Stays (told h r) s t → IsKept (told h r) begin t
kept-here h r begin s t start number w now =
    let A : ℕ → Type 0 = λ n. AllByRecursion (λ (x : Report). x.round ≤ n) (take begin (told h r).reports) in
    let B : ℕ → Type 0 = λ n. AllByRecursion (λ (x : Report). x.round ≡ n + 1) (drop begin (told h r).reports) in
    record {
      start = start;
      number = number;
      fit = w.fit;
      stands = now.stands;
      steps_are = sym (steps-only (told h r) start t.steps (record { before = now.stands.come.path; stops = now.stands.stops }));
      few = few-steps (told h r) t.steps start now.stands.come.path;
      begins = w.begins;
      past = subst A (sym now.steps) w.past;
      present = subst B (sym now.steps) w.present;
    }

-- or the next one begins, which is open
kept-next : (h : TwoWayHistory) (r : Report) (begin : ℕ) (s t : Standing) → IsStart h.terms h.start → h.number ≤ h.terms.bidders → WithReport h r begin s → GoesOn (told h r) s t
    → IsKept (told h r) (length (told h r).reports) t
kept-next h r begin s t start number w now =
    let reports = (told h r).reports in
    let F : ℕ → Type 0 = λ n. is_full_after (told h r) n ≡ false in
    let v = waits (told h r) t.steps (subst F (sym now.steps) w.beyond) in
    let P : List Report → Type 0 = λ xs. AllByRecursion (λ (x : Report). x.round ≤ t.steps) xs in
    let Q : List Report → Type 0 = λ xs. AllByRecursion (λ (x : Report). x.round ≡ t.steps + 1) xs in
    let A : ℕ → Type 0 = λ n. AllByRecursion (λ (x : Report). x.round ≤ n) reports in
    record {
      start = start;
      number = number;
      fit = w.fit;
      stands = record { come = now.come; stops = v.1; phase_is = now.phase ∙ w.running ∙ sym v.0 };
      steps_are = sym (steps-only (told h r) start t.steps (record { before = now.come.path; stops = v.1 }));
      few = few-steps (told h r) t.steps start now.come.path;
      begins = omega arith;
      past = subst P (sym (take-whole reports)) (subst A (sym now.steps) w.all);
      present = subst Q (sym (drop-whole reports)) tt;
    }

-- what the type keeps with a report more: the place stays where the steps do, and else is after all reports
pub kept-told : (h : TwoWayHistory) (r : Report) (begin : ℕ) (s t : Standing) → IsKept h begin s → judgement_of h r ≡ Take → IsDemand h.terms.goods r.demand
    → (is_full_after (told h r) s.steps ≡ false → t ≡ s) → (is_full_after (told h r) s.steps ≡ true → IsTurned h.terms (demands_after (told h r) s.steps) (members_in h) s t)
    → (next : ℕ) → (t.steps ≡ s.steps → next ≡ begin) → (t.steps ≢ s.steps → next ≡ length (told h r).reports) → IsKept (told h r) next t
kept-told h r begin s t k taken fits open_ full next stays goes =
    let w = with-report h r begin s k taken fits in
    by w (advanced (told h r) s t w.come w.running open_ full)
  where
    by : WithReport h r begin s → GoesOn (told h r) s t ⊎ Stays (told h r) s t → IsKept (told h r) next t
    by w (inl on) = let P : ℕ → Type 0 = λ n. IsKept (told h r) n t in subst P (sym (goes (λ e. absurd (let f = on.steps in omega arith)))) (kept-next h r begin s t k.start k.number w on)
    by w (inr here) = let P : ℕ → Type 0 = λ n. IsKept (told h r) n t in subst P (sym (stays here.steps)) (kept-here h r begin s t k.start k.number w here)

-- a clock without reports, before its first round
pub come-first : (h : TwoWayHistory) (s : Standing) → s.steps ≡ 0 → s.was_down ≡ false → s.prices ≡ h.start → s.up.steps ≡ 0 → s.down.steps ≡ 0
    → ((b : ℕ) → kept_without s.up b ≡ pos 0) → ((b : ℕ) → kept_without s.down b ≡ pos 0) → HasCome h s
unfolding prices_after ups_after downs_after sum_after
come-first h s none was prices ups downs up down = record {
  path = λ m below. absurd (omega arith);
  was_is = was ∙ ap (was_down h) (sym none);
  prices_are = prices ∙ ap (prices_after h) (sym none);
  ups_are = ups ∙ ap (ups_after h) (sym none);
  downs_are = downs ∙ ap (downs_after h) (sym none);
  sums_are = λ b. nothing (kept_without s.up b) (kept_without s.down b) (up b) (down b) ∙ ap (sum_after h (without b (members_in h))) (sym none);
}
  where
    nothing : (a b : ℤ) → a ≡ pos 0 → b ≡ pos 0 → a -ℤ b ≡ pos 0
    nothing a b e f = omega (arith, ints)

pub kept-first : (h : TwoWayHistory) (s : Standing) → h.reports ≡ [] → IsStart h.terms h.start → h.number ≤ h.terms.bidders → StandsAt h s → IsKept h 0 s
kept-first h s none start number stands =
    let F : List Report → Type 0 = λ rs. AllByRecursion (λ (r : Report). IsDemand h.terms.goods r.demand) rs in
    let B : List Report → Type 0 = λ rs. AllByRecursion (λ (r : Report). r.round ≡ s.steps + 1) rs in
    record {
      start = start;
      number = number;
      fit = subst F (sym none) tt;
      stands = stands;
      steps_are = sym (steps-only h start s.steps (record { before = stands.come.path; stops = stands.stops }));
      few = few-steps h s.steps start stands.come.path;
      begins = omega arith;
      past = tt;
      present = subst B (sym none) tt;
    }

-- what is kept is what is said of the history
pub kept-start : (h now : TwoWayHistory) (begin : ℕ) (s : Standing) → IsKept h begin s → h ≡ now → IsStart now.terms now.start
kept-start h now begin s k same = let P : TwoWayHistory → Type 0 = λ g. IsStart g.terms g.start in subst P same k.start

pub kept-ups : (h now : TwoWayHistory) (begin : ℕ) (s : Standing) → IsKept h begin s → h ≡ now → s.up.steps ≡ ups_after now (steps_of now)
kept-ups h now begin s k same = k.stands.come.ups_are ∙ ap (ups_after h) k.steps_are ∙ ap (λ g. ups_after g (steps_of g)) same

pub kept-downs : (h now : TwoWayHistory) (begin : ℕ) (s : Standing) → IsKept h begin s → h ≡ now → s.down.steps ≡ downs_after now (steps_of now)
kept-downs h now begin s k same = k.stands.come.downs_are ∙ ap (downs_after h) k.steps_are ∙ ap (λ g. downs_after g (steps_of g)) same

-- the demand of a bidder in the present round stands after the place at which the round begins
pub present-demand : (h now : TwoWayHistory) (begin : ℕ) (s : Standing) (reports : List Report) (round j : ℕ) → IsKept h begin s → h ≡ now → reports ≡ drop begin h.reports → round ≡ s.steps + 1
    → demand_in reports round j ≡ demand_in now.reports round j
present-demand h now begin s reports round j k same e is =
    let D : ℕ → Type 0 = λ n. demand_in reports n j ≡ demand_in h.reports n j in
    subst D (sym is) (demand-current begin s.steps j h.reports reports k.past e) ∙ ap (λ (g : TwoWayHistory). demand_in g.reports round j) same

pub found-fit : (h now : TwoWayHistory) (begin : ℕ) (s : Standing) (round j : ℕ) (o : Option (List (List ℕ))) → IsKept h begin s → h ≡ now → o ≡ demand_in now.reports round j → IfSome o (IsDemand now.terms.goods)
found-fit h now begin s round j o k same e = by o e
  where
    by : (o : Option (List (List ℕ))) → o ≡ demand_in now.reports round j → IfSome o (IsDemand now.terms.goods)
    by None e = tt
    by (Some d) e =
        let P : TwoWayHistory → Type 0 = λ g. AllByRecursion (λ (r : Report). IsDemand g.terms.goods r.demand) g.reports in
        found-fits now.terms.goods now.reports round j d (subst P same k.fit) (sym e)

pub kept-goods : (h now : TwoWayHistory) (begin : ℕ) (s : Standing) → IsKept h begin s → h ≡ now → length s.prices ≡ length now.terms.goods
kept-goods h now begin s k same =
    let w = on_the_way h k.start s.steps k.stands.come.path in
    ap length k.stands.come.prices_are ∙ w.goods ∙ ap (λ (g : TwoWayHistory). length g.terms.goods) same

-- the reports of the present round alone say what all say of it
pub same-demands : (begin steps : ℕ) (reports present : List Report) → AllByRecursion (λ (r : Report). r.round ≤ steps) (take begin reports) → present ≡ drop begin reports → demands_in present (steps + 1) ≡ demands_in reports (steps + 1)
same-demands begin steps reports present past e = λ i j. unwrap_or (demand-current begin steps j reports present past e i) []

pub same-full : (begin steps : ℕ) (reports present : List Report) (js : List ℕ) → AllByRecursion (λ (r : Report). r.round ≤ steps) (take begin reports) → present ≡ drop begin reports → is_full js present (steps + 1) ≡ is_full js reports (steps + 1)
same-full begin steps reports present js past e = λ i. list_all (λ j. is_some (demand-current begin steps j reports present past e i)) js

pub applied-fit : (h : TwoWayHistory) (r : Report) (begin : ℕ) (s : Standing) (present : List Report) → IsKept h begin s → judgement_of h r ≡ Take → IsDemand h.terms.goods r.demand → present ≡ drop begin (told h r).reports
    → AllByRecursion (λ (x : Report). IsDemand h.terms.goods x.demand) present
applied-fit h r begin s present k taken fits e = all-drop (λ (x : Report). IsDemand h.terms.goods x.demand) begin (told h r).reports present (with-report h r begin s k taken fits).fit e

pub applied-room : (h : TwoWayHistory) (r : Report) (begin : ℕ) (s : Standing) (present : List Report) → IsKept h begin s → judgement_of h r ≡ Take → IsDemand h.terms.goods r.demand → present ≡ drop begin (told h r).reports
    → is_full (members_in h) present (s.steps + 1) ≡ true → HasRoom h.terms (demands_in present (s.steps + 1)) (members_in h) s
applied-room h r begin s present k taken fits e full =
    let w = with-report h r begin s k taken fits in
    let reports = (told h r).reports in
    let P : (ℕ → List (List ℕ)) → Type 0 = λ d. HasRoom h.terms d (members_in h) s in
    subst P (sym (same-demands begin s.steps reports present w.past e)) (has-room (told h r) s k.start w.come (sym (same-full begin s.steps reports present (members_in h) w.past e) ∙ full))

pub kept-applied : (h : TwoWayHistory) (r : Report) (begin next : ℕ) (s t : Standing) (present : List Report) → IsKept h begin s → judgement_of h r ≡ Take → IsDemand h.terms.goods r.demand → present ≡ drop begin (told h r).reports
    → (is_full (members_in h) present (s.steps + 1) ≡ false → t ≡ s) → (is_full (members_in h) present (s.steps + 1) ≡ true → IsTurned h.terms (demands_in present (s.steps + 1)) (members_in h) s t)
    → (t.steps ≡ s.steps → next ≡ begin) → (t.steps ≢ s.steps → next ≡ length (told h r).reports) → IsKept (told h r) next t
kept-applied h r begin next s t present k taken fits e open_ full stays goes =
    let w = with-report h r begin s k taken fits in
    let reports = (told h r).reports in
    let same = same-full begin s.steps reports present (members_in h) w.past e in
    let P : (ℕ → List (List ℕ)) → Type 0 = λ d. IsTurned h.terms d (members_in h) s t in
    kept-told h r begin s t k taken fits (λ off. open_ (same ∙ off)) (λ on. subst P (same-demands begin s.steps reports present w.past e) (full (same ∙ on))) next stays goes
