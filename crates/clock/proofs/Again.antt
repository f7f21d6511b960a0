-- A clock that repeats the round before.
use Rattle.std.proofs.Common.{◌≡◌, ◌≢◌, ◌<◌, ◌≤◌, ◌⊎◌, inl, inr, ℕ, ◌+◌, ◌-◌, ◌*◌, ◌/◌, ◌^◌, true, false, not, ◌&&◌, nat_eq, cond, List, [], ◌∷◌, ◌++◌, length, append-nil, take, drop, Option, Some, None, is_some, is_none, refl, sym, ◌∙◌, ap, subst, arith}
use Rattle.std.specs.Prelude.{map, find, option_map, unwrap_or, slice_get, ℤ, ◌+ℤ◌}
use Rattle.std.specs.List.{AllByRecursion}
use Rattle.std.proofs.lemmas.Bool.{cases_lt}
use Rattle.std.proofs.lemmas.Bool.Decides.{nat_tests}
use Rattle.std.proofs.lemmas.List.{map-append}
use Rattle.lot_base.specs.Goods.{raised}
use Rattle.lot_base.specs.Steps.{step_set, excess}
use Rattle.lot_base.specs.declared.phases.Phase.{Phase}
use Rattle.lot_base.specs.declared.phases.Phase.TheVariants.{Running}
use Rattle.lot_base.specs.declared.supply.GoodSet.{GoodSet}
use Rattle.lot_base.specs.declared.tables.LeastTable.{LeastTable}
use Rattle.lot_base.proofs.Within.{both}
use Rattle.lyapunov.proofs.Growing.{excess-same}
use Rattle.credit_book.specs.Account.{Sums, sum_without, units_left}
use Rattle.demand_set.specs.declared.reports.Report.{Report}
use Rattle.clock.specs.Past.{PastOf, again_among}
use Rattle.clock.specs.Reports.{ClockHistory, is_named, demand_in, demands_in, members_of, is_full}
use Rattle.clock.specs.Standing.{sets_of, step_set_after, leads_on, is_full_after, good_at_ceiling, steps_of}
use Rattle.clock.specs.Judging.{is_member}
use Rattle.clock.specs.Repeats.{IsIdle}
use Rattle.clock.specs.Kept.{IsKept, HasStanding, KeepsRound, missing_count, reports_before}
use Rattle.clock.proofs.StandingDemands.{excess-before}
use Rattle.clock.proofs.After.{kept-path, empty-stops}
use Rattle.clock.proofs.Going.{round-opened, sets-next}
use Rattle.clock.proofs.InOrder.{find-in_order}
use Rattle.clock.proofs.Looking.{present-demand}
use Rattle.clock.proofs.Next.{waits}
use Rattle.clock.proofs.Present.{reported}
use Rattle.clock.proofs.Path.{has_steps, stops_by, step-below}
use Rattle.clock.proofs.Repeated.{again, part, IsFilled, filled, all-ready, step-same, set-again, standing-again, order-again, count-again, tables-again, all-of, as-found}
use Rattle.clock.proofs.Taking.{count-reports}
use Rattle.clock.proofs.Totals.{open-count}

-- no clock makes more steps than its prices can rise
pub steps-most : (c : ClockHistory) → steps_of c ≤ length c.terms.goods * c.terms.ceiling
steps-most c = by (cases_lt (length c.terms.goods * c.terms.ceiling) (steps_of c))
  where
    by : (length c.terms.goods * c.terms.ceiling < steps_of c) ⊎ (steps_of c ≤ length c.terms.goods * c.terms.ceiling) → steps_of c ≤ length c.terms.goods * c.terms.ceiling
    by (inl above) =
        let h = has_steps c in
        let s = stops_by c (length c.terms.goods * c.terms.ceiling) (omega arith) (λ m below. h.before m (omega (arith, below, above))) in
        absurd (let f : true ≡ false = sym (h.before (length c.terms.goods * c.terms.ceiling) above) ∙ s in cc)
    by (inr up) = up

-- nobody has reported in the round
pub idle-nobody : (c : ClockHistory) (current steps : ℕ) (phase : Phase) (prices : List ℕ) (account : Sums) → HasStanding c current steps phase prices account → IsIdle c → (j : ℕ) → demand_in c.reports (steps + 1) j ≡ None
idle-nobody c current steps phase prices account k idle j = ap (λ n. demand_in c.reports (n + 1) j) k.steps_are ∙ idle.nobody j

none-present : (steps : ℕ) (present : List Report) → AllByRecursion (λ (r : Report). r.round ≡ steps + 1) present → ((j : ℕ) → demand_in present (steps + 1) j ≡ None) → present ≡ []
none-present steps [] all none = refl
none-present steps (r ∷ present) all none = absurd (by (none r.bidder))
  where
    named : is_named (steps + 1) r.bidder r ≡ true
    named = let a : nat_eq r.round (steps + 1) ≡ true = (let e = all.0 in grind (arith, nat_tests)) in let b : nat_eq r.bidder r.bidder ≡ true = grind (arith, nat_tests) in λ i. a i && b i

    by : demand_in (r ∷ present) (steps + 1) r.bidder ≡ None → ⊥
    by e = let f : Some r.demand ≡ None = sym (ap (λ t. option_map (λ (x : Report). x.demand) (cond t (Some r) (find (is_named (steps + 1) r.bidder) present))) named) ∙ e in (let g : Some r.demand ≡ None = f in cc)

pub idle-present : (c : ClockHistory) (present : List Report) (left steps : ℕ) (phase : Phase) (prices : List ℕ) (account : Sums) (tables : List (Option LeastTable)) (sums : List ℤ) → HasStanding c (reports_before c steps) steps phase prices account → KeepsRound c present left steps tables sums → IsIdle c → present ≡ []
idle-present c present left steps phase prices account tables sums k round idle =
    let A : List Report → Type 0 = λ rs. AllByRecursion (λ (r : Report). r.round ≡ steps + 1) rs in
    none-present steps present (subst A (sym round.present_are) k.present)
    (λ j. present-demand c present left steps phase prices account tables sums (steps + 1) j k round refl ∙ idle-nobody c (reports_before c steps) steps phase prices account k idle j)

-- the round before was full, and its step set had goods
pub record HadStep (c : ClockHistory) (steps : ℕ) : Type 0 where
  pub some : 1 ≤ steps
  pub full : is_full (members_of c) c.reports steps ≡ true
  pub goods : step_set_after c (steps - 1) ≢ 0
  pub member : 1 ≤ length (members_of c)

nobody-steps : (goods : List ℕ) (f : ℕ → List (List ℕ)) (ms : List ℕ) → length ms ≡ 0 → step_set goods f ms ≡ 0
nobody-steps goods f [] e = step-same goods f (demands_in [] 1) [] tt ∙ empty-stops [] goods refl
nobody-steps goods f (j ∷ ms) e = absurd (omega arith)

pub had-step : (c : ClockHistory) (current steps : ℕ) (phase : Phase) (prices : List ℕ) (account : Sums) → HasStanding c current steps phase prices account → IsIdle c → HadStep c steps
had-step c current steps phase prices account k idle =
    let some : 1 ≤ steps = (let s = idle.some_step in omega (arith, s, k.steps_are)) in
    let on = kept-path c current steps phase prices account k (steps - 1) (omega (arith, some)) in
    let g = both (is_full_after c (steps - 1)) (not (nat_eq (step_set_after c (steps - 1)) 0) && is_none (good_at_ceiling c (steps - 1))) on in
    let h = both (not (nat_eq (step_set_after c (steps - 1)) 0)) (is_none (good_at_ceiling c (steps - 1))) g.1 in
    let goods : step_set_after c (steps - 1) ≢ 0 = (let t = h.0 in grind (arith, nat_tests)) in
    let e : steps - 1 + 1 ≡ steps = omega (arith, some) in
    record {
      some = some;
      full = ap (λ n. is_full (members_of c) c.reports n) (sym e) ∙ g.0;
      goods = goods;
      member = by (cases_lt 0 (length (members_of c))) goods;
    }
  where
    by : (0 < length (members_of c)) ⊎ (length (members_of c) ≤ 0) → step_set_after c (steps - 1) ≢ 0 → 1 ≤ length (members_of c)
    by (inl more) goods = omega (arith, more)
    by (inr none) goods = absurd (goods (nobody-steps c.terms.goods (demands_in c.reports (steps - 1 + 1)) (members_of c) (omega (arith, none))))

-- the clock is running
pub idle-running : (c : ClockHistory) (present : List Report) (left steps : ℕ) (phase : Phase) (prices : List ℕ) (account : Sums) (tables : List (Option LeastTable)) (sums : List ℤ) → HasStanding c (reports_before c steps) steps phase prices account → KeepsRound c present left steps tables sums → IsIdle c → (left ≡ length (members_of c)) × (phase ≡ Running)
idle-running c present left steps phase prices account tables sums k round idle =
    let none = ap length (idle-present c present left steps phase prices account tables sums k round idle) in
    let all : left ≡ length (members_of c) = omega (arith, none, round.counted) in
    let had = had-step c (reports_before c steps) steps phase prices account k idle in
    let w = waits c steps (open-count (members_of c) c.reports (steps + 1) (λ e. (let m = had.member in omega (arith, all, round.missing, e, m)))) in
    (all, k.phase_is ∙ w.0)

pub idle-filled : (c : ClockHistory) (present : List Report) (left steps : ℕ) (phase : Phase) (prices : List ℕ) (account : Sums) (tables : List (Option LeastTable)) (sums : List ℤ) → HasStanding c (reports_before c steps) steps phase prices account → KeepsRound c present left steps tables sums → IsIdle c → IsFilled c steps prices account
idle-filled c present left steps phase prices account tables sums k round idle =
    let had = had-step c (reports_before c steps) steps phase prices account k idle in
    let run = idle-running c present left steps phase prices account tables sums k round idle in
    let none = ap length (idle-present c present left steps phase prices account tables sums k round idle) in
    let n = count-reports c present left steps 0 phase prices account tables sums k round in
    let e : c ≡ part c steps [] = (let p = append-nil c.reports in λ i. record c { reports = sym p i }) in
    let H : ClockHistory → Type 0 = λ z. HasStanding z (reports_before c steps) steps Running prices account in
    let P : Phase → Type 0 = λ p. HasStanding c (reports_before c steps) steps p prices account in
    let O : ClockHistory → Type 0 = λ z. (i : ℕ) (r : Report) → slice_get z.reports i ≡ Some r → r.round ≡ i / length (members_of c) + 1 in
    let nobody = idle-nobody c (reports_before c steps) steps phase prices account k idle in
    filled c steps prices account (members_of c) refl had.member (record {
      standing = subst H e (subst P run.1 k);
      order = subst O e round.in_order;
      count = ap (λ (z : ClockHistory). length z.reports) (sym e) ∙ omega (arith, n, none);
      missing = ap (λ (z : ClockHistory). missing_count (members_of c) z.reports (steps + 1)) (sym e) ∙ sym round.missing ∙ run.0;
      found = tt;
      waiting = all-of (λ j. demand_in (part c steps []).reports (steps + 1) j ≡ None) (members_of c) (λ j. ap (λ (z : ClockHistory). demand_in z.reports (steps + 1) j) (sym e) ∙ nobody j);
      members = omega arith;
      sets = ap (λ (z : ClockHistory). sets_of z steps) (sym e);
    }) (all-ready c steps k.legal had.full)

-- the repeated round is the one that the places give
map-same : (f g : ℕ → Report) (ms : List ℕ) → ((j : ℕ) → f j ≡ g j) → map f ms ≡ map g ms
map-same f g [] same = refl
map-same f g (j ∷ ms) same = λ i. same j i ∷ map-same f g ms same i

pub again-same : (c : ClockHistory) (steps from : ℕ) → 1 ≤ length (members_of c) → 1 ≤ steps → ((i : ℕ) (r : Report) → slice_get c.reports i ≡ Some r → r.round ≡ i / length (members_of c) + 1) → from ≡ (steps - 1) * length (members_of c)
    → map (again_among (take (length (members_of c)) (drop from c.reports)) (steps + 1)) (members_of c) ≡ map (again c steps) (members_of c)
again-same c steps from some one order is =
    map-same (again_among (take (length (members_of c)) (drop from c.reports)) (steps + 1)) (again c steps) (members_of c)
    (λ j. let f = find-in_order (length (members_of c)) steps j c.reports some one order in
    let e = ap (λ n. find (λ (r : Report). nat_eq r.bidder j) (take (length (members_of c)) (drop n c.reports))) is ∙ sym f in
    λ i. record { bidder = j; round = steps + 1; demand = unwrap_or (option_map (λ (r : Report). r.demand) (e i)) [] })

some-find : (o : Option Report) → is_some (option_map (λ (r : Report). r.demand) o) ≡ true → is_some o ≡ true
some-find None e = e
some-find (Some r) e = refl

pub there-again : (c : ClockHistory) (steps from j : ℕ) → 1 ≤ length (members_of c) → 1 ≤ steps → ((i : ℕ) (r : Report) → slice_get c.reports i ≡ Some r → r.round ≡ i / length (members_of c) + 1) → from ≡ (steps - 1) * length (members_of c) → is_full (members_of c) c.reports steps ≡ true
    → is_member c j ≡ true → is_some (find (λ (r : Report). nat_eq r.bidder j) (take (length (members_of c)) (drop from c.reports))) ≡ true
there-again c steps from j some one order is full member =
    ap is_some (ap (λ n. find (λ (r : Report). nat_eq r.bidder j) (take (length (members_of c)) (drop n c.reports))) is ∙ sym (find-in_order (length (members_of c)) steps j c.reports some one order))
    ∙ some-find (find (is_named steps j) c.reports) (reported c steps j member full)

-- where the last round's reports begin
pub from-last : (c : ClockHistory) (present : List Report) (left steps : ℕ) (phase : Phase) (prices : List ℕ) (account : Sums) (tables : List (Option LeastTable)) (sums : List ℤ) → HasStanding c (reports_before c steps) steps phase prices account → KeepsRound c present left steps tables sums → IsIdle c
    → (length c.reports ≡ steps * length (members_of c)) × (length c.reports - length (members_of c) ≡ (steps - 1) * length (members_of c)) × (length (members_of c) ≤ length c.reports)
from-last c present left steps phase prices account tables sums k round idle =
    let had = had-step c (reports_before c steps) steps phase prices account k idle in
    let none = ap length (idle-present c present left steps phase prices account tables sums k round idle) in
    let n = count-reports c present left steps 0 phase prices account tables sums k round in
    let s : steps ≡ steps - 1 + 1 = (let o = had.some in omega (arith, o)) in
    let w : steps * length (members_of c) ≡ (steps - 1) * length (members_of c) + length (members_of c) = ap (λ z. z * length (members_of c)) s ∙ (let q : (steps - 1 + 1) * length (members_of c) ≡ (steps - 1) * length (members_of c) + length (members_of c) = grind arith in q) in
    (omega (arith, n, none), omega (arith, n, none, w), omega (arith, n, none, w))

-- What is kept with the round.
pub kept-again : (c : ClockHistory) (past : PastOf) (left steps : ℕ) (phase : Phase) (prices : List ℕ) (tables : List (Option LeastTable)) (sums : List ℤ) (account after : Sums) (set : GoodSet) → IsKept c past left steps phase prices tables sums account → IsIdle c
    → set.0 ≡ step_set_after c (steps - 1) → leads_on (part c steps (members_of c)) steps ≡ true → after.steps ≡ account.steps + 1 → ((b : ℕ) → sum_without after b ≡ sum_without account b +ℤ units_left c.terms.goods tables set.0 b)
    → IsKept (part c steps (members_of c)) (record past { reports = c.reports ++ map (again c steps) (members_of c); sets = past.sets ++ set ∷ []; spare_reports = past.spare_reports - length (members_of c) }) left (steps + 1) phase (raised prices set.0) tables sums after
kept-again c past left steps phase prices tables sums account after set k idle same leads account_steps account_sums =
    let now : ClockHistory = part c steps (members_of c) in
    let had = had-step c (reports_before c steps) steps phase prices account k.standing idle in
    let run = idle-running c _ left steps phase prices account tables sums k.standing k.round idle in
    let nobody = idle-nobody c (reports_before c steps) steps phase prices account k.standing idle in
    let f = idle-filled c _ left steps phase prices account tables sums k.standing k.round idle in
    let again_is : step_set_after now steps ≡ set.0 = set-again c steps prices account had.some f ∙ sym same in
    let inside : set.0 < 2 ^ length c.terms.goods = (let S : ℕ → Type 0 = λ n. n < 2 ^ length c.terms.goods in subst S again_is (step-below c.terms.goods (members_of c) (demands_in now.reports (steps + 1)))) in
    let stand = standing-again c steps prices account after tables set.0 nobody k.round.tables f again_is inside leads account_steps account_sums in
    let P : Phase → Type 0 = λ p. HasStanding now (reports_before c (steps + 1)) (steps + 1) p (raised prices set.0) after in
    let standing = subst P (sym run.1) stand in
    let before : steps + 1 - 1 ≡ steps = omega arith in
    let said = as-found c now steps (members_of c) f.found in
    record {
      standing = standing;
      round = round-opened now left (steps + 1) phase (raised prices set.0) after tables sums standing (count-again c steps prices account f) (order-again c steps prices account f) run.0 k.round.tables.places
          (λ j number below member. tables-again c steps prices account tables nobody k.round.tables f j number below member) k.round.tables.nobody k.round.tables.blank
          (λ number below. k.round.excess.entries number below ∙ excess-before c (steps + 1) number nobody
          ∙ ap (λ n. excess c.terms.goods (demands_in c.reports n) (members_of c) number) before
          ∙ sym (excess-same c.terms.goods (demands_in now.reports (steps + 1)) (demands_in c.reports steps) (members_of c) number said))
          k.round.excess.others;
      goods = k.goods;
      sets = map-append (λ (s : GoodSet). s.0) past.sets (set ∷ []) ∙ (λ i. (k.sets ∙ sym f.sets) i ++ sym again_is i ∷ []) ∙ sym (sets-next now steps);
    }
