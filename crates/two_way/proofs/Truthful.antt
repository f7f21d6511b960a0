-- A two-way clock whose reports are explained by valuations: what holds of it at every moment, and at its end.
use Rattle.std.proofs.Common.{◌≡◌, ◌≢◌, ◌<◌, ◌≤◌, inl, inr, ℕ, zero, suc, ◌+◌, ◌-◌, Bool, true, false, nat_eq, cond, List, [], ◌∷◌, length, Option, Some, None, is_some, refl, sym, ◌∙◌, ap, arith, subst}
use Rattle.std.specs.Prelude.{find, option_map, unwrap_or, ℤ, pos, ◌+ℤ◌, ◌-ℤ◌, ◌≤ℤ◌}
use Rattle.std.specs.List.{AllByRecursion}
use Rattle.std.proofs.lemmas.Int.{ints}
use Rattle.std.proofs.lemmas.Bool.Decides.{nat_tests}
use Rattle.lot_base.specs.Goods.{raised, lowered, at, AtMost}
use Rattle.lot_base.specs.Economy.{demand, lyapunov, without, AllBelowCeiling, IsMinimiser}
use Rattle.lot_base.specs.Steps.{excess}
use Rattle.lot_base.specs.declared.phases.Phase.TheVariants.{Ended, Halted}
use Rattle.lot_base.proofs.Vec.{length-below}
use Rattle.lot_base.proofs.Within.{both}
use Rattle.lot_base.proofs.Openings.{at-below_all}
use Rattle.demand_set.specs.declared.reports.Report.{Report}
use Rattle.lyapunov.specs.Paths.{true_step}
use Rattle.lyapunov.proofs.Growing.{step_set-true, excess-same}
use Rattle.lyapunov.proofs.Bidders.{all-without, strong-without}
use Rattle.lyapunov.proofs.Descent.{lyapunov-raised}
use Rattle.lyapunov.proofs.Digits.{length-raised, true_step-lowers}
use Rattle.lyapunov.proofs.Entrywise.{at-rest}
use Rattle.lyapunov.proofs.Lattice.{AtMost-more, AtMost-raised}
use Rattle.lot_base.proofs.Vectors.{set_of}
use Rattle.lot_base.proofs.Sets.{raised-plus, length-set_of}
use Rattle.lyapunov.proofs.Moments.{lyapunov-positive}
use Rattle.lyapunov.proofs.Ceiling.{below_ceiling}
use Rattle.clock.specs.Reports.{is_named, demand_in, demands_in, is_full}
use Rattle.clock.specs.Standing.{phase_by}
use Rattle.clock.proofs.Truthful.{ended-by, halted-by, at-ceiling}
use Rattle.lot_base.proofs.Cells.{length-lowered}
use Rattle.overshoot.specs.Shortfall.{shortfall}
use Rattle.two_way.specs.Falling.{true_fall, IsHeld}
use Rattle.two_way.specs.Histories.{TwoWayHistory, IsStart, members_in}
use Rattle.two_way.specs.Standing.{demands_after, is_full_after, up_set_after, is_down, prices_after, down_set_after, set_after, good_at_ceiling, steps_of, phase_of, prices_of, sum_after, sum_without, ups_after, downs_after}
use Rattle.two_way.specs.Explained.{IsTrueReport, Explains as IsExplained}
use Rattle.two_way.proofs.FallSets.{fall-is, shortfall-same, fall_set-same, priced-risen, lowered-above}
use Rattle.two_way.proofs.Falls.{shortfall-is, falls, held-start, held-next, held-end}
use Rattle.two_way.specs.Kept.{was_down}
use Rattle.two_way.proofs.Rounds.{Leads, leads, turned, not-turned, set-down, set-up, good-up, good-down, prices-down, prices-up, before-last, both-ways}

-- the clock started as it may, and the valuations explain its reports
pub record Explains (u : ℕ → List ℕ → ℤ) (h : TwoWayHistory) : Type 0 where
  pub start : IsStart h.terms h.start
  pub explained : IsExplained u h

pub from-start : (u : ℕ → List ℕ → ℤ) (h : TwoWayHistory) → IsStart h.terms h.start → IsExplained u h → Explains u h
from-start u h start explained = record { start = start; explained = explained }

-- the demand of a bidder that has reported in a round is what each report of that round is
found-there : (d : ℕ → List (List ℕ)) (round j : ℕ) (reports : List Report) → AllByRecursion (λ (r : Report). r.round ≡ round → r.demand ≡ d r.bidder) reports
    → is_some (demand_in reports round j) ≡ true → demands_in reports round j ≡ d j
found-there d round j [] all e = absurd (let f : false ≡ true = e in cc)
found-there d round j (r ∷ reports) all e = by (is_named round j r) refl (λ later. found-there d round j reports all.1 later) e
  where
    by : (b : Bool) → is_named round j r ≡ b → (is_some (demand_in reports round j) ≡ true → demands_in reports round j ≡ d j)
        → is_some (option_map (λ (x : Report). x.demand) (cond b (Some r) (find (is_named round j) reports))) ≡ true
        → unwrap_or (option_map (λ (x : Report). x.demand) (cond b (Some r) (find (is_named round j) reports))) [] ≡ d j
    by true named rest f =
        let h = both (nat_eq r.round round) (nat_eq r.bidder j) named in
        let same : r.round ≡ round = (let t = h.0 in grind (arith, nat_tests)) in
        let bidder : r.bidder ≡ j = (let t = h.1 in grind (arith, nat_tests)) in
        all.0 same ∙ ap d bidder
    by false named rest f = rest f

all-there : (d : ℕ → List (List ℕ)) (round : ℕ) (reports : List Report) → AllByRecursion (λ (r : Report). r.round ≡ round → r.demand ≡ d r.bidder) reports
    → (js : List ℕ) → is_full js reports round ≡ true → AllByRecursion (λ j. demands_in reports round j ≡ d j) js
all-there d round reports all [] full = tt
all-there d round reports all (j ∷ js) full =
    let h = both (is_some (demand_in reports round j)) (is_full js reports round) full in
    (found-there d round j reports all h.0, all-there d round reports all js h.1)

each-true : (u : ℕ → List ℕ → ℤ) (h : TwoWayHistory) (n : ℕ) → n ≤ steps_of h → (reports : List Report) → AllByRecursion (IsTrueReport u h) reports
    → AllByRecursion (λ (r : Report). r.round ≡ n + 1 → r.demand ≡ demand h.terms.goods (u r.bidder) (prices_after h n)) reports
each-true u h n up [] all = tt
each-true u h n up (r ∷ reports) all = (λ round. all.0 n up round, each-true u h n up reports all.1)

-- in a full round each member demands what it truly demands at the prices
pub members-true : (u : ℕ → List ℕ → ℤ) (h : TwoWayHistory) (n : ℕ) → Explains u h → n ≤ steps_of h → is_full_after h n ≡ true
    → AllByRecursion (λ j. demands_after h n j ≡ demand h.terms.goods (u j) (prices_after h n)) (members_in h)
members-true u h n explains up full =
    all-there (λ j. demand h.terms.goods (u j) (prices_after h n)) (n + 1) h.reports (each-true u h n up h.reports explains.explained.reports) (members_in h) full

up-set-true : (u : ℕ → List ℕ → ℤ) (h : TwoWayHistory) (n : ℕ) → Explains u h → n ≤ steps_of h → is_full_after h n ≡ true
    → up_set_after h n ≡ true_step h.terms.goods u (members_in h) (prices_after h n)
up-set-true u h n explains up full = step_set-true h.terms.goods u (demands_after h n) (members_in h) (prices_after h n) (members-true u h n explains up full)

down-set-true : (u : ℕ → List ℕ → ℤ) (h : TwoWayHistory) (n : ℕ) → Explains u h → n ≤ steps_of h → is_full_after h n ≡ true
    → down_set_after h n ≡ true_fall h.terms.goods h.terms.opening u (members_in h) (prices_after h n)
down-set-true u h n explains up full =
    fall_set-same h.terms.goods h.terms.opening (prices_after h n) (demands_after h n) (λ j. demand h.terms.goods (u j) (prices_after h n)) (members_in h) (members-true u h n explains up full)

-- what holds after so many steps
pub record Course (u : ℕ → List ℕ → ℤ) (h : TwoWayHistory) (n : ℕ) : Type 0 where
  pub goods : length (prices_after h n) ≡ length h.terms.goods
  pub above : AtMost h.terms.opening (prices_after h n)
  pub low : (pos n +ℤ lyapunov h.terms.goods u (members_in h) (prices_after h n)) ≤ℤ lyapunov h.terms.goods u (members_in h) h.start
  pub held : was_down h n ≡ true → IsHeld h.terms.opening (lyapunov h.terms.goods u (members_in h)) (prices_after h n)
  pub below : AllBelowCeiling h.terms.goods u h.terms.ceiling (members_in h) → (k : ℕ) → at (prices_after h n) k < h.terms.ceiling
  pub sums : (b : ℕ) → sum_after h (without b (members_in h)) n ≡ lyapunov h.terms.goods u (without b (members_in h)) (prices_after h n) -ℤ lyapunov h.terms.goods u (without b (members_in h)) h.start

opening-goods : (h : TwoWayHistory) → length h.terms.opening ≡ length h.terms.goods
opening-goods h = h.terms.opens.goods

nothing-less : (a : ℤ) → pos 0 ≡ a -ℤ a
nothing-less a = omega (arith, ints)

nothing-more : (a : ℤ) → (pos 0 +ℤ a) ≤ℤ a
nothing-more a = omega (arith, ints)

course-start : (u : ℕ → List ℕ → ℤ) (h : TwoWayHistory) → Explains u h → Course u h 0
unfolding prices_after sum_after
course-start u h explains = record {
  goods = sym (length-below h.terms.opening h.start explains.start.above) ∙ opening-goods h;
  above = explains.start.above;
  low = nothing-more (lyapunov h.terms.goods u (members_in h) h.start);
  held = λ e. absurd (let f : false ≡ true = e in cc);
  below = λ low k. let r = h.terms.ceiling_in_range.at_least in at-below_all h.terms.ceiling h.start k (omega arith) explains.start.below;
  sums = λ b. nothing-less (lyapunov h.terms.goods u (without b (members_in h)) h.start);
}

-- a step takes at least 1 off the function
low-by : (n : ℕ) (a b c : ℤ) → (b +ℤ pos 1) ≤ℤ a → (pos n +ℤ a) ≤ℤ c → (pos (suc n) +ℤ b) ≤ℤ c
low-by n a b c h i = omega (arith, ints)

-- and the sum grows by what the function rises
sum-by : (new old x a b c : ℤ) → new ≡ old -ℤ x → old ≡ a -ℤ c → x ≡ a -ℤ b → new ≡ b -ℤ c
sum-by new old x a b c e f g = omega (arith, ints)

pub sum-up : (h : TwoWayHistory) (bidders : List ℕ) (n : ℕ) → is_down h n ≡ false
    → sum_after h bidders (suc n) ≡ sum_after h bidders n -ℤ excess h.terms.goods (demands_after h n) bidders (up_set_after h n)
unfolding sum_after
sum-up h bidders n e =
    ap (λ b. sum_after h bidders n -ℤ cond b (shortfall h.terms.goods (demands_after h n) bidders (down_set_after h n)) (excess h.terms.goods (demands_after h n) bidders (up_set_after h n))) e

pub sum-down : (h : TwoWayHistory) (bidders : List ℕ) (n : ℕ) → is_down h n ≡ true
    → sum_after h bidders (suc n) ≡ sum_after h bidders n -ℤ shortfall h.terms.goods (demands_after h n) bidders (down_set_after h n)
unfolding sum_after
sum-down h bidders n e =
    ap (λ b. sum_after h bidders n -ℤ cond b (shortfall h.terms.goods (demands_after h n) bidders (down_set_after h n)) (excess h.terms.goods (demands_after h n) bidders (up_set_after h n))) e

raised-above : (o p : List ℕ) (set : ℕ) → AtMost o p → AtMost o (raised p set)
raised-above o p set above =
    let P : List ℕ → Type 0 = AtMost o in
    subst P (sym (raised-plus p set)) (AtMost-more o p _ above (AtMost-raised p (set_of (length p) set) (length-set_of (length p) set)))

course-up : (u : ℕ → List ℕ → ℤ) (h : TwoWayHistory) (n : ℕ) → Explains u h → suc n ≤ steps_of h → is_full_after h n ≡ true → is_down h n ≡ false → Course u h n → Course u h (suc n)
course-up u h n explains up full e c =
    let s = h.terms.goods in
    let js = members_in h in
    let p = prices_after h n in
    let set = up_set_after h n in
    let is = up-set-true u h n explains (omega arith) full in
    let some = (not-turned h n e).1 in
    let q = raised p set in
    let next : q ≡ prices_after h (suc n) = sym (prices-up h n e) in
    let G : List ℕ → Type 0 = λ r. length r ≡ length s in
    let A : List ℕ → Type 0 = λ r. AtMost h.terms.opening r in
    let L : List ℕ → Type 0 = λ r. (pos (suc n) +ℤ lyapunov s u js r) ≤ℤ lyapunov s u js h.start in
    let B : List ℕ → Type 0 = λ r. (k : ℕ) → at r k < h.terms.ceiling in
    let D : ℕ → Type 0 = λ m. (lyapunov s u js (raised p m) +ℤ pos 1) ≤ℤ lyapunov s u js p in
    let down = subst D (sym is) (true_step-lowers s u js explains.explained.substitutes p c.goods (λ none. some (is ∙ none))) in
    record {
      goods = subst G next (length-raised p set ∙ c.goods);
      above = subst A next (raised-above h.terms.opening p set c.above);
      low = subst L next (low-by n (lyapunov s u js p) (lyapunov s u js q) (lyapunov s u js h.start) down c.low);
      held = λ f. absurd (let g : false ≡ true = sym e ∙ f in cc);
      below = λ low. subst B next (λ k. below_ceiling s u h.terms.ceiling js explains.explained.substitutes explains.explained.valuations low p (set ∷ []) c.goods (some, is, tt) k (c.below low k));
      sums = λ b.
          let bs = without b js in
          let S : List ℕ → Type 0 = λ r. sum_after h bs (suc n) ≡ lyapunov s u bs r -ℤ lyapunov s u bs h.start in
          let all = all-without (λ j. demands_after h n j ≡ demand s (u j) p) b js (members-true u h n explains (omega arith) full) in
          let x = excess-same s (demands_after h n) (λ j. demand s (u j) p) bs set all ∙ lyapunov-raised s u bs (strong-without s u b js explains.explained.substitutes) p set c.goods in
          subst S next (sum-by (sum_after h bs (suc n)) (sum_after h bs n) (excess s (demands_after h n) bs set) (lyapunov s u bs p) (lyapunov s u bs q) (lyapunov s u bs h.start) (sum-up h bs n e) (c.sums b) x);
    }

-- once the direction is down, some minimum lies below
pub held-down : (u : ℕ → List ℕ → ℤ) (h : TwoWayHistory) (n : ℕ) → Explains u h → n ≤ steps_of h → is_full_after h n ≡ true → is_down h n ≡ true → Course u h n
    → IsHeld h.terms.opening (lyapunov h.terms.goods u (members_in h)) (prices_after h n)
held-down u h n explains up full e c = elim (turned h n e) [
  | inl before ↦ c.held before
  | inr none ↦ held-start h.terms.goods u (members_in h) explains.explained.substitutes h.terms.opening (prices_after h n) c.goods c.above (sym (up-set-true u h n explains up full) ∙ none)
]

lowered-no_more : (p : List ℕ) (set k : ℕ) → at (lowered p set) k ≤ at p k
lowered-no_more p set k = let e = ap (λ q. at q k) (lowered-above p set) in omega (arith, at-rest p (set_of (length p) set) k)

course-down : (u : ℕ → List ℕ → ℤ) (h : TwoWayHistory) (n : ℕ) → Explains u h → suc n ≤ steps_of h → is_full_after h n ≡ true → down_set_after h n ≢ 0 → is_down h n ≡ true → Course u h n → Course u h (suc n)
course-down u h n explains up full some e c =
    let s = h.terms.goods in
    let o = h.terms.opening in
    let js = members_in h in
    let p = prices_after h n in
    let set = down_set_after h n in
    let is = down-set-true u h n explains (omega arith) full in
    let held = held-down u h n explains (omega arith) full e c in
    let q = lowered p set in
    let next : q ≡ prices_after h (suc n) = sym (prices-down h n e) in
    let lo : length o ≡ length p = length-below o p c.above in
    let D : ℕ → Type 0 = λ m. (lyapunov s u js (lowered p m) +ℤ pos 1) ≤ℤ lyapunov s u js p in
    let down = subst D (sym is) (falls s u js explains.explained.substitutes o p c.goods c.above (λ none. some (is ∙ none))) in
    let H : ℕ → Type 0 = λ m. IsHeld o (lyapunov s u js) (lowered p m) in
    let kept = subst H (sym is) (held-next s u js explains.explained.substitutes o p c.goods held) in
    let G : List ℕ → Type 0 = λ r. length r ≡ length s in
    let K : List ℕ → Type 0 = IsHeld o (lyapunov s u js) in
    let L : List ℕ → Type 0 = λ r. (pos (suc n) +ℤ lyapunov s u js r) ≤ℤ lyapunov s u js h.start in
    let B : List ℕ → Type 0 = λ r. (k : ℕ) → at r k < h.terms.ceiling in
    record {
      goods = subst G next (length-lowered p set ∙ c.goods);
      above = (subst K next kept).above;
      low = subst L next (low-by n (lyapunov s u js p) (lyapunov s u js q) (lyapunov s u js h.start) down c.low);
      held = λ f. subst K next kept;
      below = λ low. subst B next (λ k. let i = c.below low k in let j = lowered-no_more p set k in omega arith);
      sums = λ b.
          let bs = without b js in
          let S : List ℕ → Type 0 = λ r. sum_after h bs (suc n) ≡ lyapunov s u bs r -ℤ lyapunov s u bs h.start in
          let all = all-without (λ j. demands_after h n j ≡ demand s (u j) p) b js (members-true u h n explains (omega arith) full) in
          let priced = priced-risen o p set lo (fall-is s o p (demands_after h n) js).risen in
          let x = shortfall-same s (demands_after h n) (λ j. demand s (u j) p) bs set all ∙ shortfall-is s u bs (strong-without s u b js explains.explained.substitutes) p set c.goods priced in
          subst S next (sum-by (sum_after h bs (suc n)) (sum_after h bs n) (shortfall s (demands_after h n) bs set) (lyapunov s u bs p) (lyapunov s u bs q) (lyapunov s u bs h.start) (sum-down h bs n e) (c.sums b) x);
    }

pub course : (u : ℕ → List ℕ → ℤ) (h : TwoWayHistory) → Explains u h → (n : ℕ) → n ≤ steps_of h → Course u h n
course u h explains zero up = course-start u h explains
course u h explains (suc n) up =
    let c = course u h explains n (omega arith) in
    let l = leads h n (before-last h n (omega arith)) in
    by l c (is_down h n) refl
  where
    by : Leads h n → Course u h n → (b : Bool) → is_down h n ≡ b → Course u h (suc n)
    by l c false e = course-up u h n explains up l.full e c
    by l c true e = course-down u h n explains up l.full (λ none. l.some (set-down h n e ∙ none)) e c

-- each step lowers the function by at least 1, so there are no more steps than its value at the start
pub few-steps : (u : ℕ → List ℕ → ℤ) (h : TwoWayHistory) → Explains u h → pos (ups_after h (steps_of h) + downs_after h (steps_of h)) ≤ℤ lyapunov h.terms.goods u (members_in h) h.start
few-steps u h explains =
    let c = course u h explains (steps_of h) (omega arith) in
    let P : ℕ → Type 0 = λ n. pos n ≤ℤ lyapunov h.terms.goods u (members_in h) h.start in
    subst P (sym (both-ways h (steps_of h))) (bound (steps_of h) (lyapunov h.terms.goods u (members_in h) (prices_of h)) (lyapunov h.terms.goods u (members_in h) h.start) c.low
    (lyapunov-positive h.terms.goods u (members_in h) (prices_of h) explains.explained.valuations))
  where
    bound : (n : ℕ) (a b : ℤ) → (pos n +ℤ a) ≤ℤ b → pos 0 ≤ℤ a → pos n ≤ℤ b
    bound n a b h i = omega (arith, ints)

-- the sum telescopes
pub sum-rise : (u : ℕ → List ℕ → ℤ) (h : TwoWayHistory) (b : ℕ) → Explains u h
    → sum_without h b ≡ lyapunov h.terms.goods u (without b (members_in h)) (prices_of h) -ℤ lyapunov h.terms.goods u (without b (members_in h)) h.start
sum-rise u h b explains = (course u h explains (steps_of h) (omega arith)).sums b

full-when : (full empty : Bool) (good : Option ℕ) → phase_by full empty good ≡ Ended → full ≡ true
full-when full empty good e = (ended-by full empty good e).0

pub full-ended : (h : TwoWayHistory) → phase_of h ≡ Ended → is_full_after h (steps_of h) ≡ true
full-ended h e = full-when (is_full_after h (steps_of h)) (nat_eq (set_after h (steps_of h)) 0) (good_at_ceiling h (steps_of h)) e

-- where the clock has ended its prices minimise the function over all prices from the opening on
pub minimises : (u : ℕ → List ℕ → ℤ) (h : TwoWayHistory) → Explains u h → phase_of h ≡ Ended → IsMinimiser h.terms.opening (lyapunov h.terms.goods u (members_in h)) (prices_of h)
minimises u h explains ended =
    let n = steps_of h in
    let c = course u h explains n (omega arith) in
    let f = ended-by (is_full_after h n) (nat_eq (set_after h n) 0) (good_at_ceiling h n) ended in
    by c f.0 (none (set_after h n) f.1) (is_down h n) refl
  where
    none : (m : ℕ) → nat_eq m 0 ≡ true → m ≡ 0
    none m t = grind (arith, nat_tests)

    by : Course u h (steps_of h) → is_full_after h (steps_of h) ≡ true → set_after h (steps_of h) ≡ 0 → (b : Bool) → is_down h (steps_of h) ≡ b
        → IsMinimiser h.terms.opening (lyapunov h.terms.goods u (members_in h)) (prices_of h)
    by c full empty false e = absurd ((not-turned h (steps_of h) e).1 (sym (set-up h (steps_of h) e) ∙ empty))
    by c full empty true e =
        held-end h.terms.goods u (members_in h) explains.explained.substitutes h.terms.opening (prices_of h) c.goods (held-down u h (steps_of h) explains (omega arith) full e c)
        (sym (down-set-true u h (steps_of h) explains (omega arith) full) ∙ sym (set-down h (steps_of h) e) ∙ empty)

-- where all values are below the ceiling it is never halted
pub never-halted : (u : ℕ → List ℕ → ℤ) (h : TwoWayHistory) (k : ℕ) → Explains u h → AllBelowCeiling h.terms.goods u h.terms.ceiling (members_in h) → phase_of h ≡ Halted k → ⊥
never-halted u h k explains low halted =
    let n = steps_of h in
    let c = course u h explains n (omega arith) in
    let good = halted-by (is_full_after h n) (nat_eq (set_after h n) 0) (good_at_ceiling h n) k halted in
    by c good (is_down h n) refl
  where
    by : Course u h (steps_of h) → good_at_ceiling h (steps_of h) ≡ Some k → (b : Bool) → is_down h (steps_of h) ≡ b → ⊥
    by c good true e = (let f : None ≡ Some k = sym (good-down h (steps_of h) e) ∙ good in cc)
    by c good false e =
        let there = at-ceiling 0 h.terms.ceiling (prices_of h) (up_set_after h (steps_of h)) k (sym (good-up h (steps_of h) e) ∙ good) in
        let none : k - 0 ≡ k = omega arith in
        let high = ap (at (prices_of h)) (sym none) ∙ there.1 in
        let below = c.below low k in
        absurd (omega arith)
