-- A report more changes nothing of the rounds before the present one.
use Rattle.std.proofs.Common.{◌≡◌, ◌<◌, ◌≤◌, ◌⊎◌, inl, inr, ℕ, zero, suc, ◌+◌, true, false, not, ◌&&◌, ◌||◌, nat_eq, cond, List, [], ◌∷◌, ◌++◌, None, is_some, is_none, refl, sym, ◌∙◌, ap, arith}
use Rattle.std.specs.Prelude.{unwrap_or, ◌-ℤ◌}
use Rattle.std.specs.List.{AllByRecursion}
use Rattle.lot_base.specs.Goods.{raised, lowered}
use Rattle.lot_base.specs.Economy.{without}
use Rattle.lot_base.specs.Steps.{excess}
use Rattle.lot_base.proofs.Within.{both}
use Rattle.demand_set.specs.declared.reports.Report.{Report}
use Rattle.lyapunov.proofs.Bidders.{all-without}
use Rattle.lyapunov.proofs.Growing.{step_set-same, excess-same}
use Rattle.clock.specs.Reports.{demand_in, demands_in, is_full}
use Rattle.clock.specs.Standing.{good_from}
use Rattle.clock.proofs.Append.{demand-stays, full-stays}
use Rattle.clock.proofs.Path.{compare-or}
use Rattle.overshoot.specs.Shortfall.{shortfall}
use Rattle.two_way.specs.Falling.{fall_set}
use Rattle.two_way.specs.Histories.{TwoWayHistory, IsStart, members_in, told}
use Rattle.two_way.specs.Standing.{demands_after, is_full_after, up_set_after, is_down, prices_after, down_set_after, set_after, good_at_ceiling, leads_on, steps_of, sum_after, ups_after, downs_after}
use Rattle.two_way.specs.Growth.{Grows}
use Rattle.two_way.proofs.FallSets.{fall_set-same, shortfall-same}
use Rattle.two_way.proofs.Rounds.{leads, before-last, has-steps}

-- in a full round all demands stay
all-stay : (js : List ℕ) (reports : List Report) (r : Report) (round : ℕ) → is_full js reports round ≡ true → AllByRecursion (λ j. demands_in (reports ++ r ∷ []) round j ≡ demands_in reports round j) js
all-stay [] reports r round e = tt
all-stay (j ∷ js) reports r round e =
    let h = both (is_some (demand_in reports round j)) (is_full js reports round) e in
    (ap (λ o. unwrap_or o []) (demand-stays reports r round j h.0), all-stay js reports r round h.1)

demands-stay : (h : TwoWayHistory) (r : Report) (n : ℕ) → is_full_after h n ≡ true → AllByRecursion (λ j. demands_after (told h r) n j ≡ demands_after h n j) (members_in h)
demands-stay h r n full = all-stay (members_in h) h.reports r (n + 1) full

up_set-stays : (h : TwoWayHistory) (r : Report) (n : ℕ) → is_full_after h n ≡ true → up_set_after (told h r) n ≡ up_set_after h n
up_set-stays h r n full = step_set-same h.terms.goods (demands_after (told h r) n) (demands_after h n) (members_in h) (demands-stay h r n full)

pub is_down-stays : (h : TwoWayHistory) (r : Report) (n : ℕ) → ((m : ℕ) → m ≤ n → is_full_after h m ≡ true) → is_down (told h r) n ≡ is_down h n
unfolding is_down
is_down-stays h r zero full = ap (λ k. nat_eq k 0) (up_set-stays h r 0 (full 0 (omega arith)))
is_down-stays h r (suc n) full =
    let before = is_down-stays h r n (λ m up. full m (omega arith)) in
    let now = up_set-stays h r (suc n) (full (suc n) (omega arith)) in
    λ i. before i || nat_eq (now i) 0

pub prices-stay : (h : TwoWayHistory) (r : Report) (n : ℕ) → ((m : ℕ) → m < n → is_full_after h m ≡ true) → prices_after (told h r) n ≡ prices_after h n
unfolding prices_after
prices-stay h r zero full = refl
prices-stay h r (suc n) full =
    let p = prices-stay h r n (λ m up. full m (omega arith)) in
    let d = is_down-stays h r n (λ m up. full m (omega arith)) in
    let up = up_set-stays h r n (full n (omega arith)) in
    let down = ap (λ q. fall_set h.terms.goods h.terms.opening q (demands_after (told h r) n) (members_in h)) p
    ∙ fall_set-same h.terms.goods h.terms.opening (prices_after h n) (demands_after (told h r) n) (demands_after h n) (members_in h) (demands-stay h r n (full n (omega arith))) in
    λ i. cond (d i) (lowered (p i) (down i)) (raised (p i) (up i))

pub down_set-stays : (h : TwoWayHistory) (r : Report) (n : ℕ) → ((m : ℕ) → m ≤ n → is_full_after h m ≡ true) → down_set_after (told h r) n ≡ down_set_after h n
down_set-stays h r n full =
    ap (λ q. fall_set h.terms.goods h.terms.opening q (demands_after (told h r) n) (members_in h)) (prices-stay h r n (λ m below. full m (omega arith)))
    ∙ fall_set-same h.terms.goods h.terms.opening (prices_after h n) (demands_after (told h r) n) (demands_after h n) (members_in h) (demands-stay h r n (full n (omega arith)))

pub leads_on-stays : (h : TwoWayHistory) (r : Report) (n : ℕ) → ((m : ℕ) → m ≤ n → leads_on h m ≡ true) → leads_on (told h r) n ≡ true
leads_on-stays h r n before =
    let full : (m : ℕ) → m ≤ n → is_full_after h m ≡ true = λ m up. (leads h m (before m up)).full in
    let d = is_down-stays h r n full in
    let p = prices-stay h r n (λ m below. full m (omega arith)) in
    let up = up_set-stays h r n (full n (omega arith)) in
    let down = down_set-stays h r n full in
    let set : set_after (told h r) n ≡ set_after h n = λ i. cond (d i) (down i) (up i) in
    let good : good_at_ceiling (told h r) n ≡ good_at_ceiling h n = λ i. cond (d i) None (good_from 0 h.terms.ceiling (p i) (up i)) in
    let now : is_full_after (told h r) n ≡ is_full_after h n = full-stays (members_in h) h.reports r (n + 1) (full n (omega arith)) ∙ sym (full n (omega arith)) in
    (λ i. now i && (not (nat_eq (set i) 0) && is_none (good i))) ∙ before n (omega arith)

pub sum-stays : (h : TwoWayHistory) (r : Report) (b n : ℕ) → ((m : ℕ) → m < n → is_full_after h m ≡ true) → sum_after (told h r) (without b (members_in h)) n ≡ sum_after h (without b (members_in h)) n
unfolding sum_after
sum-stays h r b zero full = refl
sum-stays h r b (suc n) full =
    let rest = sum-stays h r b n (λ m below. full m (omega arith)) in
    let here : (m : ℕ) → m ≤ n → is_full_after h m ≡ true = λ m up. full m (omega arith) in
    let d = is_down-stays h r n here in
    let up = up_set-stays h r n (full n (omega arith)) in
    let down = down_set-stays h r n here in
    let all = all-without (λ j. demands_after (told h r) n j ≡ demands_after h n j) b (members_in h) (demands-stay h r n (full n (omega arith))) in
    let x = ap (shortfall h.terms.goods (demands_after (told h r) n) (without b (members_in h))) down ∙ shortfall-same h.terms.goods (demands_after (told h r) n) (demands_after h n) (without b (members_in h)) (down_set_after h n) all in
    let y = ap (excess h.terms.goods (demands_after (told h r) n) (without b (members_in h))) up ∙ excess-same h.terms.goods (demands_after (told h r) n) (demands_after h n) (without b (members_in h)) (up_set_after h n) all in
    λ i. rest i -ℤ cond (d i) (x i) (y i)

pub ups-stay : (h : TwoWayHistory) (r : Report) (n : ℕ) → ((m : ℕ) → m < n → is_full_after h m ≡ true) → ups_after (told h r) n ≡ ups_after h n
unfolding ups_after
ups-stay h r zero full = refl
ups-stay h r (suc n) full =
    let rest = ups-stay h r n (λ m below. full m (omega arith)) in
    let d = is_down-stays h r n (λ m up. full m (omega arith)) in
    λ i. cond (d i) (rest i) (rest i + 1)

pub downs-stay : (h : TwoWayHistory) (r : Report) (n : ℕ) → ((m : ℕ) → m < n → is_full_after h m ≡ true) → downs_after (told h r) n ≡ downs_after h n
unfolding downs_after
downs-stay h r zero full = refl
downs-stay h r (suc n) full =
    let rest = downs-stay h r n (λ m below. full m (omega arith)) in
    let d = is_down-stays h r n (λ m up. full m (omega arith)) in
    λ i. cond (d i) (rest i + 1) (rest i)

pub grows : (h : TwoWayHistory) (r : Report) → IsStart h.terms h.start → Grows h r
grows h r start = record {
  steps = by (compare-or (steps_of (told h r)) (steps_of h));
  prices = λ n up. prices-stay h r n (λ m below. (leads h m (before-last h m (omega arith))).full);
  sums = λ b n up. sum-stays h r b n (λ m below. (leads h m (before-last h m (omega arith))).full);
}
  where
    by : (steps_of (told h r) < steps_of h) ⊎ ((steps_of h < steps_of (told h r)) ⊎ (steps_of (told h r) ≡ steps_of h)) → steps_of h ≤ steps_of (told h r)
    by (inl less) =
        let stays = leads_on-stays h r (steps_of (told h r)) (λ m up. before-last h m (omega arith)) in
        let f : true ≡ false = sym stays ∙ (has-steps (told h r) start).stops in
        absurd (cc)
    by (inr (inl more)) = omega (arith, more)
    by (inr (inr same)) = omega (arith, same)
