-- The rounds of a two-way clock: which lead on, which way they go, and how many there are at most.
use Rattle.std.proofs.Common.{◌≡◌, ◌≢◌, ◌<◌, ◌≤◌, ◌⊎◌, inl, inr, ℕ, zero, suc, ◌+◌, ◌-◌, ◌*◌, ◌/◌, ◌%◌, ◌^◌, Bool, true, false, not, ◌&&◌, ◌||◌, nat_eq, cond, List, [], ◌∷◌, length, None, is_none, refl, sym, ◌∙◌, ap, subst, arith}
use Rattle.std.proofs.lemmas.Bool.Decides.{nat_tests}
use Rattle.std.proofs.Math.Nat.{pow-succ'}
use Rattle.lot_base.specs.Goods.{raised, lowered, AllPriced}
use Rattle.lot_base.proofs.Within.{both}
use Rattle.lot_base.proofs.Cells.{length-raised, length-lowered}
use Rattle.lot_base.proofs.Vec.{length-below}
use Rattle.clock.specs.Standing.{good_from}
use Rattle.clock.proofs.Ceiling.{total, AllUpTo, raises}
use Rattle.clock.proofs.Path.{none-from, step-below, compare-or, up-below, total-up}
use Rattle.two_way.specs.Histories.{TwoWayHistory, IsStart, members_in}
use Rattle.two_way.specs.Standing.{demands_after, is_full_after, up_set_after, is_down, prices_after, down_set_after, set_after, good_at_ceiling, leads_on, HasSteps, steps_from, steps_of, ups_after, downs_after}
use Rattle.two_way.specs.Kept.{was_down}
use Rattle.two_way.proofs.FallSets.{fall-is, priced-risen}

-- what a round that leads on has
pub record Leads (h : TwoWayHistory) (n : ℕ) : Type 0 where
  pub full : is_full_after h n ≡ true
  pub some : set_after h n ≢ 0
  pub free : good_at_ceiling h n ≡ None

pub leads : (h : TwoWayHistory) (n : ℕ) → leads_on h n ≡ true → Leads h n
leads h n e =
    let g = both (is_full_after h n) (not (nat_eq (set_after h n) 0) && is_none (good_at_ceiling h n)) e in
    let k = both (not (nat_eq (set_after h n) 0)) (is_none (good_at_ceiling h n)) g.1 in
    record { full = g.0; some = apart (set_after h n) k.0; free = none-from (good_at_ceiling h n) k.1 }
  where
    apart : (m : ℕ) → not (nat_eq m 0) ≡ true → m ≢ 0
    apart m t = grind (arith, nat_tests)

is-or : (a b : Bool) → (a || b) ≡ true → (a ≡ true) ⊎ (b ≡ true)
is-or true b e = inl refl
is-or false b e = inr e

is-neither : (a b : Bool) → (a || b) ≡ false → (a ≡ false) × (b ≡ false)
is-neither true b e = absurd (let f : true ≡ false = e in cc)
is-neither false b e = (refl, e)

zero-test : (m : ℕ) → nat_eq m 0 ≡ true → m ≡ 0
zero-test m e = grind (arith, nat_tests)

some-test : (m : ℕ) → nat_eq m 0 ≡ false → m ≢ 0
some-test m e z = let f : nat_eq m 0 ≡ true = grind (arith, nat_tests) in let g : true ≡ false = sym f ∙ e in cc

-- the direction is down where it was before, or where no set is in excess demand
pub turned : (h : TwoWayHistory) (n : ℕ) → is_down h n ≡ true → (was_down h n ≡ true) ⊎ (up_set_after h n ≡ 0)
unfolding is_down
turned h zero e = inr (zero-test (up_set_after h 0) e)
turned h (suc n) e = elim (is-or (is_down h n) (nat_eq (up_set_after h (suc n)) 0) e) [
  | inl before ↦ inl before
  | inr now ↦ inr (zero-test (up_set_after h (suc n)) now)
]

pub not-turned : (h : TwoWayHistory) (n : ℕ) → is_down h n ≡ false → (was_down h n ≡ false) × (up_set_after h n ≢ 0)
unfolding is_down
not-turned h zero e = (refl, some-test (up_set_after h 0) e)
not-turned h (suc n) e = let f = is-neither (is_down h n) (nat_eq (up_set_after h (suc n)) 0) e in (f.0, some-test (up_set_after h (suc n)) f.1)

-- one step, by its direction
pub set-down : (h : TwoWayHistory) (n : ℕ) → is_down h n ≡ true → set_after h n ≡ down_set_after h n
set-down h n e = ap (λ b. cond b (down_set_after h n) (up_set_after h n)) e

pub set-up : (h : TwoWayHistory) (n : ℕ) → is_down h n ≡ false → set_after h n ≡ up_set_after h n
set-up h n e = ap (λ b. cond b (down_set_after h n) (up_set_after h n)) e

pub good-down : (h : TwoWayHistory) (n : ℕ) → is_down h n ≡ true → good_at_ceiling h n ≡ None
good-down h n e = ap (λ b. cond b None (good_from 0 h.terms.ceiling (prices_after h n) (up_set_after h n))) e

pub good-up : (h : TwoWayHistory) (n : ℕ) → is_down h n ≡ false → good_at_ceiling h n ≡ good_from 0 h.terms.ceiling (prices_after h n) (up_set_after h n)
good-up h n e = ap (λ b. cond b None (good_from 0 h.terms.ceiling (prices_after h n) (up_set_after h n))) e

pub prices-down : (h : TwoWayHistory) (n : ℕ) → is_down h n ≡ true → prices_after h (suc n) ≡ lowered (prices_after h n) (down_set_after h n)
unfolding prices_after
prices-down h n e = ap (λ b. cond b (lowered (prices_after h n) (down_set_after h n)) (raised (prices_after h n) (up_set_after h n))) e

pub prices-up : (h : TwoWayHistory) (n : ℕ) → is_down h n ≡ false → prices_after h (suc n) ≡ raised (prices_after h n) (up_set_after h n)
unfolding prices_after
prices-up h n e = ap (λ b. cond b (lowered (prices_after h n) (down_set_after h n)) (raised (prices_after h n) (up_set_after h n))) e

pub prices-start : (h : TwoWayHistory) → prices_after h 0 ≡ h.start
unfolding prices_after
prices-start h = refl

pub one-more : (h : TwoWayHistory) (n : ℕ) → ((m : ℕ) → m < n → leads_on h m ≡ true) → leads_on h n ≡ true → (m : ℕ) → m < suc n → leads_on h m ≡ true
one-more h n before e m below = pick (compare-or m n)
  where
    pick : (m < n) ⊎ ((n < m) ⊎ (m ≡ n)) → leads_on h m ≡ true
    pick (inl less) = before m less
    pick (inr (inl more)) = absurd (omega arith)
    pick (inr (inr same)) = ap (leads_on h) same ∙ e

-- each round before the last one leads on
pub before-from : (h : TwoWayHistory) (limit start : ℕ) → ((m : ℕ) → m < start → leads_on h m ≡ true) → (m : ℕ) → m < steps_from limit h start → leads_on h m ≡ true
unfolding steps_from
before-from h zero start before = before
before-from h (suc limit) start before = by (leads_on h start) refl (λ longer. before-from h limit (suc start) longer)
  where
    by : (b : Bool) → leads_on h start ≡ b → (((m : ℕ) → m < suc start → leads_on h m ≡ true) → (m : ℕ) → m < steps_from limit h (suc start) → leads_on h m ≡ true)
        → (m : ℕ) → m < elim b [ true ↦ steps_from limit h (suc start) | false ↦ start ] → leads_on h m ≡ true
    by false e rest = before
    by true e rest = rest (one-more h start before e)

pub before-last : (h : TwoWayHistory) (m : ℕ) → m < steps_of h → leads_on h m ≡ true
unfolding steps_of
before-last h m below = before-from h (2 * (length h.terms.goods * h.terms.ceiling)) 0 (λ k less. absurd (omega arith)) m below

-- the steps are the steps up and the steps down
pub both-ways : (h : TwoWayHistory) (n : ℕ) → ups_after h n + downs_after h n ≡ n
unfolding ups_after downs_after
both-ways h zero = refl
both-ways h (suc n) = by (is_down h n) (both-ways h n)
  where
    by : (b : Bool) → ups_after h n + downs_after h n ≡ n → cond b (ups_after h n) (ups_after h n + 1) + cond b (downs_after h n + 1) (downs_after h n) ≡ suc n
    by true e = omega arith
    by false e = omega arith

-- a step down lowers a price
record Lowers (ceiling : ℕ) (ps : List ℕ) (set : ℕ) : Type 0 where
  within : AllUpTo ceiling (lowered ps set)
  no_more : total (lowered ps set) ≤ total ps
  less : set ≢ 0 → total (lowered ps set) + 1 ≤ total ps

lowers-first : (b : Bool) (ceiling p : ℕ) (ps : List ℕ) (set : ℕ) → b ≡ nat_eq (set % 2) 1 → p ≤ ceiling → (b ≡ true → 0 < p) → Lowers ceiling ps (set / 2)
    → (AllUpTo ceiling (cond b (p - 1) p ∷ lowered ps (set / 2))) × (cond b (p - 1) p + total (lowered ps (set / 2)) ≤ p + total ps) × (set ≢ 0 → cond b (p - 1) p + total (lowered ps (set / 2)) + 1 ≤ p + total ps)
lowers-first true ceiling p ps set e up priced r = let n = priced refl in ((omega arith, r.within), omega (arith, r.no_more), λ _. omega (arith, r.no_more))
lowers-first false ceiling p ps set e up priced r =
    ((up, r.within), omega (arith, r.no_more), λ some. let odd : set % 2 ≢ 1 = grind (arith, nat_tests) in let half : set / 2 ≢ 0 = omega arith in omega (arith, r.less half))

lowers : (ceiling : ℕ) (ps : List ℕ) (set : ℕ) → AllUpTo ceiling ps → set < 2 ^ length ps → AllPriced ps set → Lowers ceiling ps set
lowers ceiling [] set up below priced = record { within = tt; no_more = omega arith; less = λ n. absurd (omega arith) }
lowers ceiling (p ∷ ps) set up below priced =
    let small : set / 2 < 2 ^ length ps = let e = pow-succ' 2 (length ps) in omega arith in
    let r = lowers ceiling ps (set / 2) up.1 small priced.1 in
    let f = lowers-first (nat_eq (set % 2) 1) ceiling p ps set refl up.0 (λ t. priced.0 (odd (set % 2) t)) r in
    record { within = f.0; no_more = f.1; less = f.2 }
  where
    odd : (d : ℕ) → nat_eq d 1 ≡ true → d ≡ 1
    odd d t = grind (arith, nat_tests)

pub ups-up : (h : TwoWayHistory) (n : ℕ) → is_down h n ≡ false → ups_after h (suc n) ≡ ups_after h n + 1
unfolding ups_after
ups-up h n e = ap (λ b. cond b (ups_after h n) (ups_after h n + 1)) e

pub ups-down : (h : TwoWayHistory) (n : ℕ) → is_down h n ≡ true → ups_after h (suc n) ≡ ups_after h n
unfolding ups_after
ups-down h n e = ap (λ b. cond b (ups_after h n) (ups_after h n + 1)) e

pub downs-up : (h : TwoWayHistory) (n : ℕ) → is_down h n ≡ false → downs_after h (suc n) ≡ downs_after h n
unfolding downs_after
downs-up h n e = ap (λ b. cond b (downs_after h n + 1) (downs_after h n)) e

pub downs-down : (h : TwoWayHistory) (n : ℕ) → is_down h n ≡ true → downs_after h (suc n) ≡ downs_after h n + 1
unfolding downs_after
downs-down h n e = ap (λ b. cond b (downs_after h n + 1) (downs_after h n)) e

-- On the way up each step raises the sum of the prices, which is at most the ceiling for each good, and on the way down each lowers it.
pub record OnTheWay (h : TwoWayHistory) (n : ℕ) : Type 0 where
  pub up : AllUpTo h.terms.ceiling (prices_after h n)
  pub goods : length (prices_after h n) ≡ length h.terms.goods
  pub ups : ups_after h n ≤ length h.terms.goods * h.terms.ceiling
  pub climbed : was_down h n ≡ false → ups_after h n ≤ total (prices_after h n)
  pub level : was_down h n ≡ false → downs_after h n ≡ 0
  pub fallen : was_down h n ≡ true → downs_after h n + total (prices_after h n) ≤ length h.terms.goods * h.terms.ceiling

within-all : (h : TwoWayHistory) (p : List ℕ) → AllUpTo h.terms.ceiling p → length p ≡ length h.terms.goods → total p ≤ length h.terms.goods * h.terms.ceiling
within-all h p up goods = let P : ℕ → Type 0 = λ m. total p ≤ m * h.terms.ceiling in subst P goods (total-up h.terms.ceiling p up)

way-start : (h : TwoWayHistory) → IsStart h.terms h.start → OnTheWay h 0
unfolding prices_after ups_after downs_after
way-start h start = record {
  up = up-below h.terms.ceiling h.start start.below;
  goods = sym (length-below h.terms.opening h.start start.above) ∙ h.terms.opens.goods;
  ups = omega arith;
  climbed = λ e. omega arith;
  level = λ e. refl;
  fallen = λ e. absurd (let f : false ≡ true = e in cc);
}

way-up : (h : TwoWayHistory) (n : ℕ) → Leads h n → is_down h n ≡ false → OnTheWay h n → OnTheWay h (suc n)
way-up h n l e w =
    let p = prices_after h n in
    let set = up_set_after h n in
    let next : raised p set ≡ prices_after h (suc n) = sym (prices-up h n e) in
    let small : set < 2 ^ length p = (let P : ℕ → Type 0 = λ m. set < 2 ^ m in subst P (sym w.goods) (step-below h.terms.goods (members_in h) (demands_after h n))) in
    let r = raises 0 h.terms.ceiling p set w.up small (sym (good-up h n e) ∙ l.free) in
    let f = not-turned h n e in
    let U : List ℕ → Type 0 = AllUpTo h.terms.ceiling in
    let G : List ℕ → Type 0 = λ q. length q ≡ length h.terms.goods in
    let C : List ℕ → Type 0 = λ q. ups_after h (suc n) ≤ total q in
    let within = subst U next r.within in
    let goods = subst G next (length-raised p set ∙ w.goods) in
    let one = ups-up h n e in
    let climbed : ups_after h (suc n) ≤ total (prices_after h (suc n)) = subst C next (omega (arith, one, r.more f.1, w.climbed f.0)) in
    record {
      up = within;
      goods = goods;
      ups = omega (arith, climbed, within-all h (prices_after h (suc n)) within goods);
      climbed = λ _. climbed;
      level = λ _. downs-up h n e ∙ w.level f.0;
      fallen = λ t. absurd (let g : false ≡ true = sym e ∙ t in cc);
    }

way-down : (h : TwoWayHistory) (n : ℕ) → Leads h n → is_down h n ≡ true → OnTheWay h n → OnTheWay h (suc n)
way-down h n l e w =
    let p = prices_after h n in
    let set = down_set_after h n in
    let next : lowered p set ≡ prices_after h (suc n) = sym (prices-down h n e) in
    let fall = fall-is h.terms.goods h.terms.opening p (demands_after h n) (members_in h) in
    let small : set < 2 ^ length p = (let P : ℕ → Type 0 = λ m. set < 2 ^ m in subst P (sym w.goods) fall.is_set) in
    let r = lowers h.terms.ceiling p set w.up small (priced-risen h.terms.opening p set (h.terms.opens.goods ∙ sym w.goods) fall.risen) in
    let some : set ≢ 0 = λ none. l.some (set-down h n e ∙ none) in
    let U : List ℕ → Type 0 = AllUpTo h.terms.ceiling in
    let G : List ℕ → Type 0 = λ q. length q ≡ length h.terms.goods in
    let F : List ℕ → Type 0 = λ q. downs_after h (suc n) + total q ≤ length h.terms.goods * h.terms.ceiling in
    let before = either (was_down h n) refl (downs_after h n) (total p) (length h.terms.goods * h.terms.ceiling) w.level w.fallen (within-all h p w.up w.goods) in
    let one = downs-down h n e in
    let same = ups-down h n e in
    record {
      up = subst U next r.within;
      goods = subst G next (length-lowered p set ∙ w.goods);
      ups = omega (arith, same, w.ups);
      climbed = λ t. absurd (let g : true ≡ false = sym e ∙ t in cc);
      level = λ t. absurd (let g : true ≡ false = sym e ∙ t in cc);
      fallen = λ _. subst F next (omega (arith, one, r.less some, before));
    }
  where
    either : (b : Bool) → was_down h n ≡ b → (n t most : ℕ) → (b ≡ false → n ≡ 0) → (b ≡ true → n + t ≤ most) → t ≤ most → n + t ≤ most
    either true e n t most level fallen up = fallen refl
    either false e n t most level fallen up = let c = level refl in omega arith

pub on_the_way : (h : TwoWayHistory) → IsStart h.terms h.start → (n : ℕ) → ((m : ℕ) → m < n → leads_on h m ≡ true) → OnTheWay h n
on_the_way h start zero before = way-start h start
on_the_way h start (suc n) before = by (leads h n (before n (omega arith))) (on_the_way h start n (λ m below. before m (omega arith))) (is_down h n) refl
  where
    by : Leads h n → OnTheWay h n → (b : Bool) → is_down h n ≡ b → OnTheWay h (suc n)
    by l w false e = way-up h n l e w
    by l w true e = way-down h n l e w

pub few-downs : (h : TwoWayHistory) (n : ℕ) → OnTheWay h n → downs_after h n ≤ length h.terms.goods * h.terms.ceiling
few-downs h n w = by (was_down h n) refl
  where
    by : (b : Bool) → was_down h n ≡ b → downs_after h n ≤ length h.terms.goods * h.terms.ceiling
    by true e = let f = w.fallen e in omega arith
    by false e = let f = w.level e in omega arith

pub few-on_way : (h : TwoWayHistory) (n : ℕ) → OnTheWay h n → n ≤ 2 * (length h.terms.goods * h.terms.ceiling)
few-on_way h n w = omega (arith, both-ways h n, w.ups, few-downs h n w)

-- no two-way clock makes more steps
stops-by : (h : TwoWayHistory) → IsStart h.terms h.start → (n : ℕ) → 2 * (length h.terms.goods * h.terms.ceiling) ≤ n → ((m : ℕ) → m < n → leads_on h m ≡ true) → leads_on h n ≡ false
stops-by h start n most before = by (leads_on h n) refl
  where
    by : (b : Bool) → leads_on h n ≡ b → b ≡ false
    by false e = refl
    by true e = absurd (let few = few-on_way h (suc n) (on_the_way h start (suc n) (longer e)) in omega arith)
      where
        longer : leads_on h n ≡ true → (m : ℕ) → m < suc n → leads_on h m ≡ true
        longer e m below = one-more h n before e m below

has-steps-from : (h : TwoWayHistory) → IsStart h.terms h.start → (limit start : ℕ) → ((m : ℕ) → m < start → leads_on h m ≡ true) → 2 * (length h.terms.goods * h.terms.ceiling) ≤ start + limit → HasSteps h (steps_from limit h start)
unfolding steps_from
has-steps-from h opens zero start before most = record { before = before; stops = stops-by h opens start (omega arith) before }
has-steps-from h opens (suc limit) start before most = by (leads_on h start) refl (λ longer. has-steps-from h opens limit (suc start) longer (omega arith))
  where
    by : (b : Bool) → leads_on h start ≡ b → (((m : ℕ) → m < suc start → leads_on h m ≡ true) → HasSteps h (steps_from limit h (suc start))) → HasSteps h (elim b [ true ↦ steps_from limit h (suc start) | false ↦ start ])
    by false e rest = record { before = before; stops = e }
    by true e rest = rest (one-more h start before e)

pub has-steps : (h : TwoWayHistory) → IsStart h.terms h.start → HasSteps h (steps_of h)
unfolding steps_of
has-steps h start = has-steps-from h start _ 0 (λ m below. absurd (omega arith)) (omega arith)

pub steps-only : (h : TwoWayHistory) → IsStart h.terms h.start → (n : ℕ) → HasSteps h n → steps_of h ≡ n
steps-only h start n is = by (compare-or (steps_of h) n)
  where
    by : (steps_of h < n) ⊎ ((n < steps_of h) ⊎ (steps_of h ≡ n)) → steps_of h ≡ n
    by (inl less) = absurd (let a : leads_on h (steps_of h) ≡ true = is.before (steps_of h) less in let b : leads_on h (steps_of h) ≡ false = (has-steps h start).stops in let f : true ≡ false = sym a ∙ b in cc)
    by (inr (inl more)) = absurd (let a : leads_on h n ≡ true = before-last h n more in let f : true ≡ false = sym a ∙ is.stops in cc)
    by (inr (inr same)) = same
