-- A clock whose reports are explained by valuations goes along the path of its members' true step sets, so what is known of
-- such paths holds of the clock at every moment.
use Rattle.std.proofs.Common.{◌≡◌, ◌≢◌, ◌<◌, ◌≤◌, ℕ, zero, suc, ◌+◌, ◌-◌, ◌/◌, ◌%◌, Bool, true, false, not, ◌&&◌, nat_eq, cond, List, [], ◌∷◌, ◌++◌, length, Option, Some, None, is_some, is_none, refl, sym, ◌∙◌, ap, arith, subst}
use Rattle.std.specs.Prelude.{find, option_map, unwrap_or, ℤ, pos, ◌+ℤ◌, ◌-ℤ◌, ◌≤ℤ◌}
use Rattle.std.specs.List.{AllByRecursion}
use Rattle.std.proofs.lemmas.Int.{ints}
use Rattle.std.proofs.lemmas.Bool.Decides.{nat_tests}
use Rattle.lot_base.specs.Goods.{raised, at}
use Rattle.lot_base.specs.Demands.{least}
use Rattle.lot_base.specs.Economy.{demand, lyapunov, total_units, without, AllBelowCeiling, IsLeastMinimiser}
use Rattle.lot_base.specs.declared.phases.Phase.TheVariants.{Running, Ended, Halted}
use Rattle.demand_set.specs.declared.reports.Report.{Report}
use Rattle.lyapunov.specs.Paths.{true_step, prices_along, AllSteps, IsPath, account_along, highest_rise, IsLeastNear}
use Rattle.lyapunov.proofs.Growing.{prices_along-append, AllSteps-append, account_along-append, step_set-true, excess-same}
use Rattle.lyapunov.proofs.Bidders.{all-without, strong-without}
use Rattle.lyapunov.proofs.Digits.{length-prices, true_step-lowers}
use Rattle.lyapunov.proofs.Moments.{as_many, few_steps, least_near_opening, ended-least, account-rises}
use Rattle.lyapunov.proofs.Ceiling.{below_ceiling}
use Rattle.lot_base.proofs.Openings.{all-below, at-below_all}
use Rattle.clock.specs.Reports.{ClockHistory, members_of, is_named, demand_in, demands_in, is_full}
use Rattle.clock.specs.Standing.{sets_of, prices_after, step_set_after, is_full_after, good_at_ceiling, good_from, leads_on, phase_by, phase_of, prices_of, steps_of}
use Rattle.clock.specs.Explained.{Explains, IsTrueReport}
use Rattle.clock.specs.Accounts.{account_after, account_without}
use Rattle.lot_base.proofs.Within.{both}
use Rattle.clock.proofs.Path.{has_steps}

pub length-sets_of : (c : ClockHistory) (n : ℕ) → length (sets_of c n) ≡ n
unfolding sets_of
length-sets_of c zero = refl
length-sets_of c (suc n) = longer (sets_of c n) (step_set_after c n) ∙ ap suc (length-sets_of c n)
  where
    longer : (xs : List ℕ) (x : ℕ) → length (xs ++ x ∷ []) ≡ suc (length xs)
    longer [] x = refl
    longer (y ∷ xs) x = ap suc (longer xs x)

pub prices-along : (c : ClockHistory) (n : ℕ) → prices_after c n ≡ prices_along c.terms.opening (sets_of c n)
unfolding sets_of prices_after
prices-along c zero = refl
prices-along c (suc n) = ap (λ p. raised p (step_set_after c n)) (prices-along c n) ∙ sym (prices_along-append c.terms.opening (sets_of c n) (step_set_after c n))

-- the demand of a member in a full round is its true demand
found-true : (u : ℕ → List ℕ → ℤ) (c : ClockHistory) (n j : ℕ) → n ≤ steps_of c → (reports : List Report) → AllByRecursion (IsTrueReport u c) reports → is_some (demand_in reports (n + 1) j) ≡ true
    → demands_in reports (n + 1) j ≡ demand c.terms.goods (u j) (prices_after c n)
found-true u c n j up [] all e = absurd (let f : false ≡ true = e in cc)
found-true u c n j up (r ∷ reports) all e = by (is_named (n + 1) j r) refl (λ later. found-true u c n j up reports all.1 later) e
  where
    by : (b : Bool) → is_named (n + 1) j r ≡ b → (is_some (demand_in reports (n + 1) j) ≡ true → demands_in reports (n + 1) j ≡ demand c.terms.goods (u j) (prices_after c n))
        → is_some (option_map (λ (x : Report). x.demand) (cond b (Some r) (find (is_named (n + 1) j) reports))) ≡ true
        → unwrap_or (option_map (λ (x : Report). x.demand) (cond b (Some r) (find (is_named (n + 1) j) reports))) [] ≡ demand c.terms.goods (u j) (prices_after c n)
    by true named rest f =
        let h = both (nat_eq r.round (n + 1)) (nat_eq r.bidder j) named in
        let round : r.round ≡ n + 1 = (let t = h.0 in grind (arith, nat_tests)) in
        let bidder : r.bidder ≡ j = (let t = h.1 in grind (arith, nat_tests)) in
        all.0 n up round ∙ ap (λ k. demand c.terms.goods (u k) (prices_after c n)) bidder
    by false named rest f = rest f

pub members-true : (u : ℕ → List ℕ → ℤ) (c : ClockHistory) (n : ℕ) → n ≤ steps_of c → AllByRecursion (IsTrueReport u c) c.reports → (ms : List ℕ) → is_full ms c.reports (n + 1) ≡ true
    → AllByRecursion (λ j. demands_in c.reports (n + 1) j ≡ demand c.terms.goods (u j) (prices_after c n)) ms
members-true u c n up all [] full = tt
members-true u c n up all (j ∷ ms) full =
    let h = both (is_some (demand_in c.reports (n + 1) j)) (is_full ms c.reports (n + 1)) full in
    (found-true u c n j up c.reports all h.0, members-true u c n up all ms h.1)

pub full-round : (c : ClockHistory) (n : ℕ) → leads_on c n ≡ true → is_full_after c n ≡ true
full-round c n e = (both (is_full_after c n) (not (nat_eq (step_set_after c n) 0) && is_none (good_at_ceiling c n)) e).0

some-step : (c : ClockHistory) (n : ℕ) → leads_on c n ≡ true → step_set_after c n ≢ 0
some-step c n e =
    let g = both (is_full_after c n) (not (nat_eq (step_set_after c n) 0) && is_none (good_at_ceiling c n)) e in
    let h = both (not (nat_eq (step_set_after c n) 0)) (is_none (good_at_ceiling c n)) g.1 in
    let t = h.0 in grind (arith, nat_tests)

true-step : (u : ℕ → List ℕ → ℤ) (c : ClockHistory) (n : ℕ) → Explains u c → n ≤ steps_of c → is_full_after c n ≡ true → step_set_after c n ≡ true_step c.terms.goods u (members_of c) (prices_after c n)
true-step u c n explains up full = step_set-true c.terms.goods u (demands_in c.reports (n + 1)) (members_of c) (prices_after c n) (members-true u c n up explains.reports (members_of c) full)

-- the clock's steps are a path
all-steps : (u : ℕ → List ℕ → ℤ) (c : ClockHistory) → Explains u c → (n : ℕ) → n ≤ steps_of c → AllSteps c.terms.goods u (members_of c) c.terms.opening (sets_of c n)
unfolding sets_of
all-steps u c explains zero up = tt
all-steps u c explains (suc n) up =
    let on = (has_steps c).before n (omega arith) in
    AllSteps-append c.terms.goods u (members_of c) c.terms.opening (sets_of c n) (step_set_after c n) (all-steps u c explains n (omega arith)) (some-step c n on)
    (true-step u c n explains (omega arith) (full-round c n on) ∙ ap (true_step c.terms.goods u (members_of c)) (prices-along c n))

opening-goods : (c : ClockHistory) → length c.terms.opening ≡ length c.terms.goods
opening-goods c = c.terms.opens.goods

pub path : (u : ℕ → List ℕ → ℤ) (c : ClockHistory) → Explains u c → IsPath c.terms.goods u (members_of c) c.terms.opening (sets_of c (steps_of c))
path u c explains = record { substitutes = explains.substitutes; goods = opening-goods c; steps = all-steps u c explains (steps_of c) (omega arith) }

-- each step lowers the Lyapunov function
pub step-lowers : (u : ℕ → List ℕ → ℤ) (c : ClockHistory) (n : ℕ) → Explains u c → n < steps_of c
    → (lyapunov c.terms.goods u (members_of c) (prices_after c (n + 1)) +ℤ pos 1) ≤ℤ lyapunov c.terms.goods u (members_of c) (prices_after c n)
unfolding prices_after
step-lowers u c n explains below =
    let on = (has_steps c).before n below in
    let is = true-step u c n explains (omega arith) (full-round c n on) in
    let goods = ap length (prices-along c n) ∙ length-prices c.terms.opening (sets_of c n) ∙ opening-goods c in
    let low = true_step-lowers c.terms.goods u (members_of c) explains.substitutes (prices_after c n) goods (λ none. some-step c n on (is ∙ none)) in
    let one : suc n ≡ n + 1 = omega arith in
    let P : List ℕ → Type 0 = λ q. (lyapunov c.terms.goods u (members_of c) q +ℤ pos 1) ≤ℤ lyapunov c.terms.goods u (members_of c) (prices_after c n) in
    subst P (ap (raised (prices_after c n)) (sym is) ∙ ap (prices_after c) one) low

-- what is known of paths, on the clock
pub few-steps-of : (u : ℕ → List ℕ → ℤ) (c : ClockHistory) → Explains u c → pos (steps_of c) ≤ℤ lyapunov c.terms.goods u (members_of c) c.terms.opening
few-steps-of u c explains =
    let p = path u c explains in
    let few = few_steps c.terms.goods u (members_of c) p.substitutes explains.valuations c.terms.opening (sets_of c (steps_of c)) p.goods p.steps in
    let P : ℕ → Type 0 = λ n. pos n ≤ℤ lyapunov c.terms.goods u (members_of c) c.terms.opening in
    subst P (length-sets_of c (steps_of c)) few

pub steps-are-highest : (u : ℕ → List ℕ → ℤ) (c : ClockHistory) → Explains u c → steps_of c ≡ highest_rise c.terms.opening (prices_of c)
steps-are-highest u c explains =
    let p = path u c explains in
    sym (length-sets_of c (steps_of c))
    ∙ as_many c.terms.goods u (members_of c) p.substitutes c.terms.opening (sets_of c (steps_of c)) p.goods p.steps
    ∙ ap (highest_rise c.terms.opening) (sym (prices-along c (steps_of c)))

pub least-near : (u : ℕ → List ℕ → ℤ) (c : ClockHistory) → Explains u c → IsLeastNear c.terms.opening (steps_of c) (lyapunov c.terms.goods u (members_of c)) (prices_of c)
least-near u c explains =
    let p = path u c explains in
    let near = least_near_opening c.terms.goods u (members_of c) p.substitutes c.terms.opening (sets_of c (steps_of c)) p.goods p.steps in
    let P : ℕ → Type 0 = λ n. IsLeastNear c.terms.opening n (lyapunov c.terms.goods u (members_of c)) (prices_along c.terms.opening (sets_of c (steps_of c))) in
    let Q : List ℕ → Type 0 = λ q. IsLeastNear c.terms.opening (steps_of c) (lyapunov c.terms.goods u (members_of c)) q in
    subst Q (sym (prices-along c (steps_of c))) (subst P (length-sets_of c (steps_of c)) near)

pub ended-by : (full empty : Bool) (good : Option ℕ) → phase_by full empty good ≡ Ended → (full ≡ true) × (empty ≡ true)
ended-by false empty good e = absurd (let f : Running ≡ Ended = e in cc)
ended-by true true good e = (refl, refl)
ended-by true false None e = absurd (let f : Running ≡ Ended = e in cc)
ended-by true false (Some k) e = absurd (let f : Halted k ≡ Ended = e in cc)

pub has-ended : (u : ℕ → List ℕ → ℤ) (c : ClockHistory) → Explains u c → phase_of c ≡ Ended → true_step c.terms.goods u (members_of c) (prices_along c.terms.opening (sets_of c (steps_of c))) ≡ 0
has-ended u c explains e =
    let h = ended-by (is_full_after c (steps_of c)) (nat_eq (step_set_after c (steps_of c)) 0) (good_at_ceiling c (steps_of c)) e in
    let none : step_set_after c (steps_of c) ≡ 0 = (let t = h.1 in grind (arith, nat_tests)) in
    sym (ap (true_step c.terms.goods u (members_of c)) (prices-along c (steps_of c))) ∙ sym (true-step u c (steps_of c) explains (omega arith) h.0) ∙ none

pub least-minimiser : (u : ℕ → List ℕ → ℤ) (c : ClockHistory) → Explains u c → phase_of c ≡ Ended → IsLeastMinimiser c.terms.opening (lyapunov c.terms.goods u (members_of c)) (prices_of c)
least-minimiser u c explains e =
    let p = path u c explains in
    let P : List ℕ → Type 0 = λ q. IsLeastMinimiser c.terms.opening (lyapunov c.terms.goods u (members_of c)) q in
    subst P (sym (prices-along c (steps_of c))) (ended-least c.terms.goods u (members_of c) p.substitutes c.terms.opening (sets_of c (steps_of c)) p.goods p.steps (has-ended u c explains e))

pub halted-by : (full empty : Bool) (good : Option ℕ) (k : ℕ) → phase_by full empty good ≡ Halted k → good ≡ Some k
halted-by false empty good k e = absurd (let f : Running ≡ Halted k = e in cc)
halted-by true true good k e = absurd (let f : Ended ≡ Halted k = e in cc)
halted-by true false None k e = absurd (let f : Running ≡ Halted k = e in cc)
halted-by true false (Some n) k e = let f : n ≡ k = cc in ap (λ m. Some m) f

pub at-ceiling : (from ceiling : ℕ) (ps : List ℕ) (set k : ℕ) → good_from from ceiling ps set ≡ Some k → (from ≤ k) × (at ps (k - from) ≡ ceiling)
at-ceiling from ceiling [] set k e = absurd (let f : None ≡ Some k = e in cc)
at-ceiling from ceiling (p ∷ ps) set k e = by (nat_eq (set % 2) 1) (nat_eq p ceiling) refl (λ f. at-ceiling (from + 1) ceiling ps (set / 2) k f) e
  where
    by : (a b : Bool) → nat_eq p ceiling ≡ b → (good_from (from + 1) ceiling ps (set / 2) ≡ Some k → (from + 1 ≤ k) × (at ps (k - (from + 1)) ≡ ceiling))
        → cond (a && b) (Some from) (good_from (from + 1) ceiling ps (set / 2)) ≡ Some k → (from ≤ k) × (at (p ∷ ps) (k - from) ≡ ceiling)
    by true true is rest f =
        let same : from ≡ k = (let g : Some from ≡ Some k = f in cc) in
        let none : k - from ≡ 0 = omega arith in
        (omega arith, ap (at (p ∷ ps)) none ∙ (grind (arith, nat_tests)))
    by true false is rest f = later (rest f)
      where
        later : (from + 1 ≤ k) × (at ps (k - (from + 1)) ≡ ceiling) → (from ≤ k) × (at (p ∷ ps) (k - from) ≡ ceiling)
        later h = let up = h.0 in let one : k - from ≡ suc (k - (from + 1)) = omega arith in (omega arith, ap (at (p ∷ ps)) one ∙ h.1)
    by false b is rest f = later (rest f)
      where
        later : (from + 1 ≤ k) × (at ps (k - (from + 1)) ≡ ceiling) → (from ≤ k) × (at (p ∷ ps) (k - from) ≡ ceiling)
        later h = let up = h.0 in let one : k - from ≡ suc (k - (from + 1)) = omega arith in (omega arith, ap (at (p ∷ ps)) one ∙ h.1)

pub never-halted : (u : ℕ → List ℕ → ℤ) (c : ClockHistory) (k : ℕ) → Explains u c → AllBelowCeiling c.terms.goods u c.terms.ceiling (members_of c) → phase_of c ≡ Halted k → ⊥
never-halted u c k explains low e =
    let p = path u c explains in
    let good = halted-by (is_full_after c (steps_of c)) (nat_eq (step_set_after c (steps_of c)) 0) (good_at_ceiling c (steps_of c)) k e in
    let there = at-ceiling 0 c.terms.ceiling (prices_of c) (step_set_after c (steps_of c)) k good in
    let none : k - 0 ≡ k = omega arith in
    let r = c.terms.ceiling_in_range.at_least in
    let low_open = at-below_all c.terms.ceiling c.terms.opening k (omega arith) (all-below c.terms.goods c.terms.ceiling c.terms.opening c.terms.opens) in
    let below = below_ceiling c.terms.goods u c.terms.ceiling (members_of c) p.substitutes explains.valuations low c.terms.opening (sets_of c (steps_of c)) p.goods p.steps k low_open in
    let same : at (prices_of c) k ≡ at (prices_along c.terms.opening (sets_of c (steps_of c))) k = ap (λ q. at q k) (prices-along c (steps_of c)) in
    let e' : at (prices_of c) k ≡ c.terms.ceiling = ap (at (prices_of c)) (sym none) ∙ there.1 in
    omega arith

-- the account telescopes
account-is-along : (u : ℕ → List ℕ → ℤ) (c : ClockHistory) (b : ℕ) → Explains u c → (n : ℕ) → n ≤ steps_of c
    → account_after c (without b (members_of c)) n ≡ account_along c.terms.goods u (without b (members_of c)) c.terms.opening (sets_of c n)
unfolding account_after sets_of
account-is-along u c b explains zero up = refl
account-is-along u c b explains (suc n) up =
    let on = (has_steps c).before n (omega arith) in
    let all = all-without (λ j. demands_in c.reports (n + 1) j ≡ demand c.terms.goods (u j) (prices_after c n)) b (members_of c) (members-true u c n (omega arith) explains.reports (members_of c) (full-round c n on)) in
    let e = excess-same c.terms.goods (demands_in c.reports (n + 1)) (λ j. demand c.terms.goods (u j) (prices_after c n)) (without b (members_of c)) (step_set_after c n) all in
    let here = ap (λ q. pos (total_units (λ j. least (demand c.terms.goods (u j) q) (step_set_after c n)) (without b (members_of c)))) (prices-along c n) in
    let rest = account-is-along u c b explains n (omega arith) in
    let grows = account_along-append c.terms.goods u (without b (members_of c)) c.terms.opening (sets_of c n) (step_set_after c n) in
    omega (arith, ints)

pub account-rise : (u : ℕ → List ℕ → ℤ) (c : ClockHistory) (b : ℕ) → Explains u c
    → account_without c b ≡ lyapunov c.terms.goods u (without b (members_of c)) (prices_of c) -ℤ lyapunov c.terms.goods u (without b (members_of c)) c.terms.opening
account-rise u c b explains =
    account-is-along u c b explains (steps_of c) (omega arith)
    ∙ account-rises c.terms.goods u (without b (members_of c)) (strong-without c.terms.goods u b (members_of c) explains.substitutes) c.terms.opening (sets_of c (steps_of c)) (opening-goods c)
    ∙ ap (λ q. lyapunov c.terms.goods u (without b (members_of c)) q -ℤ lyapunov c.terms.goods u (without b (members_of c)) c.terms.opening) (sym (prices-along c (steps_of c)))
