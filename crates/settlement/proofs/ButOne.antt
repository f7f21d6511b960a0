-- A clock of which the reports of all members but one are true: what the others demand, and what their account is.
use Rattle.std.proofs.Common.{◌≡◌, ◌≢◌, ◌≤◌, ℕ, zero, suc, ◌+◌, ◌/◌, ◌%◌, Bool, true, false, not, nat_eq, cond, List, [], ◌∷◌, Some, is_some, refl, sym, ◌∙◌, ap, arith}
use Rattle.std.specs.Prelude.{find, option_map, unwrap_or, ℤ, pos, ◌-ℤ◌}
use Rattle.std.specs.List.{AllByRecursion}
use Rattle.std.proofs.lemmas.Int.{ints}
use Rattle.std.proofs.lemmas.Bool.Decides.{nat_tests}
use Rattle.lot_base.specs.Goods.{raised, AtMost}
use Rattle.lot_base.specs.Demands.{least}
use Rattle.lot_base.specs.Economy.{demand, lyapunov, total_units, without}
use Rattle.demand_set.specs.declared.reports.Report.{Report}
use Rattle.lyapunov.specs.Paths.{account_along}
use Rattle.lyapunov.proofs.Growing.{account_along-append, excess-same}
use Rattle.lyapunov.proofs.Moments.{account-rises}
use Rattle.clock.specs.Reports.{ClockHistory, members_of, is_named, demand_in, demands_in, is_full}
use Rattle.clock.specs.Standing.{sets_of, prices_after, step_set_after, prices_of, steps_of}
use Rattle.clock.specs.Explained.{Explains, IsTrueReport}
use Rattle.clock.specs.Accounts.{account_after, account_without}
use Rattle.lot_base.proofs.Within.{both}
use Rattle.lyapunov.proofs.Bidders.{all-without}
use Rattle.clock.proofs.Path.{has_steps}
use Rattle.clock.proofs.Truthful.{prices-along, full-round}
use Rattle.settlement.specs.Incentives.{IsTrueUnlessOf, ExplainsBut}

-- who is not bidder i, by the test
pub apart : (j i : ℕ) → nat_eq j i ≡ false → j ≢ i
apart j i other e = absurd (let f : nat_eq j i ≡ true = grind (arith, nat_tests) in let g : true ≡ false = sym f ∙ other in cc)

-- the demand of another bidder in a full round is its true demand
found-other : (u : ℕ → List ℕ → ℤ) (c : ClockHistory) (i n j : ℕ) → n ≤ steps_of c → j ≢ i → (reports : List Report) → AllByRecursion (IsTrueUnlessOf i u c) reports
    → is_some (demand_in reports (n + 1) j) ≡ true → demands_in reports (n + 1) j ≡ demand c.terms.goods (u j) (prices_after c n)
found-other u c i n j up other [] all e = absurd (let f : false ≡ true = e in cc)
found-other u c i n j up other (r ∷ reports) all e = by (is_named (n + 1) j r) refl (λ later. found-other u c i n j up other reports all.1 later) e
  where
    by : (b : Bool) → is_named (n + 1) j r ≡ b → (is_some (demand_in reports (n + 1) j) ≡ true → demands_in reports (n + 1) j ≡ demand c.terms.goods (u j) (prices_after c n))
        → is_some (option_map (λ (x : Report). x.demand) (cond b (Some r) (find (is_named (n + 1) j) reports))) ≡ true
        → unwrap_or (option_map (λ (x : Report). x.demand) (cond b (Some r) (find (is_named (n + 1) j) reports))) [] ≡ demand c.terms.goods (u j) (prices_after c n)
    by true named rest f =
        let h = both (nat_eq r.round (n + 1)) (nat_eq r.bidder j) named in
        let round : r.round ≡ n + 1 = (let t = h.0 in grind (arith, nat_tests)) in
        let bidder : r.bidder ≡ j = (let t = h.1 in grind (arith, nat_tests)) in
        all.0 (λ same. other (sym bidder ∙ same)) n up round ∙ ap (λ k. demand c.terms.goods (u k) (prices_after c n)) bidder
    by false named rest f = rest f

pub others-true : (u : ℕ → List ℕ → ℤ) (c : ClockHistory) (i n : ℕ) → n ≤ steps_of c → AllByRecursion (IsTrueUnlessOf i u c) c.reports → (ms : List ℕ) → is_full ms c.reports (n + 1) ≡ true
    → AllByRecursion (λ j. demands_in c.reports (n + 1) j ≡ demand c.terms.goods (u j) (prices_after c n)) (without i ms)
others-true u c i n up all [] full = tt
others-true u c i n up all (j ∷ ms) full =
    let h = both (is_some (demand_in c.reports (n + 1) j)) (is_full ms c.reports (n + 1)) full in
    by (nat_eq j i) refl h.0 (others-true u c i n up all ms h.1)
  where
    by : (b : Bool) → nat_eq j i ≡ b → is_some (demand_in c.reports (n + 1) j) ≡ true
        → AllByRecursion (λ j. demands_in c.reports (n + 1) j ≡ demand c.terms.goods (u j) (prices_after c n)) (without i ms)
        → AllByRecursion (λ j. demands_in c.reports (n + 1) j ≡ demand c.terms.goods (u j) (prices_after c n)) (cond (not b) (j ∷ without i ms) (without i ms))
    by true same some rest = rest
    by false other some rest = (found-other u c i n j up (apart j i other) c.reports all some, rest)

-- the account of the others telescopes, whatever the steps
account-is-along : (u : ℕ → List ℕ → ℤ) (c : ClockHistory) (i : ℕ) → ExplainsBut i u c → (n : ℕ) → n ≤ steps_of c
    → account_after c (without i (members_of c)) n ≡ account_along c.terms.goods u (without i (members_of c)) c.terms.opening (sets_of c n)
unfolding account_after sets_of
account-is-along u c i explains zero up = refl
account-is-along u c i explains (suc n) up =
    let on = (has_steps c).before n (omega arith) in
    let all = others-true u c i n (omega arith) explains.reports (members_of c) (full-round c n on) in
    let e = excess-same c.terms.goods (demands_in c.reports (n + 1)) (λ j. demand c.terms.goods (u j) (prices_after c n)) (without i (members_of c)) (step_set_after c n) all in
    let here = ap (λ q. pos (total_units (λ j. least (demand c.terms.goods (u j) q) (step_set_after c n)) (without i (members_of c)))) (prices-along c n) in
    let rest = account-is-along u c i explains n (omega arith) in
    let grows = account_along-append c.terms.goods u (without i (members_of c)) c.terms.opening (sets_of c n) (step_set_after c n) in
    omega (arith, ints)

pub account-but : (u : ℕ → List ℕ → ℤ) (c : ClockHistory) (i : ℕ) → ExplainsBut i u c
    → account_without c i ≡ lyapunov c.terms.goods u (without i (members_of c)) (prices_of c) -ℤ lyapunov c.terms.goods u (without i (members_of c)) c.terms.opening
account-but u c i explains =
    account-is-along u c i explains (steps_of c) (omega arith)
    ∙ account-rises c.terms.goods u (without i (members_of c)) explains.substitutes c.terms.opening (sets_of c (steps_of c)) c.terms.opens.goods
    ∙ ap (λ q. lyapunov c.terms.goods u (without i (members_of c)) q -ℤ lyapunov c.terms.goods u (without i (members_of c)) c.terms.opening) (sym (prices-along c (steps_of c)))

-- no price is below its opening, whatever the steps
up-raised : (p : List ℕ) (set : ℕ) (o : List ℕ) → AtMost o p → AtMost o (raised p set)
up-raised [] set [] h = tt
up-raised [] set (b ∷ o) h = absurd h
up-raised (a ∷ p) set [] h = absurd h
up-raised (a ∷ p) set (b ∷ o) h = (by (nat_eq (set % 2) 1) h.0, up-raised p (set / 2) o h.1)
  where
    by : (v : Bool) → b ≤ a → b ≤ cond v (a + 1) a
    by true low = omega arith
    by false low = low

same-most : (o : List ℕ) → AtMost o o
same-most [] = tt
same-most (b ∷ o) = (omega arith, same-most o)

pub above-opening : (c : ClockHistory) (n : ℕ) → AtMost c.terms.opening (prices_after c n)
unfolding prices_after
above-opening c zero = same-most c.terms.opening
above-opening c (suc n) = up-raised (prices_after c n) (step_set_after c n) c.terms.opening (above-opening c n)

-- a clock that valuations explain is explained but for anyone
pub explains-but : (u : ℕ → List ℕ → ℤ) (c : ClockHistory) (i : ℕ) → Explains u c → ExplainsBut i u c
explains-but u c i explains = record {
  valuations = all-without _ i (members_of c) explains.valuations;
  substitutes = all-without _ i (members_of c) explains.substitutes;
  reports = each c.reports explains.reports;
}
  where
    each : (reports : List Report) → AllByRecursion (IsTrueReport u c) reports → AllByRecursion (IsTrueUnlessOf i u c) reports
    each [] all = tt
    each (r ∷ reports) all = ((λ other. all.0), each reports all.1)
