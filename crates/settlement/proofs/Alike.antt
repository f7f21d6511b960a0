-- Two histories of a clock in which the same demand stands under each round and bidder: they stand alike.
use Rattle.std.proofs.Common.{◌≡◌, ℕ, zero, suc, ◌+◌, ◌*◌, true, false, not, ◌&&◌, nat_eq, List, [], length, map, is_some, is_none, unwrap_or, refl, ◌∙◌, ap, subst}
use Rattle.std.specs.List.{list_all}
use Rattle.std.specs.Prelude.{find, ◌-ℤ◌}
use Rattle.lot_base.specs.Goods.{raised}
use Rattle.lot_base.specs.Steps.{step_set, excess}
use Rattle.lot_base.specs.Choices.{first_choice}
use Rattle.lot_base.specs.Economy.{without}
use Rattle.demand_set.specs.declared.reports.Report.{Report}
use Rattle.clock.specs.Reports.{ClockHistory, members_of, demand_in, demands_in}
use Rattle.clock.specs.Standing.{step_set_after, leads_on, is_full_after, good_at_ceiling, prices_after, phase_by, phase_after, good_from, steps_from, steps_of, last_demands, missing_of}
use Rattle.clock.specs.Accounts.{account_after}
use Rattle.settlement.specs.Clocks.{choice_of}
use Rattle.settlement.specs.Alike.{StandAlike}

abbrev of : ClockHistory → List Report → ClockHistory
of c h = record c { reports = h }

abbrev Alike : List Report → List Report → Type 0
Alike h k = (round bidder : ℕ) → demand_in h round bidder ≡ demand_in k round bidder

full-alike : (c : ClockHistory) (h k : List Report) (n : ℕ) → Alike h k → is_full_after (of c h) n ≡ is_full_after (of c k) n
full-alike c h k n e = λ i. list_all (λ j. is_some (e (n + 1) j i)) (members_of c)

step-alike : (c : ClockHistory) (h k : List Report) (n : ℕ) → Alike h k → step_set_after (of c h) n ≡ step_set_after (of c k) n
step-alike c h k n e = λ i. step_set c.terms.goods (λ j. unwrap_or (e (n + 1) j i) []) (members_of c)

prices-alike : (c : ClockHistory) (h k : List Report) (n : ℕ) → Alike h k → prices_after (of c h) n ≡ prices_after (of c k) n
unfolding prices_after
prices-alike c h k zero e = refl
prices-alike c h k (suc n) e = let p = prices-alike c h k n e in let s = step-alike c h k n e in λ i. raised (p i) (s i)

good-alike : (c : ClockHistory) (h k : List Report) (n : ℕ) → Alike h k → good_at_ceiling (of c h) n ≡ good_at_ceiling (of c k) n
good-alike c h k n e = let p = prices-alike c h k n e in let s = step-alike c h k n e in λ i. good_from 0 c.terms.ceiling (p i) (s i)

leads-alike : (c : ClockHistory) (h k : List Report) (n : ℕ) → Alike h k → leads_on (of c h) n ≡ leads_on (of c k) n
leads-alike c h k n e =
    let f = full-alike c h k n e in
    let s = step-alike c h k n e in
    let g = good-alike c h k n e in
    λ i. f i && (not (nat_eq (s i) 0) && is_none (g i))

phase-alike : (c : ClockHistory) (h k : List Report) (n : ℕ) → Alike h k → phase_after (of c h) n ≡ phase_after (of c k) n
phase-alike c h k n e =
    let f = full-alike c h k n e in
    let s = step-alike c h k n e in
    let g = good-alike c h k n e in
    λ i. phase_by (f i) (nat_eq (s i) 0) (g i)

from-alike : (c : ClockHistory) (h k : List Report) (limit n : ℕ) → Alike h k → steps_from limit (of c h) n ≡ steps_from limit (of c k) n
unfolding steps_from
from-alike c h k zero n e = refl
from-alike c h k (suc limit) n e = let g = leads-alike c h k n e in let r = from-alike c h k limit (suc n) e in λ i. elim (g i) [ true ↦ r i | false ↦ n ]

steps-alike : (c : ClockHistory) (h k : List Report) → Alike h k → steps_of (of c h) ≡ steps_of (of c k)
unfolding steps_of
steps-alike c h k e = from-alike c h k (length c.terms.goods * c.terms.ceiling) 0 e

account-alike : (c : ClockHistory) (h k : List Report) (bidders : List ℕ) (n : ℕ) → Alike h k → account_after (of c h) bidders n ≡ account_after (of c k) bidders n
unfolding account_after
account-alike c h k bidders zero e = refl
account-alike c h k bidders (suc n) e =
    let a = account-alike c h k bidders n e in
    let s = step-alike c h k n e in
    λ i. a i -ℤ excess c.terms.goods (λ j. unwrap_or (e (n + 1) j i) []) bidders (s i)

demands-alike : (c : ClockHistory) (h k : List Report) → Alike h k → last_demands (of c h) ≡ last_demands (of c k)
demands-alike c h k e = let s = steps-alike c h k e in (λ i j. unwrap_or (e (steps_of (of c h) + 1) j i) []) ∙ ap (λ n j. demands_in k (n + 1) j) s

choice-alike : (c : ClockHistory) (h k : List Report) → Alike h k → choice_of (of c h) ≡ choice_of (of c k)
unfolding choice_of
choice-alike c h k e =
    let s = steps-alike c h k e in
    let p = prices-alike c h k (steps_of (of c h)) e ∙ ap (prices_after (of c k)) s in
    let d = demands-alike c h k e in
    λ i. first_choice c.terms.goods c.terms.opening (p i) (map (d i) (members_of c))

alike-of : (c : ClockHistory) (h k : List Report) → Alike h k → StandAlike (of c h) (of c k)
alike-of c h k e =
    let s = steps-alike c h k e in
    let missing : missing_of (of c h) ≡ missing_of (of c k) =
    (λ i. unwrap_or (find (λ j. is_none (e (steps_of (of c h) + 1) j i)) (members_of c)) 0) ∙ ap (λ n. unwrap_or (find (λ j. is_none (demand_in k (n + 1) j)) (members_of c)) 0) s in
    record {
      same_terms = refl;
      same_number = refl;
      same_steps = s;
      same_phase = phase-alike c h k (steps_of (of c h)) e ∙ ap (phase_after (of c k)) s;
      same_prices = prices-alike c h k (steps_of (of c h)) e ∙ ap (prices_after (of c k)) s;
      same_missing = missing;
      same_account = λ bidder. account-alike c h k (without bidder (members_of c)) (steps_of (of c h)) e ∙ ap (account_after (of c k) (without bidder (members_of c))) s;
      same_choice = choice-alike c h k e;
    }

pub stand-alike : (c d : ClockHistory) → c.terms ≡ d.terms → c.number ≡ d.number → ((round bidder : ℕ) → demand_in c.reports round bidder ≡ demand_in d.reports round bidder) → StandAlike c d
stand-alike c d terms number e =
    let same : of c d.reports ≡ d = λ i. record { terms = terms i; number = number i; reports = d.reports } in
    let P : ClockHistory → Type 0 = λ x. StandAlike c x in
    subst P same (alike-of c c.reports d.reports e)
