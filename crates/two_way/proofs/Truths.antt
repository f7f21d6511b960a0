-- The reports of a floated clock are true.
use Rattle.std.proofs.Common.{◌≡◌, ◌<◌, ◌≤◌, ℕ, zero, suc, ◌+◌, ◌-◌, Bool, false, ◌&&◌, ◌||◌, nat_eq, cond, List, [], ◌∷◌, ◌++◌, Some, refl, sym, ◌∙◌, ap, subst, arith}
use Rattle.std.specs.Prelude.{find, option_map, unwrap_or, ℤ}
use Rattle.std.specs.List.{AllByRecursion}
use Rattle.std.proofs.lemmas.Bool.Decides.{nat_tests}
use Rattle.lot_base.specs.Goods.{raised, lowered}
use Rattle.lot_base.specs.Economy.{demand}
use Rattle.lot_base.specs.Steps.{step_set}
use Rattle.lot_base.specs.declared.auction_terms.Terms.{Terms}
use Rattle.demand_set.specs.declared.reports.Report.{Report}
use Rattle.clock.specs.Reports.{is_named, demand_in, members}
use Rattle.two_way.specs.Falling.{fall_set}
use Rattle.two_way.specs.Histories.{TwoWayHistory, members_in}
use Rattle.two_way.specs.Standing.{up_set_after, is_down, prices_after, steps_of, last_round}
use Rattle.two_way.specs.Explained.{IsTrueReport}
use Rattle.trial.specs.Trials.{round_reports}
use Rattle.two_way.specs.FloatHistories.{float_reports, IsFloatHistory}

-- the prices after so many steps depend on the demands of the rounds before alone
abbrev Alike : List Report → List Report → ℕ → Type 0
Alike xs ys n = (round j : ℕ) → round ≤ n → demand_in xs round j ≡ demand_in ys round j

up-alike : (h : TwoWayHistory) (reports : List Report) (n : ℕ) → Alike reports h.reports (n + 1) → up_set_after (record h { reports = reports }) n ≡ up_set_after h n
up-alike h reports n same = λ i. step_set h.terms.goods (λ j. unwrap_or (same (n + 1) j (omega arith) i) []) (members_in h)

down-alike : (h : TwoWayHistory) (reports : List Report) (n : ℕ) → Alike reports h.reports (n + 1) → is_down (record h { reports = reports }) n ≡ is_down h n
unfolding is_down
down-alike h reports zero same = ap (λ k. nat_eq k 0) (up-alike h reports 0 same)
down-alike h reports (suc n) same =
    let before = down-alike h reports n (λ round j up. same round j (omega arith)) in
    let now = up-alike h reports (suc n) same in
    λ i. before i || nat_eq (now i) 0

prices-alike : (h : TwoWayHistory) (reports : List Report) (n : ℕ) → Alike reports h.reports n → prices_after (record h { reports = reports }) n ≡ prices_after h n
unfolding prices_after
prices-alike h reports zero same = refl
prices-alike h reports (suc n) same =
    let one : n + 1 ≤ suc n = omega arith in
    let p = prices-alike h reports n (λ round j up. same round j (omega arith)) in
    let near : (round j : ℕ) → round ≤ n + 1 → demand_in reports round j ≡ demand_in h.reports round j = λ round j up. same round j (omega arith) in
    let d = down-alike h reports n near in
    let up = up-alike h reports n near in
    λ i. cond (d i) (lowered (p i) (fall_set h.terms.goods h.terms.opening (p i) (λ j. unwrap_or (near (n + 1) j (omega arith) i) []) (members_in h))) (raised (p i) (up i))

-- reports of later rounds change nothing
find-alone : (test : Report → Bool) (xs ys : List Report) → AllByRecursion (λ r. test r ≡ false) ys → find test (xs ++ ys) ≡ find test xs
find-alone test [] [] none = refl
find-alone test [] (y ∷ ys) none = ap (λ b. cond b (Some y) (find test ys)) none.0 ∙ find-alone test [] ys none.1
find-alone test (x ∷ xs) ys none = ap (λ o. cond (test x) (Some x) o) (find-alone test xs ys none)

later : (round j n : ℕ) (ys : List Report) → round ≤ n → AllByRecursion (λ (r : Report). n < r.round) ys → AllByRecursion (λ (r : Report). is_named round j r ≡ false) ys
later round j n [] up all = tt
later round j n (y ∷ ys) up all =
    let a = all.0 in
    let other : nat_eq y.round round ≡ false = grind (arith, nat_tests) in
    (ap (λ b. b && nat_eq y.bidder j) other, later round j n ys up all.1)

pub behind-alike : (xs ys : List Report) (n : ℕ) → AllByRecursion (λ (r : Report). n < r.round) ys → Alike (xs ++ ys) xs n
behind-alike xs ys n all round j up = ap (option_map (λ (r : Report). r.demand)) (find-alone (is_named round j) xs ys (later round j n ys up all))

module _ (terms : Terms) (number : ℕ) (start : List ℕ) (u : ℕ → List ℕ → ℤ) where
  abbrev of : List Report → TwoWayHistory
  of reports = record { terms = terms; number = number; start = start; reports = reports }

  abbrev rounds : ℕ → List Report
  rounds n = float_reports terms number start u n

  pub block-after : (n m : ℕ) (p js : List ℕ) → n < m → AllByRecursion (λ (r : Report). n < r.round) (round_reports terms u m p js)
  block-after n m p [] below = tt
  block-after n m p (j ∷ js) below = (below, block-after n m p js below)

  -- so many rounds more leave the prices before them
  stays : (n k : ℕ) → prices_after (of (rounds (n + k))) n ≡ prices_after (of (rounds n)) n
  unfolding float_reports
  stays n zero = let e : n + 0 ≡ n = omega arith in ap (λ m. prices_after (of (rounds m)) n) e
  stays n (suc k) =
      let e : n + suc k ≡ suc (n + k) = omega arith in
      let before = of (rounds (n + k)) in
      let more = round_reports terms u (suc (n + k)) (prices_after before (n + k)) (members terms.bidders number) in
      ap (λ m. prices_after (of (rounds m)) n) e ∙ prices-alike before (rounds (n + k) ++ more) n (behind-alike (rounds (n + k)) more n (block-after n (suc (n + k)) _ (members terms.bidders number) (omega arith))) ∙ stays n k

  -- each of so many rounds is true at the prices of the whole
  abbrev TrueIn : ℕ → Report → Type 0
  TrueIn last r = (k : ℕ) → k ≤ last → r.round ≡ k + 1 → r.demand ≡ demand terms.goods (u r.bidder) (prices_after (of (rounds (last + 1))) k)

  both-all : (P : Report → Type 0) (xs ys : List Report) → AllByRecursion P xs → AllByRecursion P ys → AllByRecursion P (xs ++ ys)
  both-all P [] ys a b = b
  both-all P (x ∷ xs) ys a b = (a.0, both-all P xs ys a.1 b)

  block-true : (last n : ℕ) (js : List ℕ) → n ≤ last → AllByRecursion (TrueIn last) (round_reports terms u (suc n) (prices_after (of (rounds n)) n) js)
  block-true last n [] up = tt
  block-true last n (j ∷ js) up = (λ k low round. here k low (omega arith), block-true last n js up)
    where
      here : (k : ℕ) → k ≤ last → n ≡ k → demand terms.goods (u j) (prices_after (of (rounds n)) n) ≡ demand terms.goods (u j) (prices_after (of (rounds (last + 1))) k)
      here k low same =
          let e : last + 1 ≡ k + (last + 1 - k) = omega arith in
          ap (λ m. demand terms.goods (u j) (prices_after (of (rounds m)) m)) same
          ∙ ap (demand terms.goods (u j)) (sym (ap (λ m. prices_after (of (rounds m)) k) e ∙ stays k (last + 1 - k)))

  all-true : (last n : ℕ) → n ≤ last + 1 → AllByRecursion (TrueIn last) (rounds n)
  unfolding float_reports
  all-true last zero up = tt
  all-true last (suc n) up = both-all (TrueIn last) (rounds n) _ (all-true last n (omega arith)) (block-true last n (members terms.bidders number) (omega arith))

pub reports-true : (u : ℕ → List ℕ → ℤ) (h : TwoWayHistory) → h.reports ≡ float_reports h.terms h.number h.start u (last_round h) → AllByRecursion (IsTrueReport u h) h.reports
reports-true u h are =
    let R : List Report → Type 0 = λ rs. AllByRecursion (λ (r : Report). (k : ℕ) → k ≤ steps_of h → r.round ≡ k + 1 → r.demand ≡ demand h.terms.goods (u r.bidder) (prices_after (record h { reports = rs }) k)) rs in
    subst R (sym are) (all-true h.terms h.number h.start u (steps_of h) (last_round h) (omega arith))

pub floated-true : (u : ℕ → List ℕ → ℤ) (h : TwoWayHistory) → IsFloatHistory u h → AllByRecursion (IsTrueReport u h) h.reports
floated-true u h is = reports-true u h is.reports_are
