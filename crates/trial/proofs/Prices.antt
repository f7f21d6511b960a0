-- What later reports leave as it was, and so that a trial is one.
use Rattle.std.proofs.Common.{◌≡◌, ◌<◌, ◌≤◌, ◌⊎◌, inl, inr, ℕ, zero, suc, ◌+◌, ◌-◌, true, false, not, ◌&&◌, nat_eq, cond, List, [], ◌∷◌, ◌++◌, Some, None, is_some, is_none, refl, sym, ◌∙◌, ap, arith, append-nil, append_assoc, subst}
use Rattle.std.specs.Prelude.{find, option_map, unwrap_or, ℤ}
use Rattle.std.specs.List.{AllByRecursion}
use Rattle.std.proofs.lemmas.Bool.Decides.{nat_tests}
use Rattle.lot_base.specs.Goods.{raised}
use Rattle.lot_base.specs.Steps.{step_set}
use Rattle.lot_base.specs.Economy.{demand}
use Rattle.lot_base.specs.declared.auction_terms.Terms.{Terms}
use Rattle.demand_set.specs.declared.reports.Report.{Report}
use Rattle.clock.specs.Reports.{ClockHistory, is_named, demand_in, is_full, members, members_of}
use Rattle.clock.specs.Standing.{steps_of, last_round, prices_after, step_set_after, good_from, leads_on}
use Rattle.clock.specs.Explained.{IsTrueReport}
use Rattle.clock.proofs.Path.{has_steps, compare-or}
use Rattle.trial.specs.Trials.{round_reports, trial_reports, IsTrialHistory}
use Rattle.trial.proofs.Finding.{all-both, all-more, find-before}

-- the reports are of rounds after this one
abbrev IsLater : ℕ → List Report → Type 0
IsLater n reports = AllByRecursion (λ (r : Report). n < r.round) reports

later-by : (n m : ℕ) (ys : List Report) → m ≤ n → IsLater n ys → IsLater m ys
later-by n m ys low all = all-more (λ (r : Report). n < r.round) (λ (r : Report). m < r.round) ys (λ r h. omega arith) all

none-early : (ys : List Report) (n round j : ℕ) → round ≤ n → IsLater n ys → find (is_named round j) ys ≡ None
none-early [] n round j low all = refl
none-early (y ∷ ys) n round j low all =
    let h = all.0 in
    let other : nat_eq y.round round ≡ false = grind (arith, nat_tests) in
    ap (λ b. cond (b && nat_eq y.bidder j) (Some y) (find (is_named round j) ys)) other ∙ none-early ys n round j low all.1

demand-early : (xs ys : List Report) (n round j : ℕ) → round ≤ n → IsLater n ys → demand_in (xs ++ ys) round j ≡ demand_in xs round j
demand-early xs ys n round j low all = ap (option_map (λ (r : Report). r.demand)) (find-before (is_named round j) xs ys (none-early ys n round j low all))

-- the history with more reports
abbrev with_more : ClockHistory → List Report → ClockHistory
with_more c ys = record c { reports = c.reports ++ ys }

set-early : (c : ClockHistory) (ys : List Report) (n : ℕ) → IsLater (n + 1) ys → step_set_after (with_more c ys) n ≡ step_set_after c n
set-early c ys n all =
    let d = λ (j : ℕ). demand-early c.reports ys (n + 1) (n + 1) j (omega arith) all in
    λ i. step_set c.terms.goods (λ j. unwrap_or (d j i) []) (members_of c)

pub prices-early : (c : ClockHistory) (ys : List Report) (n : ℕ) → IsLater n ys → prices_after (with_more c ys) n ≡ prices_after c n
unfolding prices_after
prices-early c ys zero all = refl
prices-early c ys (suc n) all =
    let p = prices-early c ys n (later-by (suc n) n ys (omega arith) all) in
    let s = set-early c ys n (later-by (suc n) (n + 1) ys (omega arith) all) in
    λ i. raised (p i) (s i)

full-early : (ms : List ℕ) (xs ys : List Report) (n round : ℕ) → round ≤ n → IsLater n ys → is_full ms (xs ++ ys) round ≡ is_full ms xs round
full-early [] xs ys n round low all = refl
full-early (j ∷ ms) xs ys n round low all =
    let d = demand-early xs ys n round j low all in
    let rest = full-early ms xs ys n round low all in
    λ i. is_some (d i) && rest i

pub leads-early : (c : ClockHistory) (ys : List Report) (n : ℕ) → IsLater (n + 1) ys → leads_on (with_more c ys) n ≡ leads_on c n
leads-early c ys n all =
    let f = full-early (members_of c) c.reports ys (n + 1) (n + 1) (omega arith) all in
    let s = set-early c ys n all in
    let p = prices-early c ys n (later-by (n + 1) n ys (omega arith) all) in
    λ i. f i && (not (nat_eq (s i) 0) && is_none (good_from 0 c.terms.ceiling (p i) (s i)))

-- the reports of more rounds are those of fewer, and later ones
pub record IsFront (terms : Terms) (number : ℕ) (u : ℕ → List ℕ → ℤ) (n m : ℕ) : Type 0 where
  pub rest : List Report
  pub later : IsLater n rest
  pub whole : trial_reports terms number u m ≡ trial_reports terms number u n ++ rest

pub round-later : (terms : Terms) (u : ℕ → List ℕ → ℤ) (n t : ℕ) (p js : List ℕ) → n < t → IsLater n (round_reports terms u t p js)
round-later terms u n t p [] above = tt
round-later terms u n t p (j ∷ js) above = (omega arith, round-later terms u n t p js above)

pub front : (terms : Terms) (number : ℕ) (u : ℕ → List ℕ → ℤ) (n more m : ℕ) → m ≡ n + more → IsFront terms number u n m
unfolding trial_reports
front terms number u n zero m e =
    let same : m ≡ n = omega arith in
    record { rest = []; later = tt; whole = ap (trial_reports terms number u) same ∙ sym (append-nil (trial_reports terms number u n)) }
front terms number u n (suc more) m e =
    let k = n + more in
    let f = front terms number u n more k refl in
    let before = trial_reports terms number u k in
    let last = round_reports terms u (suc k) (prices_after (record { terms = terms; number = number; reports = before }) k) (members terms.bidders number) in
    let same : m ≡ suc k = omega arith in
    record {
      rest = f.rest ++ last;
      later = all-both (λ (r : Report). n < r.round) f.rest last f.later (round-later terms u n (suc k) _ (members terms.bidders number) (omega arith));
      whole = ap (trial_reports terms number u) same ∙ ap (λ xs. xs ++ last) f.whole ∙ append_assoc (trial_reports terms number u n) f.rest last;
    }

-- each report of a trial is true at the prices to which the rounds before it lead
abbrev IsTrueAt : Terms → ℕ → (ℕ → List ℕ → ℤ) → Report → Type 0
IsTrueAt terms number u r = (m : ℕ) → r.round ≡ m + 1 → r.demand ≡ demand terms.goods (u r.bidder) (prices_after (record { terms = terms; number = number; reports = trial_reports terms number u m }) m)

round-true : (terms : Terms) (number : ℕ) (u : ℕ → List ℕ → ℤ) (n : ℕ) (js : List ℕ)
    → AllByRecursion (IsTrueAt terms number u) (round_reports terms u (suc n) (prices_after (record { terms = terms; number = number; reports = trial_reports terms number u n }) n) js)
round-true terms number u n [] = tt
round-true terms number u n (j ∷ js) =
    ((λ m e. let same : n ≡ m = omega arith in ap (λ k. demand terms.goods (u j) (prices_after (record { terms = terms; number = number; reports = trial_reports terms number u k }) k)) same), round-true terms number u n js)

pub all-true : (terms : Terms) (number : ℕ) (u : ℕ → List ℕ → ℤ) (n : ℕ) → AllByRecursion (IsTrueAt terms number u) (trial_reports terms number u n)
unfolding trial_reports
all-true terms number u zero = tt
all-true terms number u (suc n) = all-both (IsTrueAt terms number u) (trial_reports terms number u n) _ (all-true terms number u n) (round-true terms number u n (members terms.bidders number))

-- the prices of a whole history are those of its front
prices-front : (u : ℕ → List ℕ → ℤ) (h : ClockHistory) (m : ℕ) → h.reports ≡ trial_reports h.terms h.number u (last_round h) → m ≤ steps_of h
    → prices_after h m ≡ prices_after (record h { reports = trial_reports h.terms h.number u m }) m
prices-front u h m is low =
    let f = front h.terms h.number u m (last_round h - m) (last_round h) (omega arith) in
    (λ i. prices_after (record h { reports = (is ∙ f.whole) i }) m) ∙ prices-early (record h { reports = trial_reports h.terms h.number u m }) f.rest m f.later

pub history-true : (u : ℕ → List ℕ → ℤ) (h : ClockHistory) → IsTrialHistory u h → AllByRecursion (IsTrueReport u h) h.reports
history-true u h t =
    let L : List Report → Type 0 = AllByRecursion (IsTrueReport u h) in
    subst L (sym t.reports_are) (all-more (IsTrueAt h.terms h.number u) (IsTrueReport u h) (trial_reports h.terms h.number u (last_round h))
    (λ r true steps low round. true steps round ∙ ap (demand h.terms.goods (u r.bidder)) (sym (prices-front u h steps t.reports_are low))) (all-true h.terms h.number u (last_round h)))

-- no trial ends earlier than another
not-earlier : (u : ℕ → List ℕ → ℤ) (g h : ClockHistory) → IsTrialHistory u g → IsTrialHistory u h → g.terms ≡ h.terms → g.number ≡ h.number → steps_of g < steps_of h → ⊥
not-earlier u g h tg th terms number less =
    let n = steps_of g in
    let f = front h.terms h.number u (n + 1) (last_round h - (n + 1)) (last_round h) (omega arith) in
    let mine : g.reports ≡ trial_reports h.terms h.number u (n + 1) = tg.reports_are ∙ (λ i. trial_reports (terms i) (number i) u (n + 1)) in
    let same : h ≡ with_more g f.rest = (λ i. record { terms = sym terms i; number = sym number i; reports = (th.reports_are ∙ f.whole ∙ ap (λ xs. xs ++ f.rest) (sym mine)) i }) in
    let on = (has_steps h).before n less in
    let off = ap (λ k. leads_on k n) same ∙ leads-early g f.rest n f.later ∙ (has_steps g).stops in
    (let e : true ≡ false = sym on ∙ off in cc)

pub one-history : (u : ℕ → List ℕ → ℤ) (g h : ClockHistory) → IsTrialHistory u g → IsTrialHistory u h → g.terms ≡ h.terms → g.number ≡ h.number → g ≡ h
one-history u g h tg th terms number = by (compare-or (steps_of g) (steps_of h))
  where
    by : (steps_of g < steps_of h) ⊎ ((steps_of h < steps_of g) ⊎ (steps_of g ≡ steps_of h)) → g ≡ h
    by (inl less) = absurd (not-earlier u g h tg th terms number less)
    by (inr (inl more)) = absurd (not-earlier u h g th tg (sym terms) (sym number) more)
    by (inr (inr same)) =
        let reports : g.reports ≡ h.reports = tg.reports_are ∙ (λ i. trial_reports (terms i) (number i) u (same i + 1)) ∙ sym th.reports_are in
        λ i. record { terms = terms i; number = number i; reports = reports i }
