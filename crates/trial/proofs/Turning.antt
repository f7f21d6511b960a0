-- Where a round that was told leads.
use Rattle.std.proofs.Common.{◌≡◌, ◌≢◌, ◌<◌, ◌≤◌, ◌⊎◌, inl, inr, ℕ, zero, suc, ◌+◌, Bool, true, false, not, ◌&&◌, nat_eq, List, [], ◌∷◌, ◌++◌, Option, Some, None, is_none, refl, sym, ◌∙◌, ap, arith, append-nil, subst}
use Rattle.std.specs.Prelude.{ℤ}
use Rattle.std.specs.List.{AllByRecursion}
use Rattle.lot_base.specs.declared.auction_terms.Terms.{Terms}
use Rattle.lot_base.specs.declared.phases.Phase.{Phase}
use Rattle.lot_base.specs.declared.phases.Phase.TheVariants.{Running, Ended, Halted}
use Rattle.lot_base.proofs.Within.{both}
use Rattle.demand_set.specs.declared.reports.Report.{Report}
use Rattle.clock.specs.Reports.{ClockHistory, is_full, members, members_of}
use Rattle.clock.specs.Standing.{steps_of, last_round, prices_of, prices_after, phase_of, phase_by, leads_on, is_full_after, step_set_after, good_at_ceiling}
use Rattle.clock.proofs.Path.{has_steps, compare-or}
use Rattle.clock.specs.Judging.{IsLegal}
use Rattle.settlement.specs.Clocks.{runs}
use Rattle.trial.specs.Trials.{round_reports, trial_reports}
use Rattle.trial.specs.Rounds.{IsFresh, told, IsTurned, HasGone, IsTrialOf}
use Rattle.trial.proofs.Finding.{all-both, all-more, full-told, open-beyond}
use Rattle.trial.proofs.Telling.{fresh-past, round-past}

-- a full round in which a clock is running leads on, so it is not the last one
pub leads-by : (full empty : Bool) (good : Option ℕ) → full ≡ true → phase_by full empty good ≡ Running → (full && (not empty && is_none good)) ≡ true
leads-by false empty good f e = absurd (let g : false ≡ true = f in cc)
leads-by true true good f e = absurd (let g : Ended ≡ Running = e in cc)
leads-by true false None f e = refl
leads-by true false (Some k) f e = absurd (let g : Halted k ≡ Running = e in cc)

pub never-full : (c : ClockHistory) → is_full_after c (steps_of c) ≡ true → phase_of c ≡ Running → ⊥
never-full c full runs =
    let on = leads-by (is_full_after c (steps_of c)) (nat_eq (step_set_after c (steps_of c)) 0) (good_at_ceiling c (steps_of c)) full runs in
    (let g : true ≡ false = sym on ∙ (has_steps c).stops in cc)

pub open-runs : (c : ClockHistory) → is_full_after c (steps_of c) ≡ false → phase_of c ≡ Running
open-runs c e = ap (λ b. phase_by b (nat_eq (step_set_after c (steps_of c)) 0) (good_at_ceiling c (steps_of c))) e

-- where there is no member
turned-none : (u : ℕ → List ℕ → ℤ) (c now : ClockHistory) → members_of c ≡ [] → now ≡ told u c → IsTurned c now
turned-none u c now none is =
    let nothing : told u c ≡ c = (λ i. record c { reports = c.reports ++ round_reports c.terms u (last_round c) (prices_of c) (none i) }) ∙ (λ i. record c { reports = append-nil c.reports i }) in
    let same : steps_of now ≡ steps_of c = ap steps_of (is ∙ nothing) in
    let full : is_full_after now (steps_of now) ≡ true = ap (λ k. is_full_after k (steps_of k)) (is ∙ nothing) ∙ ap (λ ms. is_full ms c.reports (steps_of c + 1)) none in
    record { stays = λ _. same; goes = λ runs. absurd (never-full now full runs) }

-- where there is one
turned-some : (u : ℕ → List ℕ → ℤ) (c now : ClockHistory) (j : ℕ) (js : List ℕ) → members_of c ≡ j ∷ js → IsFresh u c → now ≡ told u c → steps_of c ≤ steps_of now → IsTurned c now
turned-some u c now j js some fresh is steps =
    let s = steps_of c in
    let old : AllByRecursion (λ (r : Report). r.round ≤ s + 1) c.reports = all-more (λ (r : Report). r.round ≤ s) (λ (r : Report). r.round ≤ s + 1) c.reports (λ r low. omega arith) (fresh-past u c fresh) in
    let past = all-both (λ (r : Report). r.round ≤ s + 1) c.reports (round_reports c.terms u (last_round c) (prices_of c) (members_of c)) old (round-past c.terms u (last_round c) (prices_of c) (members_of c)) in
    let opened : (n : ℕ) → s < n → is_full_after now n ≡ false =
    λ n above. ap (λ k. is_full_after k n) is ∙ ap (λ ms. is_full ms (told u c).reports (n + 1)) some ∙ open-beyond j js (told u c).reports (s + 1) (n + 1) (omega arith) past in
    let full : is_full_after now s ≡ true = ap (λ k. is_full_after k s) is ∙ full-told c.terms u (last_round c) (prices_of c) (members_of c) c.reports in
    by (compare-or (steps_of now) s) (compare-or (steps_of now) (s + 1)) opened full
  where
    by : (steps_of now < steps_of c) ⊎ ((steps_of c < steps_of now) ⊎ (steps_of now ≡ steps_of c)) → (steps_of now < steps_of c + 1) ⊎ ((steps_of c + 1 < steps_of now) ⊎ (steps_of now ≡ steps_of c + 1))
        → ((n : ℕ) → steps_of c < n → is_full_after now n ≡ false) → is_full_after now (steps_of c) ≡ true → IsTurned c now
    by (inl less) next opened full = absurd (omega arith)
    by (inr (inl more)) (inl less) opened full = absurd (omega arith)
    by (inr (inl more)) (inr (inl far)) opened full =
        let on = (both (is_full_after now (steps_of c + 1)) _ ((has_steps now).before (steps_of c + 1) far)).0 in
        absurd (let g : true ≡ false = sym on ∙ opened (steps_of c + 1) (omega arith) in cc)
    by (inr (inl more)) (inr (inr same)) opened full = record { stays = λ halts. absurd (halts (open-runs now (opened (steps_of now) more))); goes = λ _. same }
    by (inr (inr same)) next opened full = record { stays = λ _. same; goes = λ runs. absurd (never-full now (ap (is_full_after now) same ∙ full) runs) }

pub turned : (u : ℕ → List ℕ → ℤ) (c now : ClockHistory) → IsFresh u c → now ≡ told u c → steps_of c ≤ steps_of now → IsTurned c now
turned u c now fresh is steps = by (members_of c) refl
  where
    by : (ms : List ℕ) → members_of c ≡ ms → IsTurned c now
    by [] none = turned-none u c now none is
    by (j ∷ js) some = turned-some u c now j js some fresh is steps

-- the reports are those of one round more
pub told-reports : (u : ℕ → List ℕ → ℤ) (c : ClockHistory) → IsFresh u c → (told u c).reports ≡ trial_reports c.terms c.number u (last_round c)
unfolding trial_reports
told-reports u c fresh =
    let n = steps_of c in
    let e : n + 1 ≡ suc n = omega arith in
    (λ i. fresh i ++ round_reports c.terms u (e i) (prices_after (record c { reports = fresh i }) n) (members_of c)) ∙ (λ i. trial_reports c.terms c.number u (sym e i))

-- a clock without reports
trial-none : (terms : Terms) (number : ℕ) (u : ℕ → List ℕ → ℤ) (n : ℕ) → members terms.bidders number ≡ [] → trial_reports terms number u n ≡ []
unfolding trial_reports
trial-none terms number u zero none = refl
trial-none terms number u (suc n) none =
    let before = trial_reports terms number u n in
    (λ i. before ++ round_reports terms u (suc n) (prices_after (record { terms = terms; number = number; reports = before }) n) (none i)) ∙ append-nil before ∙ trial-none terms number u n none

zero-steps : (c : ClockHistory) → leads_on c 0 ≡ false → 0 < steps_of c → ⊥
zero-steps c off some = (let on = (has_steps c).before 0 some in let e : true ≡ false = sym on ∙ off in cc)

pub fresh-new : (terms : Terms) (number : ℕ) (u : ℕ → List ℕ → ℤ) (c : ClockHistory) → c ≡ record { terms = terms; number = number; reports = [] } → IsFresh u c
unfolding trial_reports
fresh-new terms number u c is = subst (IsFresh u) (sym is) (by (members terms.bidders number) refl (compare-or 0 (steps_of k)))
  where
    k : ClockHistory
    k = record { terms = terms; number = number; reports = [] }

    by : (ms : List ℕ) → members terms.bidders number ≡ ms → (0 < steps_of k) ⊎ ((steps_of k < 0) ⊎ (0 ≡ steps_of k)) → IsFresh u k
    by [] none w = sym (trial-none terms number u (steps_of k) none)
    by (j ∷ js) some (inl more) = absurd (zero-steps k (ap (λ ms. is_full ms [] 1 && (not (nat_eq (step_set_after k 0) 0) && is_none (good_at_ceiling k 0))) some) more)
    by (j ∷ js) some (inr (inl less)) = absurd (omega arith)
    by (j ∷ js) some (inr (inr same)) = ap (trial_reports terms number u) same

-- the clock after a round
not-running : (phase : Phase) → runs phase ≡ false → phase ≢ Running
not-running phase r e = (let f : true ≡ false = sym (ap runs e) ∙ r in cc)

pub yes-running : (phase : Phase) → runs phase ≡ true → phase ≡ Running
yes-running Running r = refl
yes-running Ended r = absurd (let e : false ≡ true = r in cc)
yes-running (Halted good) r = absurd (let e : false ≡ true = r in cc)

pub reports-after : (terms : Terms) (number : ℕ) (u : ℕ → List ℕ → ℤ) (old now : ClockHistory) (n : ℕ) → IsFresh u old → now ≡ told u old → last_round old ≡ n → now.reports ≡ trial_reports now.terms now.number u n
reports-after terms number u old now n fresh is e =
    ap (λ (k : ClockHistory). k.reports) is ∙ told-reports u old fresh ∙ (λ i. trial_reports (sym is i).terms (sym is i).number u (e i))

pub whole-after : (terms : Terms) (number : ℕ) (u : ℕ → List ℕ → ℤ) (old now : ClockHistory) → old.terms ≡ terms → old.number ≡ number → IsFresh u old → now ≡ told u old → IsTurned old now → IsLegal now
    → runs (phase_of now) ≡ false → IsTrialOf terms u number now
whole-after terms number u old now t n fresh is turn legal halts =
    let over = not-running (phase_of now) halts in
    record {
      terms_are = ap (λ (k : ClockHistory). k.terms) is ∙ t;
      number_is = ap (λ (k : ClockHistory). k.number) is ∙ n;
      whole = record { reports_are = reports-after terms number u old now (last_round now) fresh is (ap (λ s. s + 1) (sym (turn.stays over))); over = over; legal = legal };
    }

pub record IsOn (terms : Terms) (number : ℕ) (u : ℕ → List ℕ → ℤ) (turn : ℕ) (now : ClockHistory) : Type 0 where
  pub terms_are : now.terms ≡ terms
  pub number_is : now.number ≡ number
  pub fresh : IsFresh u now
  pub steps : turn ≤ steps_of now

pub on-after : (terms : Terms) (number : ℕ) (u : ℕ → List ℕ → ℤ) (turn : ℕ) (old now : ClockHistory) → IsOn terms number u turn old → now ≡ told u old → IsTurned old now
    → runs (phase_of now) ≡ true → IsOn terms number u (turn + 1) now
on-after terms number u turn old now on is turned runs =
    let more = turned.goes (yes-running (phase_of now) runs) in
    record {
      terms_are = ap (λ (k : ClockHistory). k.terms) is ∙ on.terms_are;
      number_is = ap (λ (k : ClockHistory). k.number) is ∙ on.number_is;
      fresh = reports-after terms number u old now (steps_of now) on.fresh is (sym more);
      steps = (let s = on.steps in omega arith);
    }

pub on-gone : (terms : Terms) (number : ℕ) (u : ℕ → List ℕ → ℤ) (turn : ℕ) (old now : ClockHistory) → IsOn terms number u turn old → HasGone u old now → IsOn terms number u turn now
on-gone terms number u turn old now on gone = record {
  terms_are = gone.terms_stay ∙ on.terms_are;
  number_is = gone.number_stays ∙ on.number_is;
  fresh = gone.fresh;
  steps = (let s = on.steps in let g = gone.steps in omega (arith, s, g));
}
