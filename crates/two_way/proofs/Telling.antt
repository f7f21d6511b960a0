-- A two-way clock that is told what valuations demand, round by round.
use Rattle.std.proofs.Common.{◌≡◌, ◌≢◌, ◌<◌, ◌≤◌, ◌⊎◌, inl, inr, ℕ, zero, suc, ◌+◌, Bool, true, false, nat_eq, cond, List, [], ◌∷◌, ◌++◌, ◌-◌, length, get_or, map, None, refl, sym, ◌∙◌, ap, arith, append_assoc, append-nil, subst}
use Rattle.std.specs.Prelude.{option_map, nat_le, ℤ}
use Rattle.std.specs.List.{AllByRecursion}
use Rattle.std.proofs.lemmas.Bool.Decides.{nat_tests}
use Rattle.std.proofs.lemmas.List.{map-append}
use Rattle.lot_base.specs.Demands.{IsDemand}
use Rattle.lot_base.specs.Economy.{demand}
use Rattle.lot_base.proofs.Ascending.{IsDemand-demand}
use Rattle.lot_base.specs.declared.auction_terms.Terms.{Terms}
use Rattle.lot_base.specs.declared.phases.Phase.{Phase}
use Rattle.demand_set.specs.declared.reports.Report.{Report}
use Rattle.clock.specs.declared.judging.Judgement.TheVariants.{Take, NotMember, NoRound}
use Rattle.clock.specs.Reports.{ClockHistory, is_named, demand_in, members, is_full}
use Rattle.clock.specs.Standing.{phase_by}
use Rattle.clock.specs.Judging.{IsMember, judged, repeat_of, late_by}
use Rattle.clock.proofs.Append.{absent-beyond}
use Rattle.clock.proofs.FirstMembers.{members-with, members-without}
use Rattle.clock.proofs.Judges.{is-member}
use Rattle.clock.proofs.Path.{compare-or}
use Rattle.settlement.specs.Clocks.{runs}
use Rattle.trial.specs.Trials.{true_report, round_reports}
use Rattle.trial.proofs.Finding.{all-both, all-more, find-after, members-up_to, none-behind, full-told, open-beyond}
use Rattle.trial.proofs.Telling.{round-past, get-same}
use Rattle.trial.specs.Bidding.{bidders_of}
use Rattle.trial.proofs.Turning.{leads-by, yes-running}
use Rattle.valuation.specs.Values.{valuation_of}
use Rattle.two_way.specs.Histories.{TwoWayHistory, IsStart, as_clock, members_in, told}
use Rattle.two_way.specs.Standing.{is_full_after, set_after, good_at_ceiling, prices_after, steps_of, last_round, phase_of, prices_of, judgement_of}
use Rattle.two_way.specs.FloatHistories.{float_reports, IsFresh, round_told_to, round_told, is_running, HasTurned}
use Rattle.two_way.proofs.Growing.{grows}
use Rattle.two_way.proofs.Rounds.{leads, has-steps, before-last}

-- the reports of some rounds are of these
pub float-past : (terms : Terms) (number : ℕ) (start : List ℕ) (u : ℕ → List ℕ → ℤ) (n : ℕ) → AllByRecursion (λ (r : Report). r.round ≤ n) (float_reports terms number start u n)
unfolding float_reports
float-past terms number start u zero = tt
float-past terms number start u (suc n) =
    let before = float_reports terms number start u n in
    all-both (λ (r : Report). r.round ≤ suc n) before _ (all-more (λ (r : Report). r.round ≤ n) (λ (r : Report). r.round ≤ suc n) before (λ r low. omega arith) (float-past terms number start u n)) (round-past terms u (suc n) _ _)

pub fresh-past : (u : ℕ → List ℕ → ℤ) (h : TwoWayHistory) → IsFresh u h → AllByRecursion (λ (r : Report). r.round ≤ steps_of h) h.reports
fresh-past u h fresh = let P : List Report → Type 0 = AllByRecursion (λ (r : Report). r.round ≤ steps_of h) in subst P (sym fresh) (float-past h.terms h.number h.start u (steps_of h))

-- nobody after these has reported in the round
pub not-yet : (u : ℕ → List ℕ → ℤ) (h : TwoWayHistory) (last b : ℕ) → IsFresh u h → last < b → demand_in (round_told_to u last h).reports (last_round h) b ≡ None
not-yet u h last b fresh behind =
    let p = prices_of h in
    let js = members last h.number in
    let t = last_round h in
    ap (option_map (λ (r : Report). r.demand)) (find-after (is_named t b) h.reports (round_reports h.terms u t p js) (absent-beyond (steps_of h) t b h.reports (omega arith) (fresh-past u h fresh))
    ∙ none-behind h.terms u t p js last t b (members-up_to last 1 last h.number (omega arith)) behind)

-- a report of a member in a round that has none of it is taken
take-is : (c : ClockHistory) (last : ℕ) (phase : Phase) (r : Report) → IsMember c r.bidder → 1 ≤ r.round → r.round ≤ last → demand_in c.reports r.round r.bidder ≡ None → judged c last phase r ≡ Take
take-is c last phase r member low high e =
    let m = is-member c r.bidder member in
    let z : nat_eq r.round 0 ≡ false = grind (arith, nat_tests) in
    let t : nat_le r.round last ≡ true = grind (arith, nat_tests) in
    (λ i. cond (m i) (cond (z i) NoRound (cond (t i) (repeat_of r.round r.demand (e i)) (late_by phase last))) NotMember)

-- the next member's report is taken
pub takes-next : (u : ℕ → List ℕ → ℤ) (h now : TwoWayHistory) (last : ℕ) → IsFresh u h → now ≡ round_told_to u last h → steps_of h ≤ steps_of now → last + 1 ≤ h.terms.bidders → last + 1 ≢ h.number
    → judgement_of now (true_report h.terms u (last_round h) (prices_of h) (last + 1)) ≡ Take
takes-next u h now last fresh is steps bidders other =
    let r = true_report h.terms u (last_round h) (prices_of h) (last + 1) in
    let terms = ap (λ (k : TwoWayHistory). k.terms.bidders) is in
    let number = ap (λ (k : TwoWayHistory). k.number) is in
    let member : IsMember (as_clock now) (last + 1) = record { from_one = omega arith; to_last = omega (arith, terms); other = λ e. other (e ∙ number) } in
    take-is (as_clock now) (last_round now) (phase_of now) r member (omega arith) (omega (arith, steps)) (ap (λ (k : TwoWayHistory). demand_in k.reports (last_round h) (last + 1)) is ∙ not-yet u h last (last + 1) fresh (omega arith))

-- with one bidder more
pub told-with : (u : ℕ → List ℕ → ℤ) (h now : TwoWayHistory) (last : ℕ) → now ≡ round_told_to u last h → last + 1 ≢ h.number
    → told now (true_report h.terms u (last_round h) (prices_of h) (last + 1)) ≡ round_told_to u (last + 1) h
told-with u h now last is other =
    let f = true_report h.terms u (last_round h) (prices_of h) in
    let r = f (last + 1) in
    let e : (h.reports ++ map f (members last h.number)) ++ r ∷ [] ≡ h.reports ++ map f (members (last + 1) h.number) =
    append_assoc h.reports (map f (members last h.number)) (r ∷ []) ∙ ap (λ xs. h.reports ++ xs) (sym (map-append f (members last h.number) ((last + 1) ∷ [])) ∙ ap (map f) (sym (members-with last h.number other))) in
    ap (λ k. told k r) is ∙ (λ i. record h { reports = e i })

pub told-without : (u : ℕ → List ℕ → ℤ) (h now : TwoWayHistory) (last : ℕ) → now ≡ round_told_to u last h → last + 1 ≡ h.number → now ≡ round_told_to u (last + 1) h
told-without u h now last is same = is ∙ ap (λ js. record h { reports = h.reports ++ round_reports h.terms u (last_round h) (prices_of h) js }) (sym (members-without last h.number same))

pub told-none : (u : ℕ → List ℕ → ℤ) (h : TwoWayHistory) → h ≡ round_told_to u 0 h
told-none u h = (λ i. record h { reports = sym (append-nil h.reports) i })

-- the reports are those of one round more
told-reports : (u : ℕ → List ℕ → ℤ) (h : TwoWayHistory) → IsFresh u h → (round_told u h).reports ≡ float_reports h.terms h.number h.start u (last_round h)
unfolding float_reports
told-reports u h fresh =
    let n = steps_of h in
    let e : n + 1 ≡ suc n = omega arith in
    (λ i. fresh i ++ round_reports h.terms u (e i) (prices_after (record h { reports = fresh i }) n) (members_in h)) ∙ (λ i. float_reports h.terms h.number h.start u (sym e i))

-- a clock without members has no reports
float-none : (terms : Terms) (number : ℕ) (start : List ℕ) (u : ℕ → List ℕ → ℤ) (n : ℕ) → members terms.bidders number ≡ [] → float_reports terms number start u n ≡ []
unfolding float_reports
float-none terms number start u zero none = refl
float-none terms number start u (suc n) none =
    let before = float_reports terms number start u n in
    (λ i. before ++ round_reports terms u (suc n) (prices_after (record { terms = terms; number = number; start = start; reports = before }) n) (none i)) ∙ append-nil before ∙ float-none terms number start u n none

never-full : (h : TwoWayHistory) → IsStart h.terms h.start → is_full_after h (steps_of h) ≡ true → is_running h ≡ true → ⊥
never-full h start full runs =
    let on = leads-by (is_full_after h (steps_of h)) (nat_eq (set_after h (steps_of h)) 0) (good_at_ceiling h (steps_of h)) full (yes-running (phase_of h) runs) in
    (let g : true ≡ false = sym on ∙ (has-steps h start).stops in cc)

open-runs : (h : TwoWayHistory) → is_full_after h (steps_of h) ≡ false → is_running h ≡ true
open-runs h e = ap (λ b. runs (phase_by b (nat_eq (set_after h (steps_of h)) 0) (good_at_ceiling h (steps_of h)))) e

clash : {A : Type 0} (b : Bool) → b ≡ true → b ≡ false → A
clash b e f = absurd (let g : true ≡ false = sym e ∙ f in cc)

-- where there is no member
turned-none : (u : ℕ → List ℕ → ℤ) (h now : TwoWayHistory) → IsStart now.terms now.start → members_in h ≡ [] → now ≡ round_told u h → HasTurned h now
turned-none u h now start none is =
    let nothing : round_told u h ≡ h = (λ i. record h { reports = h.reports ++ round_reports h.terms u (last_round h) (prices_of h) (none i) }) ∙ (λ i. record h { reports = append-nil h.reports i }) in
    let same : steps_of now ≡ steps_of h = ap steps_of (is ∙ nothing) in
    let full : is_full_after now (steps_of now) ≡ true = ap (λ k. is_full_after k (steps_of k)) (is ∙ nothing) ∙ ap (λ ms. is_full ms h.reports (steps_of h + 1)) none in
    record { stays = λ _. same; goes = λ runs. absurd (never-full now start full runs) }

-- where there is one
turned-some : (u : ℕ → List ℕ → ℤ) (h now : TwoWayHistory) (j : ℕ) (js : List ℕ) → IsStart now.terms now.start → members_in h ≡ j ∷ js → IsFresh u h → now ≡ round_told u h → steps_of h ≤ steps_of now → HasTurned h now
turned-some u h now j js start some fresh is steps =
    let s = steps_of h in
    let old : AllByRecursion (λ (r : Report). r.round ≤ s + 1) h.reports = all-more (λ (r : Report). r.round ≤ s) (λ (r : Report). r.round ≤ s + 1) h.reports (λ r low. omega arith) (fresh-past u h fresh) in
    let past = all-both (λ (r : Report). r.round ≤ s + 1) h.reports (round_reports h.terms u (last_round h) (prices_of h) (members_in h)) old (round-past h.terms u (last_round h) (prices_of h) (members_in h)) in
    let opened : (n : ℕ) → s < n → is_full_after now n ≡ false =
    λ n above. ap (λ k. is_full_after k n) is ∙ ap (λ ms. is_full ms (round_told u h).reports (n + 1)) some ∙ open-beyond j js (round_told u h).reports (s + 1) (n + 1) (omega arith) past in
    let full : is_full_after now s ≡ true = ap (λ k. is_full_after k s) is ∙ full-told h.terms u (last_round h) (prices_of h) (members_in h) h.reports in
    by (compare-or (steps_of now) s) (compare-or (steps_of now) (s + 1)) opened full
  where
    by : (steps_of now < steps_of h) ⊎ ((steps_of h < steps_of now) ⊎ (steps_of now ≡ steps_of h)) → (steps_of now < steps_of h + 1) ⊎ ((steps_of h + 1 < steps_of now) ⊎ (steps_of now ≡ steps_of h + 1))
        → ((n : ℕ) → steps_of h < n → is_full_after now n ≡ false) → is_full_after now (steps_of h) ≡ true → HasTurned h now
    by (inl less) next opened full = absurd (omega arith)
    by (inr (inl more)) (inl less) opened full = absurd (omega arith)
    by (inr (inl more)) (inr (inl far)) opened full =
        let on = (leads now (steps_of h + 1) (before-last now (steps_of h + 1) far)).full in
        clash (is_full_after now (steps_of h + 1)) on (opened (steps_of h + 1) (omega arith))
    by (inr (inl more)) (inr (inr same)) opened full = record { stays = λ over. clash (is_running now) (open-runs now (opened (steps_of now) more)) over; goes = λ _. same }
    by (inr (inr same)) next opened full = record { stays = λ _. same; goes = λ runs. absurd (never-full now start (ap (is_full_after now) same ∙ full) runs) }

pub turned-told : (u : ℕ → List ℕ → ℤ) (h now : TwoWayHistory) → IsStart h.terms h.start → IsFresh u h → now ≡ round_told u h → steps_of h ≤ steps_of now → HasTurned h now
turned-told u h now start fresh is steps =
    let S : TwoWayHistory → Type 0 = λ k. IsStart k.terms k.start in
    by (subst S (sym is) start) (members_in h) refl
  where
    by : IsStart now.terms now.start → (ms : List ℕ) → members_in h ≡ ms → HasTurned h now
    by start [] none = turned-none u h now start none is
    by start (j ∷ js) some = turned-some u h now j js start some fresh is steps

-- what is known of a clock of this number that is told round after round
pub record IsOn (terms : Terms) (start : List ℕ) (number : ℕ) (u : ℕ → List ℕ → ℤ) (turn : ℕ) (h : TwoWayHistory) : Type 0 where
  pub terms_are : h.terms ≡ terms
  pub start_is : h.start ≡ start
  pub number_is : h.number ≡ number
  pub fresh : is_running h ≡ true → IsFresh u h
  pub over : is_running h ≡ false → h.reports ≡ float_reports h.terms h.number h.start u (last_round h)
  pub steps : is_running h ≡ true → turn ≤ steps_of h

pub on-new : (terms : Terms) (start : List ℕ) (number : ℕ) (u : ℕ → List ℕ → ℤ) (h : TwoWayHistory) → IsStart terms start → h ≡ record { terms = terms; number = number; start = start; reports = [] } → IsOn terms start number u 0 h
unfolding float_reports
on-new terms start number u h may is =
    let P : TwoWayHistory → Type 0 = IsOn terms start number u 0 in
    subst P (sym is) (by (members terms.bidders number) refl (compare-or 0 (steps_of k)))
  where
    k : TwoWayHistory
    k = record { terms = terms; number = number; start = start; reports = [] }

    by : (ms : List ℕ) → members terms.bidders number ≡ ms → (0 < steps_of k) ⊎ ((steps_of k < 0) ⊎ (0 ≡ steps_of k)) → IsOn terms start number u 0 k
    by [] none w = record {
      terms_are = refl;
      start_is = refl;
      number_is = refl;
      fresh = λ _. sym (float-none terms number start u (steps_of k) none);
      over = λ _. sym (float-none terms number start u (last_round k) none);
      steps = λ _. omega arith;
    }
    by (j ∷ js) some (inl more) = clash (is_full_after k 0) (leads k 0 (before-last k 0 more)).full (ap (λ ms. is_full ms [] 1) some)
    by (j ∷ js) some (inr (inl less)) = absurd (omega arith)
    by (j ∷ js) some (inr (inr same)) = record {
      terms_are = refl;
      start_is = refl;
      number_is = refl;
      fresh = λ _. ap (float_reports terms number start u) same;
      over = λ over. clash (is_running k) (open-runs k (ap (is_full_after k) (sym same) ∙ ap (λ ms. is_full ms [] 1) some)) over;
      steps = λ _. omega arith;
    }

pub on-told : (terms : Terms) (start : List ℕ) (number : ℕ) (u : ℕ → List ℕ → ℤ) (turn : ℕ) (old now : TwoWayHistory) → IsOn terms start number u turn old → is_running old ≡ true → now ≡ round_told u old → HasTurned old now
    → IsOn terms start number u (turn + 1) now
on-told terms start number u turn old now on running is turned =
    let all : (n : ℕ) → last_round old ≡ n → now.reports ≡ float_reports now.terms now.number now.start u n =
    λ n e. ap (λ (k : TwoWayHistory). k.reports) is ∙ told-reports u old (on.fresh running) ∙ (λ i. float_reports (sym is i).terms (sym is i).number (sym is i).start u (e i)) in
    record {
      terms_are = ap (λ (k : TwoWayHistory). k.terms) is ∙ on.terms_are;
      start_is = ap (λ (k : TwoWayHistory). k.start) is ∙ on.start_is;
      number_is = ap (λ (k : TwoWayHistory). k.number) is ∙ on.number_is;
      fresh = λ runs. all (steps_of now) (sym (turned.goes runs));
      over = λ over. all (last_round now) (ap (λ n. n + 1) (sym (turned.stays over)));
      steps = λ runs. (let s = on.steps running in let g = turned.goes runs in omega (arith, s, g));
    }

-- the report that a valuation gives at the present prices is the true one
pub value-here : (supply : List ℕ) (valuations : List (List ℕ)) (v : List ℕ) (place : ℕ) → place < length valuations → v ≡ get_or valuations place v → valuation_of supply v ≡ bidders_of supply valuations (place + 1)
value-here supply valuations v place below e =
    let back : place ≡ place + 1 - 1 = omega arith in
    ap (valuation_of supply) (e ∙ get-same valuations place v [] below ∙ ap (λ i. get_or valuations i []) back)

pub report-here : (terms : Terms) (h : TwoWayHistory) (u : ℕ → List ℕ → ℤ) (place round : ℕ) (prices : List ℕ) (v : List ℕ → ℤ) (d : List (List ℕ)) → h.terms ≡ terms → round ≡ last_round h → prices ≡ prices_of h → v ≡ u (place + 1)
    → d ≡ demand terms.goods v prices → record { bidder = place + 1; round = round; demand = d } ≡ true_report h.terms u (last_round h) (prices_of h) (place + 1)
report-here terms h u place round prices v d same r p is e =
    let f : d ≡ demand h.terms.goods (u (place + 1)) (prices_of h) = e ∙ (λ i. demand (sym same i).goods (is i) (p i)) in
    λ i. record { bidder = place + 1; round = r i; demand = f i }

pub report-fits : (terms : Terms) (h now : TwoWayHistory) (v : List ℕ → ℤ) (prices : List ℕ) (d : List (List ℕ)) (u : ℕ → List ℕ → ℤ) (last : ℕ) → h.terms ≡ terms → now ≡ round_told_to u last h → d ≡ demand terms.goods v prices → IsDemand now.terms.goods d
report-fits terms h now v prices d u last same is e =
    let G : List ℕ → Type 0 = λ g. IsDemand g d in
    let D : List (List ℕ) → Type 0 = IsDemand terms.goods in
    subst G (ap (λ (t : Terms). t.goods) (sym same) ∙ ap (λ (k : TwoWayHistory). k.terms.goods) (sym is)) (subst D (sym e) (IsDemand-demand terms.goods v prices))

-- a report more makes no fewer steps
pub grows-on : (h now next : TwoWayHistory) (u : ℕ → List ℕ → ℤ) (last : ℕ) (r : Report) → IsStart h.terms h.start → now ≡ round_told_to u last h → next ≡ told now r → steps_of h ≤ steps_of now → steps_of h ≤ steps_of next
grows-on h now next u last r start is e grown =
    let S : TwoWayHistory → Type 0 = λ k. IsStart k.terms k.start in
    let more = (grows now r (subst S (sym is) start)).steps in
    let same = ap steps_of e in
    omega (arith, grown, more, same)
