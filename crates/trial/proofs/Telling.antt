-- A round of a trial while it is told.
use Rattle.std.proofs.Common.{◌≡◌, ◌≢◌, ◌<◌, ◌≤◌, ℕ, zero, suc, ◌+◌, List, [], ◌∷◌, ◌++◌, length, get_or, map, None, true, false, nat_eq, cond, refl, sym, ◌∙◌, ap, arith, append_assoc, append-nil, subst}
use Rattle.std.specs.Prelude.{option_map, nat_le, ℤ}
use Rattle.std.proofs.lemmas.Bool.Decides.{nat_tests}
use Rattle.std.specs.List.{AllByRecursion}
use Rattle.lot_base.specs.declared.auction_terms.Terms.{Terms}
use Rattle.demand_set.specs.declared.reports.Report.{Report}
use Rattle.clock.specs.declared.judging.Judgement.TheVariants.{Take}
use Rattle.clock.specs.Reports.{ClockHistory, with_report, is_named, demand_in, members}
use Rattle.clock.specs.Standing.{steps_of, last_round, phase_of, prices_of}
use Rattle.clock.specs.Judging.{judgement_of, IsInRound, IsMember, repeat_of, late_by}
use Rattle.clock.specs.declared.judging.Judgement.TheVariants.{NotMember, NoRound}
use Rattle.clock.proofs.Append.{absent-beyond}
use Rattle.clock.proofs.FirstMembers.{members-with, members-without}
use Rattle.clock.proofs.Judges.{is-member}
use Rattle.trial.specs.Trials.{true_report, round_reports, trial_reports}
use Rattle.trial.specs.Rounds.{IsFresh, told_up_to}
use Rattle.trial.proofs.Finding.{all-both, all-more, find-after, members-up_to, none-behind}

pub round-past : (terms : Terms) (u : ℕ → List ℕ → ℤ) (t : ℕ) (p js : List ℕ) → AllByRecursion (λ (r : Report). r.round ≤ t) (round_reports terms u t p js)
round-past terms u t p [] = tt
round-past terms u t p (j ∷ js) = (omega arith, round-past terms u t p js)

-- the reports of some rounds are of these
pub trial-past : (terms : Terms) (number : ℕ) (u : ℕ → List ℕ → ℤ) (n : ℕ) → AllByRecursion (λ (r : Report). r.round ≤ n) (trial_reports terms number u n)
unfolding trial_reports
trial-past terms number u zero = tt
trial-past terms number u (suc n) =
    let before = trial_reports terms number u n in
    all-both (λ (r : Report). r.round ≤ suc n) before _ (all-more (λ (r : Report). r.round ≤ n) (λ (r : Report). r.round ≤ suc n) before (λ r low. omega arith) (trial-past terms number u n)) (round-past terms u (suc n) _ _)

pub fresh-past : (u : ℕ → List ℕ → ℤ) (c : ClockHistory) → IsFresh u c → AllByRecursion (λ (r : Report). r.round ≤ steps_of c) c.reports
fresh-past u c fresh = let P : List Report → Type 0 = AllByRecursion (λ (r : Report). r.round ≤ steps_of c) in subst P (sym fresh) (trial-past c.terms c.number u (steps_of c))

-- nobody after these has reported in the round
pub not-yet : (u : ℕ → List ℕ → ℤ) (c : ClockHistory) (last b : ℕ) → IsFresh u c → last < b → demand_in (told_up_to u last c).reports (last_round c) b ≡ None
not-yet u c last b fresh behind =
    let p = prices_of c in
    let js = members last c.number in
    let t = last_round c in
    ap (option_map (λ (r : Report). r.demand)) (find-after (is_named t b) c.reports (round_reports c.terms u t p js) (absent-beyond (steps_of c) t b c.reports (omega arith) (fresh-past u c fresh))
    ∙ none-behind c.terms u t p js last t b (members-up_to last 1 last c.number (omega arith)) behind)

-- a report in a round that has none of the bidder is taken
take-is : (c : ClockHistory) (r : Report) → IsInRound c r → demand_in c.reports r.round r.bidder ≡ None → judgement_of c r ≡ Take
take-is c r h e =
    let low = h.from_one in
    let high = h.to_last in
    let m = is-member c r.bidder h.member in
    let z : nat_eq r.round 0 ≡ false = grind (arith, nat_tests) in
    let t : nat_le r.round (last_round c) ≡ true = grind (arith, nat_tests) in
    (λ i. cond (m i) (cond (z i) NoRound (cond (t i) (repeat_of r.round r.demand (e i)) (late_by (phase_of c) (last_round c)))) NotMember)

-- the next member's report is taken
pub takes-next : (u : ℕ → List ℕ → ℤ) (c now : ClockHistory) (last : ℕ) → IsFresh u c → now ≡ told_up_to u last c → steps_of c ≤ steps_of now → last + 1 ≤ c.terms.bidders → last + 1 ≢ c.number
    → judgement_of now (true_report c.terms u (last_round c) (prices_of c) (last + 1)) ≡ Take
takes-next u c now last fresh is steps bidders other =
    let r = true_report c.terms u (last_round c) (prices_of c) (last + 1) in
    let terms = ap (λ (k : ClockHistory). k.terms.bidders) is in
    let number = ap (λ (k : ClockHistory). k.number) is in
    let member : IsMember now (last + 1) = record { from_one = omega arith; to_last = omega (arith, terms); other = λ e. other (e ∙ number) } in
    let in_round : IsInRound now r = record { member = member; from_one = omega arith; to_last = omega arith } in
    take-is now r in_round (ap (λ (k : ClockHistory). demand_in k.reports (last_round c) (last + 1)) is ∙ not-yet u c last (last + 1) fresh (omega arith))

map-append : {A B : Type 0} (f : A → B) (xs ys : List A) → map f (xs ++ ys) ≡ map f xs ++ map f ys
map-append f [] ys = refl
map-append f (x ∷ xs) ys = ap (λ zs. f x ∷ zs) (map-append f xs ys)

-- with one bidder more
pub told-with : (u : ℕ → List ℕ → ℤ) (c now : ClockHistory) (last : ℕ) → now ≡ told_up_to u last c → last + 1 ≢ c.number
    → with_report now (true_report c.terms u (last_round c) (prices_of c) (last + 1)) ≡ told_up_to u (last + 1) c
told-with u c now last is other =
    let f = true_report c.terms u (last_round c) (prices_of c) in
    let r = f (last + 1) in
    let e : (c.reports ++ map f (members last c.number)) ++ r ∷ [] ≡ c.reports ++ map f (members (last + 1) c.number) =
    append_assoc c.reports (map f (members last c.number)) (r ∷ []) ∙ ap (λ xs. c.reports ++ xs) (sym (map-append f (members last c.number) ((last + 1) ∷ [])) ∙ ap (map f) (sym (members-with last c.number other))) in
    ap (λ k. with_report k r) is ∙ (λ i. record c { reports = e i })

pub told-without : (u : ℕ → List ℕ → ℤ) (c now : ClockHistory) (last : ℕ) → now ≡ told_up_to u last c → last + 1 ≡ c.number → now ≡ told_up_to u (last + 1) c
told-without u c now last is same = is ∙ ap (λ js. record c { reports = c.reports ++ round_reports c.terms u (last_round c) (prices_of c) js }) (sym (members-without last c.number same))

pub told-none : (u : ℕ → List ℕ → ℤ) (c : ClockHistory) → c ≡ told_up_to u 0 c
told-none u c = (λ i. record c { reports = sym (append-nil c.reports) i })

pub get-same : {X : Type 0} (xs : List X) (i : ℕ) (d e : X) → i < length xs → get_or xs i d ≡ get_or xs i e
get-same [] i d e below = absurd (omega arith)
get-same (x ∷ xs) zero d e below = refl
get-same (x ∷ xs) (suc i) d e below = get-same xs i d e (omega arith)
