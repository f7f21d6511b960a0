-- What a report that is judged Take changes.
use Rattle.std.proofs.Common.{◌≡◌, ◌≢◌, ◌<◌, ◌≤◌, ◌⊎◌, inl, inr, ℕ, zero, suc, ◌+◌, Bool, true, false, not, ◌&&◌, nat_eq, cond, List, [], ◌∷◌, ◌++◌, Option, Some, None, is_some, is_none, pos, ◌-ℤ◌, refl, sym, ◌∙◌, ap, arith, append_assoc, append-nil}
use Rattle.std.proofs.lemmas.Bool.Decides.{nat_tests}
use Rattle.std.specs.Prelude.{find, filter, option_map, nat_le, length, unwrap_or}
use Rattle.std.specs.List.{range_with_len, list_all, AllByRecursion}
use Rattle.std.proofs.Math.Nat.{eq-or-lt_of_le}
use Rattle.lot_base.specs.Goods.{raised, quantity_in}
use Rattle.lot_base.specs.Demands.{least}
use Rattle.demand_set.specs.declared.reports.Report.{Report}
use Rattle.lot_base.specs.declared.phases.Phase.{Phase}
use Rattle.lot_base.specs.declared.phases.Phase.TheVariants.{Running, Ended, Halted}
use Rattle.clock.specs.declared.judging.Judgement.{Judgement}
use Rattle.clock.specs.declared.judging.Judgement.TheVariants.{Take, NotMember, Early, Over, NoRound}
use Rattle.lot_base.specs.Economy.{total_units}
use Rattle.lot_base.specs.Steps.{first_set, step_set}
use Rattle.clock.specs.Reports.{is_named, demand_in, demands_in, is_full, ClockHistory, members_of, with_report}
use Rattle.clock.specs.Standing.{step_set_after, leads_on, is_full_after, good_at_ceiling, prices_after, good_from}
use Rattle.clock.specs.Judging.{is_member, judged, late_by, repeat_of, judgement_of, TakesAll}
use Rattle.lot_base.proofs.Within.{both}

pub find-some : {X : Type 0} (test : X → Bool) (xs : List X) (y : X) (v : X) → find test xs ≡ Some v → find test (xs ++ y ∷ []) ≡ Some v
find-some test [] y v e = absurd (let f : None ≡ Some v = e in cc)
find-some {X} test (x ∷ xs) y v e = by (test x) (find-some test xs y v) e
  where
    by : (b : Bool) → (find test xs ≡ Some v → find test (xs ++ y ∷ []) ≡ Some v) → cond b (Some x) (find test xs) ≡ Some v → cond b (Some x) (find test (xs ++ y ∷ [])) ≡ Some v
    by true rest e = e
    by false rest e = rest e

pub find-none : {X : Type 0} (test : X → Bool) (xs : List X) (y : X) → find test xs ≡ None → test y ≡ false → find test (xs ++ y ∷ []) ≡ None
find-none test [] y e f = ap (λ b. cond b (Some y) None) f
find-none {X} test (x ∷ xs) y e f = by (test x) (λ g. find-none test xs y g f) e
  where
    by : (b : Bool) → (find test xs ≡ None → find test (xs ++ y ∷ []) ≡ None) → cond b (Some x) (find test xs) ≡ None → cond b (Some x) (find test (xs ++ y ∷ [])) ≡ None
    by true rest e = absurd (let g : Some x ≡ None = e in cc)
    by false rest e = rest e

-- a demand that is there stays
pub demand-stays : (reports : List Report) (r : Report) (round j : ℕ) → is_some (demand_in reports round j) ≡ true → demand_in (reports ++ r ∷ []) round j ≡ demand_in reports round j
demand-stays reports r round j e = by (find (is_named round j) reports) refl e
  where
    by : (o : Option Report) → find (is_named round j) reports ≡ o → is_some (option_map (λ r. r.demand) o) ≡ true → option_map (λ r. r.demand) (find (is_named round j) (reports ++ r ∷ [])) ≡ option_map (λ r. r.demand) (find (is_named round j) reports)
    by None f e = absurd (let g : false ≡ true = e in cc)
    by (Some v) f e = ap (option_map (λ r. r.demand)) (find-some (is_named round j) reports r v f ∙ sym f)

pub full-stays : (ms : List ℕ) (reports : List Report) (r : Report) (round : ℕ) → is_full ms reports round ≡ true → is_full ms (reports ++ r ∷ []) round ≡ true
full-stays [] reports r round e = refl
full-stays (j ∷ ms) reports r round e =
    let h = both (is_some (demand_in reports round j)) (is_full ms reports round) e in
    let a : is_some (demand_in (reports ++ r ∷ []) round j) ≡ true = ap is_some (demand-stays reports r round j h.0) ∙ h.0 in
    let b = full-stays ms reports r round h.1 in
    λ i. a i && b i

pub least-stays : (ms : List ℕ) (reports : List Report) (r : Report) (round set : ℕ) → is_full ms reports round ≡ true → total_units (λ j. least (demands_in (reports ++ r ∷ []) round j) set) ms ≡ total_units (λ j. least (demands_in reports round j) set) ms
least-stays [] reports r round set e = refl
least-stays (j ∷ ms) reports r round set e =
    let h = both (is_some (demand_in reports round j)) (is_full ms reports round) e in
    let a = demand-stays reports r round j h.0 in
    let b = least-stays ms reports r round set h.1 in
    λ i. least (unwrap_or (a i) []) set + b i

pub step-stays : (goods ms : List ℕ) (reports : List Report) (r : Report) (round : ℕ) → is_full ms reports round ≡ true → step_set goods (demands_in (reports ++ r ∷ []) round) ms ≡ step_set goods (demands_in reports round) ms
unfolding step_set
step-stays goods ms reports r round e =
    let f = λ (set : ℕ). least-stays ms reports r round set e in
    λ i. first_set (λ set. pos (f set i) -ℤ pos (quantity_in goods set)) (length goods)

pub prices-stay : (c : ClockHistory) (r : Report) (n : ℕ) → ((m : ℕ) → m < n → leads_on c m ≡ true) → prices_after (with_report c r) n ≡ prices_after c n
unfolding prices_after
prices-stay c r zero before = refl
prices-stay c r (suc n) before =
    let p = prices-stay c r n (λ m below. before m (omega arith)) in
    let full : is_full_after c n ≡ true = (both (is_full_after c n) (not (nat_eq (step_set_after c n) 0) && is_none (good_at_ceiling c n)) (before n (omega arith))).0 in
    let s = step-stays c.terms.goods (members_of c) c.reports r (n + 1) full in
    λ i. raised (p i) (s i)

pub leads_on-stays : (c : ClockHistory) (r : Report) (n : ℕ) → ((m : ℕ) → m < suc n → leads_on c m ≡ true) → leads_on (with_report c r) n ≡ true
leads_on-stays c r n before =
    let p = prices-stay c r n (λ m below. before m (omega arith)) in
    let h = both (is_full_after c n) (not (nat_eq (step_set_after c n) 0) && is_none (good_at_ceiling c n)) (before n (omega arith)) in
    let full = full-stays (members_of c) c.reports r (n + 1) h.0 in
    let s = step-stays c.terms.goods (members_of c) c.reports r (n + 1) h.0 in
    let rest : (not (nat_eq (step_set_after (with_report c r) n) 0) && is_none (good_at_ceiling (with_report c r) n)) ≡ true = (λ i. not (nat_eq (s i) 0) && is_none (good_from 0 c.terms.ceiling (p i) (s i))) ∙ h.1 in
    λ i. full i && rest i

-- what Take says
first-so : (m z l : Bool) (o late : Judgement) → (late ≢ Take) → cond m (cond z NoRound (cond l o late)) NotMember ≡ Take → (m ≡ true) × (l ≡ true) × (o ≡ Take)
first-so false z l o late apart e = absurd (let f : NotMember ≡ Take = e in cc)
first-so true true l o late apart e = absurd (let f : NoRound ≡ Take = e in cc)
first-so true false true o late apart e = (refl, refl, e)
first-so true false false o late apart e = absurd (apart e)

late-apart : (p : Phase) (round : ℕ) → late_by p round ≢ Take
late-apart Running round e = (let f : Early round ≡ Take = e in cc)
late-apart Ended round e = (let f : Over round ≡ Take = e in cc)
late-apart (Halted k) round e = (let f : Over round ≡ Take = e in cc)

pub take-says : (c : ClockHistory) (last : ℕ) (phase : Phase) (r : Report) → judged c last phase r ≡ Take → (is_member c r.bidder ≡ true) × (nat_le r.round last ≡ true) × (repeat_of r.round r.demand (demand_in c.reports r.round r.bidder) ≡ Take)
take-says c last phase r e = first-so (is_member c r.bidder) (nat_eq r.round 0) (nat_le r.round last) _ (late_by phase last) (late-apart phase last) e

-- no report is of a round beyond
pub past-push : (limit : ℕ) (reports : List Report) (r : Report) → AllByRecursion (λ (x : Report). x.round ≤ limit) reports → r.round ≤ limit → AllByRecursion (λ (x : Report). x.round ≤ limit) (reports ++ r ∷ [])
past-push limit [] r past now = (now, tt)
past-push limit (x ∷ reports) r past now = (past.0, past-push limit reports r past.1 now)

pub absent-beyond : (limit round j : ℕ) (reports : List Report) → limit < round → AllByRecursion (λ (x : Report). x.round ≤ limit) reports → find (is_named round j) reports ≡ None
absent-beyond limit round j [] beyond past = refl
absent-beyond limit round j (x ∷ reports) beyond past =
    let other : nat_eq x.round round ≡ false = (let p = past.0 in grind (arith, nat_tests)) in
    ap (λ b. cond (b && nat_eq x.bidder j) (Some x) (find (is_named round j) reports)) other ∙ absent-beyond limit round j reports beyond past.1

none-full : (test q : ℕ → Bool) (a n b : ℕ) → a ≤ b → b < a + n → q b ≡ true → ((j : ℕ) → test j ≡ false) → list_all test (filter q (range_with_len a n)) ≡ false
none-full test q a zero b above below here fails = absurd (omega arith)
none-full test q a (suc n) b above below here fails = by (q a) refl (eq-or-lt_of_le above) (λ later. none-full test q (a + 1) n b (omega (arith, later)) (omega arith) here fails)
  where
    by : (v : Bool) → q a ≡ v → (a ≡ b) ⊎ (a < b) → (a < b → list_all test (filter q (range_with_len (a + 1) n)) ≡ false) → list_all test (cond v (a ∷ filter q (range_with_len (a + 1) n)) (filter q (range_with_len (a + 1) n))) ≡ false
    by true e w rest = ap (λ v. v && list_all test (filter q (range_with_len (a + 1) n))) (fails a)
    by false e (inl same) rest = absurd (let f : false ≡ true = sym e ∙ ap q same ∙ here in cc)
    by false e (inr later) rest = rest later

pub not_full-beyond : (c : ClockHistory) (limit round b : ℕ) → is_member c b ≡ true → limit < round → AllByRecursion (λ (x : Report). x.round ≤ limit) c.reports → is_full (members_of c) c.reports round ≡ false
not_full-beyond c limit round b member beyond past =
    let h = both (nat_le 1 b) (nat_le b c.terms.bidders && not (nat_eq b c.number)) member in
    let k = both (nat_le b c.terms.bidders) (not (nat_eq b c.number)) h.1 in
    let low : 1 ≤ b = (let t = h.0 in grind (arith, nat_tests)) in
    let high : b ≤ c.terms.bidders = (let t = k.0 in grind (arith, nat_tests)) in
    none-full (λ j. is_some (demand_in c.reports round j)) (λ j. not (nat_eq j c.number)) 1 c.terms.bidders b low (omega arith) k.1
    (λ j. ap (λ o. is_some (option_map (λ r. r.demand) o)) (absent-beyond limit round j c.reports beyond past))

-- a report that is taken keeps the history legal
pub takes-more : (c : ClockHistory) (rs : List Report) (r : Report) → TakesAll c rs → judgement_of (record c { reports = c.reports ++ rs }) r ≡ Take → TakesAll c (rs ++ r ∷ [])
takes-more c [] r all take = (ap (λ reports. judgement_of (record c { reports = reports }) r) (sym (append-nil c.reports)) ∙ take, tt)
takes-more c (x ∷ rs) r all take =
    (all.0, takes-more (with_report c x) rs r all.1 (ap (λ reports. judgement_of (record c { reports = reports }) r) (append_assoc c.reports (x ∷ []) rs) ∙ take))

-- each report of a legal history is judged so after those before it
pub takes-at : (c : ClockHistory) (before : List Report) (r : Report) (more : List Report) → TakesAll c (before ++ r ∷ more)
    → judgement_of (record c { reports = c.reports ++ before }) r ≡ Take
takes-at c [] r more all = ap (λ reports. judgement_of (record c { reports = reports }) r) (append-nil c.reports) ∙ all.0
takes-at c (x ∷ before) r more all =
    ap (λ reports. judgement_of (record c { reports = reports }) r) (sym (append_assoc c.reports (x ∷ []) before))
    ∙ takes-at (with_report c x) before r more all.1

pub legal-push : (c : ClockHistory) (r : Report) → TakesAll (record c { reports = [] }) c.reports → judgement_of c r ≡ Take → TakesAll (record c { reports = [] }) (c.reports ++ r ∷ [])
legal-push c r legal take = takes-more (record c { reports = [] }) c.reports r legal take

pub all-push : {A : Type 0} (P : A → Type 0) (xs : List A) (x : A) → AllByRecursion P xs → P x → AllByRecursion P (xs ++ x ∷ [])
all-push P [] x all now = (now, tt)
all-push P (y ∷ xs) x all now = (all.0, all-push P xs x all.1 now)
