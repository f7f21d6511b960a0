-- What a clock keeps, after a report and at first.
use Rattle.std.proofs.Common.{◌≡◌, ◌<◌, ◌≤◌, inl, inr, ℕ, zero, suc, ◌+◌, true, false, not, ◌&&◌, nat_eq, List, [], ◌∷◌, ◌++◌, is_none, pos, ◌-ℤ◌, refl, sym, ◌∙◌, ap, arith, subst, length, take, drop}
use Rattle.std.proofs.lemmas.Bool.Decides.{nat_tests}
use Rattle.std.proofs.lemmas.Nat.{pow_pos}
use Rattle.std.specs.List.{AllByRecursion}
use Rattle.std.specs.Ordering.{nat_cmp, int_cmp, ordering_then, is_lt}
use Rattle.lot_base.specs.Goods.{quantity_in, size_of}
use Rattle.demand_set.specs.declared.reports.Report.{Report}
use Rattle.lot_base.specs.declared.phases.Phase.{Phase}
use Rattle.clock.specs.declared.judging.Judgement.TheVariants.{Take}
use Rattle.clock.proofs.Moves.{StandingAt}
use Rattle.lot_base.specs.Steps.{excess, step_set}
use Rattle.clock.specs.Reports.{is_full, demands_in, ClockHistory, members_of, with_report}
use Rattle.clock.specs.Standing.{HasSteps, step_set_after, leads_on, is_full_after, good_at_ceiling, prices_after, phase_after, phase_of, steps_of}
use Rattle.lot_base.specs.Demands.{IsDemand}
use Rattle.clock.specs.Judging.{is_member, judgement_of, IsLegal}
use Rattle.clock.specs.Kept.{HasStanding}
use Rattle.clock.proofs.Moves.{IsNext}
use Rattle.lot_base.proofs.Within.{both}
use Rattle.clock.proofs.Path.{has_steps, steps-only, one_more}
use Rattle.lot_base.proofs.StepOrder.{first_set-is}
use Rattle.clock.proofs.Append.{legal-push, all-push, take-says, past-push, not_full-beyond, prices-stay, leads_on-stays}
use Rattle.lot_base.specs.Economy.{without}
use Rattle.credit_book.specs.Account.{Sums, sum_without}
use Rattle.clock.specs.Accounts.{account_after}
use Rattle.clock.proofs.Ledger.{account-stays, account-next, account-zero}
use Rattle.clock.proofs.Next.{waits}
use Rattle.clock.proofs.Present.{taken-now, drop-push, drop-whole, none-beyond}

pub kept-path : (c : ClockHistory) (current steps : ℕ) (phase : Phase) (prices : List ℕ) (account : Sums) → HasStanding c current steps phase prices account → (m : ℕ) → m < steps → leads_on c m ≡ true
kept-path c current steps phase prices account k m below = (has_steps c).before m (omega (arith, k.steps_are))

pub after-path : (c : ClockHistory) (r : Report) (current steps : ℕ) (phase : Phase) (prices : List ℕ) (account : Sums) → HasStanding c current steps phase prices account → (m : ℕ) → m < steps → leads_on (with_report c r) m ≡ true
after-path c r current steps phase prices account k m below = leads_on-stays c r m (λ n under. kept-path c current steps phase prices account k n (omega arith))

pub after-prices : (c : ClockHistory) (r : Report) (current steps : ℕ) (phase : Phase) (prices : List ℕ) (account : Sums) → HasStanding c current steps phase prices account → prices ≡ prices_after (with_report c r) steps
after-prices c r current steps phase prices account k = k.prices_are ∙ sym (prices-stay c r steps (kept-path c current steps phase prices account k))

-- what stood before a place of the list stands there with a report more
take-before : (current : ℕ) (reports : List Report) (r : Report) → current ≤ length reports → take current (reports ++ r ∷ []) ≡ take current reports
take-before zero reports r up = refl
take-before (suc n) [] r up = absurd (omega arith)
take-before (suc n) (x ∷ reports) r up = ap (λ xs. x ∷ xs) (take-before n reports r (omega arith))

pub take-whole : (reports : List Report) → take (length reports) reports ≡ reports
take-whole [] = refl
take-whole (x ∷ reports) = ap (λ xs. x ∷ xs) (take-whole reports)

pub longer : (reports : List Report) (r : Report) → length reports ≤ length (reports ++ r ∷ [])
longer [] r = omega arith
longer (x ∷ reports) r = let l = longer reports r in omega arith

pub after-begins : (c : ClockHistory) (r : Report) (current steps : ℕ) (phase : Phase) (prices : List ℕ) (account : Sums) → HasStanding c current steps phase prices account → current ≤ length (c.reports ++ r ∷ [])
after-begins c r current steps phase prices account k = let l = longer c.reports r in omega (arith, k.begins)

pub after-past : (c : ClockHistory) (r : Report) (current steps : ℕ) (phase : Phase) (prices : List ℕ) (account : Sums) → HasStanding c current steps phase prices account → AllByRecursion (λ (x : Report). x.round ≤ steps) (take current (c.reports ++ r ∷ []))
after-past c r current steps phase prices account k =
    let P : List Report → Type 0 = λ xs. AllByRecursion (λ (x : Report). x.round ≤ steps) xs in
    subst P (sym (take-before current c.reports r k.begins)) k.past

pub legal-after : (c : ClockHistory) (r : Report) → IsLegal c → judgement_of c r ≡ Take → IsDemand c.terms.goods r.demand → IsLegal (with_report c r)
legal-after c r legal take fit =
    record { number = legal.number; demands = all-push (λ x. IsDemand c.terms.goods x.demand) c.reports r legal.demands fit; takes = legal-push c r legal.takes take }

-- what is kept, once it stands after how many steps the clock stops
pub kept-from : (c : ClockHistory) (current steps n : ℕ) (phase : Phase) (prices : List ℕ) (account : Sums) → n ≡ steps → HasSteps c steps → steps ≤ 60000 → phase ≡ phase_after c steps → prices ≡ prices_after c steps
    → current ≤ length c.reports → AllByRecursion (λ (r : Report). r.round ≤ steps) (take current c.reports) → AllByRecursion (λ (r : Report). r.round ≡ steps + 1) (drop current c.reports) → IsLegal c
    → account.steps ≡ steps → ((b : ℕ) → sum_without account b ≡ account_after c (without b (members_of c)) steps) → HasStanding c current n phase prices account
kept-from c current steps n phase prices account e has few phase_is prices_are begins past present legal account_steps account_is =
    let P : ℕ → Type 0 = λ m. HasStanding c current m phase prices account in
    subst P (sym e) (record {
      legal = legal;
      steps_are = sym (steps-only c steps has);
      few = few;
      phase_is = phase_is;
      prices_are = prices_are;
      begins = begins;
      past = past;
      present = present;
      account_steps = account_steps;
      account_is = account_is;
    })

pub after-kept : (c : ClockHistory) (r : Report) (current steps : ℕ) (phase : Phase) (prices : List ℕ) (before account : Sums) (s : StandingAt) → HasStanding c current steps phase prices before → judgement_of c r ≡ Take → IsDemand c.terms.goods r.demand
    → IsNext (with_report c r) current steps before account s → HasStanding (with_report c r) s.current s.steps s.phase s.prices account
after-kept c r current steps phase prices before account s k take fit next = by next
  where
    path : (m : ℕ) → m < steps → leads_on (with_report c r) m ≡ true
    path = after-path c r current steps phase prices before k

    says : (is_member c r.bidder ≡ true) × (r.round ≤ steps + 1)
    says = let t = take-says c (steps_of c + 1) (phase_of c) r take in (t.0, (let u = t.1 in let v = k.steps_are in grind (arith, nat_tests)))

    none_beyond : AllByRecursion (λ (x : Report). x.round ≤ steps + 1) (c.reports ++ r ∷ [])
    none_beyond = past-push (steps + 1) c.reports r (none-beyond current steps c.reports k.past k.present) says.1

    present : AllByRecursion (λ (x : Report). x.round ≡ steps + 1) (drop current (c.reports ++ r ∷ []))
    present =
        let now = taken-now c steps (steps_of c + 1) (phase_of c) r (kept-path c current steps phase prices before k) (omega (arith, k.steps_are)) take in
        let P : List Report → Type 0 = λ xs. AllByRecursion (λ (x : Report). x.round ≡ steps + 1) xs in
        subst P (sym (drop-push current c.reports r k.begins)) (all-push (λ (x : Report). x.round ≡ steps + 1) (drop current c.reports) r k.present now)

    -- the steps before are as they were
    so_far : (b : ℕ) → sum_without before b ≡ account_after (with_report c r) (without b (members_of c)) steps
    so_far b = k.account_is b ∙ sym (account-stays c r b steps (kept-path c current steps phase prices before k))

    by : IsNext (with_report c r) current steps before account s → HasStanding (with_report c r) s.current s.steps s.phase s.prices account
    by (inl stays) =
        let P : ℕ → Type 0 = λ n. HasStanding (with_report c r) n s.steps s.phase s.prices account in
        subst P (sym stays.current_is) (kept-from (with_report c r) current steps s.steps s.phase s.prices account stays.steps_are (record { before = path; stops = stays.stops }) k.few stays.phase_is stays.prices_are
        (after-begins c r current steps phase prices before k) (after-past c r current steps phase prices before k) present (legal-after c r k.legal take fit)
        (ap (λ (a : Sums). a.steps) stays.account_is ∙ k.account_steps) (λ b. ap (λ a. sum_without a b) stays.account_is ∙ so_far b))
    by (inr more) =
        let beyond : is_full_after (with_report c r) (steps + 1) ≡ false = not_full-beyond (with_report c r) (steps + 1) (steps + 1 + 1) r.bidder says.0 (omega arith) none_beyond in
        let w = waits (with_report c r) (steps + 1) beyond in
        let further : (m : ℕ) → m < steps + 1 → leads_on (with_report c r) m ≡ true = λ m below. one_more (with_report c r) steps path more.goes m (omega arith) in
        let P : ℕ → Type 0 = λ n. HasStanding (with_report c r) n s.steps s.phase s.prices account in
        let Q : List Report → Type 0 = λ xs. AllByRecursion (λ (x : Report). x.round ≤ steps + 1) xs in
        let R : List Report → Type 0 = λ xs. AllByRecursion (λ (x : Report). x.round ≡ steps + 1 + 1) xs in
        subst P (sym more.current_is) (kept-from (with_report c r) (length (c.reports ++ r ∷ [])) (steps + 1) s.steps s.phase s.prices account more.steps_are (record { before = further; stops = w.1 }) more.few (more.phase_is ∙ sym w.0) more.prices_are
        (omega arith) (subst Q (sym (take-whole (c.reports ++ r ∷ []))) none_beyond) (subst R (sym (drop-whole (c.reports ++ r ∷ []))) tt) (legal-after c r k.legal take fit)
        (more.account_steps ∙ ap (λ n. n + 1) k.account_steps)
        (λ b. more.account_sums b ∙ ap (λ z. z -ℤ excess c.terms.goods (demands_in (c.reports ++ r ∷ []) (steps + 1)) (without b (members_of c)) (step_set_after (with_report c r) steps)) (so_far b)
        ∙ sym (account-next (with_report c r) (without b (members_of c)) steps)))

-- a set of goods is not before the empty set where nothing is demanded
none-wanted : (x k n : ℕ) → is_lt (ordering_then (int_cmp (pos 0 -ℤ pos 0) (pos 0 -ℤ pos x)) (ordering_then (nat_cmp k 0) (nat_cmp n 0))) ≡ false
none-wanted x k n = grind (arith, nat_tests)

empty-set : (n : ℕ) → size_of n 0 ≡ 0
empty-set zero = refl
empty-set (suc n) = omega (arith, empty-set n)

empty-goods : (goods : List ℕ) → quantity_in goods 0 ≡ 0
empty-goods [] = refl
empty-goods (g ∷ goods) = omega (arith, empty-goods goods)

pub empty-stops : (ms goods : List ℕ) → is_full ms [] 1 ≡ true → step_set goods (demands_in [] 1) ms ≡ 0
unfolding step_set
empty-stops (j ∷ ms) goods e = absurd (let f : false ≡ true = e in cc)
empty-stops [] goods e =
    first_set-is (excess goods (demands_in [] 1) []) (length goods) 0 (pow_pos (length goods))
    (λ k below. (λ i. is_lt (ordering_then (int_cmp (pos 0 -ℤ pos (empty-goods goods i)) (pos 0 -ℤ pos (quantity_in goods k))) (ordering_then (nat_cmp (size_of (length goods) k) (empty-set (length goods) i)) (nat_cmp k 0)))) ∙ none-wanted (quantity_in goods k) (size_of (length goods) k) k)

-- a clock without reports makes no step
pub first-stops : (c : ClockHistory) → c.reports ≡ [] → leads_on c 0 ≡ true → ⊥
first-stops c e g =
    let h = both (is_full_after c 0) (not (nat_eq (step_set_after c 0) 0) && is_none (good_at_ceiling c 0)) g in
    let full : is_full (members_of c) [] 1 ≡ true = ap (λ reports. is_full (members_of c) reports (0 + 1)) (sym e) ∙ h.0 in
    let k = both (not (nat_eq (step_set_after c 0) 0)) (is_none (good_at_ceiling c 0)) h.1 in
    let none : step_set_after c 0 ≡ 0 = ap (λ reports. step_set c.terms.goods (demands_in reports 1) (members_of c)) e ∙ empty-stops (members_of c) c.terms.goods full in
    let t = k.0 in
    (let f : nat_eq (step_set_after c 0) 0 ≡ true = grind (arith, nat_tests) in let u : false ≡ true = sym (ap not f) ∙ t in cc)

pub first-kept : (c : ClockHistory) (s : StandingAt) (before account : Sums) → c.reports ≡ [] → c.number ≤ c.terms.bidders → before.steps ≡ 0 → ((b : ℕ) → sum_without before b ≡ pos 0) → IsNext c 0 0 before account s
    → HasStanding c s.current s.steps s.phase s.prices account
first-kept c s before account e number none empty next = by next
  where
    by : IsNext c 0 0 before account s → HasStanding c s.current s.steps s.phase s.prices account
    by (inl stays) =
        let P : List Report → Type 0 = λ reports. AllByRecursion (λ (r : Report). r.round ≡ 0 + 1) reports in
        let L : List Report → Type 0 = λ reports. IsLegal (record c { reports = reports }) in
        let K : ℕ → Type 0 = λ n. HasStanding c n s.steps s.phase s.prices account in
        subst K (sym stays.current_is) (kept-from c 0 0 s.steps s.phase s.prices account stays.steps_are (record { before = λ m below. absurd (omega arith); stops = stays.stops }) (omega arith) stays.phase_is stays.prices_are
        (omega arith) tt (subst P (sym e) tt) (subst L (sym e) (record { number = number; demands = tt; takes = tt }))
        (ap (λ (a : Sums). a.steps) stays.account_is ∙ none) (λ b. ap (λ a. sum_without a b) stays.account_is ∙ empty b ∙ sym (account-zero c (without b (members_of c)))))
    by (inr more) = absurd (first-stops c e more.goes)
