-- A clock that takes a report: what is kept of the round, and where the round leads.
use Rattle.std.proofs.Common.{◌≡◌, ◌≢◌, ◌<◌, ◌≤◌, ◌⊎◌, inl, inr, ℕ, zero, suc, ◌+◌, ◌-◌, ◌*◌, ◌/◌, ◌^◌, Bool, true, false, not, ◌&&◌, nat_eq, cond, List, [], ◌∷◌, ◌++◌, length, length-append, length-drop, length-set, take, set, Option, Some, None, refl, sym, ◌∙◌, ap, subst, arith}
use Rattle.std.specs.Prelude.{slice_get, slice_index_or, nat_le, ℤ, ◌-ℤ◌}
use Rattle.std.proofs.lemmas.Int.{ints}
use Rattle.std.proofs.lemmas.Bool.{cases_eq}
use Rattle.std.proofs.lemmas.Bool.Decides.{nat_tests}
use Rattle.std.proofs.lemmas.Nat.{div-mul-add}
use Rattle.std.proofs.lemmas.List.{get_or-set_same, get_or-set_other}
use Rattle.lot_base.specs.Goods.{AllBelow, raised}
use Rattle.lot_base.specs.Demands.{IsDemand, least}
use Rattle.lot_base.specs.Economy.{without}
use Rattle.lot_base.specs.Steps.{excess, IsStepSet}
use Rattle.lot_base.specs.declared.phases.Phase.{Phase}
use Rattle.lot_base.specs.declared.phases.Phase.TheVariants.{Running, Ended, Halted}
use Rattle.lot_base.specs.declared.supply.GoodSet.{GoodSet}
use Rattle.lot_base.specs.declared.tables.LeastTable.{LeastTable}
use Rattle.lot_base.proofs.Within.{both}
use Rattle.lyapunov.specs.Excesses.{entry}
use Rattle.credit_book.specs.Account.{Sums, sum_without, least_in}
use Rattle.demand_set.specs.declared.reports.Report.{Report}
use Rattle.clock.specs.declared.judging.Judgement.TheVariants.{Take}
use Rattle.clock.specs.declared.next_step.Standing.{Standing}
use Rattle.clock.specs.Reports.{ClockHistory, demands_in, members_of, with_report}
use Rattle.clock.specs.Standing.{step_set_after, leads_on, is_full_after, good_at_ceiling, good_from, prices_after, phase_after}
use Rattle.clock.specs.Judging.{judgement_of, is_member}
use Rattle.clock.specs.Tables.{AreTablesOf, is_member_of}
use Rattle.clock.specs.Turns.{Waits, Rises, IsTurn}
use Rattle.clock.specs.Kept.{HasStanding, HoldsTable, CountsIn, KeepsTables, KeepsRound, missing_count, reports_before, standing_demands}
use Rattle.clock.proofs.Present.{drop-push, reported}
use Rattle.clock.proofs.After.{after-path, after-prices, after-kept}
use Rattle.clock.proofs.Excesses.{chosen-is}
use Rattle.clock.proofs.Ledger.{adds-step}
use Rattle.clock.proofs.Moves.{StandingAt}
use Rattle.clock.proofs.Next.{waits, ends, halts, goes, few-steps, can-raise, prices-next}
use Rattle.clock.proofs.Pushed.{IsNew, is-new, missing-pushed}
use Rattle.clock.proofs.StandingDemands.{excess-full, excess-pushed, standing-member, standing-new, standing-other}
use Rattle.clock.proofs.Totals.{full-count, open-count}

pub get-append : (xs : List Report) (y x : Report) (i : ℕ) → slice_get (xs ++ y ∷ []) i ≡ Some x → (slice_get xs i ≡ Some x) ⊎ ((i ≡ length xs) × (y ≡ x))
get-append [] y x zero e = inr (refl, (let f : Some y ≡ Some x = e in cc))
get-append [] y x (suc i) e = absurd (let f : None ≡ Some x = e in cc)
get-append (z ∷ xs) y x zero e = inl e
get-append (z ∷ xs) y x (suc i) e = by (get-append xs y x i e)
  where
    by : (slice_get xs i ≡ Some x) ⊎ ((i ≡ length xs) × (y ≡ x)) → (slice_get xs i ≡ Some x) ⊎ ((suc i ≡ suc (length xs)) × (y ≡ x))
    by (inl f) = inl f
    by (inr f) = inr (ap suc f.0, f.1)

-- how many reports there are
pub count-reports : (c : ClockHistory) (present : List Report) (left steps current : ℕ) (phase : Phase) (prices : List ℕ) (account : Sums) (tables : List (Option LeastTable)) (sums : List ℤ) → HasStanding c (reports_before c steps) steps phase prices account → KeepsRound c present left steps tables sums
    → length c.reports ≡ reports_before c steps + length present
count-reports c present left steps current phase prices account tables sums k round =
    let l = ap length round.present_are ∙ length-drop (reports_before c steps) c.reports in
    omega (arith, l, k.begins)

pub member-small : (c : ClockHistory) (b : ℕ) → is_member c b ≡ true → b < 13
member-small c b member =
    let h = both (nat_le 1 b) (nat_le b c.terms.bidders && not (nat_eq b c.number)) member in
    let k = both (nat_le b c.terms.bidders) (not (nat_eq b c.number)) h.1 in
    let high : b ≤ c.terms.bidders = (let t = k.0 in grind (arith, nat_tests)) in
    let n = c.terms.bidders_in_range.at_most in
    omega (arith, high, n)

tables-pushed : (c : ClockHistory) (r : Report) (steps : ℕ) (tables now : List (Option LeastTable)) (kept : Option LeastTable) → IsNew c r steps → HoldsTable c.terms.goods r.demand kept → now ≡ set tables r.bidder kept → KeepsTables c (steps + 1) tables → KeepsTables (with_report c r) (steps + 1) now
tables-pushed c r steps tables now kept new is e k =
    let T : List (Option LeastTable) → Type 0 = λ ts. KeepsTables (with_report c r) (steps + 1) ts in
    subst T (sym e) (record {
      places = length-set tables r.bidder kept ∙ k.places;
      held = λ j set below member. held j set below member (cases_eq j r.bidder);
      nobody = λ j outside. get_or-set_other tables r.bidder j kept None (apart j outside) ∙ k.nobody j outside;
      blank = λ j set behind. blank j set behind (cases_eq j r.bidder);
    })
  where
    apart : (j : ℕ) → is_member c j ≡ false → j ≢ r.bidder
    apart j outside same = (let f : false ≡ true = sym outside ∙ ap (is_member c) same ∙ new.member in cc)

    here : (j : ℕ) → j ≡ r.bidder → slice_index_or (set tables r.bidder kept) j None ≡ kept
    here j same =
        let small = member-small c r.bidder new.member in
        let n = k.places in
        ap (λ b. slice_index_or (set tables r.bidder kept) b None) same
        ∙ get_or-set_same tables r.bidder kept None (omega (arith, small, n))

    blank : (j set' : ℕ) → 2 ^ length c.terms.goods ≤ set' → (j ≡ r.bidder) ⊎ (j ≢ r.bidder) → least_in (slice_index_or (set tables r.bidder kept) j None) set' ≡ 0
    blank j set' behind (inl same) = ap (λ t. least_in t set') (here j same) ∙ is.blank set' behind
    blank j set' behind (inr other) = ap (λ t. least_in t set') (get_or-set_other tables r.bidder j kept None other) ∙ k.blank j set' behind

    held : (j set' : ℕ) → set' < 2 ^ length c.terms.goods → is_member c j ≡ true → (j ≡ r.bidder) ⊎ (j ≢ r.bidder)
        → least_in (slice_index_or (set tables r.bidder kept) j None) set' ≡ least (standing_demands (with_report c r) (steps + 1) j) set'
    held j set' below member (inl same) =
        ap (λ t. least_in t set') (here j same)
        ∙ is.held set' below
        ∙ sym (ap (λ d. least d set') (ap (standing_demands (with_report c r) (steps + 1)) same ∙ standing-new c r steps new))
    held j set' below member (inr other) =
        ap (λ t. least_in t set') (get_or-set_other tables r.bidder j kept None other)
        ∙ k.held j set' below member
        ∙ sym (ap (λ d. least d set') (standing-other c r (steps + 1) j (λ e. other (sym e))))

-- what is kept of the round with the report
pub round-pushed : (c : ClockHistory) (r : Report) (present now : List Report) (left steps : ℕ) (phase : Phase) (prices : List ℕ) (account : Sums) (tables tables' : List (Option LeastTable)) (told : Option (List (List ℕ))) (kept : Option LeastTable) (sums sums' : List ℤ)
    → HasStanding c (reports_before c steps) steps phase prices account → KeepsRound c present left steps tables sums → IsNew c r steps → HoldsTable c.terms.goods r.demand kept → CountsIn c.terms.goods told (slice_index_or tables r.bidder None) kept sums sums'
    → tables' ≡ set tables r.bidder kept → now ≡ present ++ r ∷ [] → (1 ≤ left) × KeepsRound (with_report c r) now (left - 1) steps tables' sums'
round-pushed c r present now left steps phase prices account tables tables' told kept sums sums' k round new is counts e f = (
  some,
  record {
    present_are = f ∙ ap (λ xs. xs ++ r ∷ []) round.present_are ∙ sym (drop-push (reports_before c steps) c.reports r k.begins);
    in_order = λ i x at. order i x (get-append c.reports r x i at);
    counted = omega (arith, some, round.counted, longer);
    missing = omega (arith, some, round.missing, fewer);
    tables = tables-pushed c r steps tables tables' kept new is e round.tables;
    excess = record {
      entries = λ set below.
          let m = counts.moved set below in
          let o = round.excess.entries set below in
          let t = is.held set below in
          let h = round.tables.held r.bidder set below new.member in
          let p = excess-pushed c r steps set new in
          omega (arith, ints, m, o, t, h, p);
      others = λ set behind. counts.others set behind ∙ round.excess.others set behind;
    };
  },
)
  where
    fewer : missing_count (members_of c) c.reports (steps + 1) ≡ missing_count (members_of c) (with_report c r).reports (steps + 1) + 1
    fewer = missing-pushed c r steps new

    some : 1 ≤ left
    some = omega (arith, round.missing, fewer)

    longer : length now ≡ length present + 1
    longer = ap length f ∙ length-append present (r ∷ [])

    order : (i : ℕ) (x : Report) → (slice_get c.reports i ≡ Some x) ⊎ ((i ≡ length c.reports) × (r ≡ x)) → x.round ≡ i / length (members_of c) + 1
    order i x (inl before) = round.in_order i x before
    order i x (inr last) =
        let n = count-reports c present left steps 0 phase prices account tables sums k round in
        let small : length present < length (members_of c) = omega (arith, some, round.counted) in
        let d = div-mul-add steps (length (members_of c)) (length present) small in
        ap (λ (z : Report). z.round) (sym last.1) ∙ new.round ∙ ap (λ q. q + 1) (sym d ∙ ap (λ q. q / length (members_of c)) (sym (last.0 ∙ n)))

-- The moment at which the report is there and the round has not been gone on from.
pub record IsMoment (c : ClockHistory) (r : Report) (now : List Report) (left steps : ℕ) (phase : Phase) (prices : List ℕ) (tables : List (Option LeastTable)) (sums : List ℤ) (before : Sums) : Type 0 where
  pub standing : HasStanding c (reports_before c steps) steps phase prices before
  pub take : judgement_of c r ≡ Take
  pub fits : IsDemand c.terms.goods r.demand
  pub new : IsNew c r steps
  pub some : 1 ≤ left
  pub round : KeepsRound (with_report c r) now (left - 1) steps tables sums

pub moment : (c : ClockHistory) (r : Report) (present now : List Report) (left steps : ℕ) (phase : Phase) (prices : List ℕ) (account : Sums) (tables tables' : List (Option LeastTable)) (told : Option (List (List ℕ))) (kept : Option LeastTable) (sums sums' : List ℤ)
    → HasStanding c (reports_before c steps) steps phase prices account → KeepsRound c present left steps tables sums → judgement_of c r ≡ Take → IsDemand c.terms.goods r.demand → HoldsTable c.terms.goods r.demand kept → CountsIn c.terms.goods told (slice_index_or tables r.bidder None) kept sums sums'
    → tables' ≡ set tables r.bidder kept → now ≡ present ++ r ∷ [] → IsMoment c r now left steps phase prices tables' sums' account
moment c r present now left steps phase prices account tables tables' told kept sums sums' k round take fits is counts e f =
    let new = is-new c r (reports_before c steps) steps phase prices account k take in
    let p = round-pushed c r present now left steps phase prices account tables tables' told kept sums sums' k round new is counts e f in
    record { standing = k; take = take; fits = fits; new = new; some = p.0; round = p.1 }

-- the round is full where nobody is left
pub moment-full : (c : ClockHistory) (r : Report) (now : List Report) (left steps : ℕ) (phase : Phase) (prices : List ℕ) (tables : List (Option LeastTable)) (sums : List ℤ) (before : Sums) → IsMoment c r now left steps phase prices tables sums before
    → left - 1 ≡ 0 → is_full_after (with_report c r) steps ≡ true
moment-full c r now left steps phase prices tables sums before m none = full-count (members_of c) (with_report c r).reports (steps + 1) (sym m.round.missing ∙ none)

moment-open : (c : ClockHistory) (r : Report) (now : List Report) (left steps : ℕ) (phase : Phase) (prices : List ℕ) (tables : List (Option LeastTable)) (sums : List ℤ) (before : Sums) → IsMoment c r now left steps phase prices tables sums before
    → left - 1 ≢ 0 → is_full_after (with_report c r) steps ≡ false
moment-open c r now left steps phase prices tables sums before m some = open-count (members_of c) (with_report c r).reports (steps + 1) (λ e. some (m.round.missing ∙ e))

moment-path : (c : ClockHistory) (r : Report) (now : List Report) (left steps : ℕ) (phase : Phase) (prices : List ℕ) (tables : List (Option LeastTable)) (sums : List ℤ) (before : Sums) → IsMoment c r now left steps phase prices tables sums before
    → (n : ℕ) → n < steps → leads_on (with_report c r) n ≡ true
moment-path c r now left steps phase prices tables sums before m = after-path c r (reports_before c steps) steps phase prices before m.standing

moment-prices : (c : ClockHistory) (r : Report) (now : List Report) (left steps : ℕ) (phase : Phase) (prices : List ℕ) (tables : List (Option LeastTable)) (sums : List ℤ) (before : Sums) → IsMoment c r now left steps phase prices tables sums before
    → prices ≡ prices_after (with_report c r) steps
moment-prices c r now left steps phase prices tables sums before m = after-prices c r (reports_before c steps) steps phase prices before m.standing

-- in a full round the set of greatest excess is the step set
moment-set : (c : ClockHistory) (r : Report) (now : List Report) (left steps : ℕ) (phase : Phase) (prices : List ℕ) (tables : List (Option LeastTable)) (sums : List ℤ) (before : Sums) (chosen : ℕ) → IsMoment c r now left steps phase prices tables sums before
    → left - 1 ≡ 0 → IsStepSet (length c.terms.goods) (entry sums) chosen → chosen ≡ step_set_after (with_report c r) steps
moment-set c r now left steps phase prices tables sums before chosen m none is =
    let full = moment-full c r now left steps phase prices tables sums before m none in
    chosen-is c.terms.goods (demands_in (with_report c r).reports (steps + 1)) (members_of c) sums (entry sums) chosen (λ e. refl)
    (λ set below. m.round.excess.entries set below ∙ excess-full (with_report c r) (steps + 1) set full) is

-- what the next call needs
pub can-raise-on : (c : ClockHistory) (r : Report) (now : List Report) (left steps : ℕ) (phase : Phase) (prices : List ℕ) (tables : List (Option LeastTable)) (sums : List ℤ) (before : Sums) → IsMoment c r now left steps phase prices tables sums before
    → (chosen : ℕ) → AllBelow 4294967295 prices chosen
can-raise-on c r now left steps phase prices tables sums before m chosen =
    let P : List ℕ → Type 0 = λ ps. AllBelow 4294967295 ps chosen in
    subst P (sym (moment-prices c r now left steps phase prices tables sums before m)) (can-raise (with_report c r) steps chosen (moment-path c r now left steps phase prices tables sums before m))

moment-goes : (c : ClockHistory) (r : Report) (now : List Report) (left steps : ℕ) (phase : Phase) (prices : List ℕ) (tables : List (Option LeastTable)) (sums : List ℤ) (before : Sums) (chosen : ℕ) → IsMoment c r now left steps phase prices tables sums before
    → left - 1 ≡ 0 → IsStepSet (length c.terms.goods) (entry sums) chosen → chosen ≢ 0 → good_from 0 c.terms.ceiling prices chosen ≡ None → leads_on (with_report c r) steps ≡ true
moment-goes c r now left steps phase prices tables sums before chosen m none is some free =
    let e = moment-set c r now left steps phase prices tables sums before chosen m none is in
    goes (with_report c r) steps (moment-full c r now left steps phase prices tables sums before m none) (λ z. some (e ∙ z))
    ((λ i. good_from 0 c.terms.ceiling (sym (moment-prices c r now left steps phase prices tables sums before m) i) (sym e i)) ∙ free)

pub few-on : (c : ClockHistory) (r : Report) (now : List Report) (left steps : ℕ) (phase : Phase) (prices : List ℕ) (tables : List (Option LeastTable)) (sums : List ℤ) (before : Sums) → IsMoment c r now left steps phase prices tables sums before
    → (chosen : ℕ) → left - 1 ≡ 0 → IsStepSet (length c.terms.goods) (entry sums) chosen → chosen ≢ 0 → good_from 0 c.terms.ceiling prices chosen ≡ None → before.steps < 60000
few-on c r now left steps phase prices tables sums before m chosen none is some free =
    let g = moment-goes c r now left steps phase prices tables sums before chosen m none is some free in
    let f = few-steps (with_report c r) steps c.terms.supply (moment-path c r now left steps phase prices tables sums before m) g in
    omega (arith, f, m.standing.account_steps)

-- The round stays.
stays-on : (c : ClockHistory) (r : Report) (now : List Report) (left steps : ℕ) (phase : Phase) (prices : List ℕ) (tables : List (Option LeastTable)) (sums : List ℤ) (before after : Sums) (shown : Phase) → IsMoment c r now left steps phase prices tables sums before
    → leads_on (with_report c r) steps ≡ false → shown ≡ phase_after (with_report c r) steps → after ≡ before → HasStanding (with_report c r) (reports_before c steps) steps shown prices after
stays-on c r now left steps phase prices tables sums before after shown m stops phase_is account =
    let s : StandingAt = record { current = reports_before c steps; steps = steps; phase = shown; prices = prices } in
    after-kept c r (reports_before c steps) steps phase prices before after s m.standing m.take m.fits
    (inl (record { stops = stops; current_is = refl; steps_are = refl; phase_is = phase_is; prices_are = moment-prices c r now left steps phase prices tables sums before m; account_is = account }))

-- what is kept where the round stays
pub record Stayed (c : ClockHistory) (now : List Report) (left steps : ℕ) (tables : List (Option LeastTable)) (sums : List ℤ) (after : Sums) (s : Standing) : Type 0 where
  pub same_steps : s.steps ≡ steps
  pub standing : HasStanding c (reports_before c steps) steps s.phase s.prices after
  pub round : KeepsRound c now left steps tables sums

stayed-as : (c : ClockHistory) (now : List Report) (left steps : ℕ) (tables : List (Option LeastTable)) (sums : List ℤ) (prices : List ℕ) (after : Sums) (shown : Phase) (s : Standing) → s ≡ record { steps = steps; phase = shown; prices = prices; raised = None }
    → HasStanding c (reports_before c steps) steps shown prices after → KeepsRound c now left steps tables sums → Stayed c now left steps tables sums after s
stayed-as c now left steps tables sums prices after shown s e standing round =
    let S : Standing → Type 0 = λ z. Stayed c now left steps tables sums after z in
    subst S (sym e) (record { same_steps = refl; standing = standing; round = round })

-- the next round begins
pub record Went (c : ClockHistory) (now : List Report) (steps : ℕ) (after : Sums) (s : Standing) (chosen : GoodSet) : Type 0 where
  pub next_steps : s.steps ≡ steps + 1
  pub set_is : chosen.0 ≡ step_set_after c steps
  pub full : length now ≡ length (members_of c)
  pub standing : HasStanding c (reports_before c (steps + 1)) (steps + 1) s.phase s.prices after

abbrev pub IsOn : ClockHistory → List Report → ℕ → ℕ → List (Option LeastTable) → List ℤ → Sums → Standing → Type 0
IsOn c now left steps tables sums after s = ((s.raised ≡ None) × Stayed c now left steps tables sums after s) ⊎ ((chosen : GoodSet) × (s.raised ≡ Some chosen) × Went c now steps after s chosen)

are-tables : (c : ClockHistory) (steps : ℕ) (tables : List (Option LeastTable)) → KeepsTables c (steps + 1) tables → is_full_after c steps ≡ true → AreTablesOf c.terms.goods (demands_in c.reports (steps + 1)) c.terms.bidders c.number tables
are-tables c steps tables k full = λ j set below. by j set below (is_member c j) refl
  where
    by : (j set : ℕ) → set < 2 ^ length c.terms.goods → (b : Bool) → is_member c j ≡ b → least_in (slice_index_or tables j None) set ≡ cond (is_member_of c.terms.bidders c.number j) (least (demands_in c.reports (steps + 1) j) set) 0
    by j set below true e = k.held j set below e ∙ ap (λ d. least d set) (standing-member c (steps + 1) j (reported c (steps + 1) j e full)) ∙ sym (ap (λ b. cond b (least (demands_in c.reports (steps + 1) j) set) 0) e)
    by j set below false e = ap (λ t. least_in t set) (k.nobody j e) ∙ sym (ap (λ b. cond b (least (demands_in c.reports (steps + 1) j) set) 0) e)

went-on : (c : ClockHistory) (r : Report) (now : List Report) (left steps : ℕ) (phase : Phase) (prices : List ℕ) (tables : List (Option LeastTable)) (sums : List ℤ) (before after : Sums) (s : Standing) → IsMoment c r now left steps phase prices tables sums before
    → left - 1 ≡ 0 → (rise : Rises c.terms.goods c.terms.ceiling steps prices sums tables before after s) → Went (with_report c r) now steps after s rise.set
went-on c r now left steps phase prices tables sums before after s m none rise =
    let h : ClockHistory = with_report c r in
    let e = moment-set c r now left steps phase prices tables sums before rise.set.0 m none rise.chosen in
    let g = moment-goes c r now left steps phase prices tables sums before rise.set.0 m none rise.chosen rise.some rise.free in
    let full = moment-full c r now left steps phase prices tables sums before m none in
    let added = adds-step c.terms.goods (demands_in h.reports (steps + 1)) c.terms.bidders c.number rise.set.0 tables before after c.terms.bidders_in_range.at_most rise.chosen.is_set (are-tables h steps tables m.round.tables full) rise.account_sums in
    let few = few-steps h steps c.terms.supply (moment-path c r now left steps phase prices tables sums before m) g in
    let at : StandingAt = record { current = length h.reports; steps = steps + 1; phase = Running; prices = raised prices rise.set.0 } in
    let prices_are : raised prices rise.set.0 ≡ prices_after h (steps + 1) = (λ i. raised (moment-prices c r now left steps phase prices tables sums before m i) (e i)) ∙ sym (prices-next h steps) in
    let stand = after-kept c r (reports_before c steps) steps phase prices before after at m.standing m.take m.fits
    (inr (record {
      goes = g;
      current_is = refl;
      steps_are = refl;
      few = few;
      phase_is = refl;
      prices_are = prices_are;
      account_steps = rise.account_steps;
      account_sums = λ b. added b ∙ ap (λ z. sum_without before b -ℤ excess c.terms.goods (demands_in h.reports (steps + 1)) (without b (members_of h)) z) e;
    })) in
    let l : length now ≡ length (members_of c) = omega (arith, m.round.counted, none) in
    let begins : reports_before c steps ≤ length h.reports = (let a = length-append c.reports (r ∷ []) in omega (arith, m.standing.begins, a)) in
    let u = ap length m.round.present_are ∙ length-drop (reports_before c steps) h.reports in
    let w : (steps + 1) * length (members_of c) ≡ steps * length (members_of c) + length (members_of c) = grind arith in
    let all : length h.reports ≡ reports_before h (steps + 1) = omega (arith, u, l, begins, w) in
    let H : ℕ → Type 0 = λ n. HasStanding h n (steps + 1) Running (raised prices rise.set.0) after in
    let W : Standing → Type 0 = λ z. Went h now steps after z rise.set in
    subst W (sym rise.standing) (record { next_steps = refl; set_is = e; full = l; standing = subst H all stand })

-- where the round leads
pub on-open : (c : ClockHistory) (r : Report) (now : List Report) (left steps : ℕ) (phase : Phase) (prices : List ℕ) (tables : List (Option LeastTable)) (sums : List ℤ) (before after : Sums) (s : Standing) → IsMoment c r now left steps phase prices tables sums before
    → left - 1 ≢ 0 → Waits steps prices before after s → IsOn (with_report c r) now (left - 1) steps tables sums after s
on-open c r now left steps phase prices tables sums before after s m some wait =
    let w = waits (with_report c r) steps (moment-open c r now left steps phase prices tables sums before m some) in
    inl (
      ap (λ (z : Standing). z.raised) wait.standing,
      stayed-as (with_report c r) now (left - 1) steps tables sums prices after Running s wait.standing (stays-on c r now left steps phase prices tables sums before after Running m w.1 (sym w.0) wait.account) m.round,
    )

pub on-full : (c : ClockHistory) (r : Report) (now : List Report) (left steps : ℕ) (phase : Phase) (prices : List ℕ) (tables : List (Option LeastTable)) (sums : List ℤ) (before after : Sums) (s : Standing) → IsMoment c r now left steps phase prices tables sums before
    → left - 1 ≡ 0 → IsTurn c.terms.goods c.terms.ceiling steps prices sums tables before after s → IsOn (with_report c r) now (left - 1) steps tables sums after s
on-full c r now left steps phase prices tables sums before after s m none (inl end) =
    let e = moment-set c r now left steps phase prices tables sums before 0 m none end.chosen in
    let w = ends (with_report c r) steps (moment-full c r now left steps phase prices tables sums before m none) (sym e) in
    inl (
      ap (λ (z : Standing). z.raised) end.standing,
      stayed-as (with_report c r) now (left - 1) steps tables sums prices after Ended s end.standing (stays-on c r now left steps phase prices tables sums before after Ended m w.1 (sym w.0) end.account) m.round,
    )
on-full c r now left steps phase prices tables sums before after s m none (inr (inl halt)) =
    let e = moment-set c r now left steps phase prices tables sums before halt.set m none halt.chosen in
    let good : good_at_ceiling (with_report c r) steps ≡ Some halt.good = (λ i. good_from 0 c.terms.ceiling (sym (moment-prices c r now left steps phase prices tables sums before m) i) (sym e i)) ∙ halt.at_ceiling in
    let w = halts (with_report c r) steps halt.good (moment-full c r now left steps phase prices tables sums before m none) (λ z. halt.some (e ∙ z)) good in
    inl (
      ap (λ (z : Standing). z.raised) halt.standing,
      stayed-as (with_report c r) now (left - 1) steps tables sums prices after (Halted halt.good) s halt.standing (stays-on c r now left steps phase prices tables sums before after (Halted halt.good) m w.1 (sym w.0) halt.account) m.round,
    )
on-full c r now left steps phase prices tables sums before after s m none (inr (inr rise)) =
    inr (rise.set, ap (λ (z : Standing). z.raised) rise.standing, went-on c r now left steps phase prices tables sums before after s m none rise)

-- somebody is missing where a report is taken
pub some-left : (c : ClockHistory) (r : Report) (present : List Report) (left steps : ℕ) (phase : Phase) (prices : List ℕ) (account : Sums) (tables : List (Option LeastTable)) (sums : List ℤ) → HasStanding c (reports_before c steps) steps phase prices account → KeepsRound c present left steps tables sums → judgement_of c r ≡ Take → 1 ≤ left
some-left c r present left steps phase prices account tables sums k round take =
    let f = missing-pushed c r steps (is-new c r (reports_before c steps) steps phase prices account k take) in
    omega (arith, round.missing, f)

pub on-any : (c : ClockHistory) (r : Report) (now : List Report) (left steps : ℕ) (phase : Phase) (prices : List ℕ) (tables : List (Option LeastTable)) (sums : List ℤ) (before after : Sums) (s : Standing) → IsMoment c r now left steps phase prices tables sums before
    → (left - 1 ≢ 0 → Waits steps prices before after s) → (left - 1 ≡ 0 → IsTurn c.terms.goods c.terms.ceiling steps prices sums tables before after s) → IsOn (with_report c r) now (left - 1) steps tables sums after s
on-any c r now left steps phase prices tables sums before after s m wait turn = by (cases_eq (left - 1) 0)
  where
    by : (left - 1 ≡ 0) ⊎ (left - 1 ≢ 0) → IsOn (with_report c r) now (left - 1) steps tables sums after s
    by (inl none) = on-full c r now left steps phase prices tables sums before after s m none (turn none)
    by (inr some) = on-open c r now left steps phase prices tables sums before after s m some (wait some)
