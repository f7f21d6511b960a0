-- What a clock keeps after a report, and at first.
use Rattle.std.proofs.Common.{◌-◌, ◌≡◌, ◌≢◌, ◌<◌, ◌≤◌, ◌⊎◌, inl, inr, ℕ, zero, suc, ◌+◌, ◌*◌, ◌/◌, ◌^◌, true, false, not, ◌&&◌, nat_eq, cond, List, [], ◌∷◌, ◌++◌, length, length-drop, take, drop, Option, Some, None, is_some, is_none, refl, sym, ◌∙◌, ap, subst, arith, pos}
use Rattle.std.specs.Prelude.{slice_get, slice_index_or, option_map, ℤ}
use Rattle.std.specs.List.{AllByRecursion}
use Rattle.std.proofs.lemmas.Int.{ints}
use Rattle.std.proofs.lemmas.Bool.{cases_eq}
use Rattle.lot_base.specs.Demands.{least}
use Rattle.lot_base.specs.Steps.{excess, IsStepSet}
use Rattle.lot_base.specs.declared.phases.Phase.{Phase}
use Rattle.lot_base.specs.declared.phases.Phase.TheVariants.{Running, Ended, Halted}
use Rattle.lot_base.specs.declared.supply.GoodSet.{GoodSet}
use Rattle.lot_base.specs.declared.tables.LeastTable.{LeastTable}
use Rattle.lot_base.proofs.Within.{both}
use Rattle.lyapunov.specs.Excesses.{entry, IsExcessOf}
use Rattle.credit_book.specs.Account.{least_in, Sums, sum_without}
use Rattle.demand_set.specs.declared.reports.Report.{Report}
use Rattle.clock.specs.declared.next_step.Standing.{Standing}
use Rattle.clock.specs.Past.{PastOf}
use Rattle.clock.specs.Reports.{ClockHistory, set_numbers, demand_in, demands_in, members_of, with_report}
use Rattle.clock.specs.Standing.{sets_of, step_set_after, leads_on, is_full_after, good_at_ceiling, good_from, prices_after, phase_after}
use Rattle.clock.specs.Judging.{is_member}
use Rattle.clock.specs.Turns.{Waits, IsTurn}
use Rattle.clock.specs.Kept.{IsKept, HasStanding, KeepsRound, missing_count, reports_before, standing_demands}
use Rattle.clock.proofs.Append.{step-stays, absent-beyond}
use Rattle.clock.proofs.Present.{reported, drop-whole}
use Rattle.clock.proofs.After.{first-kept, first-stops}
use Rattle.clock.proofs.Moves.{StandingAt}
use Rattle.clock.proofs.Excesses.{chosen-is}
use Rattle.clock.proofs.Next.{waits, ends, halts, goes}
use Rattle.clock.proofs.StandingDemands.{excess-before, excess-full, standing-before, standing-member}
use Rattle.clock.proofs.Taking.{Stayed, Went, IsOn}
use Rattle.clock.proofs.Totals.{total-none, total-ones, full-count, open-count}

-- the step sets of the rounds before stay
pub sets-stay : (c : ClockHistory) (r : Report) (n : ℕ) → ((m : ℕ) → m < n → leads_on c m ≡ true) → sets_of (with_report c r) n ≡ sets_of c n
unfolding sets_of
sets-stay c r zero before = refl
sets-stay c r (suc n) before =
    let rest = sets-stay c r n (λ m below. before m (omega arith)) in
    let full : is_full_after c n ≡ true = (both (is_full_after c n) (not (nat_eq (step_set_after c n) 0) && is_none (good_at_ceiling c n)) (before n (omega arith))).0 in
    let s = step-stays c.terms.goods (members_of c) c.reports r (n + 1) full in
    λ i. rest i ++ s i ∷ []

pub sets-next : (c : ClockHistory) (n : ℕ) → sets_of c (n + 1) ≡ sets_of c n ++ step_set_after c n ∷ []
unfolding sets_of
sets-next c n = let e : n + 1 ≡ suc n = omega arith in ap (sets_of c) e

-- nobody has reported in a round beyond
none-there : (c : ClockHistory) (limit j : ℕ) → AllByRecursion (λ (r : Report). r.round ≤ limit) c.reports → demand_in c.reports (limit + 1) j ≡ None
none-there c limit j all = ap (option_map (λ (r : Report). r.demand)) (absent-beyond limit (limit + 1) j c.reports (omega arith) all)

take-length : (reports : List Report) → take (length reports) reports ≡ reports
take-length [] = refl
take-length (x ∷ reports) = ap (λ xs. x ∷ xs) (take-length reports)

-- what is kept of a round without reports
pub round-opened : (c : ClockHistory) (left steps : ℕ) (phase : Phase) (prices : List ℕ) (account : Sums) (tables : List (Option LeastTable)) (sums : List ℤ) → HasStanding c (reports_before c steps) steps phase prices account → length c.reports ≡ reports_before c steps
    → ((i : ℕ) (r : Report) → slice_get c.reports i ≡ Some r → r.round ≡ i / length (members_of c) + 1) → left ≡ length (members_of c)
    → length tables ≡ 13 → ((j set : ℕ) → set < 2 ^ length c.terms.goods → is_member c j ≡ true → least_in (slice_index_or tables j None) set ≡ least (demands_in c.reports steps j) set)
    → ((j : ℕ) → is_member c j ≡ false → slice_index_or tables j None ≡ None) → ((j set : ℕ) → 2 ^ length c.terms.goods ≤ set → least_in (slice_index_or tables j None) set ≡ 0)
    → ((set : ℕ) → set < 2 ^ length c.terms.goods → entry sums set ≡ excess c.terms.goods (demands_in c.reports steps) (members_of c) set) → ((set : ℕ) → 2 ^ length c.terms.goods ≤ set → entry sums set ≡ pos 0)
    → KeepsRound c (drop (reports_before c steps) c.reports) left steps tables sums
round-opened c left steps phase prices account tables sums k whole order all places before nobody blank entries others = record {
  present_are = refl;
  in_order = order;
  counted = let l = ap length (ap (λ n. drop n c.reports) (sym whole) ∙ drop-whole c.reports) in omega (arith, all, l);
  missing = all ∙ sym (total-ones (λ j. cond (is_some (demand_in c.reports (steps + 1) j)) 0 1) (members_of c) (λ j. ap (λ o. cond (is_some o) 0 1) (none j)));
  tables = record {
    places = places;
    held = λ j set below member. before j set below member ∙ ap (λ d. least d set) (sym (standing j));
    nobody = nobody;
    blank = blank;
  };
  excess = record {
    entries = λ set below. entries set below ∙ ap (λ n. excess c.terms.goods (demands_in c.reports n) (members_of c) set) same ∙ sym (excess-before c (steps + 1) set none);
    others = others;
  };
}
  where
    past : AllByRecursion (λ (r : Report). r.round ≤ steps) c.reports
    past = let A : List Report → Type 0 = λ rs. AllByRecursion (λ (r : Report). r.round ≤ steps) rs in subst A (ap (λ n. take n c.reports) (sym whole) ∙ take-length c.reports) k.past

    none : (j : ℕ) → demand_in c.reports (steps + 1) j ≡ None
    none j = none-there c steps j past

    same : steps ≡ steps + 1 - 1
    same = omega arith

    standing : (j : ℕ) → standing_demands c (steps + 1) j ≡ demands_in c.reports steps j
    standing j = standing-before c (steps + 1) j (none j) ∙ ap (λ n. demands_in c.reports n j) (sym same)

-- what is kept where the round stays
pub kept-stayed : (c : ClockHistory) (past : PastOf) (now : List Report) (left steps : ℕ) (tables : List (Option LeastTable)) (sums : List ℤ) (after : Sums) (s : Standing) → Stayed c now left steps tables sums after s
    → past.goods ≡ length c.terms.goods → set_numbers past.sets ≡ sets_of c steps → IsKept c past left s.steps s.phase s.prices tables sums after
kept-stayed c past now left steps tables sums after s stayed goods sets =
    let K : ℕ → Type 0 = λ n. IsKept c past left n s.phase s.prices tables sums after in
    let R : List Report → Type 0 = λ rs. KeepsRound c rs left steps tables sums in
    subst K (sym stayed.same_steps) (record { standing = stayed.standing; round = subst R stayed.round.present_are stayed.round; goods = goods; sets = sets })

-- all reports are of the rounds before the next one
pub whole-went : (c : ClockHistory) (now : List Report) (left steps : ℕ) (tables : List (Option LeastTable)) (sums : List ℤ) (after : Sums) (s : Standing) (chosen : GoodSet) → Went c now steps after s chosen → KeepsRound c now left steps tables sums → length c.reports ≡ reports_before c (steps + 1)
whole-went c now left steps tables sums after s chosen went round =
    let u = ap length round.present_are ∙ length-drop (reports_before c steps) c.reports in
    let w : (steps + 1) * length (members_of c) ≡ steps * length (members_of c) + length (members_of c) = grind arith in
    let b = went.standing.begins in
    omega (arith, u, went.full, w, b)

-- and where the next one begins
pub kept-went : (c : ClockHistory) (past : PastOf) (now : List Report) (left again steps : ℕ) (tables : List (Option LeastTable)) (sums : List ℤ) (after : Sums) (s : Standing) (chosen : GoodSet) → Went c now steps after s chosen
    → KeepsRound c now left steps tables sums → past.goods ≡ length c.terms.goods → set_numbers past.sets ≡ sets_of c steps ++ chosen.0 ∷ [] → again ≡ length (members_of c)
    → IsKept c past again s.steps s.phase s.prices tables sums after
kept-went c past now left again steps tables sums after s chosen went round goods sets all =
    let K : ℕ → Type 0 = λ n. IsKept c past again n s.phase s.prices tables sums after in
    let none : missing_count (members_of c) c.reports (steps + 1) ≡ 0 = omega (arith, round.counted, round.missing, went.full) in
    let full = full-count (members_of c) c.reports (steps + 1) none in
    let whole = whole-went c now left steps tables sums after s chosen went round in
    subst K (sym went.next_steps) (record {
      standing = went.standing;
      round = round-opened c again (steps + 1) s.phase s.prices after tables sums went.standing whole round.in_order all round.tables.places
          (λ j set below member. round.tables.held j set below member ∙ ap (λ d. least d set) (standing-member c (steps + 1) j (reported c (steps + 1) j member full)))
          round.tables.nobody round.tables.blank (λ set below. round.excess.entries set below ∙ excess-full c (steps + 1) set full) round.excess.others;
      goods = goods;
      sets = sets ∙ ap (λ n. sets_of c steps ++ n ∷ []) went.set_is ∙ sym (sets-next c steps);
    })

-- the same, by whether the prices rose
pub kept-here : (c : ClockHistory) (past : PastOf) (now : List Report) (left steps : ℕ) (tables : List (Option LeastTable)) (sums : List ℤ) (after : Sums) (s : Standing) → IsOn c now left steps tables sums after s → s.raised ≡ None
    → past.goods ≡ length c.terms.goods → set_numbers past.sets ≡ sets_of c steps → IsKept c past left s.steps s.phase s.prices tables sums after
kept-here c past now left steps tables sums after s (inl (e, stayed)) none goods sets = kept-stayed c past now left steps tables sums after s stayed goods sets
kept-here c past now left steps tables sums after s (inr (chosen, e, went)) none goods sets = absurd (let f : Some chosen ≡ None = sym e ∙ none in cc)

pub went-by : (c : ClockHistory) (now : List Report) (left steps : ℕ) (tables : List (Option LeastTable)) (sums : List ℤ) (after : Sums) (s : Standing) (chosen : GoodSet) → IsOn c now left steps tables sums after s → s.raised ≡ Some chosen → Went c now steps after s chosen
went-by c now left steps tables sums after s chosen (inl (e, stayed)) some = absurd (let f : None ≡ Some chosen = sym e ∙ some in cc)
went-by c now left steps tables sums after s chosen (inr (other, e, went)) some =
    let same : other ≡ chosen = (let f : Some other ≡ Some chosen = sym e ∙ some in cc) in
    let W : GoodSet → Type 0 = λ z. Went c now steps after s z in
    subst W same went

-- a clock without reports
no-demands : (c : ClockHistory) (round : ℕ) (table : List ℤ) → c.reports ≡ [] → IsExcessOf c.terms.goods [] table → (set : ℕ) → set < 2 ^ length c.terms.goods → entry table set ≡ excess c.terms.goods (demands_in c.reports round) (members_of c) set
no-demands c round table none opened set below =
    let e = opened.entries set below in
    let z = total-none (λ j. least (demands_in c.reports round j) set) (members_of c) (λ j. ap (λ rs. least (demands_in rs round j) set) none) in
    omega (arith, ints, e, z)

first-stays : (c : ClockHistory) (shown : Phase) (prices : List ℕ) (before after : Sums) → c.reports ≡ [] → c.number ≤ c.terms.bidders → before.steps ≡ 0 → ((b : ℕ) → sum_without before b ≡ pos 0) → leads_on c 0 ≡ false → shown ≡ phase_after c 0 → prices ≡ prices_after c 0 → after ≡ before
    → HasStanding c (reports_before c 0) 0 shown prices after
first-stays c shown prices before after none number steps sums stops phase_is prices_are account =
    let s : StandingAt = record { current = 0; steps = 0; phase = shown; prices = prices } in
    let z : 0 ≡ reports_before c 0 = omega arith in
    let H : ℕ → Type 0 = λ n. HasStanding c n 0 shown prices after in
    subst H z (first-kept c s before after none number steps sums (inl (record { stops = stops; current_is = refl; steps_are = refl; phase_is = phase_is; prices_are = prices_are; account_is = account })))

first-opening : (c : ClockHistory) → c.terms.opening ≡ prices_after c 0
unfolding prices_after
first-opening c = refl

first-sets : (c : ClockHistory) → sets_of c 0 ≡ []
unfolding sets_of
first-sets c = refl

first-all : (c : ClockHistory) (left : ℕ) (phase : Phase) (prices : List ℕ) (account : Sums) (tables : List (Option LeastTable)) (sums : List ℤ) (past : PastOf) → c.reports ≡ [] → HasStanding c (reports_before c 0) 0 phase prices account → left ≡ length (members_of c) → length tables ≡ 13
    → IsExcessOf c.terms.goods [] sums → ((j : ℕ) → slice_index_or tables j None ≡ None) → past.goods ≡ length c.terms.goods → past.sets ≡ [] → IsKept c past left 0 phase prices tables sums account
first-all c left phase prices account tables sums past none standing all places opened empty goods sets =
    let whole : length c.reports ≡ reports_before c 0 = (let l = ap length none in omega (arith, l)) in
    record {
      standing = standing;
      round = round-opened c left 0 phase prices account tables sums standing whole (λ i r at. absurd (nowhere i r (ap (λ rs. slice_get rs i) (sym none) ∙ at))) all places
          (λ j set below member. ap (λ t. least_in t set) (empty j) ∙ sym (ap (λ rs. least (demands_in rs 0 j) set) none))
          (λ j outside. empty j) (λ j set behind. ap (λ t. least_in t set) (empty j)) (λ set below. no-demands c 0 sums none opened set below) opened.others;
      goods = goods;
      sets = ap set_numbers sets ∙ sym (first-sets c);
    }
  where
    nowhere : (i : ℕ) (r : Report) → slice_get [] i ≡ Some r → ⊥
    nowhere i r e = (let f : None ≡ Some r = e in cc)

pub first-kept-all : (c : ClockHistory) (left : ℕ) (tables : List (Option LeastTable)) (sums : List ℤ) (before after : Sums) (s : Standing) (past : PastOf) → c.reports ≡ [] → c.number ≤ c.terms.bidders → left ≡ length (members_of c) → before.steps ≡ 0
    → ((b : ℕ) → sum_without before b ≡ pos 0) → length tables ≡ 13 → IsExcessOf c.terms.goods [] sums → ((j : ℕ) → slice_index_or tables j None ≡ None)
    → (left ≢ 0 → Waits 0 c.terms.opening before after s) → (left ≡ 0 → IsTurn c.terms.goods c.terms.ceiling 0 c.terms.opening sums tables before after s) → past.goods ≡ length c.terms.goods → past.sets ≡ []
    → IsKept c past left s.steps s.phase s.prices tables sums after
first-kept-all c left tables sums before after s past none number all steps nothing places opened empty wait turn goods sets = by (cases_eq left 0)
  where
    count : left ≡ missing_count (members_of c) c.reports (0 + 1)
    count = all ∙ sym (total-ones (λ j. cond (is_some (demand_in c.reports (0 + 1) j)) 0 1) (members_of c) (λ j. ap (λ rs. cond (is_some (demand_in rs (0 + 1) j)) 0 1) none))

    chosen : (set : ℕ) → IsStepSet (length c.terms.goods) (entry sums) set → set ≡ step_set_after c 0
    chosen set is = chosen-is c.terms.goods (demands_in c.reports (0 + 1)) (members_of c) sums (entry sums) set (λ e. refl) (no-demands c (0 + 1) sums none opened) is

    stay : (shown : Phase) → s ≡ record { steps = 0; phase = shown; prices = c.terms.opening; raised = None } → leads_on c 0 ≡ false → shown ≡ phase_after c 0 → after ≡ before → IsKept c past left s.steps s.phase s.prices tables sums after
    stay shown e stops phase_is account =
        let K : Standing → Type 0 = λ z. IsKept c past left z.steps z.phase z.prices tables sums after in
        subst K (sym e) (first-all c left shown c.terms.opening after tables sums past none (first-stays c shown c.terms.opening before after none number steps nothing stops phase_is (first-opening c) account) all places opened empty goods sets)

    by : (left ≡ 0) ⊎ (left ≢ 0) → IsKept c past left s.steps s.phase s.prices tables sums after
    by (inr some) =
        let w = waits c 0 (open-count (members_of c) c.reports (0 + 1) (λ e. some (count ∙ e))) in
        let a = wait some in
        stay Running a.standing w.1 (sym w.0) a.account
    by (inl gone) = at (full-count (members_of c) c.reports (0 + 1) (sym count ∙ gone)) (turn gone)
      where
        at : is_full_after c 0 ≡ true → IsTurn c.terms.goods c.terms.ceiling 0 c.terms.opening sums tables before after s → IsKept c past left s.steps s.phase s.prices tables sums after
        at full (inl end) = let w = ends c 0 full (sym (chosen 0 end.chosen)) in stay Ended end.standing w.1 (sym w.0) end.account
        at full (inr (inl halt)) =
            let e = chosen halt.set halt.chosen in
            let w = halts c 0 halt.good full (λ z. halt.some (e ∙ z)) ((λ i. good_from 0 c.terms.ceiling (sym (first-opening c) i) (sym e i)) ∙ halt.at_ceiling) in
            stay (Halted halt.good) halt.standing w.1 (sym w.0) halt.account
        at full (inr (inr rise)) =
            let e = chosen rise.set.0 rise.chosen in
            absurd (first-stops c none (goes c 0 full (λ z. rise.some (e ∙ z)) ((λ i. good_from 0 c.terms.ceiling (sym (first-opening c) i) (sym e i)) ∙ rise.free)))
