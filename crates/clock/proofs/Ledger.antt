-- The account of a clock: the tables of the members give what a step adds for each bidder that is left out, and a report more
-- changes nothing of the steps before.
use Rattle.std.proofs.Common.{◌≡◌, ◌≢◌, ◌<◌, ◌≤◌, ℕ, zero, suc, ◌+◌, ◌^◌, Bool, true, false, not, ◌&&◌, nat_eq, cond, List, [], ◌∷◌, ◌++◌, length, Option, Some, None, is_some, is_none, refl, sym, ◌∙◌, ap, arith, subst}
use Rattle.std.specs.Prelude.{filter, nat_le, pos, ◌+ℤ◌, ◌-ℤ◌, slice_index_or, slice_set, replicate}
use Rattle.std.specs.List.{range_with_len}
use Rattle.std.proofs.lemmas.Int.{ints}
use Rattle.std.proofs.Common.{◌⊎◌, inl, inr, get_or-set_same, get_or-set_other}
use Rattle.std.proofs.lemmas.Bool.Decides.{nat_tests}
use Rattle.lot_base.specs.Goods.{quantity_in}
use Rattle.lot_base.specs.Demands.{least, IsTable}
use Rattle.lot_base.specs.Economy.{total_units, without}
use Rattle.lot_base.specs.Steps.{excess}
use Rattle.lot_base.specs.declared.tables.LeastTable.{LeastTable}
use Rattle.demand_set.specs.declared.reports.Report.{Report}
use Rattle.credit_book.specs.Account.{Sums, sum_without, units_left, least_in, others}
use Rattle.clock.specs.Reports.{ClockHistory, with_report, members, members_of, demand_in, demands_in, is_full}
use Rattle.clock.specs.Standing.{leads_on, is_full_after, step_set_after, good_at_ceiling}
use Rattle.lot_base.specs.declared.phases.Phase.{Phase}
use Rattle.clock.specs.Accounts.{account_after, account_without}
use Rattle.clock.specs.Kept.{HasStanding}
use Rattle.clock.specs.Tables.{is_member_of, AreTablesOf}
use Rattle.lot_base.proofs.Within.{both}
use Rattle.clock.proofs.Path.{compare-or}
use Rattle.clock.proofs.Append.{least-stays, step-stays}

-- what is demanded of the members but one is that of the table places but one
kept-total : (m p : ℕ → Bool) (f : ℕ → ℕ) (js : List ℕ) → total_units (λ j. cond (m j) (f j) 0) (filter p js) ≡ total_units f (filter p (filter m js))
kept-total m p f [] = refl
kept-total m p f (j ∷ js) = by (m j) (p j) refl refl (kept-total m p f js)
  where
    by : (a b : Bool) → m j ≡ a → p j ≡ b → total_units (λ j. cond (m j) (f j) 0) (filter p js) ≡ total_units f (filter p (filter m js))
        → total_units (λ j. cond (m j) (f j) 0) (cond b (j ∷ filter p js) (filter p js)) ≡ total_units f (filter p (cond a (j ∷ filter m js) (filter m js)))
    by true true e g rest = (λ i. cond (e i) (f j) 0 + rest i) ∙ sym (ap (λ b. total_units f (cond b (j ∷ filter p (filter m js)) (filter p (filter m js)))) g)
    by true false e g rest = rest ∙ sym (ap (λ b. total_units f (cond b (j ∷ filter p (filter m js)) (filter p (filter m js)))) g)
    by false true e g rest = (λ i. cond (e i) (f j) 0 + rest i) ∙ (omega arith)
    by false false e g rest = rest

none-behind : (bidders clock a n : ℕ) → bidders < a → filter (is_member_of bidders clock) (range_with_len a n) ≡ []
none-behind bidders clock a zero behind = refl
none-behind bidders clock a (suc n) behind =
    let far : nat_le a bidders ≡ false = grind (arith, nat_tests) in
    let out : is_member_of bidders clock a ≡ false = by (nat_le 1 a) far in
    ap (λ b. cond b (a ∷ filter (is_member_of bidders clock) (range_with_len (a + 1) n)) (filter (is_member_of bidders clock) (range_with_len (a + 1) n))) out ∙ none-behind bidders clock (a + 1) n (omega arith)
  where
    by : (b : Bool) → nat_le a bidders ≡ false → (b && (nat_le a bidders && not (nat_eq a clock))) ≡ false
    by true far = ap (λ f. f && not (nat_eq a clock)) far
    by false far = refl

range-members : (bidders clock a k n : ℕ) → 1 ≤ a → a + k ≡ bidders + 1 → k ≤ n
    → filter (is_member_of bidders clock) (range_with_len a n) ≡ filter (λ j. not (nat_eq j clock)) (range_with_len a k)
range-members bidders clock a zero n low e up = none-behind bidders clock a n (omega arith)
range-members bidders clock a (suc k) zero low e up = absurd (omega arith)
range-members bidders clock a (suc k) (suc n) low e up =
    let one : nat_le 1 a ≡ true = grind (arith, nat_tests) in
    let in_reach : nat_le a bidders ≡ true = grind (arith, nat_tests) in
    let test : is_member_of bidders clock a ≡ not (nat_eq a clock) = λ i. one i && (in_reach i && not (nat_eq a clock)) in
    let rest = range-members bidders clock (a + 1) k n (omega arith) (omega arith) (omega arith) in
    λ i. cond (test i) (a ∷ rest i) (rest i)

pub member-total : (bidders clock b : ℕ) (f : ℕ → ℕ) → bidders ≤ 12 → total_units (λ j. cond (is_member_of bidders clock j) (f j) 0) (others b) ≡ total_units f (without b (members bidders clock))
unfolding others
member-total bidders clock b f few =
    kept-total (is_member_of bidders clock) (λ j. not (nat_eq j b)) f (range_with_len 1 12)
    ∙ ap (λ js. total_units f (filter (λ j. not (nat_eq j b)) js)) (range-members bidders clock 1 bidders 12 (omega arith) (omega arith) few)

pub same-total : (f g : ℕ → ℕ) (js : List ℕ) → ((j : ℕ) → f j ≡ g j) → total_units f js ≡ total_units g js
same-total f g [] same = refl
same-total f g (j ∷ js) same = λ i. same j i + same-total f g js same i

pub left-is : (goods : List ℕ) (demands : ℕ → List (List ℕ)) (bidders clock set b : ℕ) (tables : List (Option LeastTable)) → bidders ≤ 12 → set < 2 ^ length goods → AreTablesOf goods demands bidders clock tables
    → units_left goods tables set b ≡ pos 0 -ℤ excess goods demands (without b (members bidders clock)) set
unfolding units_left
left-is goods demands bidders clock set b tables few inside are =
    let e = same-total (λ j. least_in (slice_index_or tables j None) set) (λ j. cond (is_member_of bidders clock j) (least (demands j) set) 0) (others b) (λ j. are j set inside) in
    let t = member-total bidders clock b (λ j. least (demands j) set) few in
    omega (arith, ints)

-- the account after a step
pub adds-step : (goods : List ℕ) (demands : ℕ → List (List ℕ)) (bidders clock set : ℕ) (tables : List (Option LeastTable)) (before after : Sums) → bidders ≤ 12 → set < 2 ^ length goods → AreTablesOf goods demands bidders clock tables
    → ((b : ℕ) → sum_without after b ≡ sum_without before b +ℤ units_left goods tables set b) → (b : ℕ) → sum_without after b ≡ sum_without before b -ℤ excess goods demands (without b (members bidders clock)) set
adds-step goods demands bidders clock set tables before after few inside are added b = let a = added b in let l = left-is goods demands bidders clock set b tables few inside are in omega (arith, ints)

-- tables while the bidders are gone through
abbrev no_table : Option LeastTable
no_table = None

pub none-at : (n j : ℕ) → slice_index_or (replicate n no_table) j no_table ≡ no_table
none-at zero j = refl
none-at (suc n) zero = refl
none-at (suc n) (suc j) = none-at n j

pub nobody : (clock j : ℕ) → is_member_of 0 clock j ≡ false
nobody clock zero = refl
nobody clock (suc j) = let far : nat_le (suc j) 0 ≡ false = grind (arith, nat_tests) in by (nat_le 1 (suc j)) far
  where
    by : (b : Bool) → nat_le (suc j) 0 ≡ false → (b && (nat_le (suc j) 0 && not (nat_eq (suc j) clock))) ≡ false
    by true far = ap (λ f. f && not (nat_eq (suc j) clock)) far
    by false far = refl

pub tables-first : (goods : List ℕ) (demands : ℕ → List (List ℕ)) (clock : ℕ) (tables : List (Option LeastTable)) → tables ≡ replicate 13 no_table → AreTablesOf goods demands 0 clock tables
tables-first goods demands clock tables e j set inside =
    ap (λ ts. least_in (slice_index_or ts j no_table) set) e ∙ ap (λ o. least_in o set) (none-at 13 j) ∙ sym (ap (λ b. cond b (least (demands j) set) 0) (nobody clock j))

pub further : (step clock j : ℕ) → j ≢ step + 1 → is_member_of (step + 1) clock j ≡ is_member_of step clock j
further step clock j other = let e : nat_le j (step + 1) ≡ nat_le j step = grind (arith, nat_tests) in λ i. nat_le 1 j && (e i && not (nat_eq j clock))

pub here : (step clock : ℕ) → step + 1 ≢ clock → is_member_of (step + 1) clock (step + 1) ≡ true
here step clock other =
    let a : nat_le 1 (step + 1) ≡ true = grind (arith, nat_tests) in
    let b : nat_le (step + 1) (step + 1) ≡ true = grind (arith, nat_tests) in
    let d : nat_eq (step + 1) clock ≡ false = grind (arith, nat_tests) in
    λ i. a i && (b i && not (d i))

pub left-out : (step clock j : ℕ) → step + 1 ≡ clock → is_member_of (step + 1) clock j ≡ is_member_of step clock j
left-out step clock j same = by (compare-or j (step + 1))
  where
    at-clock : j ≡ step + 1 → is_member_of (step + 1) clock j ≡ is_member_of step clock j
    at-clock e =
        let d : nat_eq j clock ≡ true = grind (arith, nat_tests) in
        let one : (f g : Bool) → (f && (g && not (nat_eq j clock))) ≡ false = λ f g. all f g d in
        one (nat_le 1 j) (nat_le j (step + 1)) ∙ sym (one (nat_le 1 j) (nat_le j step))
      where
        all : (f g : Bool) → nat_eq j clock ≡ true → (f && (g && not (nat_eq j clock))) ≡ false
        all true true d = ap not d
        all true false d = refl
        all false g d = refl

    by : (j < step + 1) ⊎ ((step + 1 < j) ⊎ (j ≡ step + 1)) → is_member_of (step + 1) clock j ≡ is_member_of step clock j
    by (inl less) = further step clock j (omega arith)
    by (inr (inl more)) = further step clock j (omega arith)
    by (inr (inr e)) = at-clock e

pub tables-keep : (goods : List ℕ) (demands : ℕ → List (List ℕ)) (step clock : ℕ) (tables : List (Option LeastTable)) (table : LeastTable) → step + 1 < length tables → step + 1 ≢ clock → IsTable (length goods) (least (demands (step + 1))) table.0
    → AreTablesOf goods demands step clock tables → AreTablesOf goods demands (step + 1) clock (slice_set tables (step + 1) (Some table))
tables-keep goods demands step clock tables table room other is are j set inside = by (compare-or j (step + 1))
  where
    apart : j ≢ step + 1 → least_in (slice_index_or (slice_set tables (step + 1) (Some table)) j None) set ≡ cond (is_member_of (step + 1) clock j) (least (demands j) set) 0
    apart differs = ap (λ o. least_in o set) (get_or-set_other tables (step + 1) j (Some table) None differs) ∙ are j set inside ∙ sym (ap (λ b. cond b (least (demands j) set) 0) (further step clock j differs))

    at-it : j ≡ step + 1 → least_in (slice_index_or (slice_set tables (step + 1) (Some table)) j None) set ≡ cond (is_member_of (step + 1) clock j) (least (demands j) set) 0
    at-it e =
        let P : ℕ → Type 0 = λ k. least_in (slice_index_or (slice_set tables (step + 1) (Some table)) k None) set ≡ cond (is_member_of (step + 1) clock k) (least (demands k) set) 0 in
        subst P (sym e) (ap (λ o. least_in o set) (get_or-set_same tables (step + 1) (Some table) None room) ∙ is.entries set inside ∙ sym (ap (λ b. cond b (least (demands (step + 1)) set) 0) (here step clock other)))

    by : (j < step + 1) ⊎ ((step + 1 < j) ⊎ (j ≡ step + 1)) → least_in (slice_index_or (slice_set tables (step + 1) (Some table)) j None) set ≡ cond (is_member_of (step + 1) clock j) (least (demands j) set) 0
    by (inl less) = apart (omega arith)
    by (inr (inl more)) = apart (omega arith)
    by (inr (inr e)) = at-it e

pub tables-skip : (goods : List ℕ) (demands : ℕ → List (List ℕ)) (step clock : ℕ) (tables : List (Option LeastTable)) → step + 1 ≡ clock → AreTablesOf goods demands step clock tables → AreTablesOf goods demands (step + 1) clock tables
tables-skip goods demands step clock tables same are j set inside = are j set inside ∙ sym (ap (λ b. cond b (least (demands j) set) 0) (left-out step clock j same))

-- a report more changes nothing of the steps before
full-without : (b : ℕ) (ms : List ℕ) (reports : List Report) (round : ℕ) → is_full ms reports round ≡ true → is_full (without b ms) reports round ≡ true
full-without b [] reports round e = refl
full-without b (j ∷ ms) reports round e =
    let h = both (is_some (demand_in reports round j)) (is_full ms reports round) e in
    by (not (nat_eq j b)) h.0 (full-without b ms reports round h.1)
  where
    by : (keep : Bool) → is_some (demand_in reports round j) ≡ true → is_full (without b ms) reports round ≡ true → is_full (cond keep (j ∷ without b ms) (without b ms)) reports round ≡ true
    by true here rest = λ i. here i && rest i
    by false here rest = rest

pub account-stays : (c : ClockHistory) (r : Report) (b n : ℕ) → ((m : ℕ) → m < n → leads_on c m ≡ true) → account_after (with_report c r) (without b (members_of c)) n ≡ account_after c (without b (members_of c)) n
unfolding account_after
account-stays c r b zero before = refl
account-stays c r b (suc n) before =
    let rest = account-stays c r b n (λ m below. before m (omega arith)) in
    let full : is_full_after c n ≡ true = (both (is_full_after c n) (not (nat_eq (step_set_after c n) 0) && is_none (good_at_ceiling c n)) (before n (omega arith))).0 in
    let same = step-stays c.terms.goods (members_of c) c.reports r (n + 1) full in
    let least_same = least-stays (without b (members_of c)) c.reports r (n + 1) (step_set_after c n) (full-without b (members_of c) c.reports (n + 1) full) in
    let moved : excess c.terms.goods (demands_in (c.reports ++ r ∷ []) (n + 1)) (without b (members_of c)) (step_set_after (with_report c r) n) ≡ excess c.terms.goods (demands_in (c.reports ++ r ∷ []) (n + 1)) (without b (members_of c)) (step_set_after c n) =
    ap (excess c.terms.goods (demands_in (c.reports ++ r ∷ []) (n + 1)) (without b (members_of c))) same in
    let kept : excess c.terms.goods (demands_in (c.reports ++ r ∷ []) (n + 1)) (without b (members_of c)) (step_set_after c n) ≡ excess c.terms.goods (demands_in c.reports (n + 1)) (without b (members_of c)) (step_set_after c n) =
    ap (λ k. pos k -ℤ pos (quantity_in c.terms.goods (step_set_after c n))) least_same in
    λ i. rest i -ℤ (moved ∙ kept) i

pub account-next : (c : ClockHistory) (bidders : List ℕ) (n : ℕ) → account_after c bidders (n + 1) ≡ account_after c bidders n -ℤ excess c.terms.goods (demands_in c.reports (n + 1)) bidders (step_set_after c n)
unfolding account_after
account-next c bidders n = let e : n + 1 ≡ suc n = omega arith in ap (account_after c bidders) e

pub account-zero : (c : ClockHistory) (bidders : List ℕ) → account_after c bidders 0 ≡ pos 0
unfolding account_after
account-zero c bidders = refl

-- the account that a clock keeps is that of its history
pub account-kept : (c kept : ClockHistory) (current steps : ℕ) (phase : Phase) (prices : List ℕ) (account : Sums) (b : ℕ) → HasStanding c current steps phase prices account → c ≡ kept → sum_without account b ≡ account_without kept b
account-kept c kept current steps phase prices account b k same =
    k.account_is b ∙ ap (account_after c (without b (members_of c))) k.steps_are ∙ ap (λ h. account_without h b) same
