-- What the members demand in a round, as it is added up bidder by bidder, by any amounts.
use Rattle.std.proofs.Common.{◌≡◌, ◌≢◌, ◌<◌, ◌≤◌, ℕ, ◌+◌, ◌*◌, ◌-◌, ◌^◌, nat_eq, not, cond, List, [], length, refl, sym, subst, ◌∙◌, ap, arith, ◌⊎◌, inl, inr, None, Some, Option, get_or-set_same, get_or-set_other}
use Rattle.std.specs.Prelude.{filter, replicate, unwrap_or, ℤ, pos, negsuc, ◌+ℤ◌, ◌-ℤ◌, ◌≤ℤ◌, slice_index, slice_index_or, slice_set}
use Rattle.std.proofs.lemmas.Int.{ints}
use Rattle.std.proofs.lemmas.List.{length-set}
use Rattle.std.specs.List.{range_with_len}
use Rattle.lot_base.specs.Goods.{quantity_in, IsSupply}
use Rattle.lot_base.specs.Demands.{least, IsDemand, IsTable}
use Rattle.lot_base.specs.Economy.{total_units, without}
use Rattle.lot_base.specs.declared.tables.LeastTable.{LeastTable}
use Rattle.demand_set.specs.declared.reports.Report.{Report}
use Rattle.lyapunov.specs.Excesses.{entry, IsSmall, HasRoom, IsAdded, IsExcessOf}
use Rattle.credit_book.specs.Account.{Sums, sum_without, units_left, least_in, others}
use Rattle.credit_book.proofs.Totals.{zeros-at}
use Rattle.clock.specs.Reports.{members, demand_in, demands_in}
use Rattle.clock.specs.Tables.{is_member_of}
use Rattle.clock.proofs.Members.{members_from, members-keep, members-skip}
use Rattle.clock.proofs.Excesses.{small-table}
use Rattle.clock.proofs.Ledger.{member-total, further, here, left-out, nobody, none-at, same-total}
use Rattle.clock.proofs.Path.{compare-or, step-below}
use Rattle.overshoot.proofs.Most.{small-most}
use Rattle.lot_base.specs.Steps.{excess, step_set}
use Rattle.overshoot.specs.Shortfall.{AreMost, shortfall}
use Rattle.two_way.specs.Quantities.{amount_in, AreTables, AddUp}
use Rattle.two_way.specs.declared.quantities.Quantities.{Quantities}
use Rattle.two_way.specs.declared.quantities.Amount.{Amount}
use Rattle.two_way.specs.declared.quantities.Amount.TheVariants.{Least, Greatest}

-- What the table is while the bidders are added: what those from the next one on have is still to be added.
pub record IsAddedTo (goods : List ℕ) (amount : ℕ → ℕ → ℕ) (bidders clock step : ℕ) (table : List ℤ) : Type 0 where
  pub sums : (set : ℕ) → set < 2 ^ length goods →
      entry table set +ℤ pos (total_units (λ j. amount j set) (members_from step bidders clock)) ≡ pos (total_units (λ j. amount j set) (members bidders clock)) -ℤ pos (quantity_in goods set)
  pub low : (set : ℕ) → negsuc 2046 ≤ℤ entry table set
  pub high : (set : ℕ) → entry table set ≤ℤ pos (2047 * step)

pub added-first : (goods : List ℕ) (amount : ℕ → ℕ → ℕ) (bidders clock : ℕ) (table : List ℤ) → IsExcessOf goods [] table → HasRoom table → IsAddedTo goods amount bidders clock 0 table
added-first goods amount bidders clock table is room = record {
  sums = λ set below.
      let e = is.entries set below in
      let start : bidders - 0 ≡ bidders = omega arith in
      let all : total_units (λ j. amount j set) (members_from 0 bidders clock) ≡ total_units (λ j. amount j set) (members bidders clock) =
      ap (λ n. total_units (λ j. amount j set) (filter (λ j. not (nat_eq j clock)) (range_with_len 1 n))) start in
      omega (arith, ints);
  low = room.at_least;
  high = λ set. by set (compare-or set (2 ^ length goods));
}
  where
    by : (set : ℕ) → (set < 2 ^ length goods) ⊎ ((2 ^ length goods < set) ⊎ (set ≡ 2 ^ length goods)) → entry table set ≤ℤ pos (2047 * 0)
    by set (inl below) = let e = is.entries set below in omega (arith, ints)
    by set (inr (inl above)) = let e = is.others set (omega arith) in omega (arith, ints)
    by set (inr (inr same)) = let e = is.others set (omega arith) in omega (arith, ints)

pub added-room : (goods : List ℕ) (amount : ℕ → ℕ → ℕ) (bidders clock step : ℕ) (table : List ℤ) → step ≤ 11 → IsAddedTo goods amount bidders clock step table → HasRoom table
added-room goods amount bidders clock step table few is = record { at_least = is.low; at_most = λ set. let h = is.high set in omega (arith, ints) }

pub added-keep : (goods : List ℕ) (amount : ℕ → ℕ → ℕ) (bidders clock step : ℕ) (t : List ℕ) (old new : List ℤ) → step < bidders → step + 1 ≢ clock
    → IsTable (length goods) (amount (step + 1)) t → IsSmall t → IsAdded goods t old new → IsAddedTo goods amount bidders clock step old → IsAddedTo goods amount bidders clock (step + 1) new
added-keep goods amount bidders clock step t old new below other is small added up = record {
  sums = λ set inside.
      let a = added.entries set inside in
      let e = is.entries set inside in
      let k = ap (total_units (λ j. amount j set)) (members-keep step bidders clock below other) in
      let s = up.sums set inside in
      omega (arith, ints);
  low = λ set. low set (compare-or set (2 ^ length goods));
  high = λ set. high set (compare-or set (2 ^ length goods));
}
  where
    low : (set : ℕ) → (set < 2 ^ length goods) ⊎ ((2 ^ length goods < set) ⊎ (set ≡ 2 ^ length goods)) → negsuc 2046 ≤ℤ entry new set
    low set (inl inside) = let a = added.entries set inside in let l = up.low set in omega (arith, ints)
    low set (inr (inl above)) = let a = added.others set (omega arith) in let l = up.low set in omega (arith, ints)
    low set (inr (inr same)) = let a = added.others set (omega arith) in let l = up.low set in omega (arith, ints)

    high : (set : ℕ) → (set < 2 ^ length goods) ⊎ ((2 ^ length goods < set) ⊎ (set ≡ 2 ^ length goods)) → entry new set ≤ℤ pos (2047 * (step + 1))
    high set (inl inside) = let a = added.entries set inside in let h = up.high set in let s = small.entries set in omega (arith, ints)
    high set (inr (inl above)) = let a = added.others set (omega arith) in let h = up.high set in omega (arith, ints)
    high set (inr (inr same)) = let a = added.others set (omega arith) in let h = up.high set in omega (arith, ints)

pub added-skip : (goods : List ℕ) (amount : ℕ → ℕ → ℕ) (bidders clock step : ℕ) (table : List ℤ) → step < bidders → step + 1 ≡ clock
    → IsAddedTo goods amount bidders clock step table → IsAddedTo goods amount bidders clock (step + 1) table
added-skip goods amount bidders clock step table below same up = record {
  sums = λ set inside. let k = ap (total_units (λ j. amount j set)) (members-skip step bidders clock below same) in let s = up.sums set inside in omega (arith, ints);
  low = up.low;
  high = λ set. let h = up.high set in omega (arith, ints);
}

pub added-last : (goods : List ℕ) (amount : ℕ → ℕ → ℕ) (bidders clock step : ℕ) (table : List ℤ) → bidders ≤ step → IsAddedTo goods amount bidders clock step table
    → (set : ℕ) → set < 2 ^ length goods → entry table set ≡ pos (total_units (λ j. amount j set) (members bidders clock)) -ℤ pos (quantity_in goods set)
added-last goods amount bidders clock step table end up set inside =
    let none : bidders - step ≡ 0 = omega arith in
    let s = up.sums set inside in
    let e : total_units (λ j. amount j set) (members_from step bidders clock) ≡ 0 = ap (λ n. total_units (λ j. amount j set) (filter (λ j. not (nat_eq j clock)) (range_with_len (1 + step) n))) none in
    omega (arith, ints)

-- the tables while the bidders are gone through
abbrev no_table : Option LeastTable
no_table = None

pub tables-first : (goods : List ℕ) (amounts : ℕ → ℕ → ℕ) (clock : ℕ) (tables : List (Option LeastTable)) → tables ≡ replicate 13 no_table → AreTables goods amounts 0 clock tables
tables-first goods amounts clock tables e j set inside =
    ap (λ ts. least_in (slice_index_or ts j no_table) set) e ∙ ap (λ o. least_in o set) (none-at 13 j) ∙ sym (ap (λ b. cond b (amounts j set) 0) (nobody clock j))

pub tables-keep : (goods : List ℕ) (amounts : ℕ → ℕ → ℕ) (step clock : ℕ) (tables : List (Option LeastTable)) (table : LeastTable) → step + 1 < length tables → step + 1 ≢ clock → IsTable (length goods) (amounts (step + 1)) table.0
    → AreTables goods amounts step clock tables → AreTables goods amounts (step + 1) clock (slice_set tables (step + 1) (Some table))
tables-keep goods amounts step clock tables table room other is are j set inside = by (compare-or j (step + 1))
  where
    apart : j ≢ step + 1 → least_in (slice_index_or (slice_set tables (step + 1) (Some table)) j None) set ≡ cond (is_member_of (step + 1) clock j) (amounts j set) 0
    apart differs = ap (λ o. least_in o set) (get_or-set_other tables (step + 1) j (Some table) None differs) ∙ are j set inside ∙ sym (ap (λ b. cond b (amounts j set) 0) (further step clock j differs))

    at-it : j ≡ step + 1 → least_in (slice_index_or (slice_set tables (step + 1) (Some table)) j None) set ≡ cond (is_member_of (step + 1) clock j) (amounts j set) 0
    at-it e =
        let P : ℕ → Type 0 = λ k. least_in (slice_index_or (slice_set tables (step + 1) (Some table)) k None) set ≡ cond (is_member_of (step + 1) clock k) (amounts k set) 0 in
        subst P (sym e) (ap (λ o. least_in o set) (get_or-set_same tables (step + 1) (Some table) None room) ∙ is.entries set inside ∙ sym (ap (λ b. cond b (amounts (step + 1) set) 0) (here step clock other)))

    by : (j < step + 1) ⊎ ((step + 1 < j) ⊎ (j ≡ step + 1)) → least_in (slice_index_or (slice_set tables (step + 1) (Some table)) j None) set ≡ cond (is_member_of (step + 1) clock j) (amounts j set) 0
    by (inl less) = apart (omega arith)
    by (inr (inl more)) = apart (omega arith)
    by (inr (inr e)) = at-it e

pub tables-skip : (goods : List ℕ) (amounts : ℕ → ℕ → ℕ) (step clock : ℕ) (tables : List (Option LeastTable)) → step + 1 ≡ clock → AreTables goods amounts step clock tables → AreTables goods amounts (step + 1) clock tables
tables-skip goods amounts step clock tables same are j set inside = are j set inside ∙ sym (ap (λ b. cond b (amounts j set) 0) (left-out step clock j same))

-- what the members but one leave of a set
pub left-is : (goods : List ℕ) (amounts : ℕ → ℕ → ℕ) (bidders clock set b : ℕ) (tables : List (Option LeastTable)) → bidders ≤ 12 → set < 2 ^ length goods → AreTables goods amounts bidders clock tables
    → units_left goods tables set b ≡ pos (quantity_in goods set) -ℤ pos (total_units (λ j. amounts j set) (without b (members bidders clock)))
unfolding units_left
left-is goods amounts bidders clock set b tables few inside are =
    let e = same-total (λ j. least_in (slice_index_or tables j None) set) (λ j. cond (is_member_of bidders clock j) (amounts j set) 0) (others b) (λ j. are j set inside) in
    let t = member-total bidders clock b (λ j. amounts j set) few in
    ap (λ n. pos (quantity_in goods set) -ℤ pos n) (e ∙ t)

-- a demand has small amounts, and so has none
pub small-amount : (goods : List ℕ) (amount : Amount) (demand : List (List ℕ)) (table : List ℕ) → IsSupply goods → IsDemand goods demand → IsTable (length goods) (amount_in amount demand) table → IsSmall table
small-amount goods Least demand table is_supply is t = small-table goods demand table is_supply is t
small-amount goods Greatest demand table is_supply is t = small-most goods demand table is_supply is t

blank-amount : (amount : Amount) (set : ℕ) → amount_in amount [] set ≡ 0
blank-amount Least set = refl
blank-amount Greatest set = refl

pub blank-table : (goods : ℕ) (amount : Amount) (reports : List Report) (round j : ℕ) (table : List ℕ) → table ≡ replicate 64 0 → demand_in reports round j ≡ None → IsTable goods (amount_in amount (demands_in reports round j)) table
blank-table goods amount reports round j table e none =
    let z = λ (set : ℕ). ap (λ t. slice_index t set) e ∙ zeros-at 64 set in
    record { entries = λ set below. z set ∙ sym (ap (λ o. amount_in amount (unwrap_or o []) set) none ∙ blank-amount amount set); others = λ set behind. z set }

pub placed : (tables : List (Option LeastTable)) (i : ℕ) (slot : Option LeastTable) → length tables ≡ 13 → length (slice_set tables i slot) ≡ 13
placed tables i slot e = length-set tables i slot ∙ e

-- the greatest quantities, as the sets that are short of demand are found by them
pub are-most : (goods : List ℕ) (d : ℕ → List (List ℕ)) (bidders clock : ℕ) (q : Quantities) → AddUp goods (λ j. amount_in Greatest (d j)) bidders clock q → AreMost goods d (members bidders clock) q.excess.0
are-most goods d bidders clock q is = record { entries = is.entries; at_least = is.at_least; at_most = is.at_most }

-- what a step adds to the accounts
pub adds-up : (goods : List ℕ) (d : ℕ → List (List ℕ)) (bidders clock set : ℕ) (q : Quantities) (before after : Sums) → bidders ≤ 12 → set ≡ step_set goods d (members bidders clock) → AddUp goods (λ j. amount_in Least (d j)) bidders clock q
    → ((b : ℕ) → sum_without after b ≡ sum_without before b +ℤ units_left goods q.tables set b) → (b : ℕ) → sum_without after b ≡ sum_without before b -ℤ excess goods d (without b (members bidders clock)) (step_set goods d (members bidders clock))
adds-up goods d bidders clock set q before after few is all added b =
    let S : ℕ → Type 0 = λ e. sum_without after b ≡ sum_without before b -ℤ excess goods d (without b (members bidders clock)) e in
    let inside : set < 2 ^ length goods = (let B : ℕ → Type 0 = λ e. e < 2 ^ length goods in subst B (sym is) (step-below goods (members bidders clock) d)) in
    subst S is (less (sum_without after b) (sum_without before b) (units_left goods q.tables set b) (quantity_in goods set) (total_units (λ j. least (d j) set) (without b (members bidders clock))) (added b)
    (left-is goods (λ j. amount_in Least (d j)) bidders clock set b q.tables few inside all.tables))
  where
    less : (after before left : ℤ) (s t : ℕ) → after ≡ before +ℤ left → left ≡ pos s -ℤ pos t → after ≡ before -ℤ (pos t -ℤ pos s)
    less after before left s t e f = omega (arith, ints)

pub adds-down : (goods : List ℕ) (d : ℕ → List (List ℕ)) (bidders clock set fall : ℕ) (q : Quantities) (before after : Sums) → bidders ≤ 12 → set < 2 ^ length goods → set ≡ fall → AddUp goods (λ j. amount_in Greatest (d j)) bidders clock q
    → ((b : ℕ) → sum_without after b ≡ sum_without before b +ℤ units_left goods q.tables set b) → (b : ℕ) → sum_without after b ≡ sum_without before b +ℤ shortfall goods d (without b (members bidders clock)) fall
adds-down goods d bidders clock set fall q before after few inside is all added b =
    let S : ℕ → Type 0 = λ e. sum_without after b ≡ sum_without before b +ℤ shortfall goods d (without b (members bidders clock)) e in
    subst S is (added b ∙ ap (λ n. sum_without before b +ℤ n) (left-is goods (λ j. amount_in Greatest (d j)) bidders clock set b q.tables few inside all.tables))
