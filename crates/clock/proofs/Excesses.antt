-- The excesses of a round as they are added up, bidder by bidder, and the step set of their table.
use Rattle.std.proofs.Common.{◌≡◌, ◌≢◌, ◌<◌, ◌≤◌, ℕ, ◌+◌, ◌*◌, ◌-◌, ◌^◌, nat_eq, cond, Bool, true, false, not, Some, None, List, [], ◌∷◌, length, sym, ◌∙◌, ap, arith, subst, ◌⊎◌, inl, inr}
use Rattle.std.specs.Prelude.{filter, option_map, unwrap_or, find, replicate, ℤ, pos, negsuc, ◌+ℤ◌, ◌≤ℤ◌, fold, min, slice_index}
use Rattle.std.proofs.lemmas.Int.{ints}
use Rattle.std.specs.List.{AllByRecursion, range_with_len}
use Rattle.lot_base.specs.Goods.{quantity_in, box_size, IsSupply}
use Rattle.lot_base.specs.Demands.{least, IsDemand, IsTable}
use Rattle.lot_base.specs.Economy.{total_units}
use Rattle.lot_base.specs.Steps.{IsStepSet, excess, first_set, step_set}
use Rattle.demand_set.specs.declared.reports.Report.{Report}
use Rattle.demand_set.proofs.Sums.{quantity-within, units-few}
use Rattle.lyapunov.specs.Excesses.{entry, IsSmall, HasRoom, IsAdded, IsExcessOf}
use Rattle.credit_book.proofs.Totals.{zeros-at}
use Rattle.lot_base.proofs.StepSet.{first_set-step_set, step_set-unique}
use Rattle.clock.specs.Reports.{members, is_named, demand_in, demands_in}
use Rattle.clock.proofs.Members.{members_from, least-keep, least-skip}
use Rattle.clock.proofs.Path.{compare-or}

-- a step set depends on the excesses of the sets of the goods alone
pub step_set-agrees : (goods : ℕ) (f g : ℕ → ℤ) (set : ℕ) → ((e : ℕ) → e < 2 ^ goods → f e ≡ g e) → IsStepSet goods f set → IsStepSet goods g set
step_set-agrees goods f g set same is =
    record {
      is_set = is.is_set;
      greatest = λ other below. let a = same other below in let b = same set is.is_set in let m = is.greatest other below in omega (arith, ints);
      fewest = λ other below e. is.fewest other below (same other below ∙ e ∙ sym (same set is.is_set));
      smallest = λ other below e. is.smallest other below (same other below ∙ e ∙ sym (same set is.is_set));
    }

pub chosen-is : (supply : List ℕ) (demands : ℕ → List (List ℕ)) (ms : List ℕ) (table : List ℤ) (f : ℕ → ℤ) (set : ℕ) → ((e : ℕ) → f e ≡ entry table e) → ((e : ℕ) → e < 2 ^ length supply → entry table e ≡ excess supply demands ms e)
    → IsStepSet (length supply) f set → set ≡ step_set supply demands ms
unfolding step_set
chosen-is supply demands ms table f set reads same is =
    step_set-unique (length supply) (excess supply demands ms) set (first_set (excess supply demands ms) (length supply))
    (step_set-agrees (length supply) f (excess supply demands ms) set (λ e below. reads e ∙ same e below) is)
    (first_set-step_set (length supply) (excess supply demands ms))

least-start : (f : List ℕ → ℕ) (a : ℕ) (xs : List (List ℕ)) → fold (λ b y. min b (f y)) a xs ≤ a
least-start f a [] = omega arith
least-start f a (x ∷ xs) = let i = least-start f (min a (f x)) xs in omega arith

pub least-few : (supply : List ℕ) (bundles : List (List ℕ)) (set : ℕ) → box_size supply ≤ 2048 → IsDemand supply bundles → least bundles set ≤ 2047
least-few supply [] set small is = omega arith
least-few supply (x ∷ bundles) set small is =
    let a = least-start (λ y. quantity_in y set) (quantity_in x set) bundles in
    let b = quantity-within x supply set is.in_box.0 in
    let d = units-few supply set in
    omega (arith, a, b, d)

-- a demand that is found fits
pub found-fits : (supply : List ℕ) (reports : List Report) (round j : ℕ) (d : List (List ℕ)) → AllByRecursion (λ (r : Report). IsDemand supply r.demand) reports → demand_in reports round j ≡ Some d → IsDemand supply d
found-fits supply [] round j d all e = absurd (let f : None ≡ Some d = e in cc)
found-fits supply (r ∷ reports) round j d all e = by (is_named round j r) (found-fits supply reports round j d all.1) e
  where
    by : (b : Bool) → (demand_in reports round j ≡ Some d → IsDemand supply d) → option_map (λ (x : Report). x.demand) (cond b (Some r) (find (is_named round j) reports)) ≡ Some d → IsDemand supply d
    by true rest f = let g : r.demand ≡ d = cc in subst (IsDemand supply) g all.0
    by false rest f = rest f

pub small-table : (supply : List ℕ) (bundles : List (List ℕ)) (table : List ℕ) → IsSupply supply → IsDemand supply bundles → IsTable (length supply) (least bundles) table → IsSmall table
small-table supply bundles table is_supply is t = record { entries = λ set. by set (compare-or set (2 ^ length supply)) }
  where
    by : (set : ℕ) → (set < 2 ^ length supply) ⊎ ((2 ^ length supply < set) ⊎ (set ≡ 2 ^ length supply)) → slice_index table set ≤ 2047
    by set (inl below) = let f = least-few supply bundles set is_supply.small is in let e = t.entries set below in omega arith
    by set (inr (inl above)) = let e = t.others set (omega arith) in omega arith
    by set (inr (inr same)) = let e = t.others set (omega arith) in omega arith

-- who has not reported demands nothing
pub blank-table : (goods : ℕ) (reports : List Report) (round j : ℕ) (table : List ℕ) → table ≡ replicate 64 0 → demand_in reports round j ≡ None → IsTable goods (least (demands_in reports round j)) table
blank-table goods reports round j table e none =
    let z = λ (set : ℕ). ap (λ t. slice_index t set) e ∙ zeros-at 64 set in
    record { entries = λ set below. z set ∙ sym (ap (λ o. least (unwrap_or o []) set) none); others = λ set behind. z set }

pub blank-small : (table : List ℕ) → table ≡ replicate 64 0 → IsSmall table
blank-small table e = record { entries = λ set. let z = ap (λ t. slice_index t set) e ∙ zeros-at 64 set in omega arith }

-- What the table of excesses is while the bidders are added: what the bidders from the next one on demand is still to be added.
pub record IsAddedUp (goods : List ℕ) (reports : List Report) (round bidders clock step : ℕ) (table : List ℤ) : Type 0 where
  pub sums : (set : ℕ) → set < 2 ^ length goods →
      entry table set +ℤ pos (total_units (λ j. least (demands_in reports round j) set) (members_from step bidders clock)) ≡ excess goods (demands_in reports round) (members bidders clock) set
  pub low : (set : ℕ) → negsuc 2046 ≤ℤ entry table set
  pub high : (set : ℕ) → entry table set ≤ℤ pos (2047 * step)

pub added-first : (goods : List ℕ) (reports : List Report) (round bidders clock : ℕ) (table : List ℤ) → IsSupply goods → IsExcessOf goods [] table → HasRoom table → IsAddedUp goods reports round bidders clock 0 table
added-first goods reports round bidders clock table supply is room =
    record {
      sums = λ set below.
          let e = is.entries set below in
          let start : bidders - 0 ≡ bidders = omega arith in
          let all : total_units (λ j. least (demands_in reports round j) set) (members_from 0 bidders clock) ≡ total_units (λ j. least (demands_in reports round j) set) (members bidders clock) =
          ap (λ n. total_units (λ j. least (demands_in reports round j) set) (filter (λ j. not (nat_eq j clock)) (range_with_len 1 n))) start in
          omega (arith, ints);
      low = room.at_least;
      high = λ set. by set (compare-or set (2 ^ length goods));
    }
  where
    by : (set : ℕ) → (set < 2 ^ length goods) ⊎ ((2 ^ length goods < set) ⊎ (set ≡ 2 ^ length goods)) → entry table set ≤ℤ pos (2047 * 0)
    by set (inl below) = let e = is.entries set below in omega (arith, ints)
    by set (inr (inl above)) = let e = is.others set (omega arith) in omega (arith, ints)
    by set (inr (inr same)) = let e = is.others set (omega arith) in omega (arith, ints)

pub added-room : (goods : List ℕ) (reports : List Report) (round bidders clock step : ℕ) (table : List ℤ) → step ≤ 11 → IsAddedUp goods reports round bidders clock step table → HasRoom table
added-room goods reports round bidders clock step table few is = record { at_least = is.low; at_most = λ set. let h = is.high set in omega (arith, ints) }

pub added-keep : (goods : List ℕ) (reports : List Report) (round bidders clock step : ℕ) (least_table : List ℕ) (old new : List ℤ) → step < bidders → step + 1 ≢ clock
    → IsTable (length goods) (least (demands_in reports round (step + 1))) least_table → IsSmall least_table → IsAdded goods least_table old new
    → IsAddedUp goods reports round bidders clock step old → IsAddedUp goods reports round bidders clock (step + 1) new
added-keep goods reports round bidders clock step least_table old new below other is small added up =
    record {
      sums = λ set inside. let a = added.entries set inside in let e = is.entries set inside in let k = least-keep reports round set step bidders clock below other in let s = up.sums set inside in omega (arith, ints);
      low = λ set. low set (compare-or set (2 ^ length goods));
      high = λ set. high set (compare-or set (2 ^ length goods));
    }
  where
    low : (set : ℕ) → (set < 2 ^ length goods) ⊎ ((2 ^ length goods < set) ⊎ (set ≡ 2 ^ length goods)) → negsuc 2046 ≤ℤ entry new set
    low set (inl inside) = let a = added.entries set inside in let l = up.low set in omega (arith, ints)
    low set (inr (inl above)) = let a = added.others set (omega arith) in let l = up.low set in omega (arith, ints)
    low set (inr (inr same)) = let a = added.others set (omega arith) in let l = up.low set in omega (arith, ints)

    high : (set : ℕ) → (set < 2 ^ length goods) ⊎ ((2 ^ length goods < set) ⊎ (set ≡ 2 ^ length goods)) → entry new set ≤ℤ pos (2047 * (step + 1))
    high set (inl inside) = let a = added.entries set inside in let h = up.high set in let s = small.entries set in omega (arith, ints)
    high set (inr (inl above)) = let a = added.others set (omega arith) in let h = up.high set in omega (arith, ints)
    high set (inr (inr same)) = let a = added.others set (omega arith) in let h = up.high set in omega (arith, ints)

pub added-skip : (goods : List ℕ) (reports : List Report) (round bidders clock step : ℕ) (table : List ℤ) → step < bidders → step + 1 ≡ clock
    → IsAddedUp goods reports round bidders clock step table → IsAddedUp goods reports round bidders clock (step + 1) table
added-skip goods reports round bidders clock step table below same up =
    record {
      sums = λ set inside. let k = least-skip reports round set step bidders clock below same in let s = up.sums set inside in omega (arith, ints);
      low = up.low;
      high = λ set. let h = up.high set in omega (arith, ints);
    }

pub added-last : (goods : List ℕ) (reports : List Report) (round bidders clock step : ℕ) (table : List ℤ) → bidders ≤ step → IsAddedUp goods reports round bidders clock step table
    → (set : ℕ) → set < 2 ^ length goods → entry table set ≡ excess goods (demands_in reports round) (members bidders clock) set
added-last goods reports round bidders clock step table end up set inside =
    let none : bidders - step ≡ 0 = omega arith in
    let s = up.sums set inside in
    let e : total_units (λ j. least (demands_in reports round j) set) (members_from step bidders clock) ≡ 0 = ap (λ n. total_units (λ j. least (demands_in reports round j) set) (filter (λ j. not (nat_eq j clock)) (range_with_len (1 + step) n))) none in
    omega (arith, ints)
