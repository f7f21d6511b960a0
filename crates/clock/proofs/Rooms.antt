-- The excess leaves room for what one more report changes.
use Rattle.std.proofs.Common.{◌≡◌, ◌<◌, ◌≤◌, ◌⊎◌, inl, inr, ℕ, ◌+◌, ◌^◌, true, List, length, Option, None, arith, pos}
use Rattle.std.specs.Prelude.{slice_index_or, ℤ, ◌≤ℤ◌, negsuc}
use Rattle.std.proofs.lemmas.Int.{ints}
use Rattle.lot_base.specs.Goods.{quantity_in}
use Rattle.lot_base.specs.declared.tables.LeastTable.{LeastTable}
use Rattle.lyapunov.specs.Excesses.{entry}
use Rattle.credit_book.specs.Account.{least_in}
use Rattle.demand_set.proofs.Sums.{units-few}
use Rattle.clock.specs.Reports.{ClockHistory}
use Rattle.clock.specs.Judging.{is_member, IsLegal}
use Rattle.clock.specs.Kept.{KeepsTables, KeepsExcess, HasRoomFor}
use Rattle.clock.proofs.Path.{compare-or}
use Rattle.clock.proofs.StandingDemands.{standing-few, total-few}
use Rattle.clock.proofs.Totals.{members-few}

-- there is room for a table in the place of a member's
pub room-left : (c : ClockHistory) (round : ℕ) (tables : List (Option LeastTable)) (table : List ℤ) (b : ℕ) → IsLegal c → KeepsTables c round tables → KeepsExcess c round table → is_member c b ≡ true → HasRoomFor (slice_index_or tables b None) table
room-left c round tables table b legal held k member = record { at_least = λ set. low set (compare-or set (2 ^ length c.terms.goods)); at_most = λ set. high set (compare-or set (2 ^ length c.terms.goods)) }
  where
    units : (set : ℕ) → quantity_in c.terms.goods set ≤ 2047
    units set = let u = units-few c.terms.goods set in let s = c.terms.supply.small in omega (arith, u, s)

    low : (set : ℕ) → (set < 2 ^ length c.terms.goods) ⊎ ((2 ^ length c.terms.goods < set) ⊎ (set ≡ 2 ^ length c.terms.goods)) → negsuc 2046 ≤ℤ entry table set
    low set (inl inside) = let e = k.entries set inside in let u = units set in omega (arith, ints, e, u)
    low set (inr (inl above)) = let e = k.others set (omega arith) in omega (arith, ints, e)
    low set (inr (inr same)) = let e = k.others set (omega arith) in omega (arith, ints, e)

    high : (set : ℕ) → (set < 2 ^ length c.terms.goods) ⊎ ((2 ^ length c.terms.goods < set) ⊎ (set ≡ 2 ^ length c.terms.goods)) → entry table set ≤ℤ pos (22517 + least_in (slice_index_or tables b None) set)
    high set (inl inside) =
        let e = k.entries set inside in
        let own = held.held b set inside member in
        let t = total-few c round b set legal member in
        let m = members-few c.terms.bidders c.number in
        let n = c.terms.bidders_in_range.at_most in
        omega (arith, ints, e, own, t, m, n)
    high set (inr (inl above)) = let e = k.others set (omega arith) in omega (arith, ints, e)
    high set (inr (inr same)) = let e = k.others set (omega arith) in omega (arith, ints, e)

-- what is kept of a member has small entries
pub small-kept : (c : ClockHistory) (round : ℕ) (tables : List (Option LeastTable)) (b set : ℕ) → IsLegal c → KeepsTables c round tables → is_member c b ≡ true → least_in (slice_index_or tables b None) set ≤ 2047
small-kept c round tables b set legal held member = by (compare-or set (2 ^ length c.terms.goods))
  where
    by : (set < 2 ^ length c.terms.goods) ⊎ ((2 ^ length c.terms.goods < set) ⊎ (set ≡ 2 ^ length c.terms.goods)) → least_in (slice_index_or tables b None) set ≤ 2047
    by (inl inside) = let e = held.held b set inside member in let f = standing-few c round b set legal in omega (arith, e, f)
    by (inr (inl above)) = let e = held.blank b set (omega arith) in omega (arith, e)
    by (inr (inr same)) = let e = held.blank b set (omega arith) in omega (arith, e)
