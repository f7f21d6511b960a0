-- Without reports a clock is in round 1 at the opening prices, and each member is missing.
use Rattle.std.proofs.Common.{◌≡◌, ◌∙◌, ◌+◌, ℕ, zero, suc, List, [], Option, None, ap, refl, arith, replicate}
use Rattle.std.specs.Prelude.{slice_index_or}
use Rattle.lot_base.specs.declared.tables.LeastTable.{LeastTable}
use Rattle.clock.specs.Past.{PastOf}
use Rattle.clock.specs.Reports.{ClockHistory}
use Rattle.clock.specs.Standing.{prices_after}
use Rattle.clock.proofs.Next.{can-raise}
use Rattle.clock.proofs.Going.{first-kept-all}
use Rattle.clock.proofs.Latest.{latest-first}
use Rattle.clock.proofs.clocks.Clock.with_room.Goals as goal

pub next-standing-requires-clause-below : goal.next-standing-requires-clause-below
unfolding prices_after
next-standing-requires-clause-below c = λ chosen.
    let h : ClockHistory = record { terms = c.args.terms.now; number = c.args.number; reports = [] } in
    can-raise h 0 chosen (λ m below. absurd (omega arith))

none-at : (n j : ℕ) → let none : Option LeastTable = None in slice_index_or (replicate n none) j none ≡ none
none-at zero j = refl
none-at (suc n) zero = refl
none-at (suc n) (suc j) = none-at n j

pub invariant_of-result : goal.invariant_of-result
invariant_of-result c =
    let past = c.reserve.new.self in
    let h : ClockHistory = record { terms = c.args.terms.now; number = c.args.number; reports = past.reports } in
    let tables : List (Option LeastTable) = replicate 13 None in
    let none : past.reports ≡ [] = ap (λ (p : PastOf). p.reports) c.in_ok-reserve.ensures.ok ∙ ap (λ (p : PastOf). p.reports) c.new-past.ensures in
    let goods = ap (λ (p : PastOf). p.goods) c.in_ok-reserve.ensures.ok ∙ ap (λ (p : PastOf). p.goods) c.new-past.ensures in
    let sets = ap (λ (p : PastOf). p.sets) c.in_ok-reserve.ensures.ok ∙ ap (λ (p : PastOf). p.sets) c.new-past.ensures in (
      first-kept-all h c.member_count-left.result tables c.opening-excess.result.0 c.new-account.result c.next-standing.new.account c.next-standing.result past none c.requires c.member_count-left.ensures c.new-account.ensures.steps c.new-account.ensures.sums refl
          c.opening-excess.ensures.excess (λ j. none-at 13 j) c.next-standing.ensures.waits c.next-standing.ensures.turns goods sets,
      latest-first h (c.next-standing.result.steps + 1) c.in_ok-latest.latest.items none c.in_ok-latest.ensures,
    )
