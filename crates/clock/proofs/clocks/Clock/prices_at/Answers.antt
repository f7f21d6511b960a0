use Rattle.std.proofs.Common.{◌∙◌, ◌≤◌, ◌+◌, ◌-◌, sym, ap, subst, arith, length, take, List}
use Rattle.std.specs.Prelude.{slice_index}
use Rattle.std.proofs.lemmas.List.{length-take-le}
use Rattle.lot_base.specs.Goods.{AllBelow}
use Rattle.lot_base.specs.declared.supply.GoodSet.{GoodSet}
use Rattle.lyapunov.specs.Paths.{prices_along}
use Rattle.clock.specs.Reports.{ClockOf, ClockHistory, set_numbers}
use Rattle.clock.specs.Standing.{prices_after, last_round}
use Rattle.clock.specs.Kept.{reports_before}
use Rattle.clock.proofs.After.{kept-path}
use Rattle.clock.proofs.Looking.{along-kept, along-below, count-sets}
use Rattle.clock.proofs.clocks.Clock.prices_at.Goals as goal

pub slice_bounds-prices_along-length : goal.slice_bounds-prices_along-length
slice_bounds-prices_along-length c =
    let i = c.self.inside in
    let h : ClockHistory = record { terms = i.terms; number = i.number; reports = i.past.reports } in
    let last : c.args.round ≤ i.steps + 1 = (let e = ap (λ n. n + 1) c.self.invariant.0.standing.steps_are ∙ ap (λ (k : ClockOf). last_round k.history) c.self.view_is in let r = c.requires.to_last in omega (arith, e, r)) in
    let n = count-sets h i.past.sets i.steps c.self.invariant.0.sets in
    let l = ap length c.sets-sets.ensures in
    sym (length-take-le (c.args.round - 1) c.sets-sets.result.now (omega (arith, n, l, last, c.requires.from_one)))

pub prices_along-requires : goal.prices_along-requires
prices_along-requires c = λ n below.
    let i = c.self.inside in
    let h : ClockHistory = record { terms = i.terms; number = i.number; reports = i.past.reports } in
    let last : c.args.round ≤ i.steps + 1 = (let e = ap (λ n. n + 1) c.self.invariant.0.standing.steps_are ∙ ap (λ (k : ClockOf). last_round k.history) c.self.view_is in let r = c.requires.to_last in omega (arith, e, r)) in
    let count = count-sets h i.past.sets i.steps c.self.invariant.0.sets in
    let l = ap length c.sets-sets.ensures in
    let size = length-take-le (c.args.round - 1) c.sets-sets.result.now (omega (arith, count, l, last, c.requires.from_one)) in
    let P : List GoodSet → Type 0 = λ sets. AllBelow 4294967295 (prices_along h.terms.opening (set_numbers (take n (take (c.args.round - 1) sets)))) (slice_index (set_numbers (take (c.args.round - 1) sets)) n) in
    subst P (sym c.sets-sets.ensures)
    (along-below h i.past.sets i.steps (c.args.round - 1) n c.self.invariant.0.sets (kept-path h (reports_before h i.steps) i.steps i.phase i.prices i.account c.self.invariant.0.standing) (omega (arith, last)) (omega (arith, size, below)))

pub returns : goal.returns
returns c =
    let i = c.self.inside in
    let h : ClockHistory = record { terms = i.terms; number = i.number; reports = i.past.reports } in
    let last : c.args.round ≤ i.steps + 1 = (let e = ap (λ n. n + 1) c.self.invariant.0.standing.steps_are ∙ ap (λ (k : ClockOf). last_round k.history) c.self.view_is in let r = c.requires.to_last in omega (arith, e, r)) in
    c.prices_along.ensures ∙ ap (λ sets. prices_along h.terms.opening (set_numbers (take (c.args.round - 1) sets))) c.sets-sets.ensures
    ∙ along-kept h i.past.sets i.steps (c.args.round - 1) c.self.invariant.0.sets (omega (arith, last))
    ∙ ap (λ (k : ClockOf). prices_after k.history (c.args.round - 1)) c.self.view_is
