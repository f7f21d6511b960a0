use Rattle.std.proofs.Common.{drop, ◌+◌, inr, refl, sym, ◌∙◌}
use Rattle.lyapunov.specs.Excesses.{entry}
use Rattle.clock.specs.Reports.{members, demands_in}
use Rattle.clock.proofs.Excesses.{chosen-is}
use Rattle.two_way.proofs.next_step.Standing.turn.Goals as goal

pub turn_down-requires-then-set-eq0-clause-down : goal.turn_down-requires-then-set-eq0-clause-down
turn_down-requires-then-set-eq0-clause-down c =
    let t = c.args.terms.now in
    let table = c.demanded-least.result.excess.0 in
    inr (sym (chosen-is t.goods (demands_in (drop c.args.from c.args.reports.now.reports) (c.args.self.now.steps + 1)) (members t.bidders c.args.clock) table (entry table) c.choose-set.result.0 (λ e. refl) c.demanded-least.ensures.entries c.choose-set.ensures.step_set) ∙ c.if-set-eq0.true)

pub turn_up-requires-clause-set : goal.turn_up-requires-clause-set
turn_up-requires-clause-set c =
    let t = c.args.terms.now in
    let table = c.demanded-least.result.excess.0 in
    chosen-is t.goods (demands_in (drop c.args.from c.args.reports.now.reports) (c.args.self.now.steps + 1)) (members t.bidders c.args.clock) table (entry table) c.choose-set.result.0 (λ e. refl) c.demanded-least.ensures.entries c.choose-set.ensures.step_set
