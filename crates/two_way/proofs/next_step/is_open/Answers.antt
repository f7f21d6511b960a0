use Rattle.std.proofs.Common.{◌-◌, ◌∙◌, drop, sym, arith}
use Rattle.two_way.proofs.Fullness.{full-of, open-at}
use Rattle.two_way.proofs.next_step.is_open.Goals as goal

pub returns-then-is_absent-clause-open : goal.returns-then-is_absent-clause-open
returns-then-is_absent-clause-open c = λ told.
    open-at c.args.bidders c.args.clock c.args.round (c.args.bidders - c.loop-step.step) (drop c.args.from c.args.reports.now.reports) (omega (arith, c.loop-step-test.true)) (omega arith) c.if-bidder-clock.true (sym c.is_absent.ensures ∙ c.if-is_absent.true)

pub returns-clause-full : goal.returns-clause-full
returns-clause-full c = λ told.
    full-of c.args.bidders c.args.clock c.args.round (drop c.args.from c.args.reports.now.reports) (λ j low high other. c.loop-step.invariant j (omega (arith, c.loop-step-test.false, low)) high other)
