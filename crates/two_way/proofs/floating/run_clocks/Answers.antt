use Rattle.std.proofs.Common.{◌≡◌, ◌+◌, arith}
use Rattle.trial.specs.Bidding.{bidders_of}
use Rattle.two_way.proofs.Bidders.{order-next, in-order}
use Rattle.two_way.proofs.floating.run_clocks.Goals as goal

pub loop-number-preserved : goal.loop-number-preserved
loop-number-preserved c =
    let terms = c.args.terms.now in
    record {
      order = order-next terms (bidders_of terms.goods c.args.valuations.now) c.args.start.now c.loop-number.number c.loop-number.clocks.items c.push.new.self.items c.in_ok-clock.clock c.loop-number.invariant.order c.in_ok-clock.ensures.clock c.in_ok-push.ensures.items;
      columns = c.run_clock.ensures.columns;
    }

pub returns : goal.returns
returns c =
    let terms = c.args.terms.now in
    let all : c.loop-number.number ≡ terms.bidders + 1 = omega (arith, c.loop-number-test.false, c.loop-number.auto.number-end) in
    in-order terms (bidders_of terms.goods c.args.valuations.now) c.args.start.now c.loop-number.number c.loop-number.clocks.items c.loop-number.invariant.order all
