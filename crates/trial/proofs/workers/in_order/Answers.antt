use Rattle.std.proofs.Common.{◌≤◌, None, arith}
use Rattle.trial.specs.Bidding.{bidders_of}
use Rattle.trial.proofs.Sharing.{order-next, rows-next, told-set}
use Rattle.trial.proofs.workers.in_order.Goals as goal

pub loop-number-preserved : goal.loop-number-preserved
loop-number-preserved c =
    let i = c.loop-number.invariant in
    let terms = c.args.terms.now in
    let u = bidders_of terms.goods c.args.valuations.now in
    let one = c.in_ok-one.one in
    let within : c.loop-number.number ≤ terms.bidders = omega (arith, c.loop-number-test.true) in
    record {
      told = rw c.take-slot.ensures.after (told-set terms u c.loop-number.told.items c.loop-number.number None within tt i.told);
      order = order-next terms u c.loop-number.number c.loop-number.clocks.items c.push.new.self.items one.clock i.order c.in_ok-one.ensures.clock_is c.in_ok-push.ensures.items;
      rows = rows-next c.loop-number.clocks.items c.push.new.self.items c.loop-number.rows.items c.push-in-loop-number.new.self.items one.clock one.row i.rows c.in_ok-one.ensures.row_is c.in_ok-push.ensures.items c.in_ok-push-2.ensures.items;
    }
