use Rattle.std.proofs.Common.{arith, refl}
use Rattle.credit_book.proofs.Totals.{total_up_to-first, total_up_to-kept, total_up_to-skipped}
use Rattle.credit_book.proofs.account.least_of_others.Goals as goal
use Rattle.credit_book.proofs.account.least_of_others.Goals.{then-other-bidder, else-other-bidder}

pub loop-other-init : goal.loop-other-init
loop-other-init c = record { sum = total_up_to-first _ c.args.bidder; small = omega arith }

pub loop-other-preserved : goal.loop-other-preserved
loop-other-preserved c =
    elim c.if-other-bidder.branch [
      | then-other-bidder w ↦ record {
        sum = total_up_to-kept _ c.args.bidder c.loop-other.other c.loop-other.total _ c.if-other-bidder.total (omega arith) w.if-other-bidder.true refl w.total-is c.loop-other.invariant.sum;
        small = omega (arith, w.total-is, c.loop-other.invariant.small, c.loop-other.invariant.sum.first, c.requires c.loop-other.other);
      }
      | else-other-bidder w ↦ record {
        sum = total_up_to-skipped _ c.args.bidder c.loop-other.other c.loop-other.total c.if-other-bidder.total (omega arith) w.if-other-bidder.false w.total-is c.loop-other.invariant.sum;
        small = omega (arith, w.total-is, c.loop-other.invariant.small, c.loop-other.invariant.sum.first);
      }
    ]
