use Rattle.std.proofs.Common.{◌≤◌, arith}
use Rattle.lot_base.specs.Economy.{IsStrongSubstitutes}
use Rattle.trial.specs.Bidding.{bidders_of}
use Rattle.trial.proofs.Whole.{each-bidder}
use Rattle.two_way.proofs.floating.check_all.Goals as goal

pub returns-clause-substitutes : goal.returns-clause-substitutes
returns-clause-substitutes c =
    let terms = c.args.terms.now in
    let end : terms.bidders ≤ c.loop-place.place = omega (arith, c.loop-place-test.false) in
    each-bidder (λ j. IsStrongSubstitutes terms.goods (bidders_of terms.goods c.args.valuations.now j)) terms.bidders (λ j low high. c.loop-place.invariant j low (omega (arith, high, end)))
