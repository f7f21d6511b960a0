use Rattle.std.proofs.Common.{refl, arith, subst}
use Rattle.two_way.specs.Bidding.{IsRisen}
use Rattle.two_way.proofs.Moving.{all-risen, next-moved}
use Rattle.two_way.proofs.bidding.rise_all.Goals as goal

pub loop-place-preserved : goal.loop-place-preserved
loop-place-preserved c =
    let was = c.loop-place.invariant in
    record {
      columns = c.in_ok-rise.ensures.columns;
      risen = next-moved (λ k. IsRisen c.args.set.0) c.loop-place.place c.args.bidders.now.items c.loop-place.bidders.items _ c.index_mut.result.now c.rise.new.bidder was.risen (let k = was.risen.count in omega (arith, k, c.loop-place-test.true)) refl (subst (λ b. IsRisen c.args.set.0 b c.rise.new.bidder) c.index_mut.ensures.value c.in_ok-rise.ensures.risen);
    }

pub returns-clause-risen : goal.returns-clause-risen
returns-clause-risen c = all-risen c.args.set.0 c.loop-place.place c.args.bidders.now.items c.loop-place.bidders.items c.loop-place.invariant.risen (omega (arith, c.loop-place-test.false, c.len-place-end.ensures))
