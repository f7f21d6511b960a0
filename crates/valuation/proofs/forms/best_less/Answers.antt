use Rattle.valuation.proofs.Capped.{best-next}
use Rattle.valuation.proofs.forms.best_less.Goals as goal

pub loop-good-preserved : goal.loop-good-preserved
loop-good-preserved c =
    let new = c.more-best.ensures in
    let so_far = c.loop-good.invariant in
    record {
      bound = best-next c.args.x.now c.args.steps.now c.args.worth.now c.args.index c.loop-good.good c.loop-good.best c.more-best.result so_far.bound new.more new.bound;
      least = λ top under. new.least top (so_far.least top under) (under c.loop-good.good c.loop-good-test.true);
    }
