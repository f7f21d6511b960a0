use Rattle.clock.specs.Reports.{histories}
use Rattle.settlement.proofs.Firsts.{rows-choose}
use Rattle.settlement.proofs.Shapes.{whole}
use Rattle.settlement.proofs.settle_choices.Goals as goal

pub returns-in_ok-outcome-in-All-clause-outcome : goal.returns-in_ok-outcome-in-All-clause-outcome
returns-in_ok-outcome-in-All-clause-outcome c =
    (c.requires.ended.0, c.requires.ended.1, rows-choose (histories c.args.clocks.now) c.in-All.rows (rw c.in-All.is at c.requires.choices).0, c.in_ok-outcome-in-All.ensures)

pub returns-in_ok-outcome-in-All-clause-whole : goal.returns-in_ok-outcome-in-All-clause-whole
returns-in_ok-outcome-in-All-clause-whole c = whole c.args.terms.now (histories c.args.clocks.now) c.in_ok-outcome-in-All.outcome c.requires.clocks (rw c.in-All.is at c.requires.choices).1 c.in_ok-outcome-in-All.ensures
