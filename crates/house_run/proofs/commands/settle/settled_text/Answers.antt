use Rattle.house_run.proofs.HouseSteps.{settled-by}
use Rattle.house_run.proofs.commands.settle.settled_text.Goals as goal

pub returns-in-Ok-clause-text : goal.returns-in-Ok-clause-text
returns-in-Ok-clause-text c = record {
  outcome = c.in-Ok-Settled.outcome;
  settlement = settled-by c.args.house.now.terms c.args.house.now.clocks.items _ _ _ c.deref.ensures.value c.in-Ok-Settled.field-0-is c.in-Ok-Settled.ensures.outcome c.in-Ok-Settled.ensures.efficient c.in-Ok-Settled.ensures.charged;
  text_is = c.in-Ok.ensures;
}

pub returns-in-Ok-NoAward-clause-ends : goal.returns-in-Ok-NoAward-clause-ends
returns-in-Ok-NoAward-clause-ends c = settled-by c.args.house.now.terms c.args.house.now.clocks.items _ _ _ c.deref.ensures.value c.in-Ok-NoAward.field-0-is c.in-Ok-NoAward.ensures.outcome c.in-Ok-NoAward.ensures.efficient c.in-Ok-NoAward.ensures.charged

pub returns-in-Ok-Halted-clause-ends : goal.returns-in-Ok-Halted-clause-ends
returns-in-Ok-Halted-clause-ends c = settled-by c.args.house.now.terms c.args.house.now.clocks.items _ _ _ c.deref.ensures.value c.in-Ok-Halted.field-0-is c.in-Ok-Halted.ensures.outcome c.in-Ok-Halted.ensures.efficient c.in-Ok-Halted.ensures.charged
