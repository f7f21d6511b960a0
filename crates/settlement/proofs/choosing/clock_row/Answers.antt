use Rattle.std.proofs.Common.{Some, None, ◌∙◌}
use Rattle.settlement.proofs.Bounds.{choice-from}
use Rattle.settlement.proofs.choosing.clock_row.Goals as goal

pub returns-in-Award : goal.returns-in-Award
returns-in-Award c = record {
  steps_are = c.steps.ensures.value;
  prices_are = c.look-look.ensures.prices;
  choice_is = choice-from c.args.clock.now.history c.args.terms.now c.look-look.result.prices c.deref.result.now (Some c.in-Award.choices) c.requires.terms c.look-look.ensures.prices (c.deref.ensures.value ∙ c.in_ok-demands.ensures.demands)
      (rw c.in-Award.is at c.in_ok-choices.ensures.first);
}

pub returns : goal.returns
returns c =
    choice-from c.args.clock.now.history c.args.terms.now c.look-look.result.prices c.deref.result.now None c.requires.terms c.look-look.ensures.prices (c.deref.ensures.value ∙ c.in_ok-demands.ensures.demands)
    (rw c.in-NoChoice.is at c.in_ok-choices.ensures.first)
