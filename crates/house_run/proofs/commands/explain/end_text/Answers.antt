use Rattle.std.proofs.Common.{string_bytes}
use Rattle.house_run.proofs.Explaining.{award-line, halted-line, if-ok, overshoot-line, running-line}
use Rattle.house_run.proofs.commands.explain.end_text.Goals as goal

pub returns-in-Running : goal.returns-in-Running
returns-in-Running c = if-ok c.format.result _ _ (λ text is. running-line c.args.clock c.args.end.now (string_bytes text) c.in-Running.is is) c.format.ensures.ok

pub returns-in-Halted : goal.returns-in-Halted
returns-in-Halted c = if-ok c.format-in-Halted.result _ _ (λ text is. halted-line c.args.clock c.args.end.now (string_bytes text) c.in-Halted.is is) c.format-in-Halted.ensures.ok

pub returns-in-Award : goal.returns-in-Award
returns-in-Award c = if-ok c.format-in-Award.result _ _ (λ text is. award-line c.args.clock c.args.end.now (string_bytes text) c.in-Award.is is) c.format-in-Award.ensures.ok

pub returns-in-Overshoot : goal.returns-in-Overshoot
returns-in-Overshoot c =
    if-ok c.format-in-Overshoot.result _ _ (λ text is. overshoot-line c.args.clock c.args.end.now c.in-Overshoot.set c.in-Overshoot.short (string_bytes text) c.in-Overshoot.is is) c.format-in-Overshoot.ensures.ok
