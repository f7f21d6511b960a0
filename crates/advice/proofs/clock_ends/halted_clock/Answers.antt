use Rattle.std.proofs.Common.{string_bytes}
use Rattle.house_run.proofs.Explaining.{if-ok}
use Rattle.advice.proofs.NotEmpty.{behind}
use Rattle.advice.proofs.clock_ends.halted_clock.Goals as goal

pub returns : goal.returns
returns c = if-ok c.format.result _ _ (λ text is. behind _ _ _ (string_bytes text) is) c.format.ensures.ok
