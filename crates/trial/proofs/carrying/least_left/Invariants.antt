use Rattle.std.proofs.Common.{◌≤◌}
use Rattle.trial.specs.Following.{IsOn}
use Rattle.trial.proofs.Members.{AreChanged, AreSteadyTo}
use Rattle.trial.proofs.carrying.least_left.Given as goal

abbrev pub invariant-loop-place : goal.invariant-loop-place
invariant-loop-place l = record {
  few : l.least ≤ 60000;
  changed : AreChanged (IsOn l.set.0) l.without l.place l.fn.followers l.followers;
  steady : AreSteadyTo l.without l.set.0 l.least l.place l.followers;
}
