use Rattle.trial.specs.Following.{IsStepped}
use Rattle.trial.proofs.Members.{AreChanged}
use Rattle.trial.proofs.carrying.step_all.Given as goal

abbrev pub invariant-loop-place : goal.invariant-loop-place
invariant-loop-place l = AreChanged (IsStepped l.times) l.without l.place l.fn.followers l.followers
