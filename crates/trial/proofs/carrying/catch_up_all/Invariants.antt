use Rattle.trial.specs.Following.{IsReady}
use Rattle.trial.specs.Rounds.{AreColumns}
use Rattle.trial.proofs.Members.{AreChanged}
use Rattle.trial.proofs.carrying.catch_up_all.Given as goal

abbrev pub invariant-loop-place : goal.invariant-loop-place
invariant-loop-place l = record {
  columns : AreColumns l.goods l.columns.items;
  changed : AreChanged (IsReady l.set.0) l.without l.place l.fn.followers l.followers;
}
