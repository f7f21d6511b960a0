use Rattle.std.proofs.Common.{◌≡◌, ◌≤◌, length, take}
use Rattle.migration.proofs.fronts.first_off.Given as goal

abbrev pub invariant-loop-place : goal.invariant-loop-place
invariant-loop-place l = record {
  few : l.place ≤ length l.source.history.reports;
  same : take l.place l.target.history.reports ≡ take l.place l.source.history.reports;
}
