use Rattle.std.proofs.Common.{◌≤◌, ◌<◌, length}
use Rattle.rationale.specs.Shown.{parent_of}
use Rattle.rationale.specs.Turned.{IsLeastOf}
use Rattle.rationale.proofs.writing.turning_place.Given as goal

abbrev pub invariant-loop-place : goal.invariant-loop-place
invariant-loop-place l = record {
  behind : l.first ≤ l.least;
  within : l.least < length l.path;
  least : IsLeastOf (parent_of l.parents) l.path l.first l.place l.least;
}
