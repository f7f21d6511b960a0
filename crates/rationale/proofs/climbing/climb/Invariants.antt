use Rattle.std.proofs.Common.{◌≡◌, ◌<◌, ℕ, length}
use Rattle.std.specs.Prelude.{true}
use Rattle.std.specs.List.{IsDistinct, list_any}
use lib.Dec.{eqb}
use Rattle.rationale.specs.Climbs.{IsTrail}
use Rattle.rationale.specs.Shown.{parent_of}
use Rattle.rationale.proofs.climbing.climb.Given as goal

abbrev pub invariant-loop-step : goal.invariant-loop-step
invariant-loop-step l = record {
  long : length l.path.items ≡ l.step;
  trail : IsTrail (parent_of l.parents) l.start l.path.items l.at;
  distinct : IsDistinct eqb l.path.items;
  small : l.at < length l.parents;
  all_small : (q : ℕ) → list_any (eqb q) l.path.items ≡ true → q < length l.parents;
}
