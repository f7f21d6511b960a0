use Rattle.std.proofs.Common.{◌≡◌, ◌*◌, ◌-◌, length, max}
use Rattle.std.specs.List.{AllByRecursion}
use Rattle.demand_set.specs.Reading.{groups, bundles_of}
use Rattle.demand_set.specs.Sums.{IsShort}
use Rattle.demand_set.proofs.Tables.{IsFolding}
use Rattle.demand_set.proofs.quantities.greatest_of.Given as goal

abbrev pub invariant-loop-place : goal.invariant-loop-place
invariant-loop-place l = record {
  left : length l.rest ≡ (l._place-end - l._place) * l.goods;
  short : AllByRecursion IsShort (groups (l._place-end - l._place) l.goods l.rest);
  folding : IsFolding max l.goods 0 (bundles_of l.goods l.quantities) (groups (l._place-end - l._place) l.goods l.rest) l.table;
}
