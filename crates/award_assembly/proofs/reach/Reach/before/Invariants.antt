use Rattle.std.proofs.Common.{true, ◌≡◌}
use Rattle.award_assembly.specs.Remaining.{AreAllTrue}
use Rattle.award_assembly.proofs.Searching.{IsSearched}
use Rattle.award_assembly.proofs.reach.Reach.before.Given as goal

abbrev pub invariant-loop-number : goal.invariant-loop-number
invariant-loop-number l = record {
  searched : IsSearched l.goods l.self l.demand l.number l.totals.items;
  all : l.all ≡ true → AreAllTrue l.totals.items;
}
