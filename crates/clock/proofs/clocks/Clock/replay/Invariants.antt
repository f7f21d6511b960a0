use Rattle.std.proofs.Common.{◌≡◌, ◌<◌, ◌+◌, ◌^◌, [], ◌++◌, length}
use Rattle.std.specs.Vec.Iter.{into_iter_items, into_iter_len}
use Rattle.clock.specs.Judging.{TakesAll}
use Rattle.clock.proofs.clocks.Clock.replay.Given as goal

abbrev pub invariant-loop-report : goal.invariant-loop-report
invariant-loop-report l = record {
  same : l.yielded ++ into_iter_items l.report-iterator ≡ l.fn.reports.items;
  left : into_iter_len l.report-iterator ≡ length (into_iter_items l.report-iterator);
  count : l.taken ≡ length l.yielded;
  few : l.taken + into_iter_len l.report-iterator < 2 ^ 64;
  clock : l.clock.history ≡ record { terms = l.fn.terms; number = l.fn.number; reports = l.yielded };
  all : TakesAll (record { terms = l.fn.terms; number = l.fn.number; reports = [] }) l.yielded;
}
