use Rattle.std.proofs.Common.{◌≡◌, ◌+◌, ◌-◌, ◌*◌, length}
use Rattle.clock.specs.Standing.{steps_of, step_set_after}
use Rattle.clock.specs.Reports.{members_of}
use Rattle.clock.specs.Repeats.{IsIdle, repeated}
use Rattle.clock.proofs.clocks.Clock.repeat_rounds.Given as goal

abbrev pub invariant-loop-added : goal.invariant-loop-added
invariant-loop-added l = record {
  all : l.self ≡ record l.initial.self { history = repeated l.added l.initial.self.history; spare_reports = l.initial.self.spare_reports - l.added * length (members_of l.initial.self.history) };
  idle : IsIdle l.self.history;
  steps : steps_of l.self.history ≡ steps_of l.initial.self.history + l.added;
  same : l.set.0 ≡ step_set_after l.self.history (steps_of l.self.history - 1);
}
