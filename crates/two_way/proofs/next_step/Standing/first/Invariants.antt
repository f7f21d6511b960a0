use Rattle.std.proofs.Common.{◌≡◌}
use Rattle.lot_base.specs.declared.phases.Phase.TheVariants.{Running}
use Rattle.two_way.specs.Kept.{HasCome}
use Rattle.two_way.proofs.next_step.Standing.first.Given as goal

abbrev pub invariant-loop-made : goal.invariant-loop-made
invariant-loop-made l = record {
  come : HasCome (record { terms = l.fn.terms; number = l.fn.clock; start = l.fn.start; reports = l.fn.reports.reports }) l.standing;
  running : l.standing.phase ≡ Running;
  steps : l.standing.steps ≡ l.made;
}
