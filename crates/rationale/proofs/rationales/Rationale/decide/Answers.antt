use Rattle.std.proofs.Common.{subst}
use Rattle.rationale.specs.Observations.{RationaleOf, AreObservations}
use Rattle.rationale.proofs.Transfer.{observed}
use Rattle.rationale.proofs.rationales.Rationale.decide.Goals as goal

pub returns-clause-observations : goal.returns-clause-observations
returns-clause-observations c =
    subst (λ (r : RationaleOf). AreObservations r.supply r.observations) c.self.view_is
    (observed c.self.inside.goods c.self.inside.stretches.items c.self.invariant.each)
