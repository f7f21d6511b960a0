use Rattle.std.proofs.Common.{ap, arith, length}
use Rattle.demand_set.proofs.PackedForm.{few-quantities}
use Rattle.clock.proofs.clocks.note_demand.Goals as goal

pub overflow_cast-quantities : goal.overflow_cast-quantities
overflow_cast-quantities c =
    let l = ap length c.quantities.ensures.value in
    let few = few-quantities _ c.quantities.ensures.held in
    omega (arith, l, few)
