use Rattle.recovery.proofs.Demands.{demand-whole}
use Rattle.clock_family.proofs.hints.leave_payload.Goals as goal

pub entry_to-length-requires-clause-whole : goal.entry_to-length-requires-clause-whole
entry_to-length-requires-clause-whole g c =
    let terms = c.args.terms.now in
    rw (c.count.ensures.length, c.quantities-quantities.ensures.value) (demand-whole terms.goods c.args.demand.now terms.supply c.requires)
