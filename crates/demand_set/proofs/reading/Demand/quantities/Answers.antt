use Rattle.std.proofs.Common.{◌∙◌, ap, sym}
use Rattle.std.specs.List.{concat}
use Rattle.demand_set.proofs.PackedForm.{concat-whole}
use Rattle.demand_set.proofs.reading.Demand.quantities.Goals as goal

pub returns-clause-value : goal.returns-clause-value
returns-clause-value c = c.deref.ensures.value ∙ sym (concat-whole c.self.inside.goods c.self.inside.quantities.items c.self.invariant.whole) ∙ ap concat c.self.view_is
