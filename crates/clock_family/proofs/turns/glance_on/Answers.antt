use Rattle.std.proofs.Common.{◌∙◌, sym, subst}
use Rattle.std.specs.Prelude.{IfSome}
use Rattle.clock_book.specs.declared.entries.Entry.{Entry}
use Rattle.clock_book.specs.declared.origins.Origin.{Origin}
use Rattle.turn_desk.specs.Passes.{Known, PassGlances}
use Rattle.clock_family.specs.Turns.{PassLooks}
use Rattle.clock_family.specs.Glances.{gauge_in, IsShownTo}
use Rattle.clock_family.proofs.Glancing.{sees-same, glance-looks}
use Rattle.clock_family.proofs.turns.glance_on.Goals as goal

pub returns-in_err-look-clause-sees : goal.returns-in_err-look-clause-sees
returns-in_err-look-clause-sees g c = λ none. sees-same c.args.pass.now c.pass.inside.pass c.pass.view_is

-- what is shown to the pass, before and after
both : (g : _) (c : goal.Else-glance-gauge_by g) → PassLooks c.in_ok-look.look c.args.pass.now c.glance.new.pass × IsShownTo c.glance.new.pass c.in_ok-look.look
both g c =
    let shown = subst (λ o. IfSome o (IsShownTo c.pass.inside.pass)) (sym c.take.ensures.value ∙ c.in_ok-look.was) c.pass.invariant in
    let before = subst (λ (p : Known Entry Origin). IsShownTo p c.in_ok-look.look) c.pass.view_is shown in
    let glance = subst (λ (p : Known Entry Origin). PassGlances gauge_in p c.glance.result c.glance.new.pass) c.pass.view_is c.glance.ensures in
    glance-looks c.in_ok-look.look c.glance.result c.args.pass.now c.glance.new.pass before glance (c.if-glance-gauge_by.false ∙ c.gauge_by.ensures)

pub returns-clause-looks : goal.returns-clause-looks
returns-clause-looks g c = (both g c).0

pub returns-clause-shown : goal.returns-clause-shown
returns-clause-shown g c = (both g c).1
