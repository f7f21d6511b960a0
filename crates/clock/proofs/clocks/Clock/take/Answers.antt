use Rattle.std.proofs.Common.{◌∙◌, is_some, ap}
use Rattle.clock.specs.Reports.{applied}
use Rattle.clock.specs.Judging.{judgement_of}
use Rattle.clock.proofs.TakenReports.{taken-absent, taken-again, taken-told}
use Rattle.clock.proofs.clocks.Clock.take.Goals as goal

pub count_in-requires-clause-take : goal.count_in-requires-clause-take
count_in-requires-clause-take c =
    let h = c.args.self.now.history in
    let same = c.demands_still.ensures c.if-demands_still.true (taken-absent h c.args.report c.requires.take) in
    ap (judgement_of h) (taken-again h c.args.report c.requires.take same) ∙ c.requires.take

pub count_in-requires-clause-known : goal.count_in-requires-clause-known
count_in-requires-clause-known c = λ _.
    ap is_some (c.demands_still.ensures c.if-demands_still.true (taken-absent c.args.self.now.history c.args.report c.requires.take))

pub count_in-requires-else-demands_still-clause-take : goal.count_in-requires-else-demands_still-clause-take
count_in-requires-else-demands_still-clause-take c =
    let h = c.args.self.now.history in
    ap (judgement_of h) (taken-told h c.args.report c.requires.take) ∙ c.requires.take

pub returns-then-demands_still : goal.returns-then-demands_still
returns-then-demands_still c =
    let h = c.args.self.now.history in
    let same = c.demands_still.ensures c.if-demands_still.true (taken-absent h c.args.report c.requires.take) in
    c.count_in.ensures ∙ ap (applied c.args.self.now) (taken-again h c.args.report c.requires.take same)

pub returns-else-demands_still : goal.returns-else-demands_still
returns-else-demands_still c =
    c.count_in-else-demands_still.ensures ∙ ap (applied c.args.self.now) (taken-told c.args.self.now.history c.args.report c.requires.take)
