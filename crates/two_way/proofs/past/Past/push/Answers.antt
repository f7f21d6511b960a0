use Rattle.std.proofs.Common.{◌∙◌, ◌++◌, [], ◌∷◌, List, sym, ap, subst}
use Rattle.two_way.specs.declared.past.Place.{Place}
use Rattle.two_way.specs.declared.past.Kept.{Kept}
use Rattle.two_way.specs.Past.{AllThere, PastOf, reports_of, with_report}
use Rattle.two_way.proofs.Pasts.{has-pushed}
use Rattle.two_way.proofs.past.Past.push.Goals as goal

pub invariant_of-self-in-Ok : goal.invariant_of-self-in-Ok
invariant_of-self-in-Ok c =
    let before = c.self.inside in
    let places = c.make_room.new.places in
    let demands = c.make_room.new.demands in
    let same = c.in-Ok.ensures.places in
    let kept = c.in-Ok.ensures.demands in
    let items = c.push_reserved.ensures.items in
    let T : List Place → Type 0 = λ ps. AllThere demands.items ps in
    let D : List Kept → Type 0 = λ ds. AllThere ds before.places.items in
    let there : AllThere demands.items places.items = subst T (sym same) (subst D (sym kept) c.self.invariant.0) in
    ((has-pushed demands.items c.keep-number.new.demands.items places.items c.push_reserved.new.self.items c.keep-number.result c.args.report there c.keep-number.ensures.kept items).there, c.keep-number.ensures.tables)

pub returns-in-Ok-clause-ok : goal.returns-in-Ok-clause-ok
returns-in-Ok-clause-ok c =
    let before = c.self.inside in
    let places = c.make_room.new.places in
    let demands = c.make_room.new.demands in
    let same = c.in-Ok.ensures.places in
    let kept = c.in-Ok.ensures.demands in
    let items = c.push_reserved.ensures.items in
    let T : List Place → Type 0 = λ ps. AllThere demands.items ps in
    let D : List Kept → Type 0 = λ ds. AllThere ds before.places.items in
    let there : AllThere demands.items places.items = subst T (sym same) (subst D (sym kept) c.self.invariant.0) in
    let reports = (has-pushed demands.items c.keep-number.new.demands.items places.items c.push_reserved.new.self.items c.keep-number.result c.args.report there c.keep-number.ensures.kept items).reports
    ∙ (λ i. reports_of (kept i) (same i) ++ c.args.report ∷ []) in
    (λ i. record { goods = before.goods; reports = reports i }) ∙ ap (λ (p : PastOf). with_report p c.args.report) c.self.view_is
