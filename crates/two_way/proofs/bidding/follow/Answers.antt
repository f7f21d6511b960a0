use Rattle.std.proofs.Common.{◌≡◌, ◌∙◌, ap, sym}
use Rattle.lot_base.specs.Goods.{raised}
use Rattle.trial.specs.Bidding.{bidders_of}
use Rattle.two_way.proofs.Moving.{OnOk-weaker, followed-up}
use Rattle.two_way.proofs.bidding.follow.Goals as goal

pub returns-in-Some-clause-bidders : goal.returns-in-Some-clause-bidders
returns-in-Some-clause-bidders c =
    let set = c.in-Some.set.0 in
    let rose : c.args.after.now ≡ raised c.args.before.now set = sym c.as_slice-2.ensures.value ∙ c.in-Some.ensures.value ∙ ap (λ p. raised p set) c.as_slice.ensures.value in
    OnOk-weaker _ _
    (λ risen. followed-up c.args.terms.now (bidders_of c.args.terms.now.goods c.args.valuations.now) c.args.before.now c.args.after.now set c.args.bidders.now.items c.rise_all.new.bidders.items
    c.requires.goods.0 c.requires.bidders rose risen)
    c.rise_all.result c.rise_all.ensures.risen
