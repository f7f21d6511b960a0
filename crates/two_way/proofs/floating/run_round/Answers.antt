use Rattle.trial.specs.Bidding.{bidders_of}
use Rattle.two_way.proofs.Moving.{OnOk-weaker}
use Rattle.two_way.proofs.Saying.{have-said}
use Rattle.two_way.proofs.floating.run_round.Goals as goal

pub returns-clause-said : goal.returns-clause-said
returns-clause-said c =
    OnOk-weaker _ _ (λ followed runs. have-said (bidders_of c.args.terms.now.goods c.args.valuations.now) c.args.terms.now c.args.clock.now c.tell_round.new.clock c.look-before.result.prices c.look-after.result.prices c.follow.new.bidders.items
    c.requires.terms c.requires.fresh c.in_ok-tell_round.ensures.told (c.in_ok-tell_round.ensures.turned.goes runs) c.look-before.ensures.prices c.look-after.ensures.prices followed) c.follow.result c.follow.ensures.bidders
