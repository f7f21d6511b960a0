use Rattle.command_line.specs.CommandView.{bidding_as}
use Rattle.house_run.proofs.Talking.{plays-as}
use Rattle.house_run.proofs.dialling.play.Goals as goal

pub returns-clause-talk : goal.returns-clause-talk
returns-clause-talk g c =
    let market = c.args.market.now in
    let token = c.as_bytes-token.ensures.value in
    plays-as market.auction.terms market.valuations.items (bidding_as c.args.bidding.now) c.index.result.now _ _ _ c.agree.result c.requires.playable c.requires.bidder c.requires.valuations c.index.ensures (rw token at c.agree.ensures.talk)
