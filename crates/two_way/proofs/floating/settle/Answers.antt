use Rattle.two_way.proofs.Paying.{first-count, first-small, floated-by}
use Rattle.two_way.proofs.floating.settle.Goals as goal

pub award_rows-requires-clause-count : goal.award_rows-requires-clause-count
award_rows-requires-clause-count c =
    first-count c.args.terms.now c.args.start.now c.args.clocks.now c.split_at.result.1.now c.args.choices.now c.index-choices-0.result c.requires.clocks c.requires.choices c.split_at.ensures.back c.index-choices-0.is

pub award_rows-requires-clause-small : goal.award_rows-requires-clause-small
award_rows-requires-clause-small c =
    first-small c.args.terms.now c.args.start.now c.args.clocks.now c.args.choices.now c.index-clocks-0.result c.index-choices-0.result c.look-prices.result.prices c.requires.start c.requires.clocks c.requires.choices
    c.index-clocks-0.is c.index-choices-0.is c.look-prices.ensures.prices

pub returns : goal.returns
returns c =
    floated-by c.args.terms.now c.args.start.now c.args.clocks.now c.split_at.result.1.now c.args.choices.now c.index-clocks-0.result c.index-choices-0.result c.look-prices.result.prices c.in_ok-rows.rows c.requires.clocks c.requires.choices
    c.index-clocks-0.is c.split_at.ensures.back c.index-choices-0.is c.look-prices.ensures.prices c.in_ok-rows.ensures.rows c.in_ok-rows.ensures.awards
