use Rattle.auction_file.proofs.TermsRead.{first-terms, not_refused}
use Rattle.auction_file.proofs.reader.terms_of.Goals as goal

pub returns-then-version-eq1 : goal.returns-then-version-eq1
returns-then-version-eq1 c =
    first-terms c.args.version c.args.ceiling c.from.result c.args.bidders c.args.goods.now c.args.supply c.in-Ok.terms c.if-version-eq1.true c.requires.opened c.requires.goods c.from.ensures c.in-Ok.ensures.terms

pub unreachable-requires-in_default-with_opening : goal.unreachable-requires-in_default-with_opening
unreachable-requires-in_default-with_opening c =
    not_refused c.args.version c.args.ceiling c.from-2.result c.args.bidders c.args.goods.now c.args.supply c.in_ok-opening.opening c.in_default-with_opening.field-0 c.requires.ceiling c.requires.opened c.requires.bidders c.from-2.ensures c.in_ok-opening.ensures c.in_default-with_opening.ensures
