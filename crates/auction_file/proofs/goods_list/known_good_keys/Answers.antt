use Rattle.auction_file.proofs.Openings.{good_keys-first}
use Rattle.auction_file.proofs.goods_list.known_good_keys.Goals as goal

pub returns-else-version-eq2 : goal.returns-else-version-eq2
returns-else-version-eq2 c = rw (good_keys-first c.args.version c.if-version-eq2.false) c.known_keys-else-version-eq2.ensures
