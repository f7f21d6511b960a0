use Rattle.std.proofs.Common.{rules}
use Rattle.auction_file.proofs.goods_list.opening_prices.Goals as goal

pub returns : goal.returns
returns c = search rules
