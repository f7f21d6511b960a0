use Rattle.std.proofs.Common.{◌≡◌, take, replicate}
use Rattle.migration.proofs.auctions.are_zeros.Given as goal

abbrev pub invariant-loop-price : goal.invariant-loop-price
invariant-loop-price l = take l.price-index l.prices ≡ replicate l.price-index 0
