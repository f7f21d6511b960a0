use Rattle.std.proofs.Common.{◌≡◌, take}
use Rattle.migration.proofs.auctions.are_same_goods.Given as goal

abbrev pub invariant-loop-good : goal.invariant-loop-good
invariant-loop-good l = take l.good l.one ≡ take l.good l.other
