use Rattle.std.proofs.Common.{◌≡◌, drop}
use Rattle.valuation.specs.ValuesFile.{all_long}
use Rattle.valuation.proofs.numbers.all_long.Given as goal

abbrev pub invariant-loop-good : goal.invariant-loop-good
invariant-loop-good l = all_long l.bidder (drop l.good l.supply) (drop l.good l.lists) ≡ all_long l.bidder l.supply l.lists
