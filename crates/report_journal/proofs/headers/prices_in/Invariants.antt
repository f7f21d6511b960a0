use Rattle.std.proofs.Common.{◌≡◌, ◌*◌, ◌^◌, ◌<◌, length, take}
use Rattle.byte_numbers.specs.Spelling.{big_bytes}
use Rattle.std.specs.List.{AllByRecursion, flat_map}
use Rattle.lot_base.specs.declared.limits.TheConstants.{MOST_GOODS}
use Rattle.report_journal.proofs.headers.prices_in.Given as goal

abbrev pub invariant-loop-good : goal.invariant-loop-good
invariant-loop-good l = record {
  size : length l.prices ≡ MOST_GOODS;
  spelled : flat_map (big_bytes 4) (take l.good l.prices) ≡ take (4 * l.good) l.bytes;
  fit : AllByRecursion (λ price. price < 2 ^ 32) (take l.good l.prices);
}
