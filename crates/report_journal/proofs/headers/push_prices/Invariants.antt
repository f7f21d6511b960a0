use Rattle.std.proofs.Common.{◌≡◌, ◌++◌, take}
use Rattle.byte_numbers.specs.Spelling.{big_bytes}
use Rattle.std.specs.List.{flat_map}
use Rattle.report_journal.proofs.headers.push_prices.Given as goal

abbrev pub invariant-loop-price : goal.invariant-loop-price
invariant-loop-price l = l.bytes.items ≡ l.initial.bytes.items ++ flat_map (big_bytes 4) (take l.price-index l.price-items)
