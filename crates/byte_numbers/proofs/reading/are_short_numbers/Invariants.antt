use Rattle.std.proofs.Common.{◌≡◌, ◌↔◌, drop}
use Rattle.byte_numbers.specs.Spelling.{short_numbers}
use Rattle.byte_numbers.proofs.reading.are_short_numbers.Given as goal

abbrev pub invariant-loop-number : goal.invariant-loop-number
invariant-loop-number l = (short_numbers l.bytes ≡ l.numbers) ↔ (short_numbers l.rest ≡ drop l.number-index l.numbers)
