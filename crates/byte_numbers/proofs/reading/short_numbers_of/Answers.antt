-- The numbers that were read are those of the pairs.
use Rattle.std.proofs.Common.{rules, ◌≡◌, ◌∙◌, ◌*◌, ◌/◌, ◌<◌, ◌≤◌, ◌+◌, ◌++◌, length, take, drop, ap, arith}
use Rattle.std.proofs.Math.Seq.{take-append_seam}
use Rattle.std.proofs.lemmas.List.{length-take-le}
use Rattle.byte_numbers.proofs.Pairs.{numbers-read, whole-pairs}
use Rattle.byte_numbers.proofs.reading.short_numbers_of.Goals as goal

pub returns : goal.returns
returns c =
    let bytes = c.args.bytes.now in
    let numbers = c.read_u16_into.new.dst in
    let count = length bytes / 2 in
    let low : 2 * count ≤ length bytes = omega arith in
    let high : length bytes < 2 * count + 2 = omega arith in
    let size : length numbers ≡ count = search rules in
    let len : c.in_ok-numbers.numbers.len ≡ length numbers = search rules in
    ap (λ n. take n (numbers ++ drop (length numbers) c.in_ok-numbers.numbers.items)) len
    ∙ take-append_seam numbers (drop (length numbers) c.in_ok-numbers.numbers.items)
    ∙ numbers-read count (take (2 * count) bytes) numbers (length-take-le (2 * count) bytes low) size c.read_u16_into.ensures
    ∙ whole-pairs count bytes low high
