-- The goods are those of the supplies; supplies of what can be sold are not refused.
use Rattle.std.proofs.Common.{◌≡◌, ◌∙◌, ap, sym, Ok, Err, arith}
use Rattle.lot_base.specs.Limits.{supply_of}
use Rattle.command_line.specs.Words.{comma_list}
use Rattle.command_line.proofs.Commas.{goods-are, numbers-same, supply-accepted, supply-numbers}
use Rattle.command_line.proofs.words.read_goods.Goals as goal

pub returns-in-Ok-clause-some : goal.returns-in-Ok-clause-some
returns-in-Ok-clause-some c =
    let read = rw c.in-Some.is at c.in_ok-read_numbers.ensures.some in
    let same = goods-are c.in-Some.supplies.items c.in-Ok.goods (c.in-Ok.ensures ∙ ap supply_of c.deref.ensures.value) in
    read ∙ ap comma_list (sym same)

pub returns-in-None-clause-none : goal.returns-in-None-clause-none
returns-in-None-clause-none c = λ supply is e.
    let none = rw c.in-None.is at c.in_ok-read_numbers.ensures.none in
    none supply (supply-numbers supply is) e

pub returns-clause-none : goal.returns-clause-none
returns-clause-none c = λ supply is e.
    let read = rw c.in-Some.is at c.in_ok-read_numbers.ensures.some in
    let numbers = rw c.in-Some.is at c.in_ok-read_numbers.ensures.numbers in
    let same = numbers-same 1 2047 c.in-Some.supplies.items supply (omega arith) numbers (supply-numbers supply is) (sym read ∙ e) in
    let ok = supply-accepted supply is in
    let refused : Err c.in-Err.field-0 ≡ Ok supply = c.in-Err.ensures ∙ ap supply_of (c.deref.ensures.value ∙ same) ∙ ok in
    cc
