use Rattle.std.proofs.Common.{◌/◌, ◌+◌, refl, arith, slice_index_or}
use Rattle.lot_base.proofs.Digits.{digit}
use Rattle.lot_base.proofs.bundles.take_digits.Goals as goal

pub overflow_cast-unit : goal.overflow_cast-unit
overflow_cast-unit c =
    let before = c.loop-unit in
    let unit = slice_index_or before.units before.unit-index 0 in
    let next = digit _ before.units before.unit-index before.rest before.bundles (before.bundles / (unit + 1)) before.invariant (omega arith) refl in
    let fits = next.0 in
    omega arith

pub loop-unit-preserved : goal.loop-unit-preserved
loop-unit-preserved c =
    let before = c.loop-unit in
    let unit = slice_index_or before.units before.unit-index 0 in
    let next = digit _ before.units before.unit-index before.rest before.bundles (before.bundles / (unit + 1)) before.invariant (omega arith) refl in
    next.1
