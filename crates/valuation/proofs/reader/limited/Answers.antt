use Rattle.std.proofs.Common.{arith}
use Rattle.valuation.proofs.FileRead.{low-all, values-kept}
use Rattle.valuation.proofs.reader.limited.Goals as goal

pub narrowed-requires : goal.narrowed-requires
narrowed-requires c = λ k.
    let b = low-all c.args.ceiling c.args.values.now c.first_above.result c.first_above.ensures.value c.in-None.is c.requires.ceiling k in
    let high = c.requires.low in
    omega (arith, b, high)

pub from_values-requires : goal.from_values-requires
from_values-requires c =
    values-kept c.args.ceiling c.args.values.now c.in_ok-narrow-in-None.narrow.items c.first_above.result c.in_ok-narrow-in-None.ensures c.requires.some c.requires.few c.requires.empty c.first_above.ensures.value c.in-None.is c.requires.ceiling c.requires.low
