use Rattle.std.proofs.Common.{◌≡◌, ap, arith, length}
use Rattle.clock.specs.Past.{PastOf}
use Rattle.clock.proofs.Appended.{length-history}
use Rattle.clock.proofs.packing.Past.count.Goals as goal

pub returns : goal.returns
returns c =
    let e = ap (λ (v : PastOf). length v.reports) c.self.view_is in
    let l = length-history c.self.inside.goods c.self.inside.quantities.items c.self.inside.places.items in
    let n : c.len.result ≡ length c.self.inside.places.items = omega (arith, c.len.ensures) in
    omega (arith, e, l, n)
