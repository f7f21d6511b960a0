use Rattle.std.proofs.Common.{◌≡◌, ◌/◌, ◌∙◌, ap, sym, arith, length}
use Rattle.demand_set.proofs.Groups.{length-groups}
use Rattle.demand_set.proofs.reading.Demand.len.Goals as goal

pub overflow_cast-result-2 : goal.overflow_cast-result-2
overflow_cast-result-2 c =
    let items = c.self.inside.quantities.items in
    let l : c.len.result ≡ length items = omega (arith, c.len.ensures) in
    let n = ap (λ k. k / c.self.inside.goods) l ∙ sym (length-groups (length items / c.self.inside.goods) c.self.inside.goods items) in
    omega (arith, n, c.self.invariant.demand.few)

pub returns-clause-value : goal.returns-clause-value
returns-clause-value c =
    let items = c.self.inside.quantities.items in
    let l : c.len.result ≡ length items = omega (arith, c.len.ensures) in
    ap (λ k. k / c.self.inside.goods) l ∙ sym (length-groups (length items / c.self.inside.goods) c.self.inside.goods items) ∙ ap length c.self.view_is
