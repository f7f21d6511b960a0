use Rattle.std.proofs.Common.{◌≡◌, ◌∙◌, sym, ap, arith, length}
use Rattle.valuation.specs.ValuesFile.{all_long}
use Rattle.valuation.proofs.Collected.{IfOk-weaker}
use Rattle.valuation.proofs.Long.{length-joined, total-small}
use Rattle.valuation.proofs.numbers.lists_at.Goals as goal

pub entries-requires : goal.entries-requires
entries-requires c =
    let supply = c.args.supply.now in
    let lists = c.deref-2.result.now in
    let n = c.in_ok-long.ensures.count in
    let d = c.deref-2.ensures.len in
    let d1 = c.deref.ensures.len in
    let l = c.len.ensures in
    let all = c.in_ok-all_long.ensures ∙ ap (all_long c.args.bidder supply) (c.deref.ensures.value ∙ sym c.deref-2.ensures.value) in
    let few : length lists ≡ length supply = omega (arith, n, d, d1, l) in
    let count = length-joined c.args.bidder supply lists c.in_ok-all_long.field-0 few (sym all) in
    let t = total-small supply in
    let small = c.requires.small in
    let same = ap length (c.deref-3.ensures.value ∙ c.in_ok-numbers.ensures) in
    omega (arith, same, count, t, small)

pub returns-clause-count : goal.returns-clause-count
returns-clause-count c =
    let supply = c.args.supply.now in
    let lists = c.deref-2.result.now in
    let n = c.in_ok-long.ensures.count in
    let d = c.deref-2.ensures.len in
    let d1 = c.deref.ensures.len in
    let l = c.len.ensures in
    let all = c.in_ok-all_long.ensures ∙ ap (all_long c.args.bidder supply) (c.deref.ensures.value ∙ sym c.deref-2.ensures.value) in
    let few : length lists ≡ length supply = omega (arith, n, d, d1, l) in
    let count = length-joined c.args.bidder supply lists c.in_ok-all_long.field-0 few (sym all) in
    let same = ap length (c.deref-3.ensures.value ∙ c.in_ok-numbers.ensures) in
    IfOk-weaker _ _ (λ v e. e ∙ same ∙ count) c.entries.result c.entries.ensures.count
