use Rattle.std.proofs.Common.{◌≡◌, ◌+◌, ◌-◌, length, ap, refl, arith}
use Rattle.rationale.proofs.Growing.{stretch_few, same_demand_last, keeps_by_stretch, keeps_by_push, keeps_still}
use Rattle.rationale.proofs.stretches.keep.Goals as goal

pub extend-requires-clause-few : goal.extend-requires-clause-few
extend-requires-clause-few c =
    let old = c.args.stretches.now.items in
    let same = c.deref.ensures.value in
    let some = c.repeats.ensures.some c.if-repeats.true in
    let long : c.len-last.result - 1 + 1 ≡ length old = (let a = ap length same in let e = c.len-last.ensures in let l = c.args.stretches.now.ok in omega arith) in
    stretch_few old (c.len-last.result - 1) c.index_mut.result.now long c.index_mut.ensures.value c.requires.few

pub returns-in-Ok-clause-ok : goal.returns-in-Ok-clause-ok
returns-in-Ok-clause-ok c =
    let old = c.args.stretches.now.items in
    let place = c.len-last.result - 1 in
    let same = c.deref.ensures.value in
    let some = c.repeats.ensures.some c.if-repeats.true in
    let long : place + 1 ≡ length old = (let a = ap length same in let e = c.len-last.ensures in let l = c.args.stretches.now.ok in omega arith) in
    keeps_by_stretch c.args.goods.now old c.args.prices.now c.args.demand place c.index_mut.result.now c.extend.new.self c.requires.each long c.index_mut.ensures.value
    (same_demand_last old c.deref.result.now place c.index_mut.result.now c.args.demand same long c.index_mut.ensures.value (c.repeats.ensures.same c.if-repeats.true)) c.in-Ok.ensures.ok

pub returns-in-Err-clause-err : goal.returns-in-Err-clause-err
returns-in-Err-clause-err c =
    let old = c.args.stretches.now.items in
    let place = c.len-last.result - 1 in
    let same = c.deref.ensures.value in
    let some = c.repeats.ensures.some c.if-repeats.true in
    let long : place + 1 ≡ length old = (let a = ap length same in let e = c.len-last.ensures in let l = c.args.stretches.now.ok in omega arith) in
    (refl, keeps_still c.args.goods.now old place c.index_mut.result.now c.extend.new.self c.requires.each long c.index_mut.ensures.value c.in-Err.ensures.err.0 c.in-Err.ensures.err.1)

pub returns-in-Ok-push-clause-ok : goal.returns-in-Ok-push-clause-ok
returns-in-Ok-push-clause-ok c =
    keeps_by_push c.args.goods.now c.args.stretches.now.items c.push.new.self.items c.args.prices.now c.args.demand c.in_ok-stretch.stretch
    c.requires.each c.in-Ok-push.ensures.items c.in_ok-stretch.ensures.stretch c.in_ok-stretch.ensures.seen
