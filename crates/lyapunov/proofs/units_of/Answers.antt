use Rattle.std.proofs.Common.{◌≡◌, ◌+◌, ◌^◌, refl, sym, arith}
use Rattle.lyapunov.proofs.Doubling.{units-none, units-more, sets-twice, sets-few, units-next}
use Rattle.lyapunov.proofs.Entries.{quantity_in-box}
use Rattle.lyapunov.proofs.units_of.Goals as goal

pub loop-good-init : goal.loop-good-init
loop-good-init c = record { sets = refl; units = λ k below. (let first : k ≡ 0 = omega arith in rw first (sym (units-none c.args.goods.now))) }

pub add_good-requires-clause-few : goal.add_good-requires-clause-few
add_good-requires-clause-few c =
    let few = c.count-good-end.ensures.supply.few_goods in
    sets-few c.loop-good.good c.loop-good.sets (omega (arith, few, c.count-good-end.ensures.length, c.loop-good-test.true)) c.loop-good.invariant.sets

pub add_good-requires-clause-small : goal.add_good-requires-clause-small
add_good-requires-clause-small c = λ set below.
    let more = units-more c.args.goods.now c.loop-good.good set (omega (arith, c.count-good-end.ensures.length, c.loop-good-test.true)) (omega (arith, below, c.loop-good.invariant.sets)) in
    let units = quantity_in-box c.args.goods.now (2 ^ c.loop-good.good + set) in
    let small = c.count-good-end.ensures.supply.small in
    let is = c.loop-good.invariant.units set below in
    omega (arith, more, units, small, is, c.supply.ensures)

pub loop-good-preserved : goal.loop-good-preserved
loop-good-preserved c = record {
  sets = sets-twice c.loop-good.good c.loop-good.sets c.loop-good.invariant.sets;
  units = units-next c.args.goods.now c.loop-good.units c.add_good.new.units c.loop-good.good c.loop-good.sets c.supply.result
      (omega (arith, c.count-good-end.ensures.length, c.loop-good-test.true)) c.loop-good.invariant.sets c.supply.ensures c.loop-good.invariant.units c.add_good.ensures.before c.add_good.ensures.more;
}
