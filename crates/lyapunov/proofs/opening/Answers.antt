use Rattle.std.proofs.Common.{refl, length-set, arith, ap, ◌∙◌, pos, ◌-ℤ◌, ◌≡◌, to_z, of_z, w16, get_or-set_other, ◌≢◌, []}
use Rattle.std.proofs.lemmas.Int.{to_z-of_z}
use Rattle.lot_base.specs.Goods.{quantity_in}
use Rattle.lyapunov.proofs.Entries.{entry-blank, entry-set, IsFew-supply, IsExcessOf-room, IsExcessOf-opening}
use Rattle.lyapunov.proofs.opening.Goals as goal

pub loop-set-init : goal.loop-set-init
loop-set-init c = record { size = refl; before = λ k below. absurd (omega arith); behind = λ k behind. entry-blank 64 k }

pub lack_of-requires : goal.lack_of-requires
lack_of-requires c =
    let units = c.units_of-units.ensures c.loop-set.set (omega (arith, c.loop-set-test.true, c.set_count-set-end.ensures.value)) in
    let few = IsFew-supply c.args.goods.now c.set_count-set-end.ensures.supply c.loop-set.set (omega (arith, c.loop-set-test.true, c.set_count-set-end.ensures.value)) in
    omega (arith, units, few)

pub loop-set-preserved : goal.loop-set-preserved
loop-set-preserved c =
    let lack : to_z w16 (of_z w16 c.lack_of.result) ≡ c.lack_of.result = grind (arith, to_z-of_z) in
    record {
      size = length-set c.loop-set.excess.0 c.loop-set.set _ ∙ c.loop-set.invariant.size;
      before = entry-set c.loop-set.excess.0 c.loop-set.set (to_z w16 (of_z w16 c.lack_of.result)) (λ k. pos 0 -ℤ pos (quantity_in c.args.goods.now k)) (omega arith)
          (lack ∙ c.lack_of.ensures ∙ ap (λ n. pos 0 -ℤ pos n) (c.units_of-units.ensures c.loop-set.set (omega (arith, c.loop-set-test.true, c.set_count-set-end.ensures.value)))) c.loop-set.invariant.before;
      behind = λ k behind. let apart : k ≢ c.loop-set.set = omega arith in get_or-set_other c.loop-set.excess.0 c.loop-set.set k _ (pos 0) apart ∙ c.loop-set.invariant.behind k (omega arith);
    }

pub returns-clause-room : goal.returns-clause-room
returns-clause-room c =
    IsExcessOf-room c.args.goods.now [] 0 c.loop-set.excess.0 (IsFew-supply c.args.goods.now c.set_count-set-end.ensures.supply) tt (omega arith)
    (IsExcessOf-opening c.args.goods.now c.loop-set.excess.0 c.loop-set.set (omega arith) (omega arith) c.loop-set.invariant.before c.loop-set.invariant.behind)
