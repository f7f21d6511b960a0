use Rattle.std.proofs.Common.{◌≡◌, ◌∙◌, ◌++◌, ◌<◌, [], ◌∷◌, length, ap, sym, subst, arith, rules, length-append}
use Rattle.clock_family.specs.Opening.{AreLaid}
use Rattle.clock_family.proofs.Places.{taken-next, laid-more, not-open}
use Rattle.clock_family.proofs.Openings.{laid-unused}
use Rattle.clock_family.proofs.opening.lay_all.Goals as goal

pub returns-in-loop-clock-clause-err : goal.returns-in-loop-clock-clause-err
returns-in-loop-clock-clause-err g c =
    let i = c.loop-clock.invariant in
    let is : c.loop-clock.rest.items ≡ c.unwrap-disk.result ∷ c.pop_front.new.self.items = search rules in
    let next = taken-next c.args.disks.items c.pop_front.new.self.items c.loop-clock.clock c.unwrap-disk.result (sym is ∙ i.rest) in
    let back = c.given_back-disks.ensures in
    not-open g.D.Disk.shown c.args.terms.now c.args.digest.now c.args.passes c.args.disks.items c.pop_front.new.self.items back.0 c.given_back-disks.result.items c.loop-clock.laid.items c.loop-clock.clock c.unwrap-disk.result c.in-Err.unopened.disk c.in-Err.unopened.fault
    i.are i.count next c.in-Err.ensures.err back.1 (back.2 ∙ ap (λ l. back.0 ++ l) c.push_front_reserved.ensures.items)

pub loop-clock-preserved : goal.loop-clock-preserved
loop-clock-preserved g c =
    let i = c.loop-clock.invariant in
    let is : c.loop-clock.rest.items ≡ c.unwrap-disk.result ∷ c.pop_front.new.self.items = search rules in
    let next = taken-next c.args.disks.items c.pop_front.new.self.items c.loop-clock.clock c.unwrap-disk.result (sym is ∙ i.rest) in
    let more = length-append c.loop-clock.laid.items (c.in-Ok-lay.stand ∷ []) in
    record {
      are = subst (λ l. AreLaid g.D.Disk.shown c.args.terms.now c.args.digest.now c.args.passes c.args.disks.items l) (sym c.push_reserved.ensures.items)
          (laid-more g.D.Disk.shown c.args.terms.now c.args.digest.now c.args.passes c.args.disks.items c.pop_front.new.self.items c.loop-clock.laid.items c.loop-clock.clock c.unwrap-disk.result c.in-Ok-lay.stand i.are i.count next c.in-Ok-lay.ensures.ok);
      count = omega (arith, ap length c.push_reserved.ensures.items, more, i.count);
      rest = next.rest;
      room = omega (arith, i.room, c.pop_front.ensures.capacity);
      space = omega (arith, i.space, c.push_reserved.ensures.capacity);
    }

pub given_back-disks-requires-clause-unused : goal.given_back-disks-requires-clause-unused
given_back-disks-requires-clause-unused g c =
    let i = c.loop-clock.invariant in
    let some : 0 < length c.args.disks.items = search rules in
    laid-unused g.D.Disk.shown c.args.terms.now c.args.digest.now c.args.passes c.args.disks.items c.loop-clock.laid.items i.are some
