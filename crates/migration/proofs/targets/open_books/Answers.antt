use Rattle.std.proofs.Common.{◌≡◌, ◌∙◌, ◌++◌, ◌<◌, [], ◌∷◌, length, ap, sym, subst, arith, rules, length-append, length-drop}
use Rattle.migration.specs.Targets.{AreOpen, disks_of}
use Rattle.migration.proofs.Lists.{taken-next}
use Rattle.migration.proofs.Opening.{open-more, not-opened}
use Rattle.migration.proofs.targets.open_books.Goals as goal

pub unwrap-disk-requires : goal.unwrap-disk-requires
unwrap-disk-requires g c =
    let i = c.loop-clock.invariant in
    let some : 0 < length c.loop-clock.rest.items = omega (arith, ap length i.rest, length-drop c.loop-clock.clock c.args.disks.items, c.loop-clock-test.true, c.requires) in
    search rules

pub close_books-disks-requires : goal.close_books-disks-requires
close_books-disks-requires g c =
    let i = c.loop-clock.invariant in
    let is : c.loop-clock.rest.items ≡ c.unwrap-disk.result ∷ c.pop_front.new.self.items = search rules in
    omega (arith, i.room, i.count, ap length i.rest, length-drop c.loop-clock.clock c.args.disks.items, c.loop-clock-test.true, c.requires, ap length is, ap length c.push_front_reserved.ensures.items, c.pop_front.ensures.capacity, c.push_front_reserved.ensures.capacity)

pub returns-in-loop-clock-clause-err : goal.returns-in-loop-clock-clause-err
returns-in-loop-clock-clause-err g c =
    let i = c.loop-clock.invariant in
    let is : c.loop-clock.rest.items ≡ c.unwrap-disk.result ∷ c.pop_front.new.self.items = search rules in
    let next = taken-next c.args.disks.items c.pop_front.new.self.items c.loop-clock.clock c.unwrap-disk.result (sym is ∙ i.rest) in
    not-opened g.D.Disk.shown c.args.terms.now c.args.digest.now c.args.disks.items c.pop_front.new.self.items c.loop-clock.books.items c.loop-clock.clock c.unwrap-disk.result c.in-Err.unopened.disk c.in-Err.unopened.fault
    i.are i.count next c.in-Err.ensures.err c.close_books-disks.result.items (c.close_books-disks.ensures ∙ ap (λ l. disks_of c.loop-clock.books.items ++ l) c.push_front_reserved.ensures.items)

pub loop-clock-preserved : goal.loop-clock-preserved
loop-clock-preserved g c =
    let i = c.loop-clock.invariant in
    let is : c.loop-clock.rest.items ≡ c.unwrap-disk.result ∷ c.pop_front.new.self.items = search rules in
    let next = taken-next c.args.disks.items c.pop_front.new.self.items c.loop-clock.clock c.unwrap-disk.result (sym is ∙ i.rest) in
    let more = length-append c.loop-clock.books.items (c.in-Ok-open.book ∷ []) in
    record {
      are = subst (λ l. AreOpen g.D.Disk.shown c.args.terms.now c.args.digest.now c.args.disks.items l) (sym c.push_reserved.ensures.items)
          (open-more g.D.Disk.shown c.args.terms.now c.args.digest.now c.args.disks.items c.pop_front.new.self.items c.loop-clock.books.items c.loop-clock.clock c.unwrap-disk.result c.in-Ok-open.book i.are i.count next c.in-Ok-open.ensures.ok);
      count = omega (arith, ap length c.push_reserved.ensures.items, more, i.count);
      rest = next.rest;
      room = omega (arith, i.room, c.pop_front.ensures.capacity);
      space = omega (arith, i.space, c.push_reserved.ensures.capacity);
    }

pub returns-clause-room : goal.returns-clause-room
returns-clause-room g c =
    let i = c.loop-clock.invariant in (
      omega (arith, ap length i.rest, length-drop c.loop-clock.clock c.args.disks.items, c.loop-clock-test.false, c.requires),
      i.room,
    )
