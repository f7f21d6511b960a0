use Rattle.std.proofs.Common.{arith, rules, ◌≡◌, ◌++◌, [], ◌∷◌, length, ap, refl, length-append}
use Rattle.clock_family.specs.Opening.{IsUnused}
use Rattle.clock_family.proofs.Rows.{all-popped}
use Rattle.clock_family.proofs.Unused.{none-taken, taken-more, all-taken}
use Rattle.clock_family.proofs.opening.given_back.Goals as goal

pub loop-stand-init : goal.loop-stand-init
loop-stand-init g c = record {
  taken = none-taken g.D.Disk.shown c.args.laid.items c.args.rest.items c.args.laid.items c.args.rest.items refl refl;
  unused = c.requires.unused;
  room = c.requires.room;
}

pub into_disk-requires : goal.into_disk-requires
into_disk-requires g c =
    let is : c.loop-stand.laid.items ≡ c.pop.new.self.items ++ c.in-Some.stand ∷ [] = search rules in
    record { unused = (all-popped (IsUnused {D = g.row.D.Denot}) c.loop-stand.laid.items c.pop.new.self.items c.in-Some.stand is c.loop-stand.invariant.unused).1 }

pub loop-stand-preserved : goal.loop-stand-preserved
loop-stand-preserved g c =
    let i = c.loop-stand.invariant in
    let is : c.loop-stand.laid.items ≡ c.pop.new.self.items ++ c.in-Some.stand ∷ [] = search rules in
    let shorter = length-append c.pop.new.self.items (c.in-Some.stand ∷ []) in
    record {
      taken = taken-more g.D.Disk.shown c.args.laid.items c.args.rest.items c.loop-stand.laid.items c.pop.new.self.items c.in-Some.stand c.loop-stand.disks.items c.push_front_reserved.new.self.items c.into_disk.result
          i.taken is c.into_disk.ensures.given_back c.push_front_reserved.ensures.items;
      unused = (all-popped (IsUnused {D = g.row.D.Denot}) c.loop-stand.laid.items c.pop.new.self.items c.in-Some.stand is i.unused).0;
      room = omega (arith, i.room, ap length is, ap length c.push_front_reserved.ensures.items, shorter, c.push_front_reserved.ensures.capacity);
    }

pub returns : goal.returns
returns g c =
    let none : length c.loop-stand.laid.items ≡ 0 = search rules in
    all-taken g.D.Disk.shown c.args.laid.items c.args.rest.items c.loop-stand.laid.items c.loop-stand.disks.items c.into_vec.result.items c.loop-stand.invariant.taken none c.into_vec.ensures.items
