use Rattle.std.proofs.Common.{◌≡◌, ◌∙◌, [], ◌∷◌, length, arith, sym, ap}
use Rattle.std.proofs.lemmas.List.{length-append}
use Rattle.house_run.proofs.GivingSteps.{books-begun, books-more, length-none}
use Rattle.house_run.proofs.giving_back.take_apart.Goals as goal

pub loop-book-init : goal.loop-book-init
loop-book-init g c =
    let back : c.args.books.items ≡ c.from_vec-rest.result.items = sym c.from_vec-rest.ensures.items in
    let l = ap length c.from_vec-rest.ensures.items in
    let r = c.requires.room in
    let e = c.requires.empty in
    record {
      apart = books-begun g.D.Disk.shown c.args.books.items c.from_vec-rest.result.items c.args.clocks.now.items c.args.disks.now.items back (length-none c.args.clocks.now.items e.0) (length-none c.args.disks.now.items e.1);
      clocks = let a = e.0 in let b = r.0 in omega arith;
      disks = let a = e.1 in let b = r.1 in omega arith;
    }

pub loop-book-preserved : goal.loop-book-preserved
loop-book-preserved g c =
    let i = c.loop-book.invariant in
    let is = c.in-Some.ensures.items in
    let left = c.pop_front.new.self.items in
    let book = c.in-Some.book in
    let l = ap length is in
    record {
      apart =
          books-more g.D.Disk.shown c.args.books.items c.loop-book.rest.items left book c.loop-book.clocks.items c.push_reserved.new.self.items c.into_parts-clock.result.0 c.loop-book.disks.items c.push_reserved-in-Some.new.self.items
          c.into_parts-clock.result.1 is i.apart c.clock-kept.ensures.kept c.into_parts-clock.ensures.clock c.into_parts-clock.ensures.disk c.push_reserved.ensures.items c.push_reserved-in-Some.ensures.items;
      clocks = let n = ap length c.push_reserved.ensures.items ∙ length-append c.loop-book.clocks.items (c.into_parts-clock.result.0 ∷ []) in let k = c.push_reserved.ensures.capacity in let r = i.clocks in omega arith;
      disks = let n = ap length c.push_reserved-in-Some.ensures.items ∙ length-append c.loop-book.disks.items (c.into_parts-clock.result.1 ∷ []) in let k = c.push_reserved-in-Some.ensures.capacity in let r = i.disks in omega arith;
    }
