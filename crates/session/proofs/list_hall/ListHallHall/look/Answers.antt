use Rattle.std.proofs.Common.{refl, arith, ap, ◌∙◌, ◌<◌, length}
use Rattle.std.proofs.lemmas.Option.{slice_get_read}
use Rattle.session.proofs.Clocks.{good_of}
use Rattle.session.proofs.list_hall.ListHallHall.look.Goals as goal

pub returns-clause-answer : goal.returns-clause-answer
returns-clause-answer g c =
    let clocks = c.args.self.now.clocks.items in
    let some = c.requires.order.some in
    let lt : c.args.clock < length clocks = omega (arith, some, c.requires.clock) in (
      c.index.result.now,
      slice_get_read clocks (length clocks) c.args.clock c.index.result.now refl lt c.index.ensures,
      record { round = c.look.ensures.round; phase = c.look.ensures.phase; prices = c.look.ensures.prices },
      refl,
    )

pub returns-clause-shown : goal.returns-clause-shown
returns-clause-shown g c =
    let clocks = c.args.self.now.clocks.items in
    let some = c.requires.order.some in
    let lt : c.args.clock < length clocks = omega (arith, some, c.requires.clock) in
    let at = slice_get_read clocks (length clocks) c.args.clock c.index.result.now refl lt c.index.ensures in
    let here = c.requires.order.each c.args.clock c.index.result.now at in
    let size = ap length here.goods in
    record {
      prices = c.look.ensures.goods ∙ size;
      halted = good_of _ c.look.result.phase (λ good e. let h = (c.look.ensures.halted good e).0 in omega (arith, h, size));
    }
