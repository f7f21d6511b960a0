use Rattle.std.proofs.Common.{refl, arith, ◌∙◌, ◌<◌, ◌≤◌, length}
use Rattle.std.proofs.lemmas.Option.{slice_get_read}
use Rattle.demand_set.specs.declared.reports.Report.{Report}
use Rattle.session.proofs.Clocks.{alike, still, hall_answer, own_clock}
use Rattle.session.proofs.list_hall.ListHallHall.offer.Goals as goal

pub returns-clause-order : goal.returns-clause-order
returns-clause-order g c =
    let clocks = c.args.self.now.clocks.items in
    let r : Report = record { bidder = c.args.bidder; round = c.args.round; demand = c.args.demand } in
    let some = c.requires.order.some in
    let lt : c.args.clock < length clocks = omega (arith, some, c.requires.clock) in
    let at = slice_get_read clocks (length clocks) c.args.clock c.index_mut.result.now refl lt c.index_mut.ensures.value in
    (still clocks c.args.clock c.index_mut.result.now c.offer_to.new.clock lt at (alike c.index_mut.result.now c.offer_to.new.clock r c.offer_to.result c.offer_to.ensures) c.requires.order).0

pub returns-clause-stays : goal.returns-clause-stays
returns-clause-stays g c =
    let clocks = c.args.self.now.clocks.items in
    let r : Report = record { bidder = c.args.bidder; round = c.args.round; demand = c.args.demand } in
    let some = c.requires.order.some in
    let lt : c.args.clock < length clocks = omega (arith, some, c.requires.clock) in
    let at = slice_get_read clocks (length clocks) c.args.clock c.index_mut.result.now refl lt c.index_mut.ensures.value in
    let s = still clocks c.args.clock c.index_mut.result.now c.offer_to.new.clock lt at (alike c.index_mut.result.now c.offer_to.new.clock r c.offer_to.result c.offer_to.ensures) c.requires.order in
    (s.1, s.2)

pub returns-clause-answer : goal.returns-clause-answer
returns-clause-answer g c =
    let clocks = c.args.self.now.clocks.items in
    let r : Report = record { bidder = c.args.bidder; round = c.args.round; demand = c.args.demand } in
    let some = c.requires.order.some in
    let lt : c.args.clock < length clocks = omega (arith, some, c.requires.clock) in
    let at = slice_get_read clocks (length clocks) c.args.clock c.index_mut.result.now refl lt c.index_mut.ensures.value in
    (c.index_mut.result.now, c.offer_to.new.clock, at, refl, c.offer_to.ensures)

pub returns-clause-refusal : goal.returns-clause-refusal
returns-clause-refusal g c =
    let clocks = c.args.self.now.clocks.items in
    let r : Report = record { bidder = c.args.bidder; round = c.args.round; demand = c.args.demand } in
    let some = c.requires.order.some in
    let lt : c.args.clock < length clocks = omega (arith, some, c.requires.clock) in
    let at = slice_get_read clocks (length clocks) c.args.clock c.index_mut.result.now refl lt c.index_mut.ensures.value in
    let here = c.requires.order.each c.args.clock c.index_mut.result.now at in
    let high : c.args.bidder ≤ c.index_mut.result.now.history.terms.bidders = omega (arith, here.bidders_are, c.requires.bidder.at_most) in
    hall_answer c.args.clock c.index_mut.result.now c.offer_to.new.clock r c.offer_to.result (λ e. own_clock c.index_mut.result.now.history r c.requires.bidder.at_least high e ∙ here.number) c.offer_to.ensures
