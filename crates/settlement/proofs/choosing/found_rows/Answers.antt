use Rattle.std.proofs.Common.{◌≡◌, ◌<◌, ◌+◌, ◌∷◌, take, drop, length, false, true, Some, None, ◌∙◌, ap, arith}
use Rattle.std.specs.Prelude.{find}
use Rattle.std.specs.Vec.Iter.{into_iter_items}
use Rattle.lot_base.specs.declared.phases.Phase.TheVariants.{Ended}
use Rattle.clock.specs.Judging.{IsLegal}
use Rattle.clock.specs.Reports.{ClockHistory, histories}
use Rattle.clock.specs.Standing.{phase_of}
use Rattle.settlement.specs.Clocks.{has_no_choice, choice_of}
use Rattle.settlement.specs.Found.{IsFoundOf}
use Rattle.settlement.proofs.Firsts.{of_first, first-without, rows-more}
use Rattle.settlement.proofs.Histories.{length-histories, at-histories, at-all}
use Rattle.settlement.proofs.Zips.{around, all-next, zip-first, zip-rest, zip-some}
use Rattle.settlement.proofs.choosing.found_rows.Goals as goal

pub returns-in-Some-None : goal.returns-in-Some-None
returns-in-Some-None c =
    let clocks = histories c.args.clocks.now in
    let clock = c.clock-item.result.history in
    let i = c.loop-clock.clock-index in
    let rest = into_iter_items c.next.new.self in
    let long = length-histories c.args.clocks.now in
    let below : i < length clocks = omega (arith, long, c.loop-clock-test.true) in
    let here = at-histories c.args.clocks.now i c.clock-item.result c.clock-item.is in
    let found = zip-first IsFoundOf clocks (into_iter_items c.loop-clock.found) rest i clock None below here c.loop-clock.invariant.left (c.in-Some-None.ensures.items ∙ ap (λ o. o ∷ rest) c.in-Some-None.field-0-is) in
    let none : choice_of clock ≡ None = found (at-all (λ (k : ClockHistory). phase_of k ≡ Ended) c.args.clocks.now i c.clock-item.result c.loop-clock-test.true c.clock-item.is c.requires.ended) in
    let first = ap (find has_no_choice) (around clocks i clock below here) ∙ first-without (take i clocks) (drop (i + 1) clocks) clock c.loop-clock.rows.items c.loop-clock.invariant.rows none in
    of_first has_no_choice clocks (λ k. c.number-number.result ≡ k.number) clock first c.number-number.ensures.value

pub unreachable-requires : goal.unreachable-requires
unreachable-requires c =
    let clocks = histories c.args.clocks.now in
    let i = c.loop-clock.clock-index in
    let long = length-histories c.args.clocks.now in
    let below : i < length clocks = omega (arith, long, c.loop-clock-test.true) in
    let some = zip-some IsFoundOf clocks (into_iter_items c.loop-clock.found) i below c.loop-clock.invariant.left in
    absurd (let e : false ≡ true = c.in-None.ensures.variant.1 (omega (arith, some, c.loop-clock.invariant.count)) in cc)

pub loop-clock-preserved : goal.loop-clock-preserved
loop-clock-preserved c =
    let clocks = histories c.args.clocks.now in
    let clock = c.clock-item.result.history in
    let i = c.loop-clock.clock-index in
    let rest = into_iter_items c.next.new.self in
    let row = c.in-Some-Some.row in
    let long = length-histories c.args.clocks.now in
    let below : i < length clocks = omega (arith, long, c.loop-clock-test.true) in
    let here = at-histories c.args.clocks.now i c.clock-item.result c.clock-item.is in
    let is = c.in-Some-Some.ensures.items ∙ ap (λ o. o ∷ rest) c.in-Some-Some.field-0-is in
    let found = zip-first IsFoundOf clocks (into_iter_items c.loop-clock.found) rest i clock (Some row) below here c.loop-clock.invariant.left is in
    let ended = at-all (λ (k : ClockHistory). phase_of k ≡ Ended) c.args.clocks.now i c.clock-item.result c.loop-clock-test.true c.clock-item.is c.requires.ended in
    let short = ap length is in
    let gone = c.in-Some-Some.ensures.len in
    record {
      count = omega (arith, short, gone, c.loop-clock.invariant.count);
      left = zip-rest IsFoundOf clocks (into_iter_items c.loop-clock.found) rest i (Some row) below c.loop-clock.invariant.left is;
      rows = rows-more clocks clock c.loop-clock.rows.items c.push.new.self.items row i below here (found ended) c.in_ok-push-in-Some-Some.ensures.items c.loop-clock.invariant.rows;
      legal = all-next IsLegal clocks i clock below here c.loop-clock.invariant.legal c.number-number.ensures.legal;
    }
