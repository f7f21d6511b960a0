use Rattle.clock.specs.Reports.{ClockHistory, histories}
use Rattle.settlement.proofs.Histories.{length-histories, at-histories, at-all}
use Rattle.std.proofs.Common.{◌≡◌, ◌+◌, take, drop, ◌∙◌, ap}
use Rattle.std.specs.Prelude.{find}
use Rattle.lot_base.specs.declared.phases.Phase.TheVariants.{Ended}
use Rattle.clock.specs.Standing.{phase_of}
use Rattle.clock.specs.Judging.{IsLegal}
use Rattle.settlement.specs.Clocks.{has_no_choice}
use Rattle.settlement.proofs.Firsts.{of_first, first-without, rows-more}
use Rattle.settlement.proofs.Zips.{around, all-next}
use Rattle.settlement.proofs.choosing.clock_rows.Goals as goal

pub returns-in-None : goal.returns-in-None
returns-in-None c =
    let clocks = histories c.args.clocks.now in
    let clock = c.clock-item.result.history in
    let i = c.loop-clock.clock-index in
    let first = ap (find has_no_choice) (around clocks i clock (rw length-histories c.loop-clock-test.true) (at-histories c.args.clocks.now i c.clock-item.result c.clock-item.is))
    ∙ first-without (take i clocks) (drop (i + 1) clocks) clock c.loop-clock.rows.items c.loop-clock.invariant.0 (rw c.in-None.is at c.in_ok-row.ensures) in
    of_first has_no_choice clocks (λ k. c.number-number.result ≡ k.number) clock first c.number-number.ensures.value

pub loop-clock-preserved : goal.loop-clock-preserved
loop-clock-preserved c = (
  rows-more (histories c.args.clocks.now) c.clock-item.result.history c.loop-clock.rows.items c.push.new.self.items c.in-Some.row c.loop-clock.clock-index (rw length-histories c.loop-clock-test.true) (at-histories c.args.clocks.now c.loop-clock.clock-index c.clock-item.result c.clock-item.is) (rw c.in-Some.is at c.in_ok-row.ensures) c.in_ok-push-in-Some.ensures.items c.loop-clock.invariant.0,
  all-next IsLegal (histories c.args.clocks.now) c.loop-clock.clock-index c.clock-item.result.history (rw length-histories c.loop-clock-test.true) (at-histories c.args.clocks.now c.loop-clock.clock-index c.clock-item.result c.clock-item.is) c.loop-clock.invariant.1 c.number-number.ensures.legal,
)

pub clock_row-requires-clause-terms : goal.clock_row-requires-clause-terms
clock_row-requires-clause-terms c =
    at-all (λ (k : ClockHistory). k.terms ≡ c.args.terms.now) c.args.clocks.now c.loop-clock.clock-index c.clock-item.result c.loop-clock-test.true c.clock-item.is c.requires.terms

pub clock_row-requires-clause-ended : goal.clock_row-requires-clause-ended
clock_row-requires-clause-ended c =
    at-all (λ (k : ClockHistory). phase_of k ≡ Ended) c.args.clocks.now c.loop-clock.clock-index c.clock-item.result c.loop-clock-test.true c.clock-item.is c.requires.ended
