use Rattle.std.proofs.Common.{◌<◌, length, subst, arith}
use Rattle.clock.specs.Reports.{ClockHistory, histories}
use Rattle.migration.specs.Moving.{IsNoFrontAt}
use Rattle.migration.specs.Targets.{IsFrontOf}
use Rattle.migration.proofs.Lists.{history-at}
use Rattle.migration.proofs.Matching.{front-more, first-off}
use Rattle.migration.proofs.fronts.check_fronts.Goals as goal

pub returns-in-Ok-Some-clause-err : goal.returns-in-Ok-Some-clause-err
returns-in-Ok-Some-clause-err g c =
    let n = c.loop-clock.clock in
    let k = c.index-clocks-clock.result in
    let within : n < length c.args.books.now = omega (arith, c.loop-clock-test.true, c.requires.books) in
    let below : n < length c.args.clocks.now = omega (arith, c.loop-clock-test.true, c.requires.clocks) in
    let F : ClockHistory → Type 0 = λ h. IsNoFrontAt c.in-Ok-Some.number h.reports k.history.reports in
    first-off (histories c.args.clocks.now) c.args.books.now n c.in-Ok-Some.number c.index-books-clock.result k.history c.loop-clock.invariant within c.index-books-clock.is
    (λ d. history-at c.args.clocks.now n k d below c.index-clocks-clock.is) (subst F c.clock-target.ensures.value (rw c.in-Ok-Some.field-0-is at c.in-Ok-Some.ensures))

pub loop-clock-preserved : goal.loop-clock-preserved
loop-clock-preserved g c =
    let n = c.loop-clock.clock in
    let k = c.index-clocks-clock.result in
    let within : n < length c.args.books.now = omega (arith, c.loop-clock-test.true, c.requires.books) in
    let below : n < length c.args.clocks.now = omega (arith, c.loop-clock-test.true, c.requires.clocks) in
    let F : ClockHistory → Type 0 = λ h. IsFrontOf h.reports k.history.reports in
    front-more (histories c.args.clocks.now) c.args.books.now n c.index-books-clock.result k.history c.loop-clock.invariant within c.index-books-clock.is
    (λ d. history-at c.args.clocks.now n k d below c.index-clocks-clock.is) (subst F c.clock-target.ensures.value (rw c.in-Ok-None.field-0-is at c.in-Ok-None.ensures))
