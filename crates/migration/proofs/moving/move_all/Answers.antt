use Rattle.std.proofs.Common.{◌≡◌, ◌<◌, length, get_or, arith}
use Rattle.std.proofs.lemmas.List.{length-map}
use Rattle.clock.specs.Reports.{histories}
use Rattle.migration.proofs.Lists.{any-default, history-at}
use Rattle.migration.proofs.Offering.{all-offered, ready-at, more-offered, not-offered}
use Rattle.migration.proofs.moving.move_all.Goals as goal

pub move_reports-requires : goal.move_reports-requires
move_reports-requires g c =
    let i = c.loop-clock.invariant in
    let n = c.loop-clock.clock in
    let k = c.index-clocks-clock.result in
    let mine = get_or c.loop-clock.books n c.index-books-clock.result in
    let within : n < length c.args.books.now = omega (arith, c.loop-clock-test.true, c.requires.count) in
    let inside : n < length c.loop-clock.books = (let s = i.count in omega (arith, s, within)) in
    let ready = c.requires.ready in
    let below : n < length c.args.clocks.now = (let s = ready.count in omega (arith, s, within, length-map c.args.clocks.now (λ x. x.history))) in
    ready-at g.D.Disk.shown (histories c.args.clocks.now) c.args.books.now c.loop-clock.books n k.history mine ready i within (any-default c.loop-clock.books n c.index-books-clock.result mine inside)
    (λ d. history-at c.args.clocks.now n k d below c.index-clocks-clock.is)

pub returns-in-Err : goal.returns-in-Err
returns-in-Err g c =
    let i = c.loop-clock.invariant in
    let n = c.loop-clock.clock in
    let k = c.index-clocks-clock.result in
    let mine = get_or c.loop-clock.books n c.index-books-clock.result in
    let within : n < length c.args.books.now = omega (arith, c.loop-clock-test.true, c.requires.count) in
    let inside : n < length c.loop-clock.books = (let s = i.count in omega (arith, s, within)) in
    let ready = c.requires.ready in
    let below : n < length c.args.clocks.now = (let s = ready.count in omega (arith, s, within, length-map c.args.clocks.now (λ x. x.history))) in
    not-offered g.D.Disk.shown (histories c.args.clocks.now) c.args.books.now c.loop-clock.books n k.history mine c.move_reports.new.book i within (any-default c.loop-clock.books n c.index-books-clock.result mine inside)
    (λ d. history-at c.args.clocks.now n k d below c.index-clocks-clock.is) c.in-Err.ensures.goes_on c.in-Err.stopped c.fault_at.result c.fault_at.ensures c.in-Err.ensures.err

pub loop-clock-preserved : goal.loop-clock-preserved
loop-clock-preserved g c =
    let i = c.loop-clock.invariant in
    let n = c.loop-clock.clock in
    let k = c.index-clocks-clock.result in
    let mine = get_or c.loop-clock.books n c.index-books-clock.result in
    let within : n < length c.args.books.now = omega (arith, c.loop-clock-test.true, c.requires.count) in
    let inside : n < length c.loop-clock.books = (let s = i.count in omega (arith, s, within)) in
    let ready = c.requires.ready in
    let below : n < length c.args.clocks.now = (let s = ready.count in omega (arith, s, within, length-map c.args.clocks.now (λ x. x.history))) in
    more-offered g.D.Disk.shown (histories c.args.clocks.now) c.args.books.now c.loop-clock.books n k.history mine c.move_reports.new.book i within (any-default c.loop-clock.books n c.index-books-clock.result mine inside)
    (λ d. history-at c.args.clocks.now n k d below c.index-clocks-clock.is) c.in-Ok.ensures.goes_on c.in-Ok.ensures.steady c.in-Ok.ensures.whole

pub returns : goal.returns
returns g c =
    let e : c.loop-clock.clock ≡ length c.args.books.now = omega (arith, c.loop-clock-test.false, c.loop-clock.auto.clock-end, c.requires.count) in
    all-offered g.D.Disk.shown (histories c.args.clocks.now) c.args.books.now c.loop-clock.books c.loop-clock.clock e c.loop-clock.invariant
