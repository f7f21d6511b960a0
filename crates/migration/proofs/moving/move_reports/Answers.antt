use Rattle.std.proofs.Common.{◌≤◌, length, arith}
use Rattle.house_io.specs.Disks.{told_moments}
use Rattle.migration.proofs.Offering.{goes-further, one-gone, stands-whole}
use Rattle.migration.proofs.moving.move_reports.Goals as goal

pub returns-in-Err-clause-goes_on : goal.returns-in-Err-clause-goes_on
returns-in-Err-clause-goes_on g c =
    let i = c.loop-place.invariant in
    goes-further g.D.Disk.shown c.args.source.now.history c.args.book.now c.loop-place.book c.offer_next.new.book i.longer i.goes c.in-Err.ensures.goes_on

pub loop-place-preserved : goal.loop-place-preserved
loop-place-preserved g c =
    one-gone g.D.Disk.shown c.args.source.now.history c.loop-place.place c.args.book.now c.loop-place.book c.offer_next.new.book c.loop-place.invariant c.in-Ok.ensures.goes_on c.in-Ok.ensures.first c.in-Ok.ensures.steady

pub returns-clause-whole : goal.returns-clause-whole
returns-clause-whole g c told =
    let i = c.loop-place.invariant in
    let all : length c.args.source.now.history.reports ≤ c.loop-place.place = omega (arith, c.loop-place-test.false, c.count-place-end.ensures.value) in
    stands-whole g.D.Disk.shown c.args.source.now.history c.loop-place.place c.args.book.now c.loop-place.book (told_moments (g.D.Disk.shown c.loop-place.book.disk)) i.has i.goes.origin all (c.clock-kept.ensures.kept.stands told)
