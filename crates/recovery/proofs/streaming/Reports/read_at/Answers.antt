use Rattle.std.proofs.Common.{◌∙◌, ◌+◌, IsTrue, ap, subst, arith}
use Rattle.house_io.specs.Disks.{is_told, told_moments}
use Rattle.std.specs.List.{slice_get}
use Rattle.house_io.specs.Moments.{Moments}
use Rattle.report_journal.specs.Scans.{places_in}
use Rattle.recovery.specs.Entries.{IsReportOf}
use Rattle.recovery.specs.Journaled.{owner_of}
use Rattle.recovery.specs.Streams.{ReportsOf, IsReportAt, HasNoReportAt}
use Rattle.recovery.proofs.Giving.{few-places, short-place, within-places, answers-report, answers-none}
use Rattle.recovery.proofs.streaming.Reports.read_at.Goals as goal

pub cover-requires : goal.cover-requires
cover-requires g c =
    short-place c.self.inside.scan c.self.inside.given c.args.place c.self.invariant.0 (ap (λ (r : ReportsOf). slice_get (places_in r.scan) r.given) c.self.view_is ∙ c.requires.next)

pub overflow_cast-number : goal.overflow_cast-number
overflow_cast-number g c = omega (arith, few-places c.self.inside.scan c.self.invariant.0, c.self.invariant.1)

pub overflow_add-number : goal.overflow_add-number
overflow_add-number g c = omega (arith, few-places c.self.inside.scan c.self.invariant.0, c.self.invariant.1)

pub overflow_add-self : goal.overflow_add-self
overflow_add-self g c = omega (arith, few-places c.self.inside.scan c.self.invariant.0, c.self.invariant.1)

pub invariant_of-self-in-Ok-Some : goal.invariant_of-self-in-Ok-Some
invariant_of-self-in-Ok-Some g c =
    let there = ap (λ (r : ReportsOf). slice_get (places_in r.scan) r.given) c.self.view_is ∙ c.requires.next in
    let below = within-places (places_in c.self.inside.scan) c.self.inside.given c.args.place there in
    (c.self.invariant.0, omega (arith, below), c.self.invariant.2)

pub returns-in-Ok-None-clause-answer : goal.returns-in-Ok-None-clause-answer
returns-in-Ok-None-clause-answer g c given has =
    let inside = c.self.inside in
    let view : ReportsOf = record { owner = owner_of inside.terms inside.clock inside.digest; scan = inside.scan; given = inside.given; broken = inside.broken; window = inside.window } in
    let unbroken = ap (λ (r : ReportsOf). r.broken) c.self.view_is ∙ c.requires.unbroken in
    let there = ap (λ (r : ReportsOf). slice_get (places_in r.scan) r.given) c.self.view_is ∙ c.requires.next in
    let none : HasNoReportAt (record view { window = c.cover.new.self }) c.args.place = rw c.in-Ok-None.field-0-is at c.in-Ok-None.ensures.none in
    answers-none view c.args.self.now c.self.view_is unbroken (c.self.invariant.2 unbroken) (IsTrue (is_told (g.D.Disk.shown c.args.disk.now))) (IsTrue (is_told (g.D.Disk.shown c.cover.new.disk))) c.cover.new.self c.args.place given
    (told_moments (g.D.Disk.shown c.args.disk.now)).now.read (told_moments (g.D.Disk.shown c.cover.new.disk)).now.read there c.cover.ensures.reads.later.told
    (λ t. ap (λ (ms : Moments). ms.now.read) (c.cover.ensures.reads.same t)) c.cover.ensures.window has
    (inside.given + 1) c.break_off.new.self c.break_off.result none c.in_default.ensures.covers (omega arith) c.break_off.ensures.kept c.break_off.ensures.answer

pub returns-in-Ok-Some-clause-answer : goal.returns-in-Ok-Some-clause-answer
returns-in-Ok-Some-clause-answer g c given has =
    let inside = c.self.inside in
    let view : ReportsOf = record { owner = owner_of inside.terms inside.clock inside.digest; scan = inside.scan; given = inside.given; broken = inside.broken; window = inside.window } in
    let unbroken = ap (λ (r : ReportsOf). r.broken) c.self.view_is ∙ c.requires.unbroken in
    let there = ap (λ (r : ReportsOf). slice_get (places_in r.scan) r.given) c.self.view_is ∙ c.requires.next in
    let some : IsReportAt (record view { window = c.cover.new.self }) c.args.place c.in-Ok-Some.report = rw c.in-Ok-Some.field-0-is at c.in-Ok-Some.ensures.some in
    answers-report view c.args.self.now c.self.view_is unbroken (c.self.invariant.2 unbroken) (IsTrue (is_told (g.D.Disk.shown c.args.disk.now))) (IsTrue (is_told (g.D.Disk.shown c.cover.new.disk))) c.cover.new.self c.args.place given
    (told_moments (g.D.Disk.shown c.args.disk.now)).now.read (told_moments (g.D.Disk.shown c.cover.new.disk)).now.read there c.cover.ensures.reads.later.told
    (λ t. ap (λ (ms : Moments). ms.now.read) (c.cover.ensures.reads.same t)) c.cover.ensures.window has c.in-Ok-Some.report some

pub returns-in-Ok-Some-clause-goes_on : goal.returns-in-Ok-Some-clause-goes_on
returns-in-Ok-Some-clause-goes_on g c =
    let inside = c.self.inside in
    let view : ReportsOf = record { owner = owner_of inside.terms inside.clock inside.digest; scan = inside.scan; given = inside.given; broken = inside.broken; window = inside.window } in
    let some : IsReportAt (record view { window = c.cover.new.self }) c.args.place c.in-Ok-Some.report = rw c.in-Ok-Some.field-0-is at c.in-Ok-Some.ensures.some in (
      ap (λ (r : ReportsOf). record r { given = r.given + 1; window = c.cover.new.self }) c.self.view_is,
      within-places (places_in c.args.self.now.scan) c.args.self.now.given c.args.place c.requires.next,
      subst (λ (r : ReportsOf). IsReportOf r.owner.terms c.in-Ok-Some.report) c.self.view_is some.report,
    )
