use Rattle.std.proofs.Common.{◌∙◌, IsTrue, Some, refl, ap, sym}
use Rattle.house_io.specs.Disks.{is_told, told_moments}
use Rattle.recovery.specs.declared.faults.JournalCause.TheVariants as cause
use Rattle.recovery.specs.Journaled.{owner_of}
use Rattle.recovery.specs.Streams.{ReportsOf}
use Rattle.recovery.proofs.Giving.{ended, answers-end, answers-damaged}
use Rattle.recovery.proofs.streaming.Reports.next.Goals as goal

pub returns-in-None-damaged_number-clause-answer : goal.returns-in-None-damaged_number-clause-answer
returns-in-None-damaged_number-clause-answer g c given has =
    let inside = c.self.inside in
    let view : ReportsOf = record { owner = owner_of inside.terms inside.clock inside.digest; scan = inside.scan; given = inside.given; broken = inside.broken; window = inside.window } in
    answers-end view c.args.self.now c.self.view_is c.in_default.is (c.self.invariant.2 c.in_default.is) (IsTrue (is_told (g.D.Disk.shown c.args.disk.now))) given (told_moments (g.D.Disk.shown c.args.disk.now)).now.read
    c.self.invariant.1 (sym c.in-None.ensures) (sym c.in-None-damaged_number.ensures) has

pub returns-in-None-damaged_number-clause-goes_on : goal.returns-in-None-damaged_number-clause-goes_on
returns-in-None-damaged_number-clause-goes_on g c =
    let inside = c.self.inside in
    let view : ReportsOf = record { owner = owner_of inside.terms inside.clock inside.digest; scan = inside.scan; given = inside.given; broken = inside.broken; window = inside.window } in
    (refl, ended view c.args.self.now c.self.view_is c.in_default.is (c.self.invariant.2 c.in_default.is) c.self.invariant.1 (sym c.in-None.ensures) (sym c.in-None-damaged_number.ensures))

pub returns-in-Some-damaged_number-clause-answer : goal.returns-in-Some-damaged_number-clause-answer
returns-in-Some-damaged_number-clause-answer g c given has =
    let inside = c.self.inside in
    let view : ReportsOf = record { owner = owner_of inside.terms inside.clock inside.digest; scan = inside.scan; given = inside.given; broken = inside.broken; window = inside.window } in
    answers-damaged view c.args.self.now c.self.view_is c.in_default.is (c.self.invariant.2 c.in_default.is) (IsTrue (is_told (g.D.Disk.shown c.args.disk.now))) given (told_moments (g.D.Disk.shown c.args.disk.now)).now.read
    c.in-Some-damaged_number.number c.break_off.new.self c.break_off.result c.self.invariant.1 (sym c.in-None.ensures) (sym c.in-Some-damaged_number.ensures) (c.break_off.ensures.kept ∙ ap (λ (r : ReportsOf). record r { broken = Some (record { number = c.in-Some-damaged_number.number; cause = cause.Damaged }) }) (sym c.self.view_is)) c.break_off.ensures.answer has
