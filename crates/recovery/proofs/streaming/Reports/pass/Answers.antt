-- The next report is passed as if it had been read.
use Rattle.std.proofs.Common.{◌∙◌, ◌+◌, IsTrue, ap, subst, sym, refl, length, arith}
use Rattle.house_io.specs.Disks.{is_told, told_moments}
use Rattle.report_journal.specs.Scans.{places_in}
use Rattle.recovery.specs.Entries.{Spells}
use Rattle.recovery.specs.Journaled.{owner_of}
use Rattle.recovery.specs.Streams.{ReportsOf, IsAhead, IsReportAt}
use Rattle.recovery.proofs.Giving.{few-places, answers-report}
use Rattle.recovery.proofs.streaming.Reports.pass.Goals as goal

pub overflow_add-self : goal.overflow_add-self
overflow_add-self c = omega (arith, few-places c.self.inside.scan c.self.invariant.0, c.self.invariant.1)

pub returns-clause-passes : goal.returns-clause-passes
returns-clause-passes c = λ r payload is spelled.
    let inside = c.self.inside in
    let view : ReportsOf = record { owner = owner_of inside.terms inside.clock inside.digest; scan = inside.scan; given = inside.given; broken = inside.broken; window = inside.window } in
    let unbroken = ap (λ (k : ReportsOf). k.broken) c.self.view_is ∙ c.requires.unbroken in
    let ahead : IsAhead view payload = subst (λ (k : ReportsOf). IsAhead k payload) (sym c.self.view_is) is in
    let spells : Spells view.owner.terms payload r = subst (λ (k : ReportsOf). Spells k.owner.terms payload r) (sym c.self.view_is) spelled in
    let at : IsReportAt view ahead.place r = record { report = spells.report; long = ahead.long ∙ ap length spells.is; read = λ file same. ahead.read file same ∙ spells.is } in
    record {
      goes_on = (ap (λ (k : ReportsOf). record k { given = k.given + 1; window = view.window }) c.self.view_is, c.requires.more, spelled.report);
      answers = λ disk given has.
          answers-report view c.args.self.now c.self.view_is unbroken (c.self.invariant.2 unbroken) (IsTrue (is_told disk)) (IsTrue (is_told disk)) view.window ahead.place given
          (told_moments disk).now.read (told_moments disk).now.read ahead.next (λ t. t) (λ t. refl) (λ t window. window) has r at;
    }
