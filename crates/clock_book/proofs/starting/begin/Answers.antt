use Rattle.std.proofs.Common.{◌≡◌, ◌∙◌, ◌+◌, ◌≤◌, IsTrue, List, ℕ, length, None, refl, sym, ap, subst, arith}
use Rattle.house_io.specs.Disks.{is_told, told_moments}
use Rattle.house_io.specs.Moments.{AtEach}
use Rattle.lot_base.specs.declared.auction_terms.Terms.{Terms}
use Rattle.clock.specs.Reports.{most_reports}
use Rattle.recovery.specs.Journaled.{owner_of}
use Rattle.clock_book.specs.declared.origins.Origin.{Origin}
use Rattle.clock_book.specs.Past.{IsAsOpened}
use Rattle.clock_book.specs.Books.{HasRoom, quantities_in, most_quantities}
use Rattle.clock_book.specs.DeskHistories.{reports_in, marks_in}
use Rattle.clock_book.proofs.Histories.{reports-opened, marks-opened}
use Rattle.clock_book.proofs.Begun.{not-begun, begun}
use Rattle.clock_book.proofs.starting.begin.Goals as goal

pub returns-in_default-clause-err : goal.returns-in_default-clause-err
returns-in_default-clause-err g c = not-begun g.D.Disk.shown (owner_of c.args.terms.now c.args.clock c.args.digest.now) c.args.disk c.args.disk refl c.requires.settled

pub invariant_of-result : goal.invariant_of-result
invariant_of-result g c =
    let owner = owner_of c.args.terms.now c.args.clock c.args.digest.now in
    let n = c.args.noted in
    let noted = c.requires.noted in
    let k = c.in-Ok-roomy_journal.journal in
    let laid = c.in-Ok-roomy_journal.ensures.laid n.clock.reports noted.found in
    let terms : n.clock.terms ≡ owner.terms = ap (λ h. h.terms) noted.history.is in
    let number : n.clock.number ≡ owner.clock = ap (λ h. h.number) noted.history.is in
    let seen : c.of-synced.result.value ≡ c.args.disk = c.of-synced.ensures in
    let R : List ℕ → Type 0 = λ f. AtEach (IsAsOpened owner f) (told_moments (g.D.Disk.shown c.args.disk)) (told_moments (g.D.Disk.shown k.disk)) in
    let origin : Origin = record {
      terms = c.args.terms.now;
      clock = c.args.clock;
      digest = c.args.digest.now;
      synced = length (told_moments (g.D.Disk.shown c.of-synced.result.value)).past;
      read = (told_moments (g.D.Disk.shown c.of-synced.result.value)).now.read;
      reports = c.count-reports.result;
      answered = length (told_moments (g.D.Disk.shown c.of.result.value.disk)).past;
      told = is_told (g.D.Disk.shown c.of.result.value.disk);
    } in
    let room : HasRoom n (k.spare + 0) = record {
      reports = subst (λ (t : Terms). most_reports t n.clock.number ≤ length n.clock.reports + n.spare_reports) (sym terms) (subst (λ (x : ℕ). most_reports owner.terms x ≤ length n.clock.reports + n.spare_reports) (sym number) noted.reports);
      quantities = subst (λ (t : Terms). most_quantities t n.clock.number ≤ quantities_in n.clock.reports + n.spare_quantities) (sym terms) (subst (λ (x : ℕ). most_quantities owner.terms x ≤ quantities_in n.clock.reports + n.spare_quantities) (sym number) noted.quantities);
      records_are = subst (λ (t : Terms). most_reports t n.clock.number ≤ length n.clock.reports + (k.spare + 0)) (sym terms) (subst (λ (x : ℕ). most_reports owner.terms x ≤ length n.clock.reports + (k.spare + 0)) (sym number) (omega (arith, c.most_reports-most.ensures.value, c.in-Ok-roomy_journal.ensures.roomy)));
    } in
    begun k (IsTrue (is_told (g.D.Disk.shown k.disk))) (told_moments (g.D.Disk.shown c.args.disk)) (told_moments (g.D.Disk.shown k.disk)) (g.D.Disk.shown k.disk).faults n origin terms number noted.found.are
    (c.count-reports.ensures.value ∙ ap (λ h. length h.reports) c.clock.ensures.value) laid.end laid.pending (ap reports_in noted.offered ∙ reports-opened n.clock.reports) (ap marks_in noted.offered ∙ marks-opened n.clock.reports) room laid.contents
    (λ t. (c.count-kept.ensures.kept t).stands) (λ t. ap (λ j. length (told_moments (g.D.Disk.shown j.disk)).past) c.of.ensures) (λ t. ap (λ d. length (told_moments (g.D.Disk.shown d)).past) seen)
    (λ t. subst R (sym (ap (λ d. (told_moments (g.D.Disk.shown d)).now.read) seen)) (laid.leaves t))
    (λ t. subst IsTrue (sym (ap (λ j. is_told (g.D.Disk.shown j.disk)) c.of.ensures)) t)

pub returns-in-Ok-roomy_journal-clause-ok : goal.returns-in-Ok-roomy_journal-clause-ok
returns-in-Ok-roomy_journal-clause-ok g c =
    let owner = owner_of c.args.terms.now c.args.clock c.args.digest.now in
    let n = c.args.noted in
    let noted = c.requires.noted in
    let k = c.in-Ok-roomy_journal.journal in
    let laid = c.in-Ok-roomy_journal.ensures.laid n.clock.reports noted.found in
    let seen : c.of-synced.result.value ≡ c.args.disk = c.of-synced.ensures in
    let R : List ℕ → Type 0 = λ f. AtEach (IsAsOpened owner f) (told_moments (g.D.Disk.shown c.args.disk)) (told_moments (g.D.Disk.shown k.disk)) in
    record {
      state = λ i. record { clock = n.clock; history = noted.offered i; pending = None };
      origin = record { terms_are = refl; clock_is = refl; digest_is = refl; reports_are = c.count-reports.ensures.value ∙ ap (λ h. length h.reports) c.clock.ensures.value };
      later = laid.later;
      told_is = ap (λ j. is_told (g.D.Disk.shown j.disk)) c.of.ensures;
      steady = laid.steady;
      leaves = λ t. record {
        each = subst R (sym (ap (λ d. (told_moments (g.D.Disk.shown d)).now.read) seen)) (laid.leaves t);
        read_is = ap (λ d. (told_moments (g.D.Disk.shown d)).now.read) seen;
        synced_is = ap (λ d. length (told_moments (g.D.Disk.shown d)).past) seen;
        answered_is = ap (λ j. length (told_moments (g.D.Disk.shown j.disk)).past) c.of.ensures;
      };
    }
