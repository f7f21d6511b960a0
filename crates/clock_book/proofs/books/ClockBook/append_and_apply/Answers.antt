-- The journal is full, the disk fails, or the report is taken.
use Rattle.std.proofs.Common.{◌≡◌, ◌∙◌, ◌+◌, ◌≤◌, ℕ, IsTrue, List, length, Some, Err, refl, ap, subst, arith}
use Rattle.house_io.specs.Disks.{is_told, told_moments}
use Rattle.lot_base.specs.declared.limits.TheConstants.{GREATEST_FILE}
use Rattle.house_io.specs.Moments.{AtEach}
use Rattle.report_journal.specs.Puts.{IsBeforeOrAfter, with_one_more}
use Rattle.report_journal.specs.declared.faults.JournalFault.TheVariants as fault
use Rattle.recovery.specs.Entries.{payload_of}
use Rattle.clock_book.specs.Past.{owner_in}
use Rattle.clock_book.specs.Books.{kept_for}
use Rattle.clock_book.specs.Offers.{record_end}
use Rattle.clock_book.specs.declared.entries.Entry.TheVariants as entry
use Rattle.clock_book.proofs.Pasts.{at-either}
use Rattle.clock_book.proofs.Appending.{at-hand}
use Rattle.clock_book.proofs.Sizes.{room-for}
use Rattle.clock_book.proofs.Mending.{one-more, put-in-doubt, needed-is}
use Rattle.clock_book.proofs.books.ClockBook.append_and_apply.Goals as goal

pub take-requires-clause-room : goal.take-requires-clause-room
take-requires-clause-room g c =
    let b = c.self.inside in
    let j = b.journal in
    let k = c.append_hinted.new.self in
    let r = c.args.report in
    let h = at-hand b.start b.noted.clock c.args.self.now.state.clock b.pending c.args.self.now.state.pending j.pending r c.as_slice.result.now c.self.invariant.terms c.self.invariant.in_doubt (ap (λ v. v.state.pending) c.self.view_is) c.requires.settled
    (c.as_slice.ensures ∙ c.fill.ensures.payload ∙ ap (λ t. payload_of (length t.goods) r) c.terms.ensures) (ap (λ v. v.state.clock) c.self.view_is) c.requires.take c.requires.fits in
    let same : j.end + 6 + length c.as_slice.result.now ≡ record_end (owner_in b.start) b.noted.clock.reports r = ap (λ p. j.end + 6 + length p) h.spelled ∙ needed-is j j (IsTrue (is_told (g.D.Disk.shown j.disk))) (IsTrue (is_told (g.D.Disk.shown j.disk))) (told_moments (g.D.Disk.shown j.disk)) (told_moments (g.D.Disk.shown j.disk)) (g.D.Disk.shown j.disk).faults (g.D.Disk.shown j.disk).faults b.noted b.pending b.start c.self.invariant (λ t. t) (omega arith) r in
    let within : record_end (owner_in b.start) b.noted.clock.reports r ≤ GREATEST_FILE = subst (λ m. m ≤ GREATEST_FILE) same c.in-Ok.ensures.answer.0.fits in
    let room = room-for (owner_in b.start) b.noted (j.spare + kept_for b.pending) r c.self.invariant.room c.self.invariant.terms c.self.invariant.are h.report (c.clock-more.ensures.more r h.next.take) within in
    room.0

pub invariant_of-self : goal.invariant_of-self
invariant_of-self g c =
    let b = c.self.inside in
    let j = b.journal in
    let k = c.append_hinted.new.self in
    let r = c.args.report in
    let h = at-hand b.start b.noted.clock c.args.self.now.state.clock b.pending c.args.self.now.state.pending j.pending r c.as_slice.result.now c.self.invariant.terms c.self.invariant.in_doubt (ap (λ v. v.state.pending) c.self.view_is) c.requires.settled
    (c.as_slice.ensures ∙ c.fill.ensures.payload ∙ ap (λ t. payload_of (length t.goods) r) c.terms.ensures) (ap (λ v. v.state.clock) c.self.view_is) c.requires.take c.requires.fits in
    let A : List ℕ → Type 0 = λ p. AtEach (IsBeforeOrAfter j.contents p) (told_moments (g.D.Disk.shown j.disk)) (told_moments (g.D.Disk.shown k.disk)) in
    let call : IsTrue (is_told (g.D.Disk.shown k.disk)) → A (payload_of (length b.start.terms.goods) r) = λ t. subst A h.spelled (c.append_hinted.ensures.writes.2.leaves h.undoubted t).stand in
    let answer = c.in-Ok.ensures.answer in
    let zero : kept_for b.pending ≡ 0 = ap kept_for h.settled in
    rw h.settled (one-more j k (IsTrue (is_told (g.D.Disk.shown j.disk))) (IsTrue (is_told (g.D.Disk.shown k.disk))) (told_moments (g.D.Disk.shown j.disk)) (told_moments (g.D.Disk.shown k.disk)) (g.D.Disk.shown j.disk).faults (g.D.Disk.shown k.disk).faults b.noted b.pending b.start c.self.invariant c.append_hinted.ensures.later.told (omega (arith, c.in-Ok.ensures.faults)) c.take.new.self r (entry.Offered r) h.next answer.2
    (answer.1.end ∙ ap (λ p. j.end + 5 + length p) h.spelled) (omega (arith, answer.3, zero)) (λ t. (c.in-Ok.ensures.writes.2.end t).0 ∙ ap (with_one_more j.contents) h.spelled) call
    c.take.ensures.clock c.take.ensures.history refl refl c.take.ensures.reports c.take.ensures.quantities)

pub invariant_of-self-in-Err-DiskFault : goal.invariant_of-self-in-Err-DiskFault
invariant_of-self-in-Err-DiskFault g c =
    let b = c.self.inside in
    let j = b.journal in
    let k = c.append_hinted.new.self in
    let r = c.args.report in
    let h = at-hand b.start b.noted.clock c.args.self.now.state.clock b.pending c.args.self.now.state.pending j.pending r c.as_slice.result.now c.self.invariant.terms c.self.invariant.in_doubt (ap (λ v. v.state.pending) c.self.view_is) c.requires.settled
    (c.as_slice.ensures ∙ c.fill.ensures.payload ∙ ap (λ t. payload_of (length t.goods) r) c.terms.ensures) (ap (λ v. v.state.clock) c.self.view_is) c.requires.take c.requires.fits in
    let A : List ℕ → Type 0 = λ p. AtEach (IsBeforeOrAfter j.contents p) (told_moments (g.D.Disk.shown j.disk)) (told_moments (g.D.Disk.shown k.disk)) in
    let call : IsTrue (is_told (g.D.Disk.shown k.disk)) → A (payload_of (length b.start.terms.goods) r) = λ t. subst A h.spelled (c.append_hinted.ensures.writes.2.leaves h.undoubted t).stand in
    let was : c.append_hinted.result ≡ Err fault.DiskFault = c.in-Err-DiskFault.is ∙ ap (λ x. Err x) c.in-Err-DiskFault.field-0-is in
    let answer = rw was at c.append_hinted.ensures.answer in
    let counts = rw was at c.append_hinted.ensures.faults in
    let same : j.end + 6 + length c.as_slice.result.now ≡ record_end (owner_in b.start) b.noted.clock.reports r = ap (λ p. j.end + 6 + length p) h.spelled ∙ needed-is j j (IsTrue (is_told (g.D.Disk.shown j.disk))) (IsTrue (is_told (g.D.Disk.shown j.disk))) (told_moments (g.D.Disk.shown j.disk)) (told_moments (g.D.Disk.shown j.disk)) (g.D.Disk.shown j.disk).faults (g.D.Disk.shown j.disk).faults b.noted b.pending b.start c.self.invariant (λ t. t) (omega arith) r in
    let within : record_end (owner_in b.start) b.noted.clock.reports r ≤ GREATEST_FILE = subst (λ m. m ≤ GREATEST_FILE) same answer.0.fits in
    let room = room-for (owner_in b.start) b.noted (j.spare + kept_for b.pending) r c.self.invariant.room c.self.invariant.terms c.self.invariant.are h.report (c.clock-more.ensures.more r h.next.take) within in
    put-in-doubt j k (IsTrue (is_told (g.D.Disk.shown j.disk))) (IsTrue (is_told (g.D.Disk.shown k.disk))) (told_moments (g.D.Disk.shown j.disk)) (told_moments (g.D.Disk.shown k.disk)) (g.D.Disk.shown j.disk).faults (g.D.Disk.shown k.disk).faults b.noted b.pending b.start c.self.invariant c.append_hinted.ensures.later.told counts.0 c.mark.new.self r h.settled h.next room.0 (answer.2 ∙ ap (λ p. Some p) h.spelled) answer.1.end (omega (arith, answer.3))
    (λ t. rw was at (c.append_hinted.ensures.writes.2.end t)) counts.1 call c.mark.ensures.clock c.mark.ensures.history c.mark.ensures.reports c.mark.ensures.quantities

pub returns-in-Ok-clause-moments : goal.returns-in-Ok-clause-moments
returns-in-Ok-clause-moments g c =
    let b = c.self.inside in
    let j = b.journal in
    let k = c.append_hinted.new.self in
    let r = c.args.report in
    let h = at-hand b.start b.noted.clock c.args.self.now.state.clock b.pending c.args.self.now.state.pending j.pending r c.as_slice.result.now c.self.invariant.terms c.self.invariant.in_doubt (ap (λ v. v.state.pending) c.self.view_is) c.requires.settled
    (c.as_slice.ensures ∙ c.fill.ensures.payload ∙ ap (λ t. payload_of (length t.goods) r) c.terms.ensures) (ap (λ v. v.state.clock) c.self.view_is) c.requires.take c.requires.fits in
    let A : List ℕ → Type 0 = λ p. AtEach (IsBeforeOrAfter j.contents p) (told_moments (g.D.Disk.shown j.disk)) (told_moments (g.D.Disk.shown k.disk)) in
    let call : IsTrue (is_told (g.D.Disk.shown k.disk)) → A (payload_of (length b.start.terms.goods) r) = λ t. subst A h.spelled (c.append_hinted.ensures.writes.2.leaves h.undoubted t).stand in
    rw (← c.self.view_is) (λ t. at-either (owner_in b.start) b.noted.clock.reports r j.contents (told_moments (g.D.Disk.shown j.disk)) (told_moments (g.D.Disk.shown k.disk)) c.self.invariant.are h.report (c.self.invariant.contents (c.append_hinted.ensures.later.told t)) (call t))

pub returns-in-Err-Full-clause-moments : goal.returns-in-Err-Full-clause-moments
returns-in-Err-Full-clause-moments g c =
    let b = c.self.inside in
    let j = b.journal in
    let k = c.append_hinted.new.self in
    let r = c.args.report in
    let h = at-hand b.start b.noted.clock c.args.self.now.state.clock b.pending c.args.self.now.state.pending j.pending r c.as_slice.result.now c.self.invariant.terms c.self.invariant.in_doubt (ap (λ v. v.state.pending) c.self.view_is) c.requires.settled
    (c.as_slice.ensures ∙ c.fill.ensures.payload ∙ ap (λ t. payload_of (length t.goods) r) c.terms.ensures) (ap (λ v. v.state.clock) c.self.view_is) c.requires.take c.requires.fits in
    let A : List ℕ → Type 0 = λ p. AtEach (IsBeforeOrAfter j.contents p) (told_moments (g.D.Disk.shown j.disk)) (told_moments (g.D.Disk.shown k.disk)) in
    let call : IsTrue (is_told (g.D.Disk.shown k.disk)) → A (payload_of (length b.start.terms.goods) r) = λ t. subst A h.spelled (c.append_hinted.ensures.writes.2.leaves h.undoubted t).stand in
    rw (← c.self.view_is) (λ t. at-either (owner_in b.start) b.noted.clock.reports r j.contents (told_moments (g.D.Disk.shown j.disk)) (told_moments (g.D.Disk.shown k.disk)) c.self.invariant.are h.report (c.self.invariant.contents (c.append_hinted.ensures.later.told t)) (call t))

pub returns-in-Err-DiskFault-clause-moments : goal.returns-in-Err-DiskFault-clause-moments
returns-in-Err-DiskFault-clause-moments g c =
    let b = c.self.inside in
    let j = b.journal in
    let k = c.append_hinted.new.self in
    let r = c.args.report in
    let h = at-hand b.start b.noted.clock c.args.self.now.state.clock b.pending c.args.self.now.state.pending j.pending r c.as_slice.result.now c.self.invariant.terms c.self.invariant.in_doubt (ap (λ v. v.state.pending) c.self.view_is) c.requires.settled
    (c.as_slice.ensures ∙ c.fill.ensures.payload ∙ ap (λ t. payload_of (length t.goods) r) c.terms.ensures) (ap (λ v. v.state.clock) c.self.view_is) c.requires.take c.requires.fits in
    let A : List ℕ → Type 0 = λ p. AtEach (IsBeforeOrAfter j.contents p) (told_moments (g.D.Disk.shown j.disk)) (told_moments (g.D.Disk.shown k.disk)) in
    let call : IsTrue (is_told (g.D.Disk.shown k.disk)) → A (payload_of (length b.start.terms.goods) r) = λ t. subst A h.spelled (c.append_hinted.ensures.writes.2.leaves h.undoubted t).stand in
    rw (← c.self.view_is) (λ t. at-either (owner_in b.start) b.noted.clock.reports r j.contents (told_moments (g.D.Disk.shown j.disk)) (told_moments (g.D.Disk.shown k.disk)) c.self.invariant.are h.report (c.self.invariant.contents (c.append_hinted.ensures.later.told t)) (call t))
