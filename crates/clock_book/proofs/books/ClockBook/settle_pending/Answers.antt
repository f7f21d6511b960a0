-- The mend fails, finds nothing in doubt, drops the pending report or counts it.
use Rattle.std.proofs.Common.{◌≡◌, ◌≢◌, ◌∙◌, ℕ, IsTrue, length, slice_index, inl, inr, Some, None, Option, Ok, refl, sym, ap, subst, arith}
use Rattle.house_io.specs.Disks.{is_told, told_moments}
use Rattle.report_journal.specs.declared.spellings.TheConstants.{OPEN}
use Rattle.std.specs.Option.{option_map}
use Rattle.demand_set.specs.declared.reports.Report.{Report}
use Rattle.house_io.specs.Moments.{Moments, AtEach}
use Rattle.report_journal.specs.declared.faults.Mended.TheVariants.{Nothing, Counted, Dropped}
use Rattle.recovery.specs.Entries.{payload_of}
use Rattle.recovery.specs.Journaled.{StandsForReports}
use Rattle.clock_book.specs.Past.{owner_in, IsEither}
use Rattle.clock_book.specs.Books.{kept_for}
use Rattle.clock_book.specs.declared.entries.Entry.TheVariants as entry
use Rattle.clock_book.proofs.Pasts.{at-either}
use Rattle.clock_book.proofs.Nexts.{next-report}
use Rattle.clock_book.proofs.Mending.{some-pending, none-pending, waiting, failing, at-rest, mend-failed, mend-dropped, one-more}
use Rattle.clock_book.proofs.books.ClockBook.settle_pending.Goals as goal

pub invariant_of-self : goal.invariant_of-self
invariant_of-self g c =
    let b = c.self.inside in
    let j = b.journal in
    let k = c.mend.new.self in
    let owner = owner_in b.start in
    let payload = payload_of (length b.start.terms.goods) in
    let failed = failing j k (g.D.Disk.shown j.disk).faults (g.D.Disk.shown k.disk).faults c.in-Err.field-0 c.in-Err.ensures.answer c.in-Err.ensures.faults in
    let some = some-pending payload b.pending j.pending c.self.invariant.in_doubt failed.some in
    let doubt : j.pending ≡ Some (payload some.0) = c.self.invariant.in_doubt ∙ ap (option_map payload) some.1 in
    mend-failed j k (IsTrue (is_told (g.D.Disk.shown j.disk))) (IsTrue (is_told (g.D.Disk.shown k.disk))) (told_moments (g.D.Disk.shown j.disk)) (told_moments (g.D.Disk.shown k.disk)) (g.D.Disk.shown j.disk).faults (g.D.Disk.shown k.disk).faults
    b.noted b.pending b.start c.self.invariant c.mend.ensures.later.told failed.later c.mark.new.self some.0 c.args.offered.now some.1 failed.pending failed.keeps.end failed.spare (λ t. c.in-Err.ensures.end t) failed.rose
    (λ t. (c.mend.ensures.moments t).stand (payload some.0) doubt) c.mark.ensures.clock c.mark.ensures.history c.mark.ensures.reports c.mark.ensures.quantities

pub invariant_of-self-in-Ok-Dropped : goal.invariant_of-self-in-Ok-Dropped
invariant_of-self-in-Ok-Dropped g c =
    let b = c.self.inside in
    let j = b.journal in
    let k = c.mend.new.self in
    let owner = owner_in b.start in
    let payload = payload_of (length b.start.terms.goods) in
    let was : c.mend.result ≡ Ok Dropped = c.in-Ok-Dropped.is ∙ ap (λ x. Ok x) c.in-Ok-Dropped.field-0-is in
    let answer = rw was at c.mend.ensures.answer in
    let steady = rw was at c.mend.ensures.faults in
    let some = some-pending payload b.pending j.pending c.self.invariant.in_doubt answer.0 in
    let doubt : j.pending ≡ Some (payload some.0) = c.self.invariant.in_doubt ∙ ap (option_map payload) some.1 in
    mend-dropped j k (IsTrue (is_told (g.D.Disk.shown j.disk))) (IsTrue (is_told (g.D.Disk.shown k.disk))) (told_moments (g.D.Disk.shown j.disk)) (told_moments (g.D.Disk.shown k.disk)) (g.D.Disk.shown j.disk).faults (g.D.Disk.shown k.disk).faults
    b.noted b.pending b.start c.self.invariant c.mend.ensures.later.told (omega (arith, steady)) some.0 some.1 answer.2 answer.1.end answer.3 (λ t. (rw was at (c.mend.ensures.end t)).0)
    (λ t. (c.mend.ensures.moments t).stand (payload some.0) doubt)

pub invariant_of-self-in-Ok-Counted : goal.invariant_of-self-in-Ok-Counted
invariant_of-self-in-Ok-Counted g c =
    let b = c.self.inside in
    let j = b.journal in
    let k = c.mend.new.self in
    let owner = owner_in b.start in
    let payload = payload_of (length b.start.terms.goods) in
    let was : c.mend.result ≡ Ok Counted = c.in-Ok-Counted.is ∙ ap (λ x. Ok x) c.in-Ok-Counted.field-0-is in
    let q = c.unwrap.result in
    let is : b.pending ≡ Some q = sym c.take-pending.ensures.value ∙ c.unwrap.ensures in
    let doubt : j.pending ≡ Some (payload q) = c.self.invariant.in_doubt ∙ ap (option_map payload) is in
    let answer = rw (was, doubt) at c.mend.ensures.answer in
    let steady = rw was at c.mend.ensures.faults in
    let kept : kept_for b.pending ≡ 1 = ap kept_for is in
    let waits = waiting b.noted b.pending q is c.self.invariant.waits in
    rw c.take-pending.ensures.after (one-more j k (IsTrue (is_told (g.D.Disk.shown j.disk))) (IsTrue (is_told (g.D.Disk.shown k.disk))) (told_moments (g.D.Disk.shown j.disk)) (told_moments (g.D.Disk.shown k.disk)) (g.D.Disk.shown j.disk).faults (g.D.Disk.shown k.disk).faults
    b.noted b.pending b.start c.self.invariant c.mend.ensures.later.told (omega (arith, steady)) c.take.new.self q (entry.Counted q) waits.next answer.1 answer.0.end (omega (arith, answer.2, kept))
    (λ t. (rw (was, doubt) at (c.mend.ensures.end t)).0.0) (λ t. (c.mend.ensures.moments t).stand (payload q) doubt)
    c.take.ensures.clock c.take.ensures.history refl refl c.take.ensures.reports c.take.ensures.quantities)

pub returns-in-Err-clause-moments : goal.returns-in-Err-clause-moments
returns-in-Err-clause-moments g c =
    let b = c.self.inside in
    let j = b.journal in
    let k = c.mend.new.self in
    let owner = owner_in b.start in
    let payload = payload_of (length b.start.terms.goods) in
    let failed = failing j k (g.D.Disk.shown j.disk).faults (g.D.Disk.shown k.disk).faults c.in-Err.field-0 c.in-Err.ensures.answer c.in-Err.ensures.faults in
    let some = some-pending payload b.pending j.pending c.self.invariant.in_doubt failed.some in
    let doubt : j.pending ≡ Some (payload some.0) = c.self.invariant.in_doubt ∙ ap (option_map payload) some.1 in
    let waits = waiting b.noted b.pending some.0 some.1 c.self.invariant.waits in
    let P : Option Report → Type 0 = λ o. AtEach (IsEither owner b.noted.clock.reports o) (told_moments (g.D.Disk.shown j.disk)) (told_moments (g.D.Disk.shown k.disk)) in
    rw (← c.self.view_is) (λ t. subst P (sym some.1) (at-either owner b.noted.clock.reports some.0 j.contents (told_moments (g.D.Disk.shown j.disk)) (told_moments (g.D.Disk.shown k.disk)) c.self.invariant.are
    (next-report b.start.terms b.noted.clock some.0 c.self.invariant.terms waits.next) (c.self.invariant.contents (c.mend.ensures.later.told t)) ((c.mend.ensures.moments t).stand (payload some.0) doubt)))

pub returns-in-Ok-Dropped-clause-moments : goal.returns-in-Ok-Dropped-clause-moments
returns-in-Ok-Dropped-clause-moments g c =
    let b = c.self.inside in
    let j = b.journal in
    let k = c.mend.new.self in
    let owner = owner_in b.start in
    let payload = payload_of (length b.start.terms.goods) in
    let was : c.mend.result ≡ Ok Dropped = c.in-Ok-Dropped.is ∙ ap (λ x. Ok x) c.in-Ok-Dropped.field-0-is in
    let answer = rw was at c.mend.ensures.answer in
    let some = some-pending payload b.pending j.pending c.self.invariant.in_doubt answer.0 in
    let doubt : j.pending ≡ Some (payload some.0) = c.self.invariant.in_doubt ∙ ap (option_map payload) some.1 in
    let waits = waiting b.noted b.pending some.0 some.1 c.self.invariant.waits in
    let P : Option Report → Type 0 = λ o. AtEach (IsEither owner b.noted.clock.reports o) (told_moments (g.D.Disk.shown j.disk)) (told_moments (g.D.Disk.shown k.disk)) in
    rw (← c.self.view_is) (λ t. subst P (sym some.1) (at-either owner b.noted.clock.reports some.0 j.contents (told_moments (g.D.Disk.shown j.disk)) (told_moments (g.D.Disk.shown k.disk)) c.self.invariant.are
    (next-report b.start.terms b.noted.clock some.0 c.self.invariant.terms waits.next) (c.self.invariant.contents (c.mend.ensures.later.told t)) ((c.mend.ensures.moments t).stand (payload some.0) doubt)))

pub returns-in-Ok-Counted-clause-moments : goal.returns-in-Ok-Counted-clause-moments
returns-in-Ok-Counted-clause-moments g c =
    let b = c.self.inside in
    let j = b.journal in
    let k = c.mend.new.self in
    let owner = owner_in b.start in
    let payload = payload_of (length b.start.terms.goods) in
    let q = c.unwrap.result in
    let is : b.pending ≡ Some q = sym c.take-pending.ensures.value ∙ c.unwrap.ensures in
    let doubt : j.pending ≡ Some (payload q) = c.self.invariant.in_doubt ∙ ap (option_map payload) is in
    let waits = waiting b.noted b.pending q is c.self.invariant.waits in
    let P : Option Report → Type 0 = λ o. AtEach (IsEither owner b.noted.clock.reports o) (told_moments (g.D.Disk.shown j.disk)) (told_moments (g.D.Disk.shown k.disk)) in
    rw (← c.self.view_is) (λ t. subst P (sym is) (at-either owner b.noted.clock.reports q j.contents (told_moments (g.D.Disk.shown j.disk)) (told_moments (g.D.Disk.shown k.disk)) c.self.invariant.are
    (next-report b.start.terms b.noted.clock q c.self.invariant.terms waits.next) (c.self.invariant.contents (c.mend.ensures.later.told t)) ((c.mend.ensures.moments t).stand (payload q) doubt)))

pub returns-in-Ok-Nothing-clause-moments : goal.returns-in-Ok-Nothing-clause-moments
returns-in-Ok-Nothing-clause-moments g c =
    let b = c.self.inside in
    let j = b.journal in
    let k = c.mend.new.self in
    let owner = owner_in b.start in
    let payload = payload_of (length b.start.terms.goods) in
    let was : c.mend.result ≡ Ok Nothing = c.in-Ok-Nothing.is ∙ ap (λ x. Ok x) c.in-Ok-Nothing.field-0-is in
    let answer = rw was at c.mend.ensures.answer in
    let none : b.pending ≡ None = none-pending payload b.pending (sym c.self.invariant.in_doubt ∙ answer.0) in
    let P : Option Report → Type 0 = λ o. AtEach (IsEither owner b.noted.clock.reports o) (told_moments (g.D.Disk.shown j.disk)) (told_moments (g.D.Disk.shown k.disk)) in
    let Q : Moments → Type 0 = λ ms. AtEach (StandsForReports owner b.noted.clock.reports) (told_moments (g.D.Disk.shown j.disk)) ms in
    rw (← c.self.view_is) (λ t. subst P (sym none) (subst Q (ap (λ x. told_moments (g.D.Disk.shown x.disk)) (sym answer.1)) (at-rest owner b.noted.clock.reports j.contents j.pending (told_moments (g.D.Disk.shown j.disk)) c.self.invariant.are
    (c.self.invariant.contents (c.mend.ensures.later.told t)) answer.0 (c.count-kept.ensures.kept (c.mend.ensures.later.told t)).stands)))

-- the journal answers by the gate that it reads
pub returns-in-Ok-Nothing-clause-gate : goal.returns-in-Ok-Nothing-clause-gate
returns-in-Ok-Nothing-clause-gate g c =
    let b = c.self.inside in
    let payload = payload_of (length b.start.terms.goods) in
    let was : c.mend.result ≡ Ok Nothing = c.in-Ok-Nothing.is ∙ ap (λ x. Ok x) c.in-Ok-Nothing.field-0-is in
    let answer = rw was at c.mend.ensures.answer in
    let none : b.pending ≡ None = none-pending payload b.pending (sym c.self.invariant.in_doubt ∙ answer.0) in
    rw (← c.self.view_is) (λ t. inl none)

pub returns-in-Ok-Dropped-clause-gate : goal.returns-in-Ok-Dropped-clause-gate
returns-in-Ok-Dropped-clause-gate g c =
    let b = c.self.inside in
    let j = b.journal in
    let was : c.mend.result ≡ Ok Dropped = c.in-Ok-Dropped.is ∙ ap (λ x. Ok x) c.in-Ok-Dropped.field-0-is in
    let G : ℕ → Type 0 = λ end. slice_index (told_moments (g.D.Disk.shown j.disk)).now.read end ≢ OPEN in
    rw (← c.self.view_is) (λ t. inr (inl (subst G c.self.invariant.end (rw was at (c.mend.ensures.end t)).2, refl)))

pub returns-in-Ok-Counted-clause-gate : goal.returns-in-Ok-Counted-clause-gate
returns-in-Ok-Counted-clause-gate g c =
    let b = c.self.inside in
    let j = b.journal in
    let payload = payload_of (length b.start.terms.goods) in
    let was : c.mend.result ≡ Ok Counted = c.in-Ok-Counted.is ∙ ap (λ x. Ok x) c.in-Ok-Counted.field-0-is in
    let q = c.unwrap.result in
    let is : b.pending ≡ Some q = sym c.take-pending.ensures.value ∙ c.unwrap.ensures in
    let doubt : j.pending ≡ Some (payload q) = c.self.invariant.in_doubt ∙ ap (option_map payload) is in
    let G : ℕ → Type 0 = λ end. slice_index (told_moments (g.D.Disk.shown j.disk)).now.read end ≡ OPEN in
    rw (← c.self.view_is) (λ t. inr (inr (
      q,
      subst G c.self.invariant.end (rw (was, doubt) at (c.mend.ensures.end t)).1,
      is,
      (λ i. record { clock = c.take.ensures.clock i; history = c.take.ensures.history i; pending = c.take-pending.ensures.after i }),
    )))
