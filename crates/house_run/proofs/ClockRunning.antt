-- What a house that was opened and closed comes to at a clock and at its journal.
use Rattle.std.proofs.Common.{◌≡◌, ◌∙◌, IsTrue, length, map, sym, ap, subst, None}
use Rattle.house_io.specs.Disks.{DiskShown, is_told, told_moments}
use Rattle.house_io.specs.Moments.{Leaves}
use Rattle.clock.specs.Reports.{ClockHistory}
use Rattle.recovery.specs.Journaled.{Owner, owner_of}
use Rattle.clock_book.specs.Books.{BookOf, BookState, IsKept}
use Rattle.clock_book.specs.DeskHistories.{reports_in}
use Rattle.clock_book.specs.Opened.{Opens}
use Rattle.clock_book.specs.Opening.{StandsForHistory, history_of}
use Rattle.clock_book.specs.Past.{IsEither, owner_in}
use Rattle.clock_book.specs.declared.entries.Entry.TheVariants.{Offered}
use Rattle.clock_book.specs.declared.origins.Origin.{Origin}
use Rattle.clock_book.proofs.Histories.{reports-opened as reports-offered}
use Rattle.clock_family.specs.Opening.{WasOpened}
use Rattle.house_run.specs.ClockRuns.{ClockRun, IsClockRun, IsJournalRun}

-- the run of a book that was opened as the first and closed as the second
abbrev pub run_of : {D : Type 0} → BookOf D → BookOf D → ClockRun
run_of first closed = record { origin = closed.origin; opening = first.state.history; closed = closed.state }

-- the book that was opened as the first, as its disk came back
abbrev pub back_of : {D : Type 0} → BookOf D → D → BookOf D
back_of first disk = record { disk = disk; state = record { clock = first.state.clock; history = first.state.history; pending = None }; origin = first.origin }

module _ {D : Type 0} (shown : D → DiskShown) (owner : Owner) where
  owner-opened : (disk : D) (first : BookOf D) → Opens shown owner disk first → owner_in first.origin ≡ owner
  owner-opened disk first opens = λ i. owner_of (opens.origin.terms_are i) (opens.origin.clock_is i) (opens.origin.digest_is i)

  owner-closed : (disk : D) (first closed : BookOf D) → Opens shown owner disk first → closed.origin ≡ first.origin → owner_in closed.origin ≡ owner
  owner-closed disk first closed opens same = ap owner_in same ∙ owner-opened disk first opens

  history-opened : (disk : D) (first : BookOf D) → Opens shown owner disk first → first.state.history ≡ map Offered first.state.clock.reports
  history-opened disk first opens = ap (λ (s : BookState). s.history) opens.state

  reports-opened : (disk : D) (first : BookOf D) → Opens shown owner disk first → reports_in first.state.history ≡ first.state.clock.reports
  reports-opened disk first opens = ap reports_in (history-opened disk first opens) ∙ reports-offered first.state.clock.reports

  pub clock-run : (disk : D) (first closed : BookOf D) → Opens shown owner disk first → closed.origin ≡ first.origin → IsKept shown closed
      → IsClockRun owner (run_of first closed)
  clock-run disk first closed opens same kept =
      let is = owner-closed disk first closed opens same in
      record {
        owner_is = is;
        opening_is = history-opened disk first opens ∙ ap (map Offered) (sym (reports-opened disk first opens));
        least_is = ap (λ (o : Origin). o.reports) same ∙ opens.origin.reports_are ∙ ap length (sym (reports-opened disk first opens));
        history = record {
          is = λ i. record {
            terms = (kept.terms ∙ ap (λ (o : Owner). o.terms) is) i;
            number = (kept.number ∙ ap (λ (o : Owner). o.clock) is) i;
            reports = closed.state.clock.reports;
          };
          legal = kept.legal;
        };
        reports = kept.reports;
        next = kept.next;
        doubt = kept.doubt;
      }

  -- where the disk tells at the closing, it told at the opening
  pub told-first : (disk : D) (first closed : BookOf D) → Opens shown owner disk first → closed.origin ≡ first.origin → IsKept shown closed → IsTrue (is_told (shown closed.disk)) → IsTrue (is_told (shown first.disk))
  told-first disk first closed opens same kept told = subst IsTrue (ap (λ (o : Origin). o.told) same ∙ opens.told_is) (kept.first told)

  pub journal-run : (disk : D) (first closed : BookOf D) → Opens shown owner disk first → closed.origin ≡ first.origin → IsKept shown closed
      → IsTrue (is_told (shown closed.disk)) → IsJournalRun owner (run_of first closed) (told_moments (shown disk)) (told_moments (shown closed.disk))
  journal-run disk first closed opens same kept told =
      let then_told = told-first disk first closed opens same kept told in
      let stood : StandsForHistory owner first.state.clock (told_moments (shown disk)).now.read = opens.read then_told in
      let left = opens.leaves then_told in
      let now : ClockHistory → Type 0 = λ c. StandsForHistory owner c (told_moments (shown disk)).now.read in
      let Either : Owner → Type 0 = λ o. Leaves (IsEither o closed.state.clock.reports closed.state.pending) (told_moments (shown closed.disk)).now in
      record {
        stood = subst now (opens.history.is ∙ ap (history_of owner) (sym (reports-opened disk first opens))) stood;
        read_is = ap (λ (o : Origin). o.read) same ∙ left.read_is;
        synced_is = ap (λ (o : Origin). o.synced) same ∙ left.synced_is;
        past = kept.past told;
        stands = subst Either (owner-closed disk first closed opens same) (kept.stands told);
      }

  -- a book that was opened and closed again, where another was not opened
  pub was-run : (old new : D) (was : WasOpened shown owner old new) → IsClockRun owner (run_of was.first (back_of was.first new))
  was-run old new was = record {
    owner_is = owner-opened old was.first was.opens;
    opening_is = history-opened old was.first was.opens ∙ ap (map Offered) (sym (reports-opened old was.first was.opens));
    least_is = was.opens.origin.reports_are ∙ ap length (sym (reports-opened old was.first was.opens));
    history = was.opens.history;
    reports = reports-opened old was.first was.opens;
    next = tt;
    doubt = tt;
  }

  pub was-journal : (old new : D) (was : WasOpened shown owner old new) → IsTrue (is_told (shown new)) → IsJournalRun owner (run_of was.first (back_of was.first new)) (told_moments (shown old)) (told_moments (shown new))
  was-journal old new was told =
      let then_told = was.told told in
      let left = was.opens.leaves then_told in
      let now : ClockHistory → Type 0 = λ c. StandsForHistory owner c (told_moments (shown old)).now.read in
      let Either : Owner → Type 0 = λ o. Leaves (IsEither o was.first.state.clock.reports None) (told_moments (shown new)).now in
      record {
        stood = subst now (was.opens.history.is ∙ ap (history_of owner) (sym (reports-opened old was.first was.opens))) (was.opens.read then_told);
        read_is = left.read_is;
        synced_is = left.synced_is;
        past = was.past told;
        stands = subst Either (owner-opened old was.first was.opens) (was.stands told);
      }

  pub was-told : (old new : D) (was : WasOpened shown owner old new) → IsTrue (is_told (shown new)) → IsTrue (is_told (shown was.first.disk))
  was-told old new was told = was.told told
