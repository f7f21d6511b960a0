-- How a target is left by a book that was opened on it, and by reports that were offered to it.
use Rattle.std.proofs.Common.{◌≡◌, inl, inr, ⊎_elim, ℕ, IsTrue, List, length, take, Ok, sym, subst, arith}
use Rattle.house_io.specs.Disks.{DiskShown, is_told, told_moments}
use Rattle.demand_set.specs.declared.reports.Report.{Report}
use Rattle.house_io.specs.Moments.{Moments, AtEach, synced_at}
use Rattle.house_io.proofs.Moments.{at_weaker, at_both}
use Rattle.clock.specs.Reports.{ClockHistory}
use Rattle.recovery.specs.Journaled.{Owner, owner_of, IsReadAs}
use Rattle.clock_book.specs.Past.{owner_in, IsAsOpened}
use Rattle.clock_book.specs.Books.{BookOf}
use Rattle.clock_book.specs.Opened.{Opens, LeftUnopened}
use Rattle.clock_book.specs.Opening.{IsOpening}
use Rattle.migration.specs.Moving.{StandsForFront, IsTargetLeft, LeavesTarget, IsFront}
use Rattle.migration.specs.Targets.{IsFrontOf, GoesOn}

as-opened : (owner : Owner) (reports : List Report) (read file : List ℕ) → IsAsOpened owner read file → IsTargetLeft owner reports read file
as-opened owner reports read file is = ⊎_elim
    (λ same. inl same)
    (λ formed. inr (inl (
      formed.0,
      ⊎_elim
          (λ unformed. inl unformed)
          (λ stands. inr (record { count = 0; no_fewer = omega arith; no_more = omega arith; stands = stands }))
          formed.1,
    )))
    is

-- a target whose opening was refused
pub left-unopened : (owner : Owner) (reports : List Report) (old new : Moments) → LeftUnopened owner old new → LeavesTarget owner reports old new
left-unopened owner reports old new left = ⊎_elim
    (λ same. inl same)
    (λ each. inr (at_weaker (IsAsOpened owner old.now.read) (IsTargetLeft owner reports old.now.read) (synced_at old) new (λ file is. as-opened owner reports old.now.read file is) each))
    left

module _ {D : Type 0} (shown : D → DiskShown) (owner : Owner) (old : D) (b : BookOf D) (opens : Opens shown owner old b) where
  pub owner-is : owner_in b.origin ≡ owner
  owner-is = let of = opens.origin in λ i. owner_of (of.terms_are i) (of.clock_is i) (of.digest_is i)

  pub only-opened : IsTrue (is_told (shown b.disk)) → AtEach (IsAsOpened owner (told_moments (shown old)).now.read) (synced_at (told_moments (shown old))) (told_moments (shown b.disk))
  only-opened t =
      let leaves = opens.leaves t in
      let A : List ℕ → Type 0 = λ read. AtEach (IsAsOpened owner read) (synced_at (told_moments (shown old))) (told_moments (shown b.disk)) in
      subst A leaves.read_is leaves.each

  opened-each : (reports : List Report) → IsTrue (is_told (shown b.disk)) → AtEach (IsTargetLeft owner reports (told_moments (shown old)).now.read) (synced_at (told_moments (shown old))) (told_moments (shown b.disk))
  opened-each reports t =
      let read = (told_moments (shown old)).now.read in
      at_weaker (IsAsOpened owner read) (IsTargetLeft owner reports read) (synced_at (told_moments (shown old))) (told_moments (shown b.disk)) (λ file is. as-opened owner reports read file is) (only-opened t)

  -- a target to which nothing was offered
  pub left-opened : (reports : List Report) → IsTrue (is_told (shown b.disk)) → LeavesTarget owner reports (told_moments (shown old)) (told_moments (shown b.disk))
  left-opened reports t = inr (opened-each reports t)

  pub was-open : IsTrue (is_told (shown b.disk)) → (c : ClockHistory) × IsOpening owner (told_moments (shown old)).now.read (Ok c)
  was-open t = (b.state.clock, opens.read t)

  module _ (reports : List Report) (front : IsFrontOf b.state.clock.reports reports) where
    read-front : IsTrue (is_told (shown b.disk)) → IsReadAs owner (take (length b.state.clock.reports) reports) (told_moments (shown old)).now.read
    read-front t =
        let R : List Report → Type 0 = λ l. IsReadAs owner l (told_moments (shown old)).now.read in
        subst R front.same (opens.read t).read

    pub was-front : IsTrue (is_told (shown b.disk)) → IsFront owner reports (told_moments (shown old)).now.read
    was-front t = (length b.state.clock.reports, front.few, read-front t)

    on-from : IsTrue (is_told (shown b.disk)) → (file : List ℕ) → StandsForFront owner reports (length b.state.clock.reports) file → IsTargetLeft owner reports (told_moments (shown old)).now.read file
    on-from t file stands = ⊎_elim
        (λ unformed. inr (inl (unformed.0, inr (record { count = stands.count; no_fewer = omega arith; no_more = stands.no_more; stands = stands.stands }))))
        (λ stood. inr (inr (length b.state.clock.reports, stood, stands)))
        (read-front t)

    -- a target to which reports were offered
    pub left-on : (source : ClockHistory) (new : BookOf D) → source.reports ≡ reports → GoesOn shown source b new → IsTrue (is_told (shown new.disk)) → LeavesTarget owner reports (told_moments (shown old)) (told_moments (shown new.disk))
    left-on source new same goes t =
        let told = goes.later.told t in
        let first = opened-each reports told in
        let L : List ℕ → Type 0 = IsTargetLeft owner reports (told_moments (shown old)).now.read in
        let F : Owner → List Report → List ℕ → Type 0 = λ o l file. StandsForFront o l (length b.state.clock.reports) file in
        ⊎_elim
        (λ still. inr (let A : Moments → Type 0 = λ ms. AtEach L (synced_at (told_moments (shown old))) ms in subst A (sym still) first))
        (λ each.
        let A : Owner → List Report → Type 0 = λ o l. AtEach (F o l) (told_moments (shown b.disk)) (told_moments (shown new.disk)) in
        let on : A owner reports = subst (A owner) same (subst (λ (o : Owner). A o source.reports) owner-is each) in
        inr (at_both L (synced_at (told_moments (shown old))) (told_moments (shown b.disk)) (told_moments (shown new.disk)) first
        (at_weaker (F owner reports) L (told_moments (shown b.disk)) (told_moments (shown new.disk)) (λ file stands. on-from told file stands) on)))
        (goes.leaves t)
