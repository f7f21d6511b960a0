-- The targets of a migration are opened, the reports are moved to them, and they are given back.
use Rattle.std.proofs.Common.{◌≡◌, ◌∙◌, ◌<◌, ◌≤◌, ◌+◌, ℕ, IsTrue, List, [], length, get_or, Option, Some, None, Result, Ok, Err, arith, inl, inr, refl, sym, ap, subst, unwrap_or}
use Rattle.house_io.specs.Disks.{DiskShown, IsFresh, is_told, told_moments}
use Rattle.std.proofs.lemmas.List.Elements.{All-from_recursion}
use Rattle.house_io.specs.Faults.{Rose}
use Rattle.house_io.specs.Moments.{Moments, opened}
use Rattle.house_io.specs.Shelves.{NamedFile, IfTells, IfWasTold, moments_at}
use Rattle.lot_base.specs.declared.auction_terms.Terms.{Terms}
use Rattle.auction_file.specs.declared.listing.Auction.{Auction}
use Rattle.clock.specs.Reports.{ClockHistory}
use Rattle.recovery.specs.Journaled.{owner_of}
use Rattle.clock_book.specs.Opening.{IsOpening, StandsForHistory, history_of}
use Rattle.clock_book.specs.declared.faults.OpenFault.{OpenFault}
use Rattle.clock_book.specs.declared.faults.OpenFault.TheVariants as why
use Rattle.clock_book.proofs.OneAnswer.{one-answer}
use Rattle.migration.specs.Moving.{IsFront, IsMoved, IsNoFrontAt, LeavesTarget}
use Rattle.std.proofs.lemmas.Bool.{cases_lt}
use Rattle.std.specs.Prelude.{◌⊎◌, ⊤}
use Rattle.clock_book.specs.Opened.{IsLeftUnlessClaimed, LeftUnopened}
use Rattle.migration.specs.Moves.{AreOpenedUpTo, HasMoveCause, IsFull, IsNotFront, IsNotOpened, Moves, OnlyOpened, TellsFaultOf}
use Rattle.migration.specs.declared.faults.MoveFault.{MoveFault}
use Rattle.migration.specs.declared.faults.MoveFault.TheVariants as fault
use Rattle.house_run.specs.Disks.{AreGivenBack, AreNotOpen, AreOpen, IsJournalBelow, IsNotOpened as IsUnopened, KeepsMoments}
use Rattle.house_run.specs.Found.{told_first}
use Rattle.house_run.specs.Frame.{RisesAmong}
use Rattle.house_run.specs.Journals.{IsFirstRefused, IsRefusal}
use Rattle.house_run.specs.MigrateCommand.{TellsLeft, TellsTarget}
use Rattle.house_run.specs.MovingJournals.{IsFirstOff, IsTargetFull, JournalsMoved, JournalsNotMoved, KeepsTargets, NotMoving, move_end}
use Rattle.house_run.specs.Needs.{journal_name}
use Rattle.house_run.specs.Seen.{ShelfSeen, content}
use Rattle.house_run.specs.Status.{end_at}
use Rattle.house_run.specs.declared.ends.Ended.{Ended}
use Rattle.house_run.specs.declared.ends.Ended.TheVariants as how
use Rattle.house_run.proofs.DiskNames.{below-or-not}
use Rattle.house_run.proofs.DiskSteps.{between, keeps-itself, keeps-then, some-of}
use Rattle.house_run.proofs.JournalSteps.{OneRead, first-read}
use Rattle.house_run.proofs.ServeSteps.{below-all, journal-moments, journal-rose, keeps-journals, reads-opening, tells-map, told-content}

-- what the targets are left as, where nothing was done to them

same-targets : (value : Auction) (cs : List ClockHistory) (target : List ℕ) (a c : Option (List NamedFile)) → KeepsMoments a c
    → IfTells c (λ after. IfWasTold a (λ before. (k : ℕ) (h : ClockHistory) → k ≤ value.terms.bidders
    → LeavesTarget (owner_of value.terms k value.digest) (get_or cs k h).reports (moments_at before (journal_name target k)) (moments_at after (journal_name target k))))
same-targets value cs target a None kept = tt
same-targets value cs target None (Some c) kept = absurd kept
same-targets value cs target (Some a) (Some c) kept = λ k h few. inl (ap (λ o. unwrap_or o (opened [])) (kept (journal_name target k)))

-- of most ends nothing is told besides
nothing-told : (value : Auction) (target : List ℕ) (a c : Option (List NamedFile)) → KeepsMoments a c → IfTells c (λ after. IfWasTold a (λ before. (k : ℕ) (h : ClockHistory) → k ≤ value.terms.bidders → ⊤))
nothing-told value target a None kept = tt
nothing-told value target None (Some c) kept = absurd kept
nothing-told value target (Some a) (Some c) kept = λ k h few. tt

moments-stay : (a : Option (List NamedFile)) → KeepsMoments a a
moments-stay None = tt
moments-stay (Some a) = λ name. refl

-- nothing was done: out of memory
pub none-moved : (value : Auction) (cs : List ClockHistory) (target : List ℕ) (files : Option (List NamedFile)) (counts : List ℕ → ℕ) (names : List (List ℕ))
    → JournalsNotMoved value cs target (between files files counts counts names names) how.NoMemory
none-moved value cs target files counts names = record {
  keeps = record {
    others = keeps-itself (IsJournalBelow target (value.terms.bidders + 1)) files;
    left = same-targets value cs target files files (moments-stay files);
    told = nothing-told value target files files (moments-stay files);
    counts = record { later = λ s. omega arith; others = λ s not. refl };
    front = 0;
    few = omega arith;
    names = refl;
  };
  cause = tt;
}

-- the targets were not all opened
pub none-opened : (refusal : OpenFault) (value : Auction) (cs : List ClockHistory) (target : List ℕ) (clock : ℕ) (shelf : ShelfSeen) → AreNotOpen target (value.terms.bidders + 1) clock refusal shelf
    → JournalsNotMoved value cs target shelf (end_at clock refusal)
none-opened refusal value cs target clock shelf not = record {
  keeps = record {
    others = keeps-then (IsJournalBelow target clock) (λ s. ⊥) (IsJournalBelow target (value.terms.bidders + 1)) shelf.files_before shelf.files shelf.files
        (λ s b. below-all target clock (value.terms.bidders + 1) s (let w = not.within in omega arith) b) (λ s b. absurd b) not.others (keeps-itself (λ s. ⊥) shelf.files);
    left = same-targets value cs target shelf.files_before shelf.files not.moments;
    told = told refusal not.cause;
    counts = counts refusal not.cause;
    front = not.front;
    few = not.few;
    names = not.names;
  };
  cause = cause refusal not.cause;
}
  where
    counts : (w : OpenFault) → IsUnopened shelf target clock w → RisesAmong (TellsTarget target (end_at clock w)) shelf.faults_before shelf.faults
    counts why.DiskFault failed = failed.counts
    counts why.NoMemory steady = record { later = λ s. (let e = steady s in omega arith); others = λ s other. steady s }
    counts (why.Broken broken) no_such = absurd no_such
    counts (why.NotAcceptable number judgement) no_such = absurd no_such

    told : (w : OpenFault) → IsUnopened shelf target clock w → IfTells shelf.files (λ after. IfWasTold shelf.files_before (λ before. (k : ℕ) (h : ClockHistory) → k ≤ value.terms.bidders
        → TellsLeft (end_at clock w) (owner_of value.terms k value.digest) k (get_or cs k h).reports (moments_at before (journal_name target k)) (moments_at after (journal_name target k))))
    told why.DiskFault failed = nothing-told value target shelf.files_before shelf.files not.moments
    told why.NoMemory steady = nothing-told value target shelf.files_before shelf.files not.moments
    told (why.Broken broken) no_such = absurd no_such
    told (why.NotAcceptable number judgement) no_such = absurd no_such

    cause : (w : OpenFault) → IsUnopened shelf target clock w → NotMoving value cs target shelf (end_at clock w)
    cause why.DiskFault failed = ((let w = not.within in omega arith), failed.failed)
    cause why.NoMemory steady = tt
    cause (why.Broken broken) no_such = absurd no_such
    cause (why.NotAcceptable number judgement) no_such = absurd no_such

-- a legal history of a target, where files are told; else the empty one

open-read : (files : Option (List NamedFile)) (terms : Terms) (digest target : List ℕ) (k : ℕ) → k ≤ terms.bidders
    → IfTells files (λ told. (c : ClockHistory) × StandsForHistory (owner_of terms k digest) c (content told (journal_name target k))) → OneRead files terms digest target k
open-read None terms digest target k few found = record {
  history = history_of (owner_of terms k digest) [];
  read = record { history = record { is = refl; legal = record { number = few; demands = tt; takes = tt } }; in_file = tt };
}
open-read (Some files) terms digest target k few found = record { history = found.0; read = record { history = found.1.history; in_file = found.1 } }

-- what is told of each clock is told of all
all-told : (files : Option (List NamedFile)) (P : ℕ → Type 0) (Q : ℕ → List NamedFile → Type 0) → ((k : ℕ) → P k → IfTells files (Q k)) → IfTells files (λ told. (k : ℕ) → P k → Q k told)
all-told None P Q each = tt
all-told (Some files) P Q each = each

-- the answer's fault is told by the end
tells-fault : (clock : ℕ) (refusal : OpenFault) (target : List ℕ) (k : ℕ) → TellsFaultOf k (Err (fault.NotOpened clock refusal)) → TellsTarget target (move_end (fault.NotOpened clock refusal)) (journal_name target k)
tells-fault clock why.DiskFault target k same = ap (journal_name target) (sym same)
tells-fault clock why.NoMemory target k same = absurd same
tells-fault clock (why.Broken broken) target k same = absurd same
tells-fault clock (why.NotAcceptable number judgement) target k same = absurd same

tells-move : (w : MoveFault) (target : List ℕ) (k : ℕ) → TellsFaultOf k (Err w) → TellsTarget target (move_end w) (journal_name target k)
tells-move (fault.NotOpened clock refusal) target k told = tells-fault clock refusal target k told
tells-move (fault.DiskFault clock) target k same = ap (journal_name target) (sym same)
tells-move (fault.NotFront clock number) target k told = absurd told
tells-move (fault.Full clock needed) target k told = absurd told
tells-move fault.NoMemory target k told = absurd told

module _ {D : Type 0} (shown : D → DiskShown) (value : Auction) (cs : List ClockHistory) (target : List ℕ) (old disks : List D) (shelf : ShelfSeen) (files : Option (List NamedFile)) (counts : List ℕ → ℕ) (names : List (List ℕ))
    (long : length old ≡ value.terms.bidders + 1)
    (are : AreOpen shown target old (between shelf.files_before files shelf.faults_before counts shelf.opened_before names))
    (given : AreGivenBack shown target disks (between files shelf.files counts shelf.faults names shelf.opened)) where
  abbrev first-files : Option (List NamedFile)
  first-files = told_first shelf.files_before shelf.files

  -- what holds of the moments of each disk holds of those of its target
  at-each : (Q : ℕ → ClockHistory → Moments → Moments → Type 0) → length disks ≡ length old → ((k : ℕ) (d : D) → k < length old → IsLeftUnlessClaimed (shown (get_or old k d)) (shown (get_or disks k d)))
      → ((k : ℕ) (d : D) (c : ClockHistory) → k < length old → IsTrue (is_told (shown (get_or disks k d))) → Q k c (told_moments (shown (get_or old k d))) (told_moments (shown (get_or disks k d))))
      → IfTells shelf.files (λ after. IfWasTold shelf.files_before (λ before. (k : ℕ) (c : ClockHistory) → k ≤ value.terms.bidders → Q k c (moments_at before (journal_name target k)) (moments_at after (journal_name target k))))
  at-each Q same quiet holds =
      tells-map shelf.files_before shelf.files (λ x y. (k : ℕ) → k < length old → (c : ClockHistory) → Q k c (moments_at x (journal_name target k)) (moments_at y (journal_name target k)))
      (λ x y. (k : ℕ) (c : ClockHistory) → k ≤ value.terms.bidders → Q k c (moments_at x (journal_name target k)) (moments_at y (journal_name target k)))
      (λ x y all k c few. all k (omega arith) c)
      (journal-moments shown target (λ k m n. (c : ClockHistory) → Q k c m n) old disks shelf.files_before files shelf.files (IsJournalBelow target (length disks)) are.same
      are.stand given.left same given.others quiet (λ k d below told c. holds k d c below told))

  -- what was read of each disk was found of its target
  found-at : (Q : List ℕ → Type 0) (k : ℕ) (d : D) → k < length old → length disks ≡ length old → (IsTrue (is_told (shown (get_or disks k d))) → Q (told_moments (shown (get_or old k d))).now.read) → IfTells first-files (λ told. Q (content told (journal_name target k)))
  found-at Q k d below same holds =
      told-content shown (journal_name target k) Q (get_or old k d) (get_or disks k d) shelf.files_before files shelf.files
      are.same (are.stand k d below) (given.left k d (omega arith)) holds

  fresh-at : (k : ℕ) (d : D) → k < length old → (shown (get_or old k d)).faults ≡ 0
  fresh-at k d below = (All-from_recursion (λ (x : D). IsFresh (shown x)) old are.fresh k d below).faults

  counts-kept : (answer : Result (Unit {0}) MoveFault) (end : Ended) → Moves shown value.terms value.digest cs old disks answer → ((k : ℕ) → TellsFaultOf k answer → TellsTarget target end (journal_name target k))
      → RisesAmong (TellsTarget target end) shelf.faults_before shelf.faults
  counts-kept answer end moves tell = record {
    later = λ s. let e = are.steady s in let l = given.counts.later s in omega arith;
    others = λ s other. elim (below-or-not target (length disks) s) [
      | inl b ↦ subst Stays (sym b.2) (at b.0 b.1 (λ t. other (subst (TellsTarget target end) (sym b.2) t)))
      | inr none ↦ given.counts.others s none ∙ are.steady s
    ];
  }
    where
      Stays : List ℕ → Type 0
      Stays name = shelf.faults name ≡ shelf.faults_before name

      at : (k : ℕ) → k < length disks → (TellsTarget target end (journal_name target k) → ⊥) → Stays (journal_name target k)
      at k below quiet =
          let same = moves.count in
          let d = some-of disks k below in
          let fresh = fresh-at k d (omega arith) in
          let added = given.added k d below in
          let steady = are.steady (journal_name target k) in
          elim (moves.counts k d (omega arith)) [
            | inl e ↦ omega arith
            | inr told ↦ absurd (quiet (tell k told.0))
          ]

  abbrev Told : Ended → ℕ → D → ClockHistory → Type 0
  Told end k d c = IsTrue (is_told (shown (get_or disks k d))) → TellsLeft end (owner_of value.terms k value.digest) k (get_or cs k c).reports (told_moments (shown (get_or old k d))) (told_moments (shown (get_or disks k d)))

  -- what is told besides of each target
  unopened-at : (clock : ℕ) → AreOpenedUpTo shown value.terms value.digest cs old disks clock → (k : ℕ) (d : D) → IsTrue (is_told (shown (get_or disks k d)))
      → LeftUnopened (owner_of value.terms k value.digest) (told_moments (shown (get_or old k d))) (told_moments (shown (get_or disks k d)))
  unopened-at clock opened k d told = of (cases_lt k clock)
    where
      of : (k < clock) ⊎ (clock ≤ k) → LeftUnopened (owner_of value.terms k value.digest) (told_moments (shown (get_or old k d))) (told_moments (shown (get_or disks k d)))
      of (inl before) = inr (opened.before k d before told)
      of (inr beyond) = elim (cases_lt clock k) [
        | inl after ↦ inl (ap (λ (y : D). told_moments (shown y)) (opened.later k d after))
        | inr same ↦
            let here : clock ≡ k = omega arith in
            let U : ℕ → Type 0 = λ n. IsTrue (is_told (shown (get_or disks n d))) → LeftUnopened (owner_of value.terms n value.digest) (told_moments (shown (get_or old n d))) (told_moments (shown (get_or disks n d))) in
            subst U here (opened.here d) told
      ]

  told-opened : (clock : ℕ) (refusal : OpenFault) → AreOpenedUpTo shown value.terms value.digest cs old disks clock → (k : ℕ) (d : D) (c : ClockHistory) → Told (move_end (fault.NotOpened clock refusal)) k d c
  told-opened clock why.DiskFault opened k d c told = tt
  told-opened clock why.NoMemory opened k d c told = tt
  told-opened clock (why.Broken broken) opened k d c told = unopened-at clock opened k d told
  told-opened clock (why.NotAcceptable number judgement) opened k d c told = unopened-at clock opened k d told

  told-left : (w : MoveFault) → OnlyOpened shown value.terms value.digest cs old disks (Err w) → HasMoveCause shown value.terms value.digest cs old disks w
      → (k : ℕ) (d : D) (c : ClockHistory) → k < length old → Told (move_end w) k d c
  told-left (fault.NotOpened clock refusal) only cause k d c below = told-opened clock refusal only k d c
  told-left (fault.NotFront clock number) only cause k d c below = λ told. inr (only k d below told)
  told-left (fault.Full clock needed) only cause k d c below = λ told less. cause.before k d c less told
  told-left (fault.DiskFault clock) only cause k d c below = λ told. tt
  told-left fault.NoMemory only cause k d c below = λ told. tt

  targets-kept : (answer : Result (Unit {0}) MoveFault) (end : Ended) → Moves shown value.terms value.digest cs old disks answer → ((k : ℕ) → TellsFaultOf k answer → TellsTarget target end (journal_name target k))
      → ((k : ℕ) (d : D) (c : ClockHistory) → k < length old → Told end k d c) → KeepsTargets value cs target shelf end
  targets-kept answer end moves tell besides =
      let keeps = keeps-journals shown target old disks shelf files counts names (value.terms.bidders + 1) long moves.count are given in
      record {
        others = keeps.others;
        left = at-each (λ k c m n. LeavesTarget (owner_of value.terms k value.digest) (get_or cs k c).reports m n) moves.count moves.unclaimed moves.left;
        told = at-each (λ k c m n. TellsLeft end (owner_of value.terms k value.digest) k (get_or cs k c).reports m n) moves.count moves.unclaimed besides;
        counts = counts-kept answer end moves tell;
        front = keeps.front;
        few = keeps.few;
        names = keeps.names;
      }

  pub journals-moved : (done : Unit {0}) → Moves shown value.terms value.digest cs old disks (Ok done) → JournalsMoved value cs target shelf
  journals-moved done moves = record {
    keeps = targets-kept (Ok done) how.Done moves (λ k told. absurd told) (λ k d c below told. tt);
    moved = at-each (λ k c m n. IsMoved (owner_of value.terms k value.digest) (get_or cs k c).reports m n) moves.count moves.unclaimed moves.moved;
  }

  -- why they were not moved

  failed-at : (clock : ℕ) → clock < length old → length disks ≡ length old → ((d : D) → Rose (shown (get_or old clock d)).faults (shown (get_or disks clock d)).faults) → NotMoving value cs target shelf (how.DiskFault clock)
  failed-at clock within same rose =
      let d = some-of old clock within in
      ((omega arith), journal-rose shown target old disks shelf files counts names clock d within same are given (fresh-at clock d within) (rose d))

  open-at : (k : ℕ) (d : D) → k < length old → length disks ≡ length old → (IsTrue (is_told (shown (get_or disks k d))) → (c : ClockHistory) × IsOpening (owner_of value.terms k value.digest) (told_moments (shown (get_or old k d))).now.read (Ok c))
      → IfTells first-files (λ told. (c : ClockHistory) × StandsForHistory (owner_of value.terms k value.digest) c (content told (journal_name target k)))
  open-at k d below same holds = found-at (λ file. (c : ClockHistory) × StandsForHistory (owner_of value.terms k value.digest) c file) k d below same holds

  first-refused : (clock : ℕ) (refusal : OpenFault) → length disks ≡ length old → IsNotOpened shown value.terms value.digest cs old disks clock refusal → IsRefusal refusal
      → IsFirstRefused first-files value.terms value.digest target clock refusal
  first-refused clock refusal same not refuses =
      let w = not.within in
      let d = some-of old clock w in
      let before = first-read first-files value.terms value.digest target clock (λ k below.
      open-read first-files value.terms value.digest target k (omega arith) (open-at k d (omega arith) same (not.before k d below))) in
      record {
        earlier = before.found;
        from_journals = before.are;
        refused = record {
          refusal = refuses;
          in_file = found-at (λ file. IsOpening (owner_of value.terms clock value.digest) file (Err refusal)) clock d w same
              (λ told. reads-opening (owner_of value.terms clock value.digest) (told_moments (shown (get_or old clock d))).now.read refusal refuses (not.refused d told));
        };
      }

  first-off : (clock number : ℕ) → length disks ≡ length old → IsNotFront shown value.terms value.digest cs old disks clock number → IsFirstOff value cs target shelf clock number first-files
  first-off clock number same not =
      let w = not.within in
      let d = some-of old clock w in
      record {
        within = omega arith;
        all_open = all-told first-files (λ k. k ≤ value.terms.bidders) (λ k told. (c : ClockHistory) × StandsForHistory (owner_of value.terms k value.digest) c (content told (journal_name target k)))
            (λ k few. open-at k d (omega arith) same (not.opened k d (omega arith)));
        earlier = all-told first-files (λ k. k < clock) (λ k told. (c : ClockHistory) → IsFront (owner_of value.terms k value.digest) (get_or cs k c).reports (content told (journal_name target k)))
            (λ k below. found-at (λ file. (c : ClockHistory) → IsFront (owner_of value.terms k value.digest) (get_or cs k c).reports file) k d (omega arith) same (λ told c. not.before k d c below told));
        off = found-at (λ file. (c x : ClockHistory) → StandsForHistory (owner_of value.terms clock value.digest) c file → IsNoFrontAt number c.reports (get_or cs clock x).reports) clock d w same (λ told c x stands.
            let off = not.differs d x told in
            let one : Ok off.0 ≡ Ok c = one-answer (owner_of value.terms clock value.digest) (told_moments (shown (get_or old clock d))).now.read (Ok off.0) (Ok c) off.1 stands in
            let is : off.0 ≡ c = cc in
            subst (λ (h : ClockHistory). IsNoFrontAt number h.reports (get_or cs clock x).reports) is off.2);
      }

  target-full : (clock needed : ℕ) → length disks ≡ length old → IsFull shown value.terms value.digest cs old disks clock needed → IsTargetFull value cs target shelf clock needed first-files
  target-full clock needed same full =
      let w = full.within in
      let d = some-of old clock w in
      record {
        within = omega arith;
        all_open = all-told first-files (λ k. k ≤ value.terms.bidders) (λ k told. (c : ClockHistory) × StandsForHistory (owner_of value.terms k value.digest) c (content told (journal_name target k)))
            (λ k few. open-at k d (omega arith) same (full.opened k d (omega arith)));
        fronts = all-told first-files (λ k. k ≤ value.terms.bidders) (λ k told. (c : ClockHistory) → IsFront (owner_of value.terms k value.digest) (get_or cs k c).reports (content told (journal_name target k)))
            (λ k few. found-at (λ file. (c : ClockHistory) → IsFront (owner_of value.terms k value.digest) (get_or cs k c).reports file) k d (omega arith) same (λ told c. full.fronts k d c (omega arith) told));
        full = full.full;
      }

  not-opened : (clock : ℕ) (refusal : OpenFault) → length disks ≡ length old → IsNotOpened shown value.terms value.digest cs old disks clock refusal
      → NotMoving value cs target shelf (move_end (fault.NotOpened clock refusal))
  not-opened clock why.DiskFault same not = failed-at clock not.within same (λ d. (not.counts d).1)
  not-opened clock why.NoMemory same not = tt
  not-opened clock (why.Broken broken) same not = ((let w = not.within in omega arith), first-refused clock (why.Broken broken) same not tt)
  not-opened clock (why.NotAcceptable number judgement) same not = ((let w = not.within in omega arith), first-refused clock (why.NotAcceptable number judgement) same not tt)

  not-moving : (w : MoveFault) → length disks ≡ length old → HasMoveCause shown value.terms value.digest cs old disks w → NotMoving value cs target shelf (move_end w)
  not-moving (fault.NotOpened clock refusal) same cause = not-opened clock refusal same cause
  not-moving (fault.NotFront clock number) same cause = first-off clock number same cause
  not-moving (fault.Full clock needed) same cause = target-full clock needed same cause
  not-moving (fault.DiskFault clock) same cause = failed-at clock cause.within same cause.rose
  not-moving fault.NoMemory same cause = tt

  pub journals-not-moved : (w : MoveFault) → Moves shown value.terms value.digest cs old disks (Err w) → JournalsNotMoved value cs target shelf (move_end w)
  journals-not-moved w moves = record {
    keeps = targets-kept (Err w) (move_end w) moves (tells-move w target) (told-left w moves.unoffered moves.cause);
    cause = not-moving w moves.count moves.cause;
  }
