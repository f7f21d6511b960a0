-- What an offer does to a book.
use Rattle.std.specs.Prelude.{◌≡◌, ◌≢◌, ◌⊎◌, ℕ, ◌+◌, ◌<◌, ◌≤◌, List, [], ◌∷◌, ◌++◌, length, slice_index, Option, Some, None, IsSome}
use Rattle.house_io.specs.Disks.{DiskShown, IfDiskTells, IfDiskTold, IsLater}
use Rattle.lot_base.specs.declared.limits.TheConstants.{GREATEST_FILE}
use Rattle.demand_set.specs.declared.reports.Report.{Report}
use Rattle.clock.specs.Reports.{with_report}
use Rattle.clock.specs.Judging.{judgement_of}
use Rattle.clock.specs.declared.judging.Judgement.TheVariants as judged
use Rattle.clock.specs.declared.judging.Offered.{Offered}
use Rattle.clock.specs.declared.judging.Offered.TheVariants as answers
use Rattle.house_io.specs.Faults.{Rose}
use Rattle.house_io.specs.Moments.{Moments, AtEach, Leaves}
use Rattle.report_journal.specs.Format.{front}
use Rattle.report_journal.specs.declared.spellings.TheConstants.{OPEN}
use Rattle.recovery.specs.Entries.{payload_of}
use Rattle.recovery.specs.Journaled.{Owner, contents_of}
use Rattle.clock_book.specs.declared.entries.Entry.TheVariants as entry
use Rattle.clock_book.specs.Past.{owner_in, IsEither}
use Rattle.clock_book.specs.Books.{BookOf, BookState}

-- the report is appended, as one that was offered, or as one that was counted
abbrev pub taken : BookState → Report → BookState
taken s r = record { clock = with_report s.clock r; history = s.history ++ entry.Offered r ∷ []; pending = None }

abbrev pub counted : BookState → Report → BookState
counted s r = record { clock = with_report s.clock r; history = s.history ++ entry.Counted r ∷ []; pending = None }

-- a mark of this report more
abbrev pub marked : BookState → Report → BookState
marked s r = record { clock = s.clock; history = s.history ++ entry.Mark r ∷ []; pending = s.pending }

-- another report is pending, or none is
abbrev pub with_pending : Option Report → BookState → BookState
with_pending pending s = record { clock = s.clock; history = s.history; pending = pending }

-- what a mend leaves: the pending report, if there was one, is counted or dropped
abbrev pub IsMended : BookState → BookState → Type 0
IsMended old new = (new ≡ with_pending None old) ⊎ ((q : Report) × (old.pending ≡ Some q) × (new ≡ counted old q))

-- the byte of a file where the gate of the next record lies, after these reports in the owner's journal
abbrev pub gate_behind : Owner → List Report → List ℕ → ℕ
gate_behind owner reports file = slice_index file (length (front (contents_of owner reports)))

-- What decides a mend is the gate in this file: a report that is pending is counted where it is open, and dropped where it is not.
abbrev pub IsByGate : Owner → List ℕ → BookState → BookState → Type 0
IsByGate owner file old new =
    (old.pending ≡ None)
    ⊎ ((gate_behind owner old.clock.reports file ≢ OPEN) × (new ≡ with_pending None old))
    ⊎ ((q : Report) × (gate_behind owner old.clock.reports file ≡ OPEN) × (old.pending ≡ Some q) × (new ≡ counted old q))

-- where the record of this report would end in the owner's journal of these reports
abbrev pub record_end : Owner → List Report → Report → ℕ
record_end owner reports r = length (front (contents_of owner reports)) + 6 + length (payload_of (length owner.terms.goods) r)

abbrev pub needed_for : Owner → BookState → Report → ℕ
needed_for owner s r = record_end owner s.clock.reports r

-- the clock takes the report, and its record is within the limit
pub record IsNew (owner : Owner) (s : BookState) (r : Report) : Type 0 where
  pub take : judgement_of s.clock r ≡ judged.Take
  pub within : needed_for owner s r ≤ GREATEST_FILE

-- What each answer leaves of the state after the mend, and when it comes. Want of memory is never answered.
abbrev pub Answers : Owner → Offered → BookState → Report → BookState → Type 0
Answers owner answers.Taken mid r new = IsNew owner mid r × (new ≡ taken mid r)
Answers owner answers.Again mid r new = (judgement_of mid.clock r ≡ judged.Again) × (new ≡ mid)
Answers owner (answers.Refused judgement) mid r new = (judgement_of mid.clock r ≡ judgement) × (judgement ≢ judged.Take) × (judgement ≢ judged.Again) × (new ≡ mid)
Answers owner (answers.Full needed) mid r new = (judgement_of mid.clock r ≡ judged.Take) × (needed ≡ needed_for owner mid r) × (GREATEST_FILE < needed) × (new ≡ mid)
Answers owner answers.DiskFault mid r new = IsNew owner mid r × (new ≡ marked (with_pending (Some r) mid) r)
Answers owner answers.NoMemory mid r new = ⊥

-- The mend fails: what is pending stays, and a mark of the offered report is all that is appended. What a crash leaves at any moment
-- is the reports, or these and the pending one; of this it speaks where the disk tells.
pub record MendFails (owner : Owner) (old : BookState) (r : Report) (answer : Offered) (new : BookState) (before after : DiskShown) : Type 0 where
  pub fault : answer ≡ answers.DiskFault
  pub pending : IsSome old.pending
  pub marks : new ≡ marked old r
  pub leaves : IfDiskTold before after (AtEach (IsEither owner old.clock.reports old.pending))

-- What a crash leaves at any moment of an offer whose mend left this state: the reports at its start or these and the pending one, and
-- then the reports after the mend or these and the offered one. The file as it was when the call began decides the mend.
pub record LeavesBy (owner : Owner) (old mid : BookState) (r : Report) (before after : Moments) : Type 0 where
  pub between : Moments
  pub mending : AtEach (IsEither owner old.clock.reports old.pending) before between
  pub answering : AtEach (IsEither owner mid.clock.reports (Some r)) between after
  pub gate : IsByGate owner before.now.read old mid

-- The mend leaves one state. The answer is that of this state, and so is what a crash leaves, where the disk tells.
pub record IsAnswered (owner : Owner) (old : BookState) (r : Report) (answer : Offered) (new : BookState) (before after : DiskShown) : Type 0 where
  pub mid : BookState
  pub mended : IsMended old mid
  pub answered : Answers owner answer mid r new
  pub leaves : IfDiskTold before after (LeavesBy owner old mid r)

-- an offer, over which a disk came from the one state to the other: the mend fails, or it does not, and an answer follows
abbrev pub IsOffer : Owner → BookState → Report → Offered → BookState → DiskShown → DiskShown → Type 0
IsOffer owner old r answer new before after = MendFails owner old r answer new before after ⊎ IsAnswered owner old r answer new before after

-- The count of a disk's faults over an offer: it never falls, and with any answer but DiskFault it is as before.
abbrev pub CountsOffer : ℕ → ℕ → Offered → Type 0
CountsOffer before now answers.DiskFault = before ≤ now
CountsOffer before now answer = now ≡ before

-- The whole of an offer to a book, with what a crash may leave at any moment of the call, and once it is answered. Of the disk's contents
-- it speaks where these are told at its end.
pub record Offers {D : Type 0} (shown : D → DiskShown) (r : Report) (old new : BookOf D) (result : Offered) : Type 0 where
  pub answer : IsOffer (owner_in old.origin) old.state r result new.state (shown old.disk) (shown new.disk)
  pub origin : new.origin ≡ old.origin
  pub cause : result ≡ answers.DiskFault → Rose (shown old.disk).faults (shown new.disk).faults
  pub counts : CountsOffer (shown old.disk).faults (shown new.disk).faults result
  pub later : IsLater (shown old.disk) (shown new.disk)
  pub every_image : IfDiskTells (shown new.disk) (λ moments. Leaves (IsEither (owner_in new.origin) new.state.clock.reports new.state.pending) moments.now)
