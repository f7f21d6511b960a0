-- What each call of a journal answers and leaves, by cases on its answer. A relation between two states takes the old one, then
-- the new one. What is said of contents, moments and bytes is said where the disk tells them at the call's end; all else always.
use Rattle.std.specs.Prelude.{◌≡◌, ◌≢◌, ℕ, ◌+◌, ◌-◌, ◌≤◌, ◌<◌, max, Bool, IsTrue, List, [], ◌∷◌, ◌++◌, length, slice_index, Option, Some, None, IsSome, MatchOption, Result, Ok, Err}
use Rattle.house_io.specs.Faults.{Rose}
use Rattle.house_io.specs.Disks.{DiskShown, told_moments, IsLater, IfDiskTells, IfDiskTold}
use Rattle.house_io.specs.Moments.{Moments, Leaves, AtEach, Torn, overlaid, synced_at}
use Rattle.lot_base.specs.declared.limits.TheConstants.{GREATEST_FILE}
use Rattle.report_journal.specs.declared.spellings.TheConstants.{OPEN}
use Rattle.report_journal.specs.declared.faults.JournalFault.{JournalFault}
use Rattle.report_journal.specs.declared.faults.JournalFault.TheVariants.{Full, DiskFault, NotMended, NoMemory}
use Rattle.report_journal.specs.declared.faults.Mended.{Mended}
use Rattle.report_journal.specs.declared.faults.Mended.TheVariants.{Nothing, Counted, Dropped}
use Rattle.report_journal.specs.Format.{Contents, StandsFor, body, header_bytes, first_gate}
use Rattle.report_journal.specs.Puts.{empty, with_one_more, IsBeforeOrAfter, IsUnformedOrEmpty, IsSynced, IsReopened}
use Rattle.report_journal.specs.Padding.{behind_of}
use Rattle.report_journal.specs.Scans.{contents_of, places_in, end_in}
use Rattle.report_journal.specs.declared.headers.Header.{Header}
use Rattle.report_journal.specs.declared.scanning.Scanned.{Scanned}
use Rattle.report_journal.specs.Journals.{JournalOf, KeepsRecords, AddsRecord}

-- A call that only reads a disk: no moment was added.
pub record OnlyReads {D : Type 0} (shown : D → DiskShown) (old new : D) : Type 0 where
  pub later : IsLater (shown old) (shown new)
  pub same : IfDiskTold (shown old) (shown new) (λ before after. after ≡ before)

-- The count of a disk's faults over a call: DiskFault comes only where it rose, and with any other answer it is as before.
abbrev pub CountsFaults : {T : Type 0} → ℕ → ℕ → Result T JournalFault → Type 0
CountsFaults before now (Ok answer) = now ≡ before
CountsFaults before now (Err DiskFault) = (before ≤ now) × Rose before now
CountsFaults before now (Err NoMemory) = now ≡ before
CountsFaults before now (Err NotMended) = now ≡ before
CountsFaults before now (Err (Full needed)) = now ≡ before

-- the same of a call that is refused for a fault or for memory alone
abbrev pub CountsReading : {T : Type 0} → ℕ → ℕ → Result T JournalFault → Type 0
CountsReading before now (Ok answer) = now ≡ before
CountsReading before now (Err DiskFault) = (before ≤ now) × Rose before now
CountsReading before now (Err NoMemory) = now ≡ before
CountsReading before now (Err NotMended) = ⊥
CountsReading before now (Err (Full needed)) = ⊥

-- the offset at which the next record would end, were it of this payload
abbrev pub record_end : {D : Type 0} → List ℕ → JournalOf D → ℕ
record_end payload j = j.end + 6 + length payload

-- nothing is in doubt, and the record would end within the limit
pub record IsReady {D : Type 0} (payload : List ℕ) (j : JournalOf D) : Type 0 where
  pub mended : j.pending ≡ None
  pub fits : record_end payload j ≤ GREATEST_FILE

-- Of two states of a journal: what counts is the same, and so is what is in doubt; the contents are where the disk tells.
pub record KeepsAll {D : Type 0} (shown : D → DiskShown) (old new : JournalOf D) : Type 0 where
  pub records : KeepsRecords old new
  pub pending : new.pending ≡ old.pending
  pub spare : new.spare ≡ old.spare
  pub laid : new.laid ≡ old.laid
  pub contents : IfDiskTells (shown new.disk) (λ _. new.contents ≡ old.contents)

-- at each moment of a forming a read and each image are unformed or stand for no payloads, and no byte but those of the header and
-- of the gates before and after it differs from before
pub record FormLeaves (header : Header) (old new : Moments) : Type 0 where
  pub stand : AtEach (IsUnformedOrEmpty header) old new
  pub range : AtEach (Torn 0 (first_gate header + 1) old.now.read) old new

-- a journal of no payloads, formed on this disk: every image has it, and the bytes of its header were written and no others
pub record Forms {D : Type 0} (shown : D → DiskShown) (header : Header) (old : D) (new : JournalOf D) : Type 0 where
  -- the journal has this header and no record, and ends at its first gate
  pub contents : new.contents ≡ empty header
  pub places : new.places ≡ []
  pub end : new.end ≡ first_gate header
  pub pending : new.pending ≡ None
  pub spare : new.spare ≡ 0
  pub laid : new.laid ≡ first_gate header + 1
  -- no call failed
  pub steady : (shown new.disk).faults ≡ (shown old).faults
  pub later : IsLater (shown old) (shown new.disk)
  -- each image stands for it, and what a read gives is the old file under the gate, the header and a closed gate
  pub every_image : IfDiskTells (shown new.disk) (λ moments. Leaves (StandsFor (empty header)) moments.now)
  pub written : IfDiskTold (shown old) (shown new.disk) (λ before after. after.now.read ≡ overlaid before.now.read 0 (OPEN ∷ header_bytes header ++ 0 ∷ []))
  -- at each moment of the call a file that is unformed, or this one
  pub leaves : IfDiskTold (shown old) (shown new.disk) (FormLeaves header)

-- why a forming is refused: for a fault of the disk, or for memory, and then the disk is as it was
abbrev pub RefusesToForm : {D : Type 0} → (D → DiskShown) → D → D → JournalFault → Type 0
RefusesToForm shown old new DiskFault = ((shown old).faults ≤ (shown new).faults) × Rose (shown old).faults (shown new).faults
RefusesToForm shown old new NoMemory = new ≡ old
RefusesToForm shown old new NotMended = ⊥
RefusesToForm shown old new (Full needed) = ⊥

-- a disk on which no journal was formed
pub record FailsToForm {D : Type 0} (shown : D → DiskShown) (header : Header) (old new : D) (fault : JournalFault) : Type 0 where
  pub refuses : RefusesToForm shown old new fault
  pub later : IsLater (shown old) (shown new)
  pub leaves : IfDiskTold (shown old) (shown new) (FormLeaves header)

-- the journal that a scan found on a disk
pub record Attaches {D : Type 0} (shown : D → DiskShown) (given : D) (scan : Scanned) (new : JournalOf D) : Type 0 where
  pub disk : new.disk ≡ given
  pub contents : new.contents ≡ contents_of scan (told_moments (shown given)).now.read
  pub places : new.places ≡ places_in scan
  pub end : new.end ≡ end_in scan
  pub pending : new.pending ≡ None
  pub spare : new.spare ≡ 0
  pub laid : new.laid ≡ end_in scan + 1

-- An append. It takes a spare record where it writes; where one is spare it takes no memory.
abbrev pub Appends : {D : Type 0} → List ℕ → JournalOf D → JournalOf D → Result ℕ JournalFault → Type 0
Appends payload old new (Ok number) =
    IsReady payload old × AddsRecord (length payload) old new × (new.pending ≡ None) × (new.spare ≡ old.spare - 1) × (number ≡ length new.places) × (number ≡ length new.contents.payloads)
Appends payload old new (Err NotMended) = IsSome old.pending × (new ≡ old)
Appends payload old new (Err (Full needed)) = (old.pending ≡ None) × (needed ≡ record_end payload old) × (GREATEST_FILE < needed) × (new ≡ old)
Appends payload old new (Err DiskFault) = IsReady payload old × KeepsRecords old new × (new.pending ≡ Some payload) × (new.spare ≡ old.spare - 1)
Appends payload old new (Err NoMemory) = IsReady payload old × (new ≡ old) × (old.spare ≡ 0)

-- what an append of this payload writes after its record, where this one is likely to come next
abbrev pub behind : {D : Type 0} → List ℕ → List ℕ → JournalOf D → List ℕ
behind payload next j = behind_of j.end j.laid payload next

-- up to where a journal has bytes after an append
abbrev pub LaidBy : {D : Type 0} → List ℕ → List ℕ → JournalOf D → JournalOf D → Result ℕ JournalFault → Type 0
LaidBy payload next old new (Ok number) = new.laid ≡ max old.laid (record_end payload old + length (behind payload next old))
LaidBy payload next old new (Err fault) = new.laid ≡ old.laid

-- where the disk tells: an append that went well has written its bytes, with these after them, and no others, and every image has the
-- record; one that failed has left the contents
abbrev pub AppendEnds : List ℕ → List ℕ → Contents → Contents → ℕ → Moments → Moments → Result ℕ JournalFault → Type 0
AppendEnds payload behind old new end before now (Ok number) =
    (new ≡ with_one_more old payload) × Leaves (StandsFor (with_one_more old payload)) now.now
    × (now.now.read ≡ overlaid before.now.read end (OPEN ∷ body payload ++ 0 ∷ behind))
AppendEnds payload behind old new end before now (Err fault) = new ≡ old

-- at each moment of an append a read and each image stand for the payloads before, or for these and the new one, and no byte but
-- those of the record and of what is written after it differs from before
pub record AppendLeaves (payload behind : List ℕ) (contents : Contents) (end : ℕ) (old new : Moments) : Type 0 where
  pub stand : AtEach (IsBeforeOrAfter contents payload) old new
  pub range : AtEach (Torn end (6 + length payload + length behind) old.now.read) old new

-- what an append has written, where this payload was likely to come next
pub record Writes {D : Type 0} (shown : D → DiskShown) (payload next : List ℕ) (old new : JournalOf D) (result : Result ℕ JournalFault) : Type 0 where
  pub laid : LaidBy payload next old new result
  pub end : IfDiskTold (shown old.disk) (shown new.disk) (λ before after. AppendEnds payload (behind payload next old) old.contents new.contents old.end before after result)
  pub leaves : old.pending ≡ None → IfDiskTold (shown old.disk) (shown new.disk) (AppendLeaves payload (behind payload next old) old.contents old.end)

-- A mend. A record that it drops is spare again.
abbrev pub Mends : {D : Type 0} → JournalOf D → JournalOf D → Result Mended JournalFault → Type 0
Mends old new (Ok Nothing) = (old.pending ≡ None) × (new ≡ old)
Mends old new (Ok Counted) = MatchOption old.pending ⊥ (λ payload. AddsRecord (length payload) old new × (new.pending ≡ None) × (new.spare ≡ old.spare))
Mends old new (Ok Dropped) = IsSome old.pending × KeepsRecords old new × (new.pending ≡ None) × (new.spare ≡ old.spare + 1)
Mends old new (Err DiskFault) = IsSome old.pending × KeepsRecords old new × (new.pending ≡ old.pending) × (new.spare ≡ old.spare)
Mends old new (Err NoMemory) = ⊥
Mends old new (Err NotMended) = ⊥
Mends old new (Err (Full needed)) = ⊥

-- where the disk tells: the record in doubt counts where its gate is open, and then every image has it, and else none has
abbrev pub MendEnds : Option (List ℕ) → Contents → Contents → ℕ → Moments → Moments → Result Mended JournalFault → Type 0
MendEnds pending old new end before now (Ok Nothing) = (new ≡ old) × (now ≡ before)
MendEnds pending old new end before now (Ok Counted) =
    MatchOption pending ⊥ (λ payload. (new ≡ with_one_more old payload) × Leaves (StandsFor (with_one_more old payload)) now.now)
    × (slice_index before.now.read end ≡ OPEN)
MendEnds pending old new end before now (Ok Dropped) = (new ≡ old) × Leaves (StandsFor old) now.now × (slice_index before.now.read end ≢ OPEN)
MendEnds pending old new end before now (Err fault) = new ≡ old

-- where the disk tells: a mend syncs, and writes the byte of an open gate alone; at each moment a read and each image stand for the counted
-- payloads, with the one in doubt or without
pub record MendLeaves (pending : Option (List ℕ)) (contents : Contents) (end : ℕ) (old new : Moments) : Type 0 where
  pub reopened : IsReopened end old new
  pub stand : (payload : List ℕ) → pending ≡ Some payload → AtEach (IsBeforeOrAfter contents payload) old new

-- the good sync with which a scan begins: at Ok it was done, and on a refusal at most it was
abbrev pub IsSyncedBy : {T : Type 0} → Result T JournalFault → Moments → Moments → Type 0
IsSyncedBy (Ok answer) old new = new ≡ synced_at old
IsSyncedBy (Err fault) old new = IsSynced old new
