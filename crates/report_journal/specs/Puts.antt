-- What the calls of a journal change of the contents that its file stands for.
use Rattle.std.specs.Prelude.{◌≡◌, ◌≢◌, ◌⊎◌, ℕ, ◌+◌, ◌<◌, ◌≤◌, max, Bool, IsTrue, List, [], ◌∷◌, ◌++◌, length, drop, slice_index, Result, Ok, Err, OnOk}
use Rattle.house_io.specs.Disks.{DiskShown, IfDiskTold}
use Rattle.house_io.specs.Moments.{Moment, Moments, AtEach, Torn, IsSettled, overlaid, settled, synced_at}
use Rattle.report_journal.specs.declared.headers.Header.{Header}
use Rattle.report_journal.specs.declared.spellings.TheConstants.{OPEN}
use Rattle.report_journal.specs.Format.{Contents, IsHeader, header_bytes, body, front, Fits, StandsFor, IsUnformed}

-- the contents with this header and no payload
abbrev pub empty : Header → Contents
empty header = record { header = header; payloads = [] }

-- the contents with this payload after the others
abbrev pub with_one_more : Contents → List ℕ → Contents
with_one_more x payload = record { header = x.header; payloads = x.payloads ++ payload ∷ [] }

-- the file stands for the contents, or for them with this payload
abbrev pub IsBeforeOrAfter : Contents → List ℕ → List ℕ → Type 0
IsBeforeOrAfter x payload file = StandsFor x file ⊎ StandsFor (with_one_more x payload) file

-- the file is unformed, or stands for this header and no payload
abbrev pub IsUnformedOrEmpty : Header → List ℕ → Type 0
IsUnformedOrEmpty header file = IsUnformed file ⊎ StandsFor (empty header) file

-- a record for this payload may be put at the closed gate
pub record Takes (x : Contents) (payload : List ℕ) (gate : ℕ) (file : List ℕ) : Type 0 where
  pub stands : StandsFor x file
  pub at : length (front x) ≡ gate
  pub fits : Fits (with_one_more x payload)

-- the bytes begin with the record of this payload, after its gate, and a closed gate
abbrev pub HasRecord : List ℕ → List ℕ → Type 0
HasRecord payload bytes = (behind : List ℕ) × (bytes ≡ body payload ++ 0 ∷ behind)

-- the file is settled, and has the bytes before this offset
pub record IsSettledTo (offset : ℕ) (m : Moment) : Type 0 where
  pub settled : IsSettled m
  pub within : offset ≤ length m.read

-- these bytes lie in the file at this offset
abbrev pub LieAt : ℕ → List ℕ → List ℕ → Type 0
LieAt at bytes file = (behind : List ℕ) × (drop at file ≡ bytes ++ behind)

-- what a hint said: who answers Ok has asked, and who fails may not have come to it
abbrev pub IsAsked : {T E : Type 0} → (List ℕ → Type 0) → List ℕ → Result T E → Type 0
IsAsked says next (Ok answer) = says next
IsAsked says next (Err fault) = (next ≡ []) ⊎ says next

-- any bytes in both ranges and past the old end, the same elsewhere
pub record TornTwice (a n b k : ℕ) (old new : List ℕ) : Type 0 where
  pub no_shorter : length old ≤ length new
  pub no_longer : length new ≤ max (b + k) (max (a + n) (length old))
  pub same : (i : ℕ) → i < length old → (i < a) ⊎ (a + n ≤ i) → (i < b) ⊎ (b + k ≤ i) → slice_index new i ≡ slice_index old i

-- what opening a gate before these bytes leaves, which begin with the record of a payload: the file with them, at each moment the payloads
-- before or these and the new one, and no other byte that differs
pub record Opens {D T E : Type 0} (shown : D → DiskShown) (gate : ℕ) (payload bytes : List ℕ) (old new : D) (result : Result T E) : Type 0 where
  pub done : OnOk result (IfDiskTold (shown old) (shown new) (λ before after. after.now ≡ settled (overlaid before.now.read gate (OPEN ∷ bytes))))
  pub stand : IfDiskTold (shown old) (shown new) (λ before after. (x : Contents) → Takes x payload gate before.now.read → AtEach (IsBeforeOrAfter x payload) before after)
  pub range : IfDiskTold (shown old) (shown new) (λ before after. AtEach (Torn gate (1 + length bytes) before.now.read) before after)

-- What a crash may leave of a file while these bytes are put after this gate: first they are torn, and once they are there
-- the gate is.
abbrev pub IsStage : ℕ → List ℕ → List ℕ → List ℕ → Type 0
IsStage gate bytes old file = Torn (gate + 1) (length bytes) old file ⊎ Torn gate 1 (overlaid old (gate + 1) bytes) file

-- the file has a first gate, and it is closed
pub record IsShut (file : List ℕ) : Type 0 where
  pub some : 1 ≤ length file
  pub shut : slice_index file 0 ≢ OPEN

-- the bytes of a header that can be spelled, and a closed gate
pub record IsHead (h : Header) (bytes : List ℕ) : Type 0 where
  pub spelled : bytes ≡ header_bytes h ++ 0 ∷ []
  pub header : IsHeader h

-- the disk was synced, or nothing happened to it
abbrev pub IsSynced : Moments → Moments → Type 0
IsSynced old new = (new ≡ old) ⊎ (new ≡ synced_at old)

-- the disk was synced, or nothing happened to it; or it was synced, its gate read open, and then the gate was opened once more, which a
-- crash may have cut short
abbrev pub IsReopened : ℕ → Moments → Moments → Type 0
IsReopened gate old new = IsSynced old new ⊎ ((slice_index old.now.read gate ≡ OPEN) × AtEach (Torn gate 1 old.now.read) (synced_at old) new)
