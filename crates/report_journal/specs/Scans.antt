-- What a scan finds in a file, gate by gate.
use Rattle.std.specs.Prelude.{◌≡◌, ◌≢◌, ◌⊎◌, ℕ, ◌+◌, ◌*◌, ◌≤◌, ◌<◌, Bool, true, false, List, [], ◌∷◌, ◌++◌, length, take, drop, slice_index, None}
use Rattle.byte_numbers.specs.Spelling.{big_bytes}
use Rattle.std.specs.List.{AllByRecursion}
use Rattle.lot_base.specs.declared.limits.TheConstants.{GREATEST_PAYLOAD, GREATEST_FILE}
use Rattle.report_journal.specs.declared.headers.Header.{Header}
use Rattle.report_journal.specs.declared.spellings.TheConstants.{OPEN}
use Rattle.report_journal.specs.Format.{Contents, IsHeader, first_gate, records, front, StandsFor, IsUnformed, IsPayload, length_at, HasNoRecord, IsDamaged, HasNoHeader, clock_in, digest_in}
use Rattle.report_journal.specs.Journals.{payloads_at, ArePlaced, said}
use Rattle.report_journal.specs.declared.places.Place.{Place}
use Rattle.report_journal.specs.declared.scanning.Scanned.{Scanned}
use Rattle.report_journal.specs.declared.scanning.Scanned.TheVariants.{Unformed, Formed}
use Rattle.report_journal.specs.declared.scanning.Scanned.TheVariants as scanned
use Rattle.report_journal.specs.declared.heads.Next.{Next}
use Rattle.report_journal.specs.declared.heads.Next.TheVariants.{Closed, Record, Damaged}

-- the first bytes of the buffer, as many as are filled, are those of the file from this offset on
abbrev pub IsChunk : List ℕ → ℕ → ℕ → List ℕ → Type 0
IsChunk bytes at filled file = take filled bytes ≡ take filled (drop at file)

-- what stands at this gate
abbrev pub IsNext : Next → ℕ → List ℕ → Type 0
IsNext Closed gate file = slice_index file gate ≢ OPEN
IsNext (Record n) gate file = (slice_index file gate ≡ OPEN) × (length_at file gate ≡ big_bytes 4 n) × (gate + 6 + n ≤ length file)
IsNext Damaged gate file = (slice_index file gate ≡ OPEN) × HasNoRecord file gate

-- the list of records ends at this gate: it is closed, or open with no record after it
abbrev pub IsEndOfList : Bool → ℕ → List ℕ → Type 0
IsEndOfList true gate file = slice_index file gate ≢ OPEN
IsEndOfList false gate file = (slice_index file gate ≡ OPEN) × HasNoRecord file gate

-- the records from the first gate up to this one lie at these places
pub record AreRead (first : ℕ) (places : List Place) (gate : ℕ) (file : List ℕ) : Type 0 where
  pub split : file ≡ take first file ++ records (payloads_at file places) ++ drop gate file
  pub placed : ArePlaced first places (payloads_at file places)
  pub payloads : AllByRecursion IsPayload (payloads_at file places)
  pub size : gate ≡ first + length (records (payloads_at file places))
  pub within : gate < length file

-- what is kept of a header that cannot be read: version 0, no opening, and the clock and the digest where they would stand
abbrev pub unread_header : List ℕ → Header
unread_header file = record { version = 0; clock = clock_in file; digest = digest_in file; opening = None }

-- what a scan answers of a file; a damaged record is told by its number, and the header by 0
abbrev pub IsScan : Scanned → List ℕ → Type 0
IsScan Unformed file = IsUnformed file
IsScan (Formed header places end) file =
    StandsFor (said header places file) file × ArePlaced (first_gate header) places (payloads_at file places) × (length (front (said header places file)) ≡ end)
IsScan (scanned.Damaged header places number) file =
    ((number ≡ 0) × (places ≡ []) × HasNoHeader file × (header ≡ unread_header file))
    ⊎ ((number ≡ length places + 1) × IsDamaged (said header places file) file × ArePlaced (first_gate header) places (payloads_at file places))

-- the records at these places follow one another, the first one's gate at this offset
abbrev pub FollowFrom : ℕ → List Place → Type 0
FollowFrom gate [] = Unit {0}
FollowFrom gate (place ∷ places) = (place.at ≡ gate + 5) × (place.length ≤ GREATEST_PAYLOAD) × FollowFrom (gate + 5 + place.length) places

-- the gate after the last of them
abbrev pub gate_after : ℕ → List Place → ℕ
gate_after gate [] = gate
gate_after gate (place ∷ places) = gate_after (gate + 5 + place.length) places

-- the records at these places follow one another from the first gate to this one, within the limits
pub record FollowTo (first : ℕ) (places : List Place) (gate : ℕ) : Type 0 where
  pub follow : FollowFrom first places
  pub after : gate_after first places ≡ gate
  pub limit : gate + 1 ≤ GREATEST_FILE
  pub roomy : 5 * length places ≤ gate

-- What an answer keeps to whatever the file is: its header can be spelled, its records follow one another within the limits, up to
-- the gate that it names, and a damaged record is the one after them. The header of a file damaged in it is of version 0.
abbrev pub IsInOrder : Scanned → Type 0
IsInOrder Unformed = Unit {0}
IsInOrder (Formed header places end) = IsHeader header × FollowFrom (first_gate header) places × (gate_after (first_gate header) places ≡ end) × (end + 1 ≤ GREATEST_FILE)
IsInOrder (scanned.Damaged header places number) =
    ((number ≡ 0) × (places ≡ []) × (header.version ≡ 0) × (header.opening ≡ None))
    ⊎ ((number ≡ length places + 1) × IsHeader header × FollowFrom (first_gate header) places × (gate_after (first_gate header) places + 1 ≤ GREATEST_FILE))

-- the scan found a formed journal with no broken record
abbrev pub IsFormed : Scanned → Type 0
IsFormed (Formed header places end) = Unit {0}
IsFormed s = ⊥

-- the contents that a scan found in a file
abbrev pub contents_of : Scanned → List ℕ → Contents
contents_of (Formed header places end) file = said header places file
contents_of (scanned.Damaged header places number) file = said header places file
contents_of Unformed file = record { header = unread_header file; payloads = [] }

-- where the payloads lie that a scan found
abbrev pub places_in : Scanned → List Place
places_in Unformed = []
places_in (Formed header places end) = places
places_in (scanned.Damaged header places number) = places

-- the gate that ends the list that a scan found
abbrev pub end_in : Scanned → ℕ
end_in (Formed header places end) = end
end_in s = 0
