-- A journal as its callers see it: a disk, the payloads that count, and the one that is in doubt.
use Rattle.std.specs.Prelude.{◌≡◌, ℕ, ◌+◌, ◌*◌, ◌^◌, ◌≤◌, ◌<◌, List, [], ◌∷◌, ◌++◌, length, take, drop, map, Option, Some, None}
use Rattle.std.specs.Option.{option_map}
use Rattle.house_io.specs.Moments.{Moments, Leaves, IsSettled}
use Rattle.lot_base.specs.declared.limits.TheConstants.{GREATEST_PAYLOAD, GREATEST_FILE}
use Rattle.report_journal.specs.declared.headers.Header.{Header}
use Rattle.report_journal.specs.Format.{Contents, IsHeader, StandsFor, Fits, front, first_gate}
use Rattle.report_journal.specs.Puts.{with_one_more, IsBeforeOrAfter, HasRecord}
use Rattle.report_journal.specs.declared.places.Place.{Place}

pub record JournalOf (D : Type 0) : Type 0 where
  pub disk : D
  -- what the disk's file stands for, where the disk tells
  pub contents : Contents
  -- where the payloads lie in the file
  pub places : List Place
  -- the offset of the gate that ends the list
  pub end : ℕ
  -- the payload in doubt: that of an append that failed on the disk and was not mended
  pub pending : Option (List ℕ)
  -- how many more records an append may put without taking memory
  pub spare : ℕ
  -- up to where its calls have found or written bytes of the file
  pub laid : ℕ

-- Of two states of a journal: the header is the same, and so are the records in number and place.
pub record KeepsRecords {D : Type 0} (old new : JournalOf D) : Type 0 where
  pub header : new.contents.header ≡ old.contents.header
  pub count : length new.contents.payloads ≡ length old.contents.payloads
  pub places : new.places ≡ old.places
  pub end : new.end ≡ old.end

-- The header is the same, and one record of this length stands after the old ones.
pub record AddsRecord {D : Type 0} (size : ℕ) (old new : JournalOf D) : Type 0 where
  pub header : new.contents.header ≡ old.contents.header
  pub count : length new.contents.payloads ≡ length old.contents.payloads + 1
  pub places : new.places ≡ old.places ++ record { at = old.end + 5; length = size } ∷ []
  pub end : new.end ≡ old.end + 5 + size

-- the bytes of the file at this place
abbrev pub payload_at : List ℕ → Place → List ℕ
payload_at file place = take place.length (drop place.at file)

-- those at these places, in order
abbrev pub payloads_at : List ℕ → List Place → List (List ℕ)
payloads_at file places = map (payload_at file) places

-- what a header and the places of records say of a file
abbrev pub said : Header → List Place → List ℕ → Contents
said header places file = record { header = header; payloads = payloads_at file places }

-- these payloads lie at these places, the first record's gate at this offset
abbrev pub ArePlaced : ℕ → List Place → List (List ℕ) → Type 0
ArePlaced gate [] [] = Unit {0}
ArePlaced gate (place ∷ places) (payload ∷ payloads) = (place.at ≡ gate + 5) × (place.length ≡ length payload) × ArePlaced (gate + 5 + length payload) places payloads
ArePlaced gate places payloads = ⊥

-- The disk is settled and its file stands for the contents, or this payload is in doubt: a read and each image
-- stand for the contents with it or without it.
abbrev pub Stands : Contents → Option (List ℕ) → Moments → Type 0
Stands x None ms = IsSettled ms.now × StandsFor x ms.now.read
Stands x (Some payload) ms = Leaves (IsBeforeOrAfter x payload) ms.now × Fits (with_one_more x payload)

-- what a journal keeps where its disk tells
pub record IsKept (x : Contents) (places : List Place) (end : ℕ) (pending : Option (List ℕ)) (ms : Moments) : Type 0 where
  pub stands : Stands x pending ms
  pub placed : ArePlaced (first_gate x.header) places x.payloads
  pub size : length (front x) ≡ end

-- the payload in doubt, of this length in the buffer that holds the record that was put last: after the four bytes of its length
abbrev pub in_doubt : List ℕ → Option ℕ → Option (List ℕ)
in_doubt bytes pending = option_map (λ size. take size (drop 4 bytes)) pending

-- After the gate that ends the list lies what the buffer has from this offset on, where that is known.
abbrev pub LiesAhead : Option ℕ → List ℕ → ℕ → List ℕ → Type 0
LiesAhead None bytes end file = Unit {0}
LiesAhead (Some from) bytes end file = (rest : List ℕ) × (drop (end + 1) file ≡ drop from bytes ++ rest)

-- the record of this payload lies there
abbrev pub HasAhead : Option ℕ → List ℕ → List ℕ → Type 0
HasAhead None bytes payload = ⊥
HasAhead (Some from) bytes payload = HasRecord payload (drop from bytes)

-- the room for so many places beside those that there are, and for the bytes of the longest record
pub record IsReserved (more len places_room bytes_room : ℕ) : Type 0 where
  pub places : len + more ≤ places_room
  pub bytes : GREATEST_PAYLOAD + 5 ≤ bytes_room

-- the record in doubt, of a payload of this length, fits and stands in the buffer, and its place has room beside the spare ones
pub record HoldsDoubt (size end len spare : ℕ) (bytes : List ℕ) (places_room bytes_room : ℕ) : Type 0 where
  pub fits : end + 6 + size ≤ GREATEST_FILE
  pub buffered : size + 4 ≤ length bytes
  pub below : spare < 2 ^ 32
  pub reserved : IsReserved (spare + 1) len places_room bytes_room

-- the room that a journal keeps
abbrev pub HasRoom : ℕ → ℕ → ℕ → List ℕ → ℕ → ℕ → Option ℕ → Type 0
HasRoom end len spare bytes places_room bytes_room None = (spare ≤ 2 ^ 32) × (1 ≤ spare → IsReserved spare len places_room bytes_room)
HasRoom end len spare bytes places_room bytes_room (Some size) = HoldsDoubt size end len spare bytes places_room bytes_room

-- what a journal keeps of any disk
pub record IsWithin (header : Header) (places : List Place) (end spare : ℕ) (bytes : List ℕ) (places_room bytes_room : ℕ) (pending : Option ℕ) : Type 0 where
  pub spelled : IsHeader header
  pub limit : end + 1 ≤ GREATEST_FILE
  pub roomy : 5 * length places ≤ end
  pub room : HasRoom end (length places) spare bytes places_room bytes_room pending
