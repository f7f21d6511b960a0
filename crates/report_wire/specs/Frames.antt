-- Frames. A frame is the length of its payload in four bytes, its kind in one, and the payload; numbers of more than one byte are
-- big-endian. A payload has at most 32,768 bytes. Which kinds there are, and what their payloads are, depends on the direction.
-- A stream is read as the frames at its front, and then either less than a frame, or what cannot be one: a fault. A fault stands
-- there as soon as the bytes so far decide it.
use Rattle.std.specs.Prelude.{◌≡◌, ◌≤◌, ◌<◌, ℕ, ◌+◌, Bool, true, false, List, ◌∷◌, ◌++◌, length, take, drop, slice_index, Option, Some, None, ◌⊎◌, MatchOption}
use Rattle.byte_numbers.specs.Spelling.{big_bytes, big_number}
use Rattle.std.specs.List.{AllByRecursion, flat_map}
use Rattle.lot_base.specs.declared.limits.TheConstants.{GREATEST_PAYLOAD}
use Rattle.report_wire.specs.declared.frames.WireKind.{WireKind}
use Rattle.report_wire.specs.declared.frames.WireKind.TheVariants.{TooLong, UnknownKind, BadPayload}

-- which kinds there are; which lengths of a payload a kind allows, as far as they decide; and which bytes are a payload of a kind
pub record Direction : Type 0 where
  pub is_kind : ℕ → Bool
  pub allows : ℕ → ℕ → Bool
  pub is_payload : ℕ → List ℕ → Bool

-- what one frame says
pub record Sent : Type 0 where
  pub kind : ℕ
  pub payload : List ℕ

-- the bytes of a frame of this kind and payload
abbrev pub spelling : ℕ → List ℕ → List ℕ
spelling kind payload = big_bytes 4 (length payload) ++ kind ∷ payload

-- the bytes of a frame that says this
abbrev pub spelled : Sent → List ℕ
spelled s = spelling s.kind s.payload

-- the payload is one of the kind, and is not too long
pub record IsMessage (d : Direction) (kind : ℕ) (payload : List ℕ) : Type 0 where
  pub formed : d.is_payload kind payload ≡ true
  pub short : length payload ≤ GREATEST_PAYLOAD

-- a frame may say this
abbrev pub IsSent : Direction → Sent → Type 0
IsSent d s = IsMessage d s.kind s.payload

-- the length that bytes begin with
abbrev pub length_at : List ℕ → ℕ
length_at bytes = big_number 4 (take 4 bytes)

-- the kind after the length
abbrev pub kind_at : List ℕ → ℕ
kind_at bytes = slice_index bytes 4

-- the payload after the kind
abbrev pub payload_at : List ℕ → List ℕ
payload_at bytes = take (length_at bytes) (drop 5 bytes)

-- the length and the kind are there, and neither is faulty
pub record IsBegun (d : Direction) (bytes : List ℕ) : Type 0 where
  pub head : 5 ≤ length bytes
  pub short : length_at bytes ≤ GREATEST_PAYLOAD
  pub known : d.is_kind (kind_at bytes) ≡ true

-- less than a frame, and nothing that is faulty so far
abbrev pub IsPartial : Direction → List ℕ → Type 0
IsPartial d bytes =
    (length bytes < 4)
    ⊎ (((length bytes < 5) × (length_at bytes ≤ GREATEST_PAYLOAD))
    ⊎ (IsBegun d bytes × (d.allows (kind_at bytes) (length_at bytes) ≡ true) × (length bytes < 5 + length_at bytes)))

-- this fault stands at the front
abbrev pub IsFault : Direction → WireKind → List ℕ → Type 0
IsFault d (TooLong n) bytes = (4 ≤ length bytes) × (length_at bytes ≡ n) × (GREATEST_PAYLOAD < n)
IsFault d (UnknownKind kind) bytes = (5 ≤ length bytes) × (length_at bytes ≤ GREATEST_PAYLOAD) × (kind_at bytes ≡ kind) × (d.is_kind kind ≡ false)
IsFault d (BadPayload kind n) bytes =
    IsBegun d bytes × (length_at bytes ≡ n) × (kind_at bytes ≡ kind)
    × ((d.allows kind n ≡ false) ⊎ ((5 + n ≤ length bytes) × (d.is_payload kind (payload_at bytes) ≡ false)))

-- the bytes of frames, and these bytes after them
abbrev pub stream_of : List Sent → List ℕ → List ℕ
stream_of frames rest = flat_map spelled frames ++ rest

-- The stream is these frames, and then less than a frame, or this fault.
pub record Reads (d : Direction) (stream : List ℕ) (frames : List Sent) (rest : List ℕ) (fault : Option WireKind) : Type 0 where
  pub whole : stream ≡ stream_of frames rest
  pub each : AllByRecursion (IsSent d) frames
  pub ends : MatchOption fault (IsPartial d rest) (λ f. IsFault d f rest)

-- what was read of a payload of a kind
abbrev pub IsRead : {M : Type 0} → Direction → (M → ℕ) → (M → List ℕ) → ℕ → List ℕ → Option M → Type 0
IsRead d kind_of payload_of kind payload None = d.is_payload kind payload ≡ false
IsRead d kind_of payload_of kind payload (Some m) = (kind_of m ≡ kind) × (payload_of m ≡ payload) × (d.is_payload kind payload ≡ true)
