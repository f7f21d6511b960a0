-- A reader of a stream that comes in pieces.
use Rattle.std.specs.Prelude.{◌≡◌, ◌≤◌, ℕ, ◌+◌, ◌-◌, nat_lt, List, [], ◌++◌, length, drop, Option, None, option_map, if◌then◌else◌}
use Rattle.report_wire.specs.declared.frames.WireKind.{WireKind}
use Rattle.report_wire.specs.declared.frames.WireFault.{WireFault}
use Rattle.report_wire.specs.Frames.{Direction, Sent, IsMessage, IsPartial, IsFault, spelling, length_at}
use Rattle.report_wire.specs.declared.readers.Found.{Found}
use Rattle.report_wire.specs.declared.readers.Found.TheVariants.{Message, Partial, Fault}

-- how many bytes of the stream came before the rest, modulo 2^64; the rest; and the fault that stands in it, if one does
pub record ReaderState : Type 0 where
  pub place : ℕ
  pub rest : List ℕ
  pub fault : Option WireKind

-- a reader before the first piece
abbrev pub fresh : ReaderState
fresh = record { place = 0; rest = []; fault = None }

-- what a message says in its frame
abbrev pub sent_of : {M : Type 0} → (M → ℕ) → (M → List ℕ) → M → Sent
sent_of kind_of payload_of m = record { kind = kind_of m; payload = payload_of m }

-- what stands at the front of some bytes
abbrev pub IsFound : {M : Type 0} → Direction → (M → ℕ) → (M → List ℕ) → Found M → List ℕ → Type 0
IsFound d kind_of payload_of (Message m size) bytes =
    IsMessage d (kind_of m) (payload_of m) × (length (spelling (kind_of m) (payload_of m)) ≡ size) × (size ≤ length bytes) × (bytes ≡ spelling (kind_of m) (payload_of m) ++ drop size bytes)
IsFound d kind_of payload_of Partial bytes = IsPartial d bytes
IsFound d kind_of payload_of (Fault fault) bytes = IsFault d fault bytes

-- the fault with its place, if there is one
abbrev pub fault_of : ReaderState → Option WireFault
fault_of s = option_map (λ kind. record { place = s.place; kind = kind }) s.fault

-- how many bytes the next frame still needs, as far as the rest tells: its head, and then its payload
abbrev pub needs_of : List ℕ → ℕ
needs_of rest = if nat_lt (length rest) 5 then 5 - length rest else 5 + length_at rest - length rest
