-- What the first bytes of a file say of its header. The bytes are those after the file's gate.
use Rattle.std.specs.Prelude.{◌≡◌, ℕ, ◌+◌, ◌^◌, ◌<◌, ◌≤◌, List, ◌∷◌, length, take, Option, Some, None}
use Rattle.std.specs.List.{AllByRecursion}
use Rattle.lot_base.specs.declared.limits.TheConstants.{MOST_GOODS}
use Rattle.report_journal.specs.declared.spellings.TheConstants.{OPEN}
use Rattle.report_journal.specs.declared.headers.Header.{Header}
use Rattle.report_journal.specs.declared.scanning.Front.{Front}
use Rattle.report_journal.specs.declared.scanning.Front.TheVariants.{Unformed, Headless, Headed}
use Rattle.report_journal.specs.Format.{IsHeader, header_bytes, opening_bytes, first_gate, IsUnformed, HasNoHeader}
use Rattle.report_journal.specs.Scans.{unread_header}

-- a list that stands at the front of the bytes, and a byte after it
pub record IsFollowed (spelled bytes : List ℕ) : Type 0 where
  pub begins : take (length spelled) bytes ≡ spelled
  pub more : length spelled + 1 ≤ length bytes

-- these opening prices stand at the front of the bytes, and a byte after them
pub record OpensWith (opening bytes : List ℕ) : Type 0 where
  pub some : 1 ≤ length opening
  pub few : length opening ≤ MOST_GOODS
  pub fit : AllByRecursion (λ price. price < 2 ^ 32) opening
  pub followed : IsFollowed (opening_bytes (Some opening)) bytes

-- the opening prices that stand at the front of the bytes, or none where none stand there
abbrev pub IsOpeningAt : Option (List ℕ) → List ℕ → Type 0
IsOpeningAt None bytes = (opening : List ℕ) → OpensWith opening bytes → ⊥
IsOpeningAt (Some opening) bytes = OpensWith opening bytes

-- this header stands at the front of the bytes, and a byte after it
pub record BeginsWith (h : Header) (bytes : List ℕ) : Type 0 where
  pub header : IsHeader h
  pub followed : IsFollowed (header_bytes h) bytes

-- the header that stands at the front of the bytes, or none where none stands there
abbrev pub IsHeaderAt : Option Header → List ℕ → Type 0
IsHeaderAt None bytes = (h : Header) → BeginsWith h bytes → ⊥
IsHeaderAt (Some h) bytes = BeginsWith h bytes

-- the file is formed, and begins with this header and a byte after it
pub record HasHeader (h : Header) (file : List ℕ) : Type 0 where
  pub header : IsHeader h
  pub begins : take (first_gate h) file ≡ OPEN ∷ header_bytes h
  pub more : first_gate h + 1 ≤ length file

-- what the front of the file says of its header
abbrev pub IsFront : Front → List ℕ → Type 0
IsFront Unformed file = IsUnformed file
IsFront (Headless h) file = HasNoHeader file × (h ≡ unread_header file)
IsFront (Headed h) file = HasHeader h file

-- what a front keeps to whatever the file is
abbrev pub IsFrontInOrder : Front → Type 0
IsFrontInOrder Unformed = Unit {0}
IsFrontInOrder (Headless h) = (h.version ≡ 0) × (h.opening ≡ None)
IsFrontInOrder (Headed h) = IsHeader h
