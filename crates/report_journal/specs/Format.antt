-- The format of a journal's file, as a relation on the whole file. Numbers of more than one byte are big-endian. A file has
--
--     its own gate, and a header
--         version 1: `AHJ1`, the clock as four bytes, a digest of 32 bytes
--         version 2: `AHJ2`, clock and digest, 02, the number of goods, and each good's opening price as four bytes
--     for each record a gate, a length as four bytes, and a payload of that length
--     a gate that is not open, and anything after it
--
-- An open gate is a5. The list of records ends at the first gate that is not open; what lies after that gate is free, so a file may
-- be longer than what it stands for. Odd cases: a file shorter than a header of version 1 and one gate is unformed, whatever it
-- begins with. A file with an open first gate that begins with no header, or with one and nothing after it, is damaged in its header.
use Rattle.std.specs.Prelude.{◌≡◌, ◌≢◌, ◌⊎◌, ℕ, ◌+◌, ◌^◌, ◌<◌, ◌≤◌, List, [], ◌∷◌, ◌++◌, length, take, drop, slice_index, Option, Some, None}
use Rattle.byte_numbers.specs.Spelling.{big_bytes, big_number}
use Rattle.std.specs.List.{AllByRecursion, flat_map}
use Rattle.lot_base.specs.declared.limits.TheConstants.{GREATEST_PAYLOAD, GREATEST_FILE, MOST_GOODS}
use Rattle.report_journal.specs.declared.spellings.TheConstants.{OPEN, SHORTEST_FORMED}
use Rattle.report_journal.specs.declared.headers.Header.{Header}

-- `AHJ1`, the name of the first version
abbrev pub first_name : List ℕ
first_name = 0x41 ∷ 0x48 ∷ 0x4a ∷ 0x31 ∷ []

-- `AHJ2`, the name of the second version
abbrev pub second_name : List ℕ
second_name = 0x41 ∷ 0x48 ∷ 0x4a ∷ 0x32 ∷ []

-- the first version has no opening prices, and the second has one for each of 1 to 6 goods
abbrev pub HasOpening : ℕ → Option (List ℕ) → Type 0
HasOpening version None = version ≡ 1
HasOpening version (Some opening) = (version ≡ 2) × (1 ≤ length opening) × (length opening ≤ MOST_GOODS) × AllByRecursion (λ price. price < 2 ^ 32) opening

-- a header that can be spelled
pub record IsHeader (h : Header) : Type 0 where
  pub opening : HasOpening h.version h.opening
  pub clock : h.clock < 2 ^ 32
  pub digest : length h.digest ≡ 32

-- the name that a header begins with
abbrev pub name_of : Option (List ℕ) → List ℕ
name_of None = first_name
name_of (Some opening) = second_name

-- nothing, or 02, the number of goods and each opening price
abbrev pub opening_bytes : Option (List ℕ) → List ℕ
opening_bytes None = []
opening_bytes (Some opening) = 2 ∷ length opening ∷ flat_map (big_bytes 4) opening

-- the bytes of a header, after the file's gate
abbrev pub header_bytes : Header → List ℕ
header_bytes h = name_of h.opening ++ big_bytes 4 h.clock ++ h.digest ++ opening_bytes h.opening

-- the offset of the first record's gate
abbrev pub first_gate : Header → ℕ
first_gate h = 1 + length (header_bytes h)

-- what a journal says: its header and the payload of each record, in their order
pub record Contents : Type 0 where
  pub header : Header
  pub payloads : List (List ℕ)

-- a length and that many bytes
abbrev pub body : List ℕ → List ℕ
body payload = big_bytes 4 (length payload) ++ payload

-- open gates and bodies
abbrev pub records : List (List ℕ) → List ℕ
records [] = []
records (payload ∷ payloads) = OPEN ∷ body payload ++ records payloads

-- all before the gate that ends the list
abbrev pub front : Contents → List ℕ
front x = OPEN ∷ header_bytes x.header ++ records x.payloads

-- a payload that a record may have
abbrev pub IsPayload : List ℕ → Type 0
IsPayload payload = length payload ≤ GREATEST_PAYLOAD

-- the limits of the format
pub record Fits (x : Contents) : Type 0 where
  pub header : IsHeader x.header
  pub payloads : AllByRecursion IsPayload x.payloads
  pub end : length (front x) + 1 ≤ GREATEST_FILE

-- the file begins with these contents, and then with a gate that is not open; what follows is free
pub record StandsFor (x : Contents) (file : List ℕ) : Type 0 where
  pub gate : ℕ
  pub free : List ℕ
  pub whole : file ≡ front x ++ gate ∷ free
  pub shut : gate ≢ OPEN
  pub fits : Fits x

-- the clock and the digest where a header names them, whatever else it has
abbrev pub clock_in : List ℕ → ℕ
clock_in file = big_number 4 (take 4 (drop 5 file))

-- the digest, likewise
abbrev pub digest_in : List ℕ → List ℕ
digest_in file = take 32 (drop 9 file)

-- no journal is formed yet: the file is too short for one, or its own gate is not open
abbrev pub IsUnformed : List ℕ → Type 0
IsUnformed file = (length file < SHORTEST_FORMED) ⊎ (slice_index file 0 ≢ OPEN)

-- the four bytes of a length after a gate
abbrev pub length_at : List ℕ → ℕ → List ℕ
length_at file gate = take 4 (drop (gate + 1) file)

-- no record within the limits stands after this open gate: its length is not wholly there or is too great, or its end
-- is past the file's end or the journal's
abbrev pub HasNoRecord : List ℕ → ℕ → Type 0
HasNoRecord file gate = (length file < gate + 5)
    ⊎ ((GREATEST_PAYLOAD < big_number 4 (length_at file gate))
    ⊎ ((length file < gate + 6 + big_number 4 (length_at file gate))
    ⊎ (GREATEST_FILE < gate + 6 + big_number 4 (length_at file gate))))

-- the file begins with these contents, and then has an open gate with no record
pub record IsDamaged (x : Contents) (file : List ℕ) : Type 0 where
  pub begins : take (length (front x)) file ≡ front x
  pub open_gate : slice_index file (length (front x)) ≡ OPEN
  pub no_record : HasNoRecord file (length (front x))
  pub fits : Fits x

-- the file begins with no header that has a byte after it
pub record HasNoHeader (file : List ℕ) : Type 0 where
  pub formed : IsUnformed file → ⊥
  pub none : (h : Header) (byte : ℕ) (rest : List ℕ) → IsHeader h → file ≡ OPEN ∷ header_bytes h ++ byte ∷ rest → ⊥
