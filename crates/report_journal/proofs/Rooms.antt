-- The room that a journal keeps.
use Rattle.std.proofs.Common.{◌≡◌, ℕ, ◌+◌, ◌^◌, ◌<◌, ◌≤◌, List, ◌∷◌, ◌++◌, length, take, drop, Option, Some, None, refl, ◌∙◌, ap, arith, append_assoc, length-append}
use Rattle.std.proofs.lemmas.List.{take_at, drop_at, length-take-le, length-drop}
use Rattle.byte_numbers.specs.Spelling.{big_bytes}
use Rattle.lot_base.specs.declared.limits.TheConstants.{GREATEST_PAYLOAD, GREATEST_FILE}
use Rattle.report_journal.specs.Format.{body}
use Rattle.report_journal.specs.Journals.{IsReserved, HasRoom, in_doubt}

-- a buffer that was filled has the payload after its length
pub filled : (payload bytes behind : List ℕ) → bytes ≡ body payload ++ 0 ∷ behind → take (length payload) (drop 4 bytes) ≡ payload
filled payload bytes behind is =
    let grouped : bytes ≡ big_bytes 4 (length payload) ++ payload ++ 0 ∷ behind = is ∙ append_assoc (big_bytes 4 (length payload)) payload (0 ∷ behind) in
    ap (λ l. take (length payload) (drop 4 l)) grouped
    ∙ ap (λ (l : List ℕ). take (length payload) l) (drop_at (big_bytes 4 (length payload)) (payload ++ 0 ∷ behind) 4 refl)
    ∙ take_at payload (0 ∷ behind) (length payload) refl

pub filled-length : (payload bytes behind : List ℕ) → bytes ≡ body payload ++ 0 ∷ behind → length bytes ≡ length payload + 5 + length behind
filled-length payload bytes behind is =
    omega (arith, ap length is, length-append (body payload) (0 ∷ behind), length-append (big_bytes 4 (length payload)) payload)

-- the payload in doubt has its length
pub doubt-length : (size : ℕ) (bytes : List ℕ) → size + 4 ≤ length bytes → length (take size (drop 4 bytes)) ≡ size
doubt-length size bytes within = length-take-le size (drop 4 bytes) (omega (arith, length-drop 4 bytes, within))

-- more room was made
pub roomier : (pending : Option ℕ) (end len spare records : ℕ) (bytes : List ℕ) (places_old bytes_old places_room bytes_room : ℕ)
    → HasRoom end len spare bytes places_old bytes_old pending → records < 2 ^ 32 → len + (records + 1) ≤ places_room → GREATEST_PAYLOAD + 5 ≤ bytes_room
    → HasRoom end len records bytes places_room bytes_room pending
roomier None end len spare records bytes places_old bytes_old places_room bytes_room had below more long =
    (omega (arith, below), λ some. record { places = omega (arith, more); bytes = long })
roomier (Some size) end len spare records bytes places_old bytes_old places_room bytes_room had below more long =
    record { fits = had.fits; buffered = had.buffered; below = below; reserved = record { places = more; bytes = long } }

-- nothing is in doubt
pub no-doubt : (bytes : List ℕ) (pending : Option ℕ) → in_doubt bytes pending ≡ None → pending ≡ None
no-doubt bytes None is = refl
no-doubt bytes (Some size) is = absurd (cc is)

-- a record may be put: nothing is in doubt, and it has room
pub record MayPut (end len spare : ℕ) (bytes : List ℕ) (places_room bytes_room size : ℕ) : Type 0 where
  pub below : spare ≤ 2 ^ 32
  pub reserved : IsReserved spare len places_room bytes_room
  pub fits : end + 6 + size ≤ GREATEST_FILE

pub may-put : (end len spare : ℕ) (bytes : List ℕ) (places_room bytes_room size : ℕ) (pending : Option ℕ)
    → HasRoom end len spare bytes places_room bytes_room pending → pending ≡ None → 1 ≤ spare → end + 6 + size ≤ GREATEST_FILE → MayPut end len spare bytes places_room bytes_room size
may-put end len spare bytes places_room bytes_room size None room none some fits = record { below = room.0; reserved = room.1 some; fits = fits }
may-put end len spare bytes places_room bytes_room size (Some doubt) room none some fits = absurd (cc none)
