-- Worked examples of what a read of a disk gives, and of what a crash may leave: gaps, writes of no bytes, failed writes and
-- syncs.
use Rattle.std.specs.Prelude.{◌≡◌, ◌<◌, ◌≤◌, ℕ, zero, suc, List, [], ◌∷◌, slice_index, refl}
use Rattle.std.proofs.Common.{inl, inr, ap, ◌∙◌, arith}
use Rattle.house_io.specs.Moments.{Moment, Moments, IsImage, IsOutside, Torn, overlaid, settled, opened, written, wrote, synced_at, HasTorn}
use Rattle.house_io.specs.Calls.{replay, tore, total, room_for}
use Rattle.house_io.specs.Fills.{image_of}
use Rattle.house_io.specs.declared.memory.recorded_file.Fill.TheVariants.{Old, New, Byte}
use Rattle.house_io.specs.declared.memory.recorded_file.Call.TheVariants.{Write, Tear, Sync}

one : ℕ → List ℕ
one x = x ∷ []

two : ℕ → ℕ → List ℕ
two x y = x ∷ y ∷ []

-- A write within a file, over its end, after its end, and into an empty file: a gap is filled with zeros.
writes :
    (overlaid (1 ∷ 2 ∷ 3 ∷ []) 1 (9 ∷ []) ≡ 1 ∷ 9 ∷ 3 ∷ []) × (overlaid (1 ∷ 2 ∷ []) 1 (8 ∷ 9 ∷ []) ≡ 1 ∷ 8 ∷ 9 ∷ [])
    × (overlaid (1 ∷ []) 3 (9 ∷ []) ≡ 1 ∷ 0 ∷ 0 ∷ 9 ∷ []) × (overlaid [] 0 (9 ∷ []) ≡ 9 ∷ [])
writes = (refl, refl, refl, refl)

-- A write of no bytes changes no byte. After the end it lengthens the file up to its offset.
writes_of_nothing : (overlaid (1 ∷ 2 ∷ []) 1 [] ≡ 1 ∷ 2 ∷ []) × (overlaid (1 ∷ 2 ∷ []) 2 [] ≡ 1 ∷ 2 ∷ []) × (overlaid (1 ∷ []) 3 [] ≡ 1 ∷ 0 ∷ 0 ∷ [])
writes_of_nothing = (refl, refl, refl)

-- the room that writes take: at the end, with a gap, of no bytes after the end
rooms : (room_for 2 3 2 ≡ 3) × (room_for 4 1 1 ≡ 4) × (room_for 4 0 1 ≡ 3) × (room_for 1 0 1 ≡ 0)
rooms = (refl, refl, refl, refl)

-- A file of two bytes, opened; byte 1 is written; a write at byte 3 fails; a sync.
calls :
    (replay (Write 1 1 ∷ []) (9 ∷ []) (opened (1 ∷ 2 ∷ [])) ≡ wrote 1 (9 ∷ []) (opened (1 ∷ 2 ∷ [])))
    × ((replay (Write 1 1 ∷ Tear 3 2 ∷ []) (9 ∷ []) (opened (1 ∷ 2 ∷ []))).now ≡ record { read = 1 ∷ 9 ∷ []; synced = 1 ∷ 2 ∷ []; ranges = (3, 2) ∷ (1, 1) ∷ [] })
    × ((replay (Write 1 1 ∷ Tear 3 2 ∷ Sync ∷ []) (9 ∷ []) (opened (1 ∷ 2 ∷ []))).now ≡ settled (1 ∷ 9 ∷ []))
    × (total (Write 1 1 ∷ Tear 3 2 ∷ Write 0 4 ∷ Sync ∷ []) ≡ 5)
calls = (refl, refl, refl, refl)

-- the moment after byte 1 of two was written
over_one : Moment
over_one = written 1 1 (1 ∷ 9 ∷ []) (settled (1 ∷ 2 ∷ []))

-- A crash may leave any byte there, the old one, the new one or neither.
any_byte : (byte : ℕ) → IsImage over_one (1 ∷ byte ∷ [])
unfolding over_one
any_byte byte = record { no_shorter = omega arith; no_longer = omega arith; same = at }
  where
    at : (i : ℕ) → i < 2 → IsOutside i ((1, 1) ∷ []) → slice_index (1 ∷ byte ∷ []) i ≡ slice_index (1 ∷ 2 ∷ []) i
    at zero inside out = refl
    at (suc i) inside (inl before, rest) = absurd (omega arith)
    at (suc i) inside (inr behind, rest) = absurd (omega arith)

-- It leaves the byte before as it is, and the file neither shorter nor longer.
not_another : IsImage over_one (7 ∷ 9 ∷ []) → ⊥
unfolding over_one
not_another image = let same : 7 ≡ 1 = image.same 0 (omega arith) (inl (omega arith), tt) in omega (arith, same)

not_shorter : IsImage over_one (1 ∷ []) → ⊥
unfolding over_one
not_shorter image = let few : 2 ≤ 1 = image.no_shorter in omega arith

not_longer : IsImage over_one (1 ∷ 9 ∷ 0 ∷ []) → ⊥
unfolding over_one
not_longer image = let few : 3 ≤ 2 = image.no_longer in omega arith

-- the moment after a byte was written after a gap
after_a_gap : Moment
after_a_gap = written 3 1 (1 ∷ 0 ∷ 0 ∷ 9 ∷ []) (settled (1 ∷ []))

-- A crash may leave the old end, or any later one up to that of the write, with anything after the old end, in the gap too.
gap_images : IsImage after_a_gap (1 ∷ []) × IsImage after_a_gap (1 ∷ 5 ∷ 6 ∷ 7 ∷ [])
unfolding after_a_gap
gap_images = (
  record { no_shorter = omega arith; no_longer = omega arith; same = λ i inside out. refl },
  record { no_shorter = omega arith; no_longer = omega arith; same = at },
)
  where
    at : (i : ℕ) → i < 1 → IsOutside i ((3, 1) ∷ []) → slice_index (1 ∷ 5 ∷ 6 ∷ 7 ∷ []) i ≡ slice_index (1 ∷ []) i
    at zero inside out = refl
    at (suc i) inside out = absurd (omega arith)

-- A failed write of no bytes within a file leaves what a read gives.
torn_by_nothing : (x y : ℕ) → Torn 1 0 (1 ∷ 2 ∷ []) (x ∷ y ∷ []) → (x ≡ 1) × (y ≡ 2)
torn_by_nothing x y torn = (torn.same 0 (omega arith) (inl (omega arith)), torn.same 1 (omega arith) (inr (omega arith)))

-- A failed write after the end of a file of one byte leaves zeros before its range, as far as there is anything.
torn_after_a_gap : (new : Moments) → HasTorn 3 1 (opened (1 ∷ [])) new → (slice_index new.now.read 1 ≡ 0) × (slice_index new.now.read 2 ≡ 0)
torn_after_a_gap new (file, torn, is, zeros) = (
  ap (λ (ms : Moments). slice_index ms.now.read 1) is ∙ zeros 1 (omega arith) (omega arith),
  ap (λ (ms : Moments). slice_index ms.now.read 2) is ∙ zeros 2 (omega arith) (omega arith),
)

-- What is left of byte 1, and of a failed write after a gap: the bytes of then, what was written, and one byte throughout.
fills :
    (image_of Old over_one ≡ 1 ∷ 2 ∷ []) × (image_of New over_one ≡ 1 ∷ 9 ∷ []) × (image_of (Byte 5) over_one ≡ 1 ∷ 5 ∷ [])
    × (image_of (Byte 5) (tore 3 2 (opened (1 ∷ []))).now ≡ 1 ∷ 0 ∷ 0 ∷ 5 ∷ 5 ∷ [])
    × (image_of New (tore 3 2 (opened (1 ∷ []))).now ≡ 1 ∷ []) × (image_of (Byte 5) (synced_at (tore 3 2 (opened (1 ∷ [])))).now ≡ 1 ∷ [])
unfolding over_one
fills = (refl, refl, refl, refl, refl, refl)
