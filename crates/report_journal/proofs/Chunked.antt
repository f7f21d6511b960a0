-- What a chunk of a file says of the file.
use Rattle.std.proofs.Common.{◌≡◌, ℕ, ◌+◌, ◌-◌, ◌≤◌, min, List, length, take, drop, sym, ◌∙◌, ap, arith, length-drop}
use Rattle.std.proofs.lemmas.List.{drop-take, drop-drop, take-take, length-take}
use Rattle.report_journal.specs.Scans.{IsChunk}

-- a chunk that is filled has so many bytes of the file
pub chunk_within : (bytes file : List ℕ) (at filled : ℕ) → IsChunk bytes at filled file → filled ≤ length bytes → filled ≤ length file - at
chunk_within bytes file at filled is within =
    omega (arith, ap length is, length-take filled bytes, length-take filled (drop at file), length-drop at file, within)

-- the bytes after an offset in a chunk are the file's there
pub chunk_after : (bytes file : List ℕ) (at filled gate n : ℕ) → IsChunk bytes at filled file → at ≤ gate → gate - at + n ≤ filled
    → take n (drop (gate - at) (take filled bytes)) ≡ take n (drop gate file)
chunk_after bytes file at filled gate n is below room =
    let rest = filled - (gate - at) in
    let split : filled ≡ (gate - at) + rest = omega (arith, room) in
    let place : at + (gate - at) ≡ gate = omega (arith, below) in
    ap (λ (l : List ℕ). take n (drop (gate - at) l)) is
    ∙ ap (λ (k : ℕ). take n (drop (gate - at) (take k (drop at file)))) split
    ∙ ap (λ (l : List ℕ). take n l) (drop-take (gate - at) rest (drop at file))
    ∙ take-take n rest (drop (gate - at) (drop at file)) (omega (arith, room))
    ∙ ap (λ (l : List ℕ). take n l) (drop-drop (gate - at) at file)
    ∙ ap (λ (k : ℕ). take n (drop k file)) place

-- what was copied of a chunk that has all five bytes after an offset
pub copied_held : (bytes file : List ℕ) (at filled gate count : ℕ) (into : List ℕ) → IsChunk bytes at filled file → filled ≤ length bytes
    → at ≤ gate → gate + 5 ≤ at + filled → count ≡ min 5 (filled - (gate - at)) → take count into ≡ take count (drop (gate - at) (take filled bytes))
    → (count ≡ min 5 (length file - gate)) × (take count into ≡ take count (drop gate file))
copied_held bytes file at filled gate count into is within below held size same = (
  omega (arith, size, below, held, chunk_within bytes file at filled is within),
  same ∙ chunk_after bytes file at filled gate count is below (omega (arith, size, below, held)),
)

-- a chunk of nothing
pub chunk_none : (bytes file : List ℕ) (at filled : ℕ) → filled ≡ 0 → IsChunk bytes at filled file
chunk_none bytes file at filled none = ap (λ (k : ℕ). take k bytes) none ∙ sym (ap (λ (k : ℕ). take k (drop at file)) none)
