-- Worked moments of a small file whose last byte is a closed gate, over three lives: one was killed within an append, of one the power went, and
-- one ended.
use Rattle.std.specs.Prelude.{◌≡◌, ◌<◌, ◌≤◌, ℕ, zero, suc, [], ◌∷◌, slice_index, refl}
use Rattle.std.proofs.Common.{inl, inr, arith}
use Rattle.house_io.specs.Moments.{HasTorn, IsImage, IsOutside, Moments, opened, synced_at, then, written, wrote}
use Rattle.house_io.proofs.Moments.{only_settled}
use Rattle.house_lives.specs.Crashes.{FailedSince, IsCrashed}
use Rattle.house_lives.specs.Lives.{LeadsTo}

-- The first life wrote 7 and a closed gate after the gate, and was killed before these were synced.
abbrev killed : Moments
killed = wrote 2 (7 ∷ 0 ∷ []) (opened (1 ∷ 0 ∷ []))

-- As one that went on with every call failing, it tried to open the gate, and a read gives what it gave.
abbrev ended : Moments
ended = then killed (written 1 1 (1 ∷ 0 ∷ 7 ∷ 0 ∷ []) killed.now)

gate_torn : HasTorn 1 1 killed ended
gate_torn = ((1 ∷ 0 ∷ 7 ∷ 0 ∷ []), record { no_shorter = omega arith; no_longer = omega arith; same = λ i below outside. refl }, refl, λ i behind before. absurd (let e : i < 1 = before in let f : 4 ≤ i = behind in omega (arith, e, f)))

failed : FailedSince ((1, 1) ∷ []) killed ended
failed = (ended, gate_torn, refl)

-- what a read gives is one of the images, as the law of the kill asks
reads_image : IsImage killed.now killed.now.read
reads_image = record { no_shorter = omega arith; no_longer = omega arith; same = at }
  where
    at : (i : ℕ) → i < 2 → IsOutside i ((2, 2) ∷ []) → slice_index (1 ∷ 0 ∷ 7 ∷ 0 ∷ []) i ≡ slice_index (1 ∷ 0 ∷ []) i
    at zero inside out = refl
    at (suc zero) inside out = refl
    at (suc (suc i)) inside out = absurd (omega arith)

-- The process alone died: the second life began with what a read gives.
process_died : LeadsTo killed (opened (1 ∷ 0 ∷ 7 ∷ 0 ∷ []))
process_died file (inl read) = inl read
process_died file (inr image) = inl (only_settled (1 ∷ 0 ∷ 7 ∷ 0 ∷ []) file image)

-- Had the power gone, it might have begun with one byte of the record, and another than was written.
power_gone : IsCrashed killed (opened (1 ∷ 0 ∷ 9 ∷ []))
power_gone = record { image = 1 ∷ 0 ∷ 9 ∷ []; is = record { no_shorter = omega arith; no_longer = omega arith; same = at }; now_is = refl }
  where
    at : (i : ℕ) → i < 2 → IsOutside i ((2, 2) ∷ []) → slice_index (1 ∷ 0 ∷ 9 ∷ []) i ≡ slice_index (1 ∷ 0 ∷ []) i
    at zero inside out = refl
    at (suc zero) inside out = refl
    at (suc (suc i)) inside out = absurd (omega arith)

-- With an open gate it could not have begun.
not_opened : IsImage killed.now (1 ∷ 165 ∷ 7 ∷ 0 ∷ []) → ⊥
not_opened image = let same : 165 ≡ 0 = image.same 1 (omega arith) (inl (omega arith), tt) in omega (arith, same)

-- A life that ended had synced all: only what a read gives is left.
all_synced : LeadsTo (synced_at killed) (opened (1 ∷ 0 ∷ 7 ∷ 0 ∷ []))
all_synced file (inl read) = inl read
all_synced file (inr image) = inl (only_settled (1 ∷ 0 ∷ 7 ∷ 0 ∷ []) file image)
