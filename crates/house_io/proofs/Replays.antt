-- One more call of a record, and that what a read gives is always one of the images.
use Rattle.std.proofs.Common.{◌≡◌, ℕ, ◌+◌, ◌≤◌, List, [], ◌∷◌, ◌++◌, length, take, drop, refl, ◌∙◌, ap, arith, length-drop}
use Rattle.std.proofs.lemmas.List.{take-append-le, drop-append-le, take_all}
use Rattle.house_io.specs.Moments.{Moments, IsImage, overlaid, opened, wrote, synced_at}
use Rattle.house_io.specs.Calls.{replay, total, tore}
use Rattle.house_io.specs.declared.memory.recorded_file.Call.{Call}
use Rattle.house_io.specs.declared.memory.recorded_file.Call.TheVariants.{Write, Tear, Sync}
use Rattle.house_io.proofs.Moments.{settled_torn, image_now, image-written}
use Rattle.house_io.proofs.Overlays.{overlaid_torn}

pub replay-write : (calls : List Call) (kept bytes : List ℕ) (ms : Moments) (at : ℕ) → total calls ≡ length kept
    → replay (calls ++ Write at (length bytes) ∷ []) (kept ++ bytes) ms ≡ wrote at bytes (replay calls kept ms)
replay-write [] [] bytes ms at is = ap (λ (l : List ℕ). wrote at l ms) (take_all (length bytes) bytes (omega arith))
replay-write [] (k ∷ kept) bytes ms at is = absurd (omega arith)
replay-write (Write at' n ∷ calls) kept bytes ms at is =
    let enough : n ≤ length kept = omega (arith, is) in
    (λ i. replay (calls ++ Write at (length bytes) ∷ []) (drop-append-le n kept bytes enough i) (wrote at' (take-append-le n kept bytes enough i) ms))
    ∙ replay-write calls (drop n kept) bytes (wrote at' (take n kept) ms) at (omega (arith, is, length-drop n kept))
replay-write (Tear at' n ∷ calls) kept bytes ms at is = replay-write calls kept bytes (tore at' n ms) at is
replay-write (Sync ∷ calls) kept bytes ms at is = replay-write calls kept bytes (synced_at ms) at is

pub replay-tear : (calls : List Call) (kept : List ℕ) (ms : Moments) (at n : ℕ) → replay (calls ++ Tear at n ∷ []) kept ms ≡ tore at n (replay calls kept ms)
replay-tear [] kept ms at n = refl
replay-tear (Write at' m ∷ calls) kept ms at n = replay-tear calls (drop m kept) (wrote at' (take m kept) ms) at n
replay-tear (Tear at' m ∷ calls) kept ms at n = replay-tear calls kept (tore at' m ms) at n
replay-tear (Sync ∷ calls) kept ms at n = replay-tear calls kept (synced_at ms) at n

pub replay-sync : (calls : List Call) (kept : List ℕ) (ms : Moments) → replay (calls ++ Sync ∷ []) kept ms ≡ synced_at (replay calls kept ms)
replay-sync [] kept ms = refl
replay-sync (Write at n ∷ calls) kept ms = replay-sync calls (drop n kept) (wrote at (take n kept) ms)
replay-sync (Tear at n ∷ calls) kept ms = replay-sync calls kept (tore at n ms)
replay-sync (Sync ∷ calls) kept ms = replay-sync calls kept (synced_at ms)

pub length-replay : (calls : List Call) (kept : List ℕ) (ms : Moments) → length (replay calls kept ms).past ≡ length calls + length ms.past
length-replay [] kept ms = omega arith
length-replay (Write at n ∷ calls) kept ms = omega (arith, length-replay calls (drop n kept) (wrote at (take n kept) ms))
length-replay (Tear at n ∷ calls) kept ms = omega (arith, length-replay calls kept (tore at n ms))
length-replay (Sync ∷ calls) kept ms = omega (arith, length-replay calls kept (synced_at ms))

pub total-push : (calls : List Call) (call : Call) → total (calls ++ call ∷ []) ≡ total calls + total (call ∷ [])
total-push [] call = omega arith
total-push (Write at n ∷ calls) call = omega (arith, total-push calls call)
total-push (Tear at n ∷ calls) call = total-push calls call
total-push (Sync ∷ calls) call = total-push calls call

-- each call keeps that what a read gives is an image
stays_image : (calls : List Call) (kept : List ℕ) (ms : Moments) → IsImage ms.now ms.now.read → IsImage (replay calls kept ms).now (replay calls kept ms).now.read
stays_image [] kept ms is = is
stays_image (Write at n ∷ calls) kept ms is =
    stays_image calls (drop n kept) (wrote at (take n kept) ms) (image-written ms.now (overlaid ms.now.read at (take n kept)) at (length (take n kept)) is (overlaid_torn ms.now.read (take n kept) at))
stays_image (Tear at n ∷ calls) kept ms is =
    stays_image calls kept (tore at n ms) (image-written ms.now ms.now.read at n is (settled_torn ms.now.read ms.now.read at n refl))
stays_image (Sync ∷ calls) kept ms is = stays_image calls kept (synced_at ms) (image_now ms.now.read)

pub read_is_image_of : (calls : List Call) (kept start : List ℕ) → IsImage (replay calls kept (opened start)).now (replay calls kept (opened start)).now.read
read_is_image_of calls kept start = stays_image calls kept (opened start) (image_now start)
