-- The moments that a record of calls stands for.
use Rattle.std.specs.Prelude.{ℕ, ◌+◌, ◌-◌, List, [], ◌∷◌, take, drop}
use Rattle.house_io.specs.Moments.{Moments, written, then, wrote, synced_at}
use Rattle.house_io.specs.declared.memory.recorded_file.Call.{Call}
use Rattle.house_io.specs.declared.memory.recorded_file.Call.TheVariants.{Write, Tear, Sync}

-- a write that failed and changed no byte that a read gives
abbrev pub tore : ℕ → ℕ → Moments → Moments
tore at n ms = then ms (written at n ms.now.read ms.now)

-- the calls in order; each whole write takes its bytes off the front of those that were kept
abbrev pub replay : List Call → List ℕ → Moments → Moments
replay [] kept ms = ms
replay (Write at n ∷ calls) kept ms = replay calls (drop n kept) (wrote at (take n kept) ms)
replay (Tear at n ∷ calls) kept ms = replay calls kept (tore at n ms)
replay (Sync ∷ calls) kept ms = replay calls kept (synced_at ms)

-- how many bytes the whole writes took
abbrev pub total : List Call → ℕ
total [] = 0
total (Write at n ∷ calls) = n + total calls
total (Tear at n ∷ calls) = total calls
total (Sync ∷ calls) = total calls

-- how many bytes may be written to a file in memory yet, and how many calls recorded
pub record Room : Type 0 where
  pub bytes : ℕ
  pub calls : ℕ

-- the room of a file that was made with this much
abbrev pub whole_room : ℕ → Room
whole_room room = record { bytes = room; calls = room }

-- the room that a write of n bytes takes on a file of this length: its own bytes, and the gap before them
abbrev pub room_for : ℕ → ℕ → ℕ → ℕ
room_for at n long = n + (at - long)
