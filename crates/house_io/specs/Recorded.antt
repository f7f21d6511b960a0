-- A file in memory as its callers see it.
use Rattle.std.specs.Prelude.{◌≡◌, ◌↔◌, ℕ, ◌+◌, ◌≤◌, IsTrue}
use Rattle.house_io.specs.Moments.{Moments, opened}
use Rattle.house_io.specs.Calls.{replay, Room}
use Rattle.house_io.specs.declared.memory.recorded_file.RecordedFile.{RecordedFile}

abbrev pub moments_of : RecordedFile → Moments
moments_of f = replay f.calls.items f.written.items (opened f.start.items)

abbrev pub room_of : RecordedFile → Room
room_of f = record { bytes = f.room; calls = f.calls_left }

-- The file tells after a call exactly where it told before and had this room; then the call took that room.
pub record Takes (room : ℕ) (old new : RecordedFile) : Type 0 where
  pub tells : IsTrue new.told ↔ (IsTrue old.told × (room ≤ old.room) × (1 ≤ old.calls_left))
  pub room_left : IsTrue new.told → old.room ≡ new.room + room
  pub calls_left : IsTrue new.told → old.calls_left ≡ new.calls_left + 1
