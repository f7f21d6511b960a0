-- A disk that may crash, by its moments: what a read gave, and what a crash might have left.
-- Between two syncs a crash may leave any bytes where something was written and past the old end. Nothing is
-- said of the order in which writes reach the disk, and none is whole: see "torn writes" and SQLite's
-- "Atomic Commit in SQLite". A file may be empty; a write past its end leaves a gap of zeros.
use Rattle.std.specs.Prelude.{◌≡◌, ◌⊎◌, ℕ, ◌+◌, ◌-◌, ◌<◌, ◌≤◌, max, List, [], ◌∷◌, ◌++◌, length, take, drop, replicate, slice_index}

pub record Moment : Type 0 where
  -- what a read gives
  pub read : List ℕ
  -- what the file held at the last good sync
  pub synced : List ℕ
  -- the offset and the length of each write since
  pub ranges : List (ℕ × ℕ)

-- the present moment and those before it, the newest first
pub record Moments : Type 0 where
  pub now : Moment
  pub past : List Moment

abbrev pub all : Moments → List Moment
all ms = ms.now ∷ ms.past

-- the greatest end of a file of this length and of these writes
abbrev pub end_of : ℕ → List (ℕ × ℕ) → ℕ
end_of n [] = n
end_of n (r ∷ rs) = max (r.0 + r.1) (end_of n rs)

abbrev pub IsOutside : ℕ → List (ℕ × ℕ) → Type 0
IsOutside i [] = Unit {0}
IsOutside i (r ∷ rs) = ((i < r.0) ⊎ (r.0 + r.1 ≤ i)) × IsOutside i rs

-- A crash at the moment may leave this: any bytes where it was written since the sync and past the old end,
-- the synced ones elsewhere.
pub record IsImage (m : Moment) (image : List ℕ) : Type 0 where
  pub no_shorter : length m.synced ≤ length image
  pub no_longer : length image ≤ end_of (length m.synced) m.ranges
  pub same : (i : ℕ) → i < length m.synced → IsOutside i m.ranges → slice_index image i ≡ slice_index m.synced i

-- any bytes in the range and past the old end, the same elsewhere
pub record Torn (at n : ℕ) (old new : List ℕ) : Type 0 where
  pub no_shorter : length old ≤ length new
  pub no_longer : length new ≤ max (length old) (at + n)
  pub same : (i : ℕ) → i < length old → (i < at) ⊎ (at + n ≤ i) → slice_index new i ≡ slice_index old i

-- the file with these bytes at this offset; a gap is filled with zeros
abbrev pub overlaid : List ℕ → ℕ → List ℕ → List ℕ
overlaid file at bytes = take at (file ++ replicate (at - length file) 0) ++ bytes ++ drop (at + length bytes) file

-- the file, all of it on the disk
abbrev pub settled : List ℕ → Moment
settled file = record { read = file; synced = file; ranges = [] }

-- what a read gives is the only image
abbrev pub IsSettled : Moment → Type 0
IsSettled m = m ≡ settled m.read

-- a disk on which this file was opened, and nothing has happened yet
abbrev pub opened : List ℕ → Moments
opened file = record { now = settled file; past = [] }

-- the moment after a write of n bytes, by which a read gives this
abbrev pub written : ℕ → ℕ → List ℕ → Moment → Moment
written at n file m = record { read = file; synced = m.synced; ranges = (at, n) ∷ m.ranges }

abbrev pub then : Moments → Moment → Moments
then ms m = record { now = m; past = ms.now ∷ ms.past }

-- a whole write of these bytes
abbrev pub wrote : ℕ → List ℕ → Moments → Moments
wrote at bytes ms = then ms (written at (length bytes) (overlaid ms.now.read at bytes) ms.now)

-- a good sync
abbrev pub synced_at : Moments → Moments
synced_at ms = then ms (settled ms.now.read)

-- the bytes from one place up to another are zeros, as far as they are there
abbrev pub HasZeros : ℕ → ℕ → List ℕ → Type 0
HasZeros from to file = (i : ℕ) → from ≤ i → i < to → slice_index file i ≡ 0

-- a write that failed: a read gives anything in its range, zeros in a gap before it, and what it gave elsewhere
abbrev pub HasTorn : ℕ → ℕ → Moments → Moments → Type 0
HasTorn at n old new = (file : List ℕ) × Torn at n old.now.read file × (new ≡ then old (written at n file old.now)) × HasZeros (length old.now.read) at file

-- what a read gives at the moment, and each image of it, has P
pub record Leaves (P : List ℕ → Type 0) (m : Moment) : Type 0 where
  pub read : P m.read
  pub images : (image : List ℕ) → IsImage m image → P image

abbrev pub EachLeaves : (List ℕ → Type 0) → List Moment → Type 0
EachLeaves P [] = Unit {0}
EachLeaves P (m ∷ ms) = Leaves P m × EachLeaves P ms

-- at each moment from old to new, both included, a read and each image have P
pub record AtEach (P : List ℕ → Type 0) (old new : Moments) : Type 0 where
  pub more : List Moment
  pub grown : all new ≡ more ++ all old
  pub each : EachLeaves P more
  pub first : Leaves P old.now

-- at each moment from number t on a read and each image have P
pub record Since (P : List ℕ → Type 0) (t : ℕ) (ms : Moments) : Type 0 where
  pub more : List Moment
  pub earlier : List Moment
  pub split : all ms ≡ more ++ earlier
  pub number : length earlier ≡ t
  pub each : EachLeaves P more
