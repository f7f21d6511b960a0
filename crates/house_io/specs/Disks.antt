-- What a disk shows.
use Rattle.std.specs.Prelude.{◌≡◌, ℕ, Bool, true, false, if◌then◌else◌, [], Option, Some, None, IsTrue, is_some, unwrap_or}
use Rattle.std.proofs.Common.{sym, true≢false}
use Rattle.house_io.specs.Moments.{Moments, IsImage, opened}

pub record DiskShown : Type 0 where
  -- its moments, where it tells them
  pub told : Option Moments
  -- the file is this disk's alone, and it may be written
  pub claimed : Bool
  -- how often a call on it has failed
  pub faults : ℕ

-- whether it tells its moments
abbrev pub is_told : DiskShown → Bool
is_told disk = is_some disk.told

-- the moments that it tells
abbrev pub told_moments : DiskShown → Moments
told_moments disk = unwrap_or disk.told (opened [])

-- it holds of the moments of a disk, where it tells them
abbrev pub IfDiskTells : DiskShown → (Moments → Type 0) → Type 0
IfDiskTells disk P = IsTrue (is_told disk) → P (told_moments disk)

-- it holds of the moments of a disk before and after, where it tells them still
abbrev pub IfDiskTold : DiskShown → DiskShown → (Moments → Moments → Type 0) → Type 0
IfDiskTold before after P = IsTrue (is_told after) → P (told_moments before) (told_moments after)

-- a disk that tells now told before
abbrev pub HasTold : DiskShown → DiskShown → Type 0
HasTold before after = IsTrue (is_told after) → IsTrue (is_told before)

-- it tells these moments
abbrev pub TellsMoments : DiskShown → Moments → Type 0
TellsMoments disk moments = IsTrue (is_told disk) × (told_moments disk ≡ moments)

-- A later state of a disk: what is told now was told before, and whether it is claimed stays.
pub record IsLater (before after : DiskShown) : Type 0 where
  pub told : HasTold before after
  pub claim : after.claimed ≡ before.claimed

-- a disk that was just opened: it is not claimed, and no call on it has failed
pub record IsFresh (disk : DiskShown) : Type 0 where
  pub unclaimed : disk.claimed ≡ false
  pub faults : disk.faults ≡ 0

-- what a disk shows that has these moments, where it tells
abbrev pub shown_as : Bool → Moments → Bool → ℕ → DiskShown
shown_as told moments claimed faults = record { told = if told then Some moments else None; claimed = claimed; faults = faults }

-- what a disk shows that never tells
abbrev pub untold : Bool → ℕ → DiskShown
untold claimed faults = record { told = None; claimed = claimed; faults = faults }

-- such a disk shows a read that is an image, where its moments have one
pub image_shown : (told : Bool) (moments : Moments) (claimed : Bool) (faults : ℕ) → IsImage moments.now moments.now.read
    → IfDiskTells (shown_as told moments claimed faults) (λ shown. IsImage shown.now shown.now.read)
image_shown true moments claimed faults is tells = is
image_shown false moments claimed faults is tells = absurd (true≢false (sym tells))
