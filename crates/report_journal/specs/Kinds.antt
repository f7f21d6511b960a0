-- What a journal's file is: of exactly one kind.
use Rattle.std.specs.Prelude.{◌≡◌, ℕ, ◌^◌, ◌<◌, List, slice_index}
use Rattle.report_journal.specs.Format.{Contents, StandsFor, IsUnformed, IsDamaged, HasNoHeader}

pub data Kind : Type 0 where
  Unformed : Kind
  -- it stands for these contents
  Formed : Contents → Kind
  -- it has these contents, and then a record that is damaged
  Damaged : Contents → Kind
  -- it is damaged in its header
  Headless : Kind

-- what each kind of file is
abbrev pub IsOfKind : Kind → List ℕ → Type 0
IsOfKind Unformed file = IsUnformed file
IsOfKind (Formed x) file = StandsFor x file
IsOfKind (Damaged x) file = IsDamaged x file
IsOfKind Headless file = HasNoHeader file

-- the numbers are bytes
abbrev pub AreBytes : List ℕ → Type 0
AreBytes file = (i : ℕ) → slice_index file i < 2 ^ 8

-- the file is of this kind and of no other
pub record IsJust (kind : Kind) (file : List ℕ) : Type 0 where
  pub has : IsOfKind kind file
  pub only : (other : Kind) → IsOfKind other file → other ≡ kind
