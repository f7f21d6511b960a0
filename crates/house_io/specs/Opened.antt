-- A file that is open for reading, a disk in a folder, and a connection.
use Rattle.std.specs.Prelude.{ℕ, Bool, Option}

-- the file, and how often a call on it has failed
pub record OpenedFile (F : Type 0) : Type 0 where
  pub file : F
  pub faults : ℕ

-- the file, where it is there, whether the disk is claimed, and how often a call on it has failed
pub record OpenedDisk (F : Type 0) : Type 0 where
  pub file : Option F
  pub claimed : Bool
  pub faults : ℕ

-- the connection, and how often a call on it has failed
pub record OpenedStream (S : Type 0) : Type 0 where
  pub stream : S
  pub faults : ℕ
