-- Reading a source to its end, up to a limit.
use Rattle.std.specs.Prelude.{◌≡◌, ◌<◌, ◌≤◌, ◌+◌, ◌-◌, ℕ, List, [], length, drop, Result, Ok, Err, Vec}
use Rattle.std.specs.declared.alloc.Global.{Global}
use Rattle.house_io.specs.declared.sources.ReadWhole.{ReadWhole}
use Rattle.house_io.specs.declared.sources.ReadWhole.TheVariants as why

-- A front of the bytes was taken, of at most this length: what is left is the rest of them.
pub record TakesFront (limit : ℕ) (before after : List ℕ) : Type 0 where
  pub rest : after ≡ drop (length before - length after) before
  pub few : length before ≤ length after + limit

-- All bytes were read; or there are more than the limit, and one more than the limit was taken; or at most as many
-- as the limit were taken.
abbrev pub Reads : ℕ → Result (Vec ℕ Global) ReadWhole → List ℕ → List ℕ → Type 0
Reads limit (Ok text) before after = (text.items ≡ before) × (after ≡ [])
Reads limit (Err why.TooLong) before after = (limit < length before) × (after ≡ drop (limit + 1) before)
Reads limit (Err why.Failed) before after = TakesFront limit before after
Reads limit (Err why.NoMemory) before after = TakesFront limit before after

-- The count of faults stays, unless a fault is answered. So a fault is passed over by no answer, and told as no other.
abbrev pub StaysUnlessFailed : Result (Vec ℕ Global) ReadWhole → ℕ → ℕ → Type 0
StaysUnlessFailed (Ok text) before now = now ≡ before
StaysUnlessFailed (Err why.TooLong) before now = now ≡ before
StaysUnlessFailed (Err why.Failed) before now = Unit {0}
StaysUnlessFailed (Err why.NoMemory) before now = now ≡ before
