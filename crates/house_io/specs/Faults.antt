-- Counts of faults. Each object outside the program counts the calls on it that failed. The count never falls, and
-- one that is kept in 64 bits stands still at its last value.
use Rattle.std.specs.Prelude.{◌≡◌, ◌≤◌, ◌+◌, ◌-◌, ◌^◌, ℕ, min, max, Result, Ok, Err, OnOk, OnErr}
use Rattle.house_io.specs.declared.Failed.{Failed}

-- the count rose, or stands at the last value of a 64 bit counter
abbrev pub Rose : ℕ → ℕ → Type 0
Rose before now = min (before + 1) (2 ^ 64 - 1) ≤ now

-- the count never falls, the call fails only where it rose, and one that goes well adds nothing to it
pub record HasCause {T E : Type 0} (before now : ℕ) (result : Result T E) : Type 0 where
  pub later : before ≤ now
  pub failed : OnErr result (Rose before now)
  pub steady : OnOk result (now ≡ before)

-- a count to which so many are added, up to the last value of a 64 bit counter
abbrev pub raised_by : ℕ → ℕ → ℕ
raised_by before more = max before (min (before + more) (2 ^ 64 - 1))

-- the count after a call, where each call that fails is one more fault
abbrev pub faults_after : {T : Type 0} → Result T Failed → ℕ → ℕ
faults_after (Ok answer) faults = faults
faults_after (Err failed) faults = raised_by faults 1
