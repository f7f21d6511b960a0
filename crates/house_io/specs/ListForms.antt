-- Forms in memory of which chosen calls fail: which calls these are, and what a source and a sink stand for.
use Rattle.std.specs.Prelude.{ℕ, ◌+◌, ◌-◌, ◌^◌, min, List, Contains}
use Rattle.house_io.specs.SureForms.{Kept, empty_sink}

-- The numbers of the calls that are to fail, counted from 0, and how many calls there were. That count stands still
-- at the last value of 64 bits.
pub record CallPlan : Type 0 where
  pub failing : List ℕ
  pub calls : ℕ

-- the plan before the first call
abbrev pub begun : List ℕ → CallPlan
begun failing = record { failing = failing; calls = 0 }

-- the next call is to fail
abbrev pub IsToFail : CallPlan → Type 0
IsToFail plan = Contains plan.failing plan.calls

-- the plan after one more call
abbrev pub counted : CallPlan → CallPlan
counted plan = record plan { calls = min (plan.calls + 1) (2 ^ 64 - 1) }

-- a source: what is left, the plan, and the count of its faults
pub record ListedSource : Type 0 where
  pub left : List ℕ
  pub plan : CallPlan
  pub faults : ℕ

-- a source before the first call
abbrev pub fresh_source : List ℕ → List ℕ → ListedSource
fresh_source bytes failing = record { left = bytes; plan = begun failing; faults = 0 }

-- a sink: what it kept, the plan, and the count of its faults
pub record ListedSink : Type 0 where
  pub kept : Kept
  pub plan : CallPlan
  pub faults : ℕ

-- a sink before the first call
abbrev pub fresh_sink : ℕ → List ℕ → ListedSink
fresh_sink room failing = record { kept = empty_sink room; plan = begun failing; faults = 0 }
