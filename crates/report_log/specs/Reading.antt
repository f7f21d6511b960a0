-- What the log in a source gives.
use Rattle.std.specs.Prelude.{◌≡◌, ◌≤◌, ◌<◌, ℕ, List, length, Option, Result, Ok, Err}
use Rattle.house_io.specs.Told.{IfTold}
use Rattle.lot_base.specs.declared.auction_terms.Terms.{Terms}
use Rattle.clock.specs.Reports.{ClockOf}
use Rattle.report_log.specs.declared.pieces.LogFault.{LogFault}
use Rattle.report_log.specs.declared.pieces.LogFault.TheVariants as fault
use Rattle.report_log.specs.Logs.{AreBytes, IsLogOf, IsFaultyAt, log_limit}

-- it is the clock of these bytes, which are a log, or the place of their first faulty entry
abbrev pub Gives : Terms → Result ClockOf LogFault → List ℕ → Type 0
Gives terms (Ok c) read = IsLogOf terms c.history read
Gives terms (Err (fault.Faulty place)) read = IsFaultyAt terms read place
Gives terms (Err other) read = ⊥

-- these are all bytes of a source, where they are told, and no more than the limit
pub record IsWhole (before after : Option (List ℕ)) (read : List ℕ) : Type 0 where
  pub whole : IfTold before after (λ bytes rest. read ≡ bytes)
  pub short : length read ≤ log_limit
  pub bytes : AreBytes read

pub record GivesWhole (terms : Terms) (answer : Result ClockOf LogFault) (before after : Option (List ℕ)) : Type 0 where
  pub read : List ℕ
  pub is_whole : IsWhole before after read
  pub gives : Gives terms answer read

-- What the log in a source gives, by what was left of it before and after. A fault of reading is said by its count.
abbrev pub ReadsLog : Terms → Result ClockOf LogFault → Option (List ℕ) → Option (List ℕ) → Type 0
ReadsLog terms (Ok c) before after = GivesWhole terms (Ok c) before after
ReadsLog terms (Err (fault.Faulty place)) before after = GivesWhole terms (Err (fault.Faulty place)) before after
ReadsLog terms (Err fault.TooLong) before after = IfTold before after (λ bytes rest. log_limit < length bytes)
ReadsLog terms (Err fault.Failed) before after = Unit {0}
ReadsLog terms (Err fault.NoMemory) before after = Unit {0}
