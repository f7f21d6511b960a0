-- What each command needs of the outside, and its text where it is done: a line in each list, and what a line means in the command's own
-- file. The words of the commands are those of crate command_line.
use Rattle.std.specs.Prelude.{ℕ, List}
use Rattle.command_line.specs.Commands.{Command, Fold, Check, Standing, Explain, Judge, Settle, Trial, Float, Make, Serve, Bid, Migrate}
use Rattle.house_run.specs.CheckCommand.{CheckDone, check_needs}
use Rattle.house_run.specs.FoldCommand.{FoldDone, fold_needs}
use Rattle.house_run.specs.SettleCommand.{SettleDone, settle_needs}
use Rattle.house_run.specs.StandingCommand.{StandingDone, standing_needs}
use Rattle.house_run.specs.ExplainCommand.{ExplainDone, explain_needs}
use Rattle.house_run.specs.JudgeCommand.{JudgeDone, judge_needs}
use Rattle.house_run.specs.TrialCommand.{TrialDone, trial_needs}
use Rattle.house_run.specs.FloatCommand.{FloatDone, float_needs}
use Rattle.house_run.specs.MakeCommand.{MakeDone, make_needs}
use Rattle.house_run.specs.ServeCommand.{ServeDone, serve_needs}
use Rattle.house_run.specs.BidCommand.{BidDone, bid_needs}
use Rattle.house_run.specs.MigrateCommand.{MigrateDone, migrate_needs}
use Rattle.house_run.specs.Needs.{Needs}
use Rattle.house_run.specs.Nets.{NetSeen}
use Rattle.house_run.specs.Seen.{Outside}

-- what the command needs of the outside
abbrev pub needs_of : Command → Needs
needs_of (Fold terms log) = fold_needs terms log
needs_of (Check auction) = check_needs auction
needs_of (Standing auction journals) = standing_needs auction journals
needs_of (Explain auction journals) = explain_needs auction journals
needs_of (Judge auction journals bidder) = judge_needs auction journals bidder
needs_of (Settle auction journals json) = settle_needs auction journals
needs_of (Trial auction values workers) = trial_needs auction values
needs_of (Float auction values start) = float_needs auction values start
needs_of (Make number workers) = make_needs
needs_of (Serve auction journals s) = serve_needs auction journals s
needs_of (Bid auction values b) = bid_needs auction values b
needs_of (Migrate old journals new target) = migrate_needs old journals new target

-- the text of the command where it is done
abbrev pub IsDone : Command → Outside → NetSeen → List ℕ → Type 0
IsDone (Fold terms log) seen net text = FoldDone terms log seen.shelf text
IsDone (Check auction) seen net text = CheckDone auction seen.shelf text
IsDone (Standing auction journals) seen net text = StandingDone auction journals seen.shelf text
IsDone (Explain auction journals) seen net text = ExplainDone auction journals seen.shelf text
IsDone (Judge auction journals bidder) seen net text = JudgeDone auction journals bidder seen.shelf text
IsDone (Settle auction journals json) seen net text = SettleDone auction journals json seen.shelf text
IsDone (Trial auction values workers) seen net text = TrialDone auction values seen.shelf text
IsDone (Float auction values start) seen net text = FloatDone auction values start seen.shelf text
IsDone (Make number workers) seen net text = MakeDone number text
IsDone (Serve auction journals s) seen net text = ServeDone auction journals s seen.shelf net text
IsDone (Bid auction values b) seen net text = BidDone auction values b seen.shelf net text
IsDone (Migrate old journals new target) seen net text = MigrateDone old journals new target seen.shelf text
