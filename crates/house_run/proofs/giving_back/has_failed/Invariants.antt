use Rattle.std.proofs.Common.{◌≡◌, false, take}
use Rattle.std.specs.List.{AllByRecursion}
use Rattle.house_run.proofs.giving_back.has_failed.Given as goal

abbrev pub invariant-loop-log : goal.invariant-loop-log
invariant-loop-log g l = AllByRecursion (λ log. log.failed ≡ false) (take l.log-index l.logs)
