use Rattle.std.proofs.Common.{string_bytes}
use Rattle.house_run.proofs.Explaining.{if-ok}
use Rattle.advice.proofs.NotEmpty.{behind}
use Rattle.advice.proofs.files.long_file.Goals as goal

pub returns-in_ok-file-in-Auction : goal.returns-in_ok-file-in-Auction
returns-in_ok-file-in-Auction c = if-ok c.format.result _ _ (λ text is. behind _ _ _ (string_bytes text) is) c.format.ensures.ok

pub returns-in_ok-file-in-Values : goal.returns-in_ok-file-in-Values
returns-in_ok-file-in-Values c = if-ok c.format-in-Values.result _ _ (λ text is. behind _ _ _ (string_bytes text) is) c.format-in-Values.ensures.ok

pub returns-in_ok-file-in-Log : goal.returns-in_ok-file-in-Log
returns-in_ok-file-in-Log c = if-ok c.format-in-Log.result _ _ (λ text is. behind _ _ _ (string_bytes text) is) c.format-in-Log.ensures.ok
