use Rattle.std.proofs.Common.{◌≡◌, take, map}
use Rattle.std.specs.List.{AllZip}
use Rattle.clock.specs.Reports.{histories}
use Rattle.settlement.specs.Settling.{IsAwardRow}
use Rattle.settlement.specs.declared.outcome.AwardRow.{AwardRow}
use Rattle.settlement.proofs.awarding.award_rows.Given as goal

abbrev pub invariant-loop-place : goal.invariant-loop-place
invariant-loop-place l =
    AllZip (IsAwardRow l.all.history) (take l.place (histories l.others)) l.rows.items × (map (λ (row : AwardRow). row.award) l.rows.items ≡ take l.place l.awards)
