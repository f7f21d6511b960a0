use Rattle.std.proofs.Common.{◌≡◌, take, map}
use Rattle.std.specs.List.{AllZip}
use Rattle.settlement.specs.declared.outcome.AwardRow.{AwardRow}
use Rattle.two_way.specs.Floated.{IsAwardRow}
use Rattle.two_way.proofs.awarding.award_rows.Given as goal

abbrev pub invariant-loop-place : goal.invariant-loop-place
invariant-loop-place l =
    AllZip (IsAwardRow l.all) (take l.place l.others) l.rows.items × (map (λ (row : AwardRow). row.award) l.rows.items ≡ take l.place l.awards)
