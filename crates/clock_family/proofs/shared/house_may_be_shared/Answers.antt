use denote.Param.{param}
use denote.Param.Send.{sendable}
use Rattle.clock_family.proofs.Sending.{house-sync}
use Rattle.clock_family.proofs.shared.house_may_be_shared.Goals as goal

pub may_share-requires-sync-T : goal.may_share-requires-sync-T
may_share-requires-sync-T g c κs within =
    let d = house-sync (param 0 g.row.D) g.D.Disk (search sendable) in
    search sendable depth 20
