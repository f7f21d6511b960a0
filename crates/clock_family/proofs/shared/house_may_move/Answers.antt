use denote.Param.{param}
use denote.Param.Send.{sendable}
use Rattle.clock_family.proofs.Sending.{house-send}
use Rattle.clock_family.proofs.shared.house_may_move.Goals as goal

pub may_move-requires-send-T : goal.may_move-requires-send-T
may_move-requires-send-T g c κs within =
    let d = house-send (param 0 g.row.D) g.D.Disk (search sendable) in
    search sendable depth 20
