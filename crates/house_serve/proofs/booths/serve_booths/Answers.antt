use denote.Param.{param}
use denote.Param.Send.{sendable}
use Rattle.std.proofs.Common.{◌≡◌, ◌≤◌, length, vec_len, vec_capacity, sym, subst}
use Rattle.std.proofs.Crossing.{crosses}
use Rattle.clock_family.proofs.Sending.{house-sync, house_pass-send}
use Rattle.clock_family.specs.Turns.{AreOf}
use Rattle.house_serve.proofs.booths.Common.TheSendSync as common
use Rattle.house_serve.proofs.booths.Booth.TheSendSync as booth
use Rattle.house_serve.proofs.booths.serve_booths.Goals as goal

pub for_each_mut-requires-send-T : goal.for_each_mut-requires-send-T
for_each_mut-requires-send-T g c κs within =
    let p = house_pass-send (param 0 g.row.D) g.D.Disk (search sendable) in
    search (sendable, crosses, booth.the_send) depth 20

pub for_each_mut-requires-sync-F : goal.for_each_mut-requires-sync-F
for_each_mut-requires-sync-F g c κs within =
    let h = house-sync (param 0 g.row.D) g.D.Disk (search sendable) in
    search (sendable, crosses, common.the_sync) depth 20

pub for_each_mut-requires-clause-accepts : goal.for_each_mut-requires-clause-accepts
for_each_mut-requires-clause-accepts g c κs within = λ i p below is. (
  (
    c.requires.auction,
    subst (λ s. AreOf c.args.house.now.terms c.args.house.now.digest c.args.house.now.desks s.pass.passes) (sym is) (c.requires.of_house i p.now below),
    subst (λ s. (length s.ends.items ≡ 0) × (vec_len s.ends ≡ 0)) (sym is) (c.requires.empty i p.now below),
    subst (λ s. c.args.sessions ≤ vec_capacity s.ends) (sym is) (c.requires.room i p.now below),
  ),
  search sendable,
)
