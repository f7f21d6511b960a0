use Rattle.clock_family_tests.proofs.Readied.{ready-opened}
use Rattle.clock_family_tests.proofs.tests.run_turns.Goals as goal

pub take_turns-requires : goal.take_turns-requires
take_turns-requires g c = ready-opened _ c.args.auction.now.terms c.args.auction.now.digest c.args.disks.items c.in-Ok.house c.in-Ok.passes.items c.in-Ok.ensures.opened
