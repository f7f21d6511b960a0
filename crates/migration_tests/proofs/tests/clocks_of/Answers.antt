use Rattle.migration_tests.proofs.Clocks.{clocks-more}
use Rattle.migration_tests.proofs.tests.clocks_of.Goals as goal

pub loop-number-preserved : goal.loop-number-preserved
loop-number-preserved c =
    clocks-more c.args.terms.now c.loop-number.number c.loop-number.clocks.items c.push.new.self.items c.in_ok-clock.clock c.loop-number.invariant c.in_ok-push.ensures.items c.in_ok-clock.ensures.0 c.in_ok-clock.ensures.1
