use Rattle.two_way.proofs.Copying.{IsCopied}
use Rattle.two_way.proofs.choosing.last_demands.Given as goal

abbrev pub invariant-loop-step : goal.invariant-loop-step
invariant-loop-step l = IsCopied l.clock l.terms.goods l.step l.terms.bidders l.demands.items
