use Rattle.std.proofs.Common.{subst}
use Rattle.house_io.specs.Told.{IfTold}
use Rattle.lot_base.specs.declared.raw.RawDemand.{RawDemand}
use Rattle.report_wire.specs.declared.messages.ToHouse.TheVariants as house
use Rattle.bidder_agent.specs.Talks.{Converses, report_at}
use Rattle.bidder_agent.specs.declared.hearing.Heard.TheVariants as heard
use Rattle.bidder_agent.proofs.Conversing.{nothing_sent}
use Rattle.bidder_agent.proofs.visiting.report.Goals as goal

pub returns-in-Err-clause-done : goal.returns-in-Err-clause-done
returns-in-Err-clause-done g c = nothing_sent (g.L.Link.told c.args.link.now) (report_at (g.D.Demands.demands c.args.demands.now) c.args.clock c.args.round c.args.prices.now)

pub exchange-requires : goal.exchange-requires
exchange-requires g c = c.in-Ok.ensures.formed c.args.clock c.args.round

pub returns-clause-done : goal.returns-clause-done
returns-clause-done g c = (
  c.in_ok-exchange.field-0,
  (
    c.in_ok-exchange.ensures.exchange.0,
    subst (λ (d : RawDemand). IfTold (g.L.Link.told c.args.link.now) (g.L.Link.told c.exchange.new.link) (Converses (house.Report c.args.clock c.args.round d) (heard.Reply c.in_ok-exchange.field-0))) c.in-Ok.ensures.value c.in_ok-exchange.ensures.exchange.1,
  ),
)
