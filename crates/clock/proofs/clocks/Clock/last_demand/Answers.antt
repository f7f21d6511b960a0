use Rattle.std.proofs.Common.{ap, ◌≡◌, ◌∙◌, ℕ, ◌+◌, List, Option, Some, None, sym, subst}
use Rattle.std.specs.Prelude.{IfSome, option_copied}
use Rattle.lot_base.specs.Demands.{IsDemand}
use Rattle.clock.specs.Reports.{ClockOf, ClockHistory, demand_in}
use Rattle.clock.specs.Standing.{last_round}
use Rattle.clock.specs.Judging.{IsLegal}
use Rattle.clock.proofs.Excesses.{found-fits}
use Rattle.clock.specs.Kept.{demand_at}
use Rattle.clock.proofs.Latest.{latest-at}
use Rattle.clock.proofs.clocks.Clock.last_demand.Goals as goal

-- a demand that is found among legal reports fits
fits-found : (c : ClockHistory) (round bidder : ℕ) (o : Option (List (List ℕ))) → IsLegal c → o ≡ demand_in c.reports round bidder → IfSome o (IsDemand c.terms.goods)
fits-found c round bidder None legal e = tt
fits-found c round bidder (Some d) legal e = found-fits c.terms.goods c.reports round bidder d legal.demands (sym e)

pub returns-clause-value : goal.returns-clause-value
returns-clause-value c =
    let i = c.self.inside in
    let h : ClockHistory = record { terms = i.terms; number = i.number; reports = i.past.reports } in
    c.demand_at.ensures ∙ ap (λ ds. demand_at ds i.reported c.args.bidder) c.deref.ensures.value
    ∙ latest-at h (i.steps + 1) i.latest.items i.reported c.args.bidder c.self.invariant.1
    ∙ ap (λ n. demand_in h.reports (n + 1) c.args.bidder) c.self.invariant.0.standing.steps_are
    ∙ ap (λ (k : ClockOf). demand_in k.history.reports (last_round k.history) c.args.bidder) c.self.view_is

pub returns-clause-fits : goal.returns-clause-fits
returns-clause-fits c =
    let i = c.self.inside in
    let h : ClockHistory = record { terms = i.terms; number = i.number; reports = i.past.reports } in
    let found = c.demand_at.ensures ∙ ap (λ ds. demand_at ds i.reported c.args.bidder) c.deref.ensures.value
    ∙ latest-at h (i.steps + 1) i.latest.items i.reported c.args.bidder c.self.invariant.1 in
    let F : ClockOf → Type 0 = λ k. IfSome (option_copied c.demand_at.result) (IsDemand k.history.terms.goods) in
    subst F c.self.view_is (fits-found h (i.steps + 1) c.args.bidder (option_copied c.demand_at.result) c.self.invariant.0.standing.legal found)
