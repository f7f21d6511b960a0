use Rattle.std.proofs.Common.{◌∙◌, ◌+◌, ◌-◌, ◌*◌, ℕ, List, Option, Some, sym, ap, nat_eq, take, drop}
use Rattle.std.specs.Prelude.{option_map, option_copied, find}
use Rattle.demand_set.specs.Same.{same_demand}
use Rattle.demand_set.specs.declared.reports.Report.{Report}
use Rattle.clock.specs.Reports.{ClockOf, ClockHistory, demand_in}
use Rattle.clock.specs.Kept.{demand_at}
use Rattle.clock.proofs.Latest.{latest-at}
use Rattle.clock.proofs.Looking.{past-demand}
use Rattle.clock.proofs.clocks.Clock.repeats.Goals as goal

pub returns-in-None : goal.returns-in-None
returns-in-None c =
    let i = c.self.inside in
    let h : ClockHistory = record { terms = i.terms; number = i.number; reports = i.past.reports } in
    let test = λ (o : Option (List (List ℕ))). option_map (λ before. same_demand before c.args.demand.now) o in
    let found = sym (ap option_copied c.in-None.is) ∙ c.demand_at.ensures ∙ ap (λ ds. demand_at ds i.reported c.args.bidder) c.deref.ensures.value
    ∙ latest-at h (i.steps + 1) i.latest.items i.reported c.args.bidder c.self.invariant.1
    ∙ ap (λ n. demand_in h.reports n c.args.bidder) (sym c.if-round-self.true) in
    ap test found ∙ ap (λ (k : ClockOf). test (demand_in k.history.reports c.args.round c.args.bidder)) c.self.view_is

pub returns-in-Some : goal.returns-in-Some
returns-in-Some c =
    let i = c.self.inside in
    let h : ClockHistory = record { terms = i.terms; number = i.number; reports = i.past.reports } in
    let test = λ (o : Option (List (List ℕ))). option_map (λ before. same_demand before c.args.demand.now) o in
    let found = sym (ap option_copied c.in-Some.is) ∙ c.demand_at.ensures ∙ ap (λ ds. demand_at ds i.reported c.args.bidder) c.deref.ensures.value
    ∙ latest-at h (i.steps + 1) i.latest.items i.reported c.args.bidder c.self.invariant.1
    ∙ ap (λ n. demand_in h.reports n c.args.bidder) (sym c.if-round-self.true) in
    ap Some c.same.ensures.test ∙ ap test found ∙ ap (λ (k : ClockOf). test (demand_in k.history.reports c.args.round c.args.bidder)) c.self.view_is

pub returns : goal.returns
returns c =
    let i = c.self.inside in
    let h : ClockHistory = record { terms = i.terms; number = i.number; reports = i.past.reports } in
    let test = λ (o : Option (List (List ℕ))). option_map (λ before. same_demand before c.args.demand.now) o in
    c.repeats.ensures
    ∙ ap (λ m. option_map (λ (r : Report). same_demand r.demand c.args.demand.now) (find (λ (r : Report). nat_eq r.bidder c.args.bidder) (take m (drop ((c.args.round - 1) * m) h.reports)))) c.member_count-members.ensures
    ∙ past-demand h _ i.left i.steps i.phase i.prices i.account i.tables i.excess.0 c.args.round c.args.bidder c.args.demand.now c.self.invariant.0.standing c.self.invariant.0.round c.requires.from_one
    ∙ ap (λ (k : ClockOf). test (demand_in k.history.reports c.args.round c.args.bidder)) c.self.view_is
