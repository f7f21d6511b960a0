-- The demand of the round before stays: what was compared is what its bidder demands now.
use Rattle.std.proofs.Common.{rules, ◌≡◌, ◌∙◌, ◌+◌, ◌-◌, [], Some, None, max, length, false, sym, ap, subst, arith}
use Rattle.std.specs.Prelude.{slice_index_or, unwrap_or}
use Rattle.std.specs.List.{concat}
use Rattle.lot_base.specs.Demands.{IsDemand}
use Rattle.demand_set.specs.declared.reports.Report.{Report}
use Rattle.clock.specs.Past.{PastOf}
use Rattle.clock.specs.Reports.{ClockOf, ClockHistory, demand_in, applied}
use Rattle.clock.specs.Standing.{steps_of}
use Rattle.clock.specs.Judging.{judgement_of}
use Rattle.clock.specs.Kept.{report_of}
use Rattle.clock.proofs.Excesses.{found-fits}
use Rattle.clock.proofs.TakenReports.{is-known, is-taken}
use Rattle.clock.proofs.clocks.Clock.apply_again.Goals as goal

-- room that is taken first changes nothing of what is left
applied-room : (k : ClockOf) (r : Report) → applied (record k { spare_reports = max k.spare_reports 1; spare_quantities = max k.spare_quantities 0 }) r ≡ applied k r
applied-room k r =
    let reports : max k.spare_reports 1 - 1 ≡ k.spare_reports - 1 = omega arith in
    let quantities : max k.spare_quantities 0 ≡ k.spare_quantities = omega arith in
    λ i. record (applied k r) { spare_reports = reports i; spare_quantities = quantities i - length (concat r.demand) }

pub returns-clause-done : goal.returns-clause-done
returns-clause-done c = λ done.
    let i = c.self.inside in
    let h : ClockHistory = record { terms = i.terms; number = i.number; reports = i.past.reports } in
    let d = c.in-Some-Some.latest in
    let there : slice_index_or i.latest.items c.args.bidder None ≡ Some d = search rules in
    let unmarked : slice_index_or i.reported c.args.bidder false ≡ false = c.if-self-bidder.false in
    let known = is-known h i.steps i.latest.items i.reported c.args.bidder d c.self.invariant.0.standing.steps_are c.self.invariant.1 there unmarked in
    let r : Report = record { bidder = c.args.bidder; round = c.args.round; demand = d } in
    let now : c.args.round ≡ steps_of h + 1 = c.if-round-self.false ∙ ap (λ n. n + 1) c.self.invariant.0.standing.steps_are in
    let again : report_of h c.args.bidder None ≡ r = (λ j. record { bidder = c.args.bidder; round = sym now j; demand = unwrap_or (known.before j) [] }) in
    record {
      demand = d;
      quantities_are = search rules;
      before = steps_of h;
      reported = ap (λ (k : ClockOf). demand_in k.history.reports (steps_of h) c.args.bidder) (sym c.self.view_is) ∙ known.before;
      fits = subst (λ (k : ClockOf). IsDemand k.history.terms.goods d) c.self.view_is (found-fits i.terms.goods i.past.reports (steps_of h) c.args.bidder d c.self.invariant.0.standing.legal.demands known.before);
      taken = ap (λ (k : ClockOf). judgement_of k.history r) (sym c.self.view_is) ∙ is-taken h r known.member now known.absent;
      applied_is = c.count_in.ensures
          ∙ ap (λ (p : PastOf). applied (record { history = record { terms = i.terms; number = i.number; reports = p.reports }; spare_reports = p.spare_reports; spare_quantities = p.spare_quantities })
          (report_of (record { terms = i.terms; number = i.number; reports = p.reports }) c.args.bidder None)) c.in_ok-reserve.ensures.ok
          ∙ applied-room (record { history = h; spare_reports = i.past.spare_reports; spare_quantities = i.past.spare_quantities }) (report_of h c.args.bidder None)
          ∙ ap (applied (record { history = h; spare_reports = i.past.spare_reports; spare_quantities = i.past.spare_quantities })) again
          ∙ ap (λ (k : ClockOf). applied k r) c.self.view_is;
    }
