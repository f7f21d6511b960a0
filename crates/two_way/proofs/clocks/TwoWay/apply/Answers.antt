use Rattle.std.proofs.Common.{◌≡◌, ◌∙◌, drop, sym, ap, subst}
use Rattle.lot_base.specs.Demands.{IsDemand}
use Rattle.clock.specs.declared.judging.Judgement.TheVariants.{Take}
use Rattle.two_way.specs.Histories.{TwoWayHistory}
use Rattle.two_way.specs.Standing.{judgement_of}
use Rattle.two_way.specs.Past.{PastOf}
use Rattle.two_way.proofs.Keeping.{applied-fit, applied-room}
use Rattle.two_way.proofs.Again.{kept-both}
use Rattle.two_way.proofs.clocks.TwoWay.apply.Goals as goal

pub go_on-requires-clause-fit : goal.go_on-requires-clause-fit
go_on-requires-clause-fit c =
    let i = c.self.inside in
    let r = c.args.report in
    let h : TwoWayHistory = record { terms = i.terms; number = i.number; start = i.start; reports = i.past.reports } in
    let taken : judgement_of h r ≡ Take = ap (λ k. judgement_of k r) c.self.view_is ∙ c.requires.take in
    let fits : IsDemand h.terms.goods r.demand = subst (λ (k : TwoWayHistory). IsDemand k.terms.goods r.demand) (sym c.self.view_is) c.requires.fits in
    applied-fit h r i.begin i.standing (drop i.begin c.push.new.self.reports) c.self.invariant.0 taken fits (ap (λ (p : PastOf). drop i.begin p.reports) c.in-Ok.ensures.ok)

pub go_on-requires-clause-room : goal.go_on-requires-clause-room
go_on-requires-clause-room c =
    let i = c.self.inside in
    let r = c.args.report in
    let h : TwoWayHistory = record { terms = i.terms; number = i.number; start = i.start; reports = i.past.reports } in
    let taken : judgement_of h r ≡ Take = ap (λ k. judgement_of k r) c.self.view_is ∙ c.requires.take in
    let fits : IsDemand h.terms.goods r.demand = subst (λ (k : TwoWayHistory). IsDemand k.terms.goods r.demand) (sym c.self.view_is) c.requires.fits in
    applied-room h r i.begin i.standing (drop i.begin c.push.new.self.reports) c.self.invariant.0 taken fits (ap (λ (p : PastOf). drop i.begin p.reports) c.in-Ok.ensures.ok)

pub invariant_of-self-in-Ok : goal.invariant_of-self-in-Ok
invariant_of-self-in-Ok c =
    let i = c.self.inside in
    let r = c.args.report in
    let h : TwoWayHistory = record { terms = i.terms; number = i.number; start = i.start; reports = i.past.reports } in
    let taken : judgement_of h r ≡ Take = ap (λ k. judgement_of k r) c.self.view_is ∙ c.requires.take in
    let fits : IsDemand h.terms.goods r.demand = subst (λ (k : TwoWayHistory). IsDemand k.terms.goods r.demand) (sym c.self.view_is) c.requires.fits in
    kept-both h r i.past.goods c.push.new.self i.last i.begin c.go_on.new.last c.go_on.new.begin i.standing c.go_on.new.standing c.self.invariant.0 c.self.invariant.1 taken fits c.in-Ok.ensures.ok
    c.go_on.ensures.open c.go_on.ensures.full c.go_on.ensures.stays c.go_on.ensures.goes
