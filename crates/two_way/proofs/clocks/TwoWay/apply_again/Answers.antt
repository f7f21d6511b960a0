use Rattle.std.proofs.Common.{◌≡◌, ◌∙◌, drop, sym, ap, subst}
use Rattle.std.specs.List.{AllByRecursion}
use Rattle.lot_base.specs.Demands.{IsDemand}
use Rattle.demand_set.specs.declared.reports.Report.{Report}
use Rattle.clock.specs.declared.judging.Judgement.TheVariants.{Take}
use Rattle.two_way.specs.Histories.{TwoWayHistory, told}
use Rattle.two_way.specs.Standing.{judgement_of, again_by}
use Rattle.two_way.specs.Past.{PastOf, with_report}
use Rattle.two_way.proofs.Keeping.{applied-fit, applied-room}
use Rattle.two_way.proofs.Again.{some-last, again-is, again-fits, kept-both}
use Rattle.two_way.proofs.clocks.TwoWay.apply_again.Goals as goal

pub push_again-requires-clause-there : goal.push_again-requires-clause-there
push_again-requires-clause-there c =
    let i = c.self.inside in
    let h : TwoWayHistory = record { terms = i.terms; number = i.number; start = i.start; reports = i.past.reports } in
    some-last h c.args.self.now i.past.goods i.last i.begin i.standing c.args.bidder c.self.invariant.0 c.self.invariant.1 c.self.view_is c.requires.said

pub go_on-requires-clause-fit : goal.go_on-requires-clause-fit
go_on-requires-clause-fit c =
    let i = c.self.inside in
    let r = again_by c.args.self.now c.args.bidder in
    let h : TwoWayHistory = record { terms = i.terms; number = i.number; start = i.start; reports = i.past.reports } in
    let taken : judgement_of h r ≡ Take = ap (λ k. judgement_of k r) c.self.view_is ∙ c.requires.take in
    let A : TwoWayHistory → Type 0 = λ k. AllByRecursion (λ (x : Report). IsDemand k.terms.goods x.demand) k.reports in
    let D : TwoWayHistory → Type 0 = λ k. IsDemand k.terms.goods r.demand in
    let fits : IsDemand h.terms.goods r.demand = subst D (sym c.self.view_is) (again-fits c.args.self.now c.args.bidder (subst A c.self.view_is c.self.invariant.0.fit) c.requires.said) in
    let is = again-is h c.args.self.now i.past.goods i.last i.begin i.standing c.args.bidder c.self.invariant.0 c.self.invariant.1 c.self.view_is in
    let past = c.in_ok-push_again.ensures.ok ∙ ap (with_report i.past) is in
    applied-fit h r i.begin i.standing (drop i.begin c.push_again.new.self.reports) c.self.invariant.0 taken fits (ap (λ (p : PastOf). drop i.begin p.reports) past)

pub go_on-requires-clause-room : goal.go_on-requires-clause-room
go_on-requires-clause-room c =
    let i = c.self.inside in
    let r = again_by c.args.self.now c.args.bidder in
    let h : TwoWayHistory = record { terms = i.terms; number = i.number; start = i.start; reports = i.past.reports } in
    let taken : judgement_of h r ≡ Take = ap (λ k. judgement_of k r) c.self.view_is ∙ c.requires.take in
    let A : TwoWayHistory → Type 0 = λ k. AllByRecursion (λ (x : Report). IsDemand k.terms.goods x.demand) k.reports in
    let D : TwoWayHistory → Type 0 = λ k. IsDemand k.terms.goods r.demand in
    let fits : IsDemand h.terms.goods r.demand = subst D (sym c.self.view_is) (again-fits c.args.self.now c.args.bidder (subst A c.self.view_is c.self.invariant.0.fit) c.requires.said) in
    let is = again-is h c.args.self.now i.past.goods i.last i.begin i.standing c.args.bidder c.self.invariant.0 c.self.invariant.1 c.self.view_is in
    let past = c.in_ok-push_again.ensures.ok ∙ ap (with_report i.past) is in
    applied-room h r i.begin i.standing (drop i.begin c.push_again.new.self.reports) c.self.invariant.0 taken fits (ap (λ (p : PastOf). drop i.begin p.reports) past)

pub invariant_of-self-2 : goal.invariant_of-self-2
invariant_of-self-2 c =
    let i = c.self.inside in
    let r = again_by c.args.self.now c.args.bidder in
    let h : TwoWayHistory = record { terms = i.terms; number = i.number; start = i.start; reports = i.past.reports } in
    let taken : judgement_of h r ≡ Take = ap (λ k. judgement_of k r) c.self.view_is ∙ c.requires.take in
    let A : TwoWayHistory → Type 0 = λ k. AllByRecursion (λ (x : Report). IsDemand k.terms.goods x.demand) k.reports in
    let D : TwoWayHistory → Type 0 = λ k. IsDemand k.terms.goods r.demand in
    let fits : IsDemand h.terms.goods r.demand = subst D (sym c.self.view_is) (again-fits c.args.self.now c.args.bidder (subst A c.self.view_is c.self.invariant.0.fit) c.requires.said) in
    let is = again-is h c.args.self.now i.past.goods i.last i.begin i.standing c.args.bidder c.self.invariant.0 c.self.invariant.1 c.self.view_is in
    let past = c.in_ok-push_again.ensures.ok ∙ ap (with_report i.past) is in
    kept-both h r i.past.goods c.push_again.new.self i.last i.begin c.go_on.new.last c.go_on.new.begin i.standing c.go_on.new.standing c.self.invariant.0 c.self.invariant.1 taken fits past
    c.go_on.ensures.open c.go_on.ensures.full c.go_on.ensures.stays c.go_on.ensures.goes

pub returns-clause-ok : goal.returns-clause-ok
returns-clause-ok c =
    let i = c.self.inside in
    let r = again_by c.args.self.now c.args.bidder in
    let h : TwoWayHistory = record { terms = i.terms; number = i.number; start = i.start; reports = i.past.reports } in
    let is = again-is h c.args.self.now i.past.goods i.last i.begin i.standing c.args.bidder c.self.invariant.0 c.self.invariant.1 c.self.view_is in
    let past = c.in_ok-push_again.ensures.ok ∙ ap (with_report i.past) is in
    (λ j. record { terms = i.terms; number = i.number; start = i.start; reports = (past j).reports }) ∙ ap (λ (k : TwoWayHistory). told k r) c.self.view_is
