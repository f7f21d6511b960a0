use Rattle.std.proofs.Common.{◌≡◌, ◌∙◌, ◌+◌, ◌-◌, sym, ap, subst, arith, length, length-append, take, drop, true}
use Rattle.std.specs.Prelude.{map}
use Rattle.std.proofs.lemmas.List.{length-map}
use Rattle.lot_base.specs.Goods.{raised}
use Rattle.clock.specs.Past.{PastOf, again_among}
use Rattle.clock.specs.Reports.{ClockOf, ClockHistory, members_of}
use Rattle.clock.specs.Standing.{step_set_after, steps_of, leads_on}
use Rattle.clock.specs.Repeats.{IsIdle, with_round}
use Rattle.clock.specs.Kept.{IsKept, KeepsLatest}
use Rattle.clock.proofs.Again.{kept-again}
use Rattle.clock.proofs.Repeated.{part}
use Rattle.clock.proofs.AgainRounds.{may-repeat, past-after, there-after, after-round, latest-round}
use Rattle.clock.proofs.clocks.Clock.repeat_round.Goals as goal

pub push_round-requires-clause-there : goal.push_round-requires-clause-there
push_round-requires-clause-there c =
    let i = c.self.inside in
    let h : ClockHistory = record { terms = i.terms; number = i.number; reports = i.past.reports } in
    let I : ClockOf → Type 0 = λ z. IsIdle z.history in
    let idle : IsIdle h = subst I (sym c.self.view_is) c.requires.idle in
    λ j member. there-after h i.past i.left i.steps i.phase i.prices i.tables i.excess.0 i.account c.member_count-members.result c.count.result j c.self.invariant.0 idle
    c.member_count-members.ensures c.count.ensures member

pub add-requires-clause-room : goal.add-requires-clause-room
add-requires-clause-room c =
    let i = c.self.inside in
    let h : ClockHistory = record { terms = i.terms; number = i.number; reports = i.past.reports } in
    let I : ClockOf → Type 0 = λ z. IsIdle z.history in
    let idle : IsIdle h = subst I (sym c.self.view_is) c.requires.idle in
    let same : c.args.set.0 ≡ step_set_after h (steps_of h - 1) = c.requires.same ∙ ap (λ (z : ClockOf). step_set_after z.history (steps_of z.history - 1)) (sym c.self.view_is) in
    let leads : leads_on (with_round h) (steps_of h) ≡ true = ap (λ (z : ClockOf). leads_on (with_round z.history) (steps_of z.history)) c.self.view_is ∙ c.requires.leads in
    let may = may-repeat h i.past i.left i.steps i.phase i.prices i.tables i.excess.0 i.account c.args.set.0 c.self.invariant.0 idle same leads in
    may.few

pub add-requires-clause-set : goal.add-requires-clause-set
add-requires-clause-set c =
    let i = c.self.inside in
    let h : ClockHistory = record { terms = i.terms; number = i.number; reports = i.past.reports } in
    let I : ClockOf → Type 0 = λ z. IsIdle z.history in
    let idle : IsIdle h = subst I (sym c.self.view_is) c.requires.idle in
    let same : c.args.set.0 ≡ step_set_after h (steps_of h - 1) = c.requires.same ∙ ap (λ (z : ClockOf). step_set_after z.history (steps_of z.history - 1)) (sym c.self.view_is) in
    let leads : leads_on (with_round h) (steps_of h) ≡ true = ap (λ (z : ClockOf). leads_on (with_round z.history) (steps_of z.history)) c.self.view_is ∙ c.requires.leads in
    let may = may-repeat h i.past i.left i.steps i.phase i.prices i.tables i.excess.0 i.account c.args.set.0 c.self.invariant.0 idle same leads in
    may.inside

pub raise-requires : goal.raise-requires
raise-requires c =
    let i = c.self.inside in
    let h : ClockHistory = record { terms = i.terms; number = i.number; reports = i.past.reports } in
    let I : ClockOf → Type 0 = λ z. IsIdle z.history in
    let idle : IsIdle h = subst I (sym c.self.view_is) c.requires.idle in
    let same : c.args.set.0 ≡ step_set_after h (steps_of h - 1) = c.requires.same ∙ ap (λ (z : ClockOf). step_set_after z.history (steps_of z.history - 1)) (sym c.self.view_is) in
    let leads : leads_on (with_round h) (steps_of h) ≡ true = ap (λ (z : ClockOf). leads_on (with_round z.history) (steps_of z.history)) c.self.view_is ∙ c.requires.leads in
    let may = may-repeat h i.past i.left i.steps i.phase i.prices i.tables i.excess.0 i.account c.args.set.0 c.self.invariant.0 idle same leads in
    let l = ap (λ (p : PastOf). length p.sets) c.push_round.ensures in
    let r = ap (λ (p : PastOf). length p.reports) c.push_round.ensures ∙ length-append h.reports (map (again_among (take c.member_count-members.result (drop (c.count.result - c.member_count-members.result) h.reports)) (i.steps + 1)) (members_of h)) in
    let n = length-map (members_of h) (again_among (take c.member_count-members.result (drop (c.count.result - c.member_count-members.result) h.reports)) (i.steps + 1)) in
    let f = may.fewer in
    omega (arith, l, r, n, f)

pub raise-self-inside-requires : goal.raise-self-inside-requires
raise-self-inside-requires c =
    let i = c.self.inside in
    let h : ClockHistory = record { terms = i.terms; number = i.number; reports = i.past.reports } in
    let I : ClockOf → Type 0 = λ z. IsIdle z.history in
    let idle : IsIdle h = subst I (sym c.self.view_is) c.requires.idle in
    let same : c.args.set.0 ≡ step_set_after h (steps_of h - 1) = c.requires.same ∙ ap (λ (z : ClockOf). step_set_after z.history (steps_of z.history - 1)) (sym c.self.view_is) in
    let leads : leads_on (with_round h) (steps_of h) ≡ true = ap (λ (z : ClockOf). leads_on (with_round z.history) (steps_of z.history)) c.self.view_is ∙ c.requires.leads in
    let may = may-repeat h i.past i.left i.steps i.phase i.prices i.tables i.excess.0 i.account c.args.set.0 c.self.invariant.0 idle same leads in
    may.below

pub invariant_of-self : goal.invariant_of-self
invariant_of-self c =
    let i = c.self.inside in
    let h : ClockHistory = record { terms = i.terms; number = i.number; reports = i.past.reports } in
    let I : ClockOf → Type 0 = λ z. IsIdle z.history in
    let idle : IsIdle h = subst I (sym c.self.view_is) c.requires.idle in
    let same : c.args.set.0 ≡ step_set_after h (steps_of h - 1) = c.requires.same ∙ ap (λ (z : ClockOf). step_set_after z.history (steps_of z.history - 1)) (sym c.self.view_is) in
    let leads : leads_on (with_round h) (steps_of h) ≡ true = ap (λ (z : ClockOf). leads_on (with_round z.history) (steps_of z.history)) c.self.view_is ∙ c.requires.leads in
    let may = may-repeat h i.past i.left i.steps i.phase i.prices i.tables i.excess.0 i.account c.args.set.0 c.self.invariant.0 idle same leads in
    let past = past-after h i.past c.push_round.new.past c.raise.new.self i.left i.steps i.phase i.prices i.tables i.excess.0 i.account c.member_count-members.result c.count.result c.args.set c.self.invariant.0 idle
    c.member_count-members.ensures c.count.ensures c.push_round.ensures c.raise.ensures in
    let kept = kept-again h i.past i.left i.steps i.phase i.prices i.tables i.excess.0 i.account c.add.new.self c.args.set c.self.invariant.0 idle may.before may.leads
    (c.add.ensures.steps) c.add.ensures.sums in
    let K : PastOf → Type 0 = λ p. IsKept (record { terms = i.terms; number = i.number; reports = p.reports }) p i.left (i.steps + 1) i.phase (raised i.prices c.args.set.0) i.tables i.excess.0 c.add.new.self in
    let P : _ → Type 0 = λ ps. IsKept (record { terms = i.terms; number = i.number; reports = c.raise.new.self.reports }) c.raise.new.self i.left (i.steps + 1) i.phase ps i.tables i.excess.0 c.add.new.self in
    let L : PastOf → Type 0 = λ p. KeepsLatest (record { terms = i.terms; number = i.number; reports = p.reports }) (i.steps + 1 + 1) i.latest.items i.reported in (
      subst P (sym c.raise-self-inside.ensures) (subst K (sym past) kept),
      subst L (sym past) (latest-round h i.past i.left i.steps i.phase i.prices i.tables i.excess.0 i.account c.add.new.self c.args.set i.latest.items i.reported c.self.invariant.0 idle may kept c.self.invariant.1),
    )

pub returns-clause-all : goal.returns-clause-all
returns-clause-all c =
    let i = c.self.inside in
    let h : ClockHistory = record { terms = i.terms; number = i.number; reports = i.past.reports } in
    let I : ClockOf → Type 0 = λ z. IsIdle z.history in
    let idle : IsIdle h = subst I (sym c.self.view_is) c.requires.idle in
    let same : c.args.set.0 ≡ step_set_after h (steps_of h - 1) = c.requires.same ∙ ap (λ (z : ClockOf). step_set_after z.history (steps_of z.history - 1)) (sym c.self.view_is) in
    let leads : leads_on (with_round h) (steps_of h) ≡ true = ap (λ (z : ClockOf). leads_on (with_round z.history) (steps_of z.history)) c.self.view_is ∙ c.requires.leads in
    let may = may-repeat h i.past i.left i.steps i.phase i.prices i.tables i.excess.0 i.account c.args.set.0 c.self.invariant.0 idle same leads in
    let past = past-after h i.past c.push_round.new.past c.raise.new.self i.left i.steps i.phase i.prices i.tables i.excess.0 i.account c.member_count-members.result c.count.result c.args.set c.self.invariant.0 idle
    c.member_count-members.ensures c.count.ensures c.push_round.ensures c.raise.ensures in
    let kept = kept-again h i.past i.left i.steps i.phase i.prices i.tables i.excess.0 i.account c.add.new.self c.args.set c.self.invariant.0 idle may.before may.leads
    (c.add.ensures.steps) c.add.ensures.sums in
    let now : record { terms = i.terms; number = i.number; reports = c.raise.new.self.reports } ≡ with_round h = ap (λ (p : PastOf). record { terms = i.terms; number = i.number; reports = p.reports }) past ∙ ap (λ n. part h n (members_of h)) c.self.invariant.0.standing.steps_are in
    (λ t. record { history = now t; spare_reports = (past t).spare_reports; spare_quantities = (past t).spare_quantities })
    ∙ ap (λ (z : ClockOf). record { history = with_round z.history; spare_reports = z.spare_reports - length (members_of z.history); spare_quantities = z.spare_quantities }) c.self.view_is

pub returns-clause-idle : goal.returns-clause-idle
returns-clause-idle c =
    let i = c.self.inside in
    let h : ClockHistory = record { terms = i.terms; number = i.number; reports = i.past.reports } in
    let I : ClockOf → Type 0 = λ z. IsIdle z.history in
    let idle : IsIdle h = subst I (sym c.self.view_is) c.requires.idle in
    let same : c.args.set.0 ≡ step_set_after h (steps_of h - 1) = c.requires.same ∙ ap (λ (z : ClockOf). step_set_after z.history (steps_of z.history - 1)) (sym c.self.view_is) in
    let leads : leads_on (with_round h) (steps_of h) ≡ true = ap (λ (z : ClockOf). leads_on (with_round z.history) (steps_of z.history)) c.self.view_is ∙ c.requires.leads in
    let may = may-repeat h i.past i.left i.steps i.phase i.prices i.tables i.excess.0 i.account c.args.set.0 c.self.invariant.0 idle same leads in
    let past = past-after h i.past c.push_round.new.past c.raise.new.self i.left i.steps i.phase i.prices i.tables i.excess.0 i.account c.member_count-members.result c.count.result c.args.set c.self.invariant.0 idle
    c.member_count-members.ensures c.count.ensures c.push_round.ensures c.raise.ensures in
    let kept = kept-again h i.past i.left i.steps i.phase i.prices i.tables i.excess.0 i.account c.add.new.self c.args.set c.self.invariant.0 idle may.before may.leads
    (c.add.ensures.steps) c.add.ensures.sums in
    let after = after-round h i.past i.left i.steps i.phase i.prices i.tables i.excess.0 i.account c.add.new.self c.args.set c.self.invariant.0 idle may kept in
    let now : record { terms = i.terms; number = i.number; reports = c.raise.new.self.reports } ≡ with_round h = ap (λ (p : PastOf). record { terms = i.terms; number = i.number; reports = p.reports }) past ∙ ap (λ n. part h n (members_of h)) c.self.invariant.0.standing.steps_are in
    subst (λ (z : ClockHistory). IsIdle z) (sym now) after.idle

pub returns-clause-steps : goal.returns-clause-steps
returns-clause-steps c =
    let i = c.self.inside in
    let h : ClockHistory = record { terms = i.terms; number = i.number; reports = i.past.reports } in
    let I : ClockOf → Type 0 = λ z. IsIdle z.history in
    let idle : IsIdle h = subst I (sym c.self.view_is) c.requires.idle in
    let same : c.args.set.0 ≡ step_set_after h (steps_of h - 1) = c.requires.same ∙ ap (λ (z : ClockOf). step_set_after z.history (steps_of z.history - 1)) (sym c.self.view_is) in
    let leads : leads_on (with_round h) (steps_of h) ≡ true = ap (λ (z : ClockOf). leads_on (with_round z.history) (steps_of z.history)) c.self.view_is ∙ c.requires.leads in
    let may = may-repeat h i.past i.left i.steps i.phase i.prices i.tables i.excess.0 i.account c.args.set.0 c.self.invariant.0 idle same leads in
    let past = past-after h i.past c.push_round.new.past c.raise.new.self i.left i.steps i.phase i.prices i.tables i.excess.0 i.account c.member_count-members.result c.count.result c.args.set c.self.invariant.0 idle
    c.member_count-members.ensures c.count.ensures c.push_round.ensures c.raise.ensures in
    let kept = kept-again h i.past i.left i.steps i.phase i.prices i.tables i.excess.0 i.account c.add.new.self c.args.set c.self.invariant.0 idle may.before may.leads
    (c.add.ensures.steps) c.add.ensures.sums in
    let after = after-round h i.past i.left i.steps i.phase i.prices i.tables i.excess.0 i.account c.add.new.self c.args.set c.self.invariant.0 idle may kept in
    let now : record { terms = i.terms; number = i.number; reports = c.raise.new.self.reports } ≡ with_round h = ap (λ (p : PastOf). record { terms = i.terms; number = i.number; reports = p.reports }) past ∙ ap (λ n. part h n (members_of h)) c.self.invariant.0.standing.steps_are in
    ap steps_of now ∙ after.steps ∙ ap (λ (z : ClockOf). steps_of z.history + 1) c.self.view_is

pub returns-clause-same : goal.returns-clause-same
returns-clause-same c =
    let i = c.self.inside in
    let h : ClockHistory = record { terms = i.terms; number = i.number; reports = i.past.reports } in
    let I : ClockOf → Type 0 = λ z. IsIdle z.history in
    let idle : IsIdle h = subst I (sym c.self.view_is) c.requires.idle in
    let same : c.args.set.0 ≡ step_set_after h (steps_of h - 1) = c.requires.same ∙ ap (λ (z : ClockOf). step_set_after z.history (steps_of z.history - 1)) (sym c.self.view_is) in
    let leads : leads_on (with_round h) (steps_of h) ≡ true = ap (λ (z : ClockOf). leads_on (with_round z.history) (steps_of z.history)) c.self.view_is ∙ c.requires.leads in
    let may = may-repeat h i.past i.left i.steps i.phase i.prices i.tables i.excess.0 i.account c.args.set.0 c.self.invariant.0 idle same leads in
    let past = past-after h i.past c.push_round.new.past c.raise.new.self i.left i.steps i.phase i.prices i.tables i.excess.0 i.account c.member_count-members.result c.count.result c.args.set c.self.invariant.0 idle
    c.member_count-members.ensures c.count.ensures c.push_round.ensures c.raise.ensures in
    let kept = kept-again h i.past i.left i.steps i.phase i.prices i.tables i.excess.0 i.account c.add.new.self c.args.set c.self.invariant.0 idle may.before may.leads
    (c.add.ensures.steps) c.add.ensures.sums in
    let after = after-round h i.past i.left i.steps i.phase i.prices i.tables i.excess.0 i.account c.add.new.self c.args.set c.self.invariant.0 idle may kept in
    let now : record { terms = i.terms; number = i.number; reports = c.raise.new.self.reports } ≡ with_round h = ap (λ (p : PastOf). record { terms = i.terms; number = i.number; reports = p.reports }) past ∙ ap (λ n. part h n (members_of h)) c.self.invariant.0.standing.steps_are in
    after.same ∙ ap (λ (z : ClockHistory). step_set_after z (steps_of z - 1)) (sym now)
