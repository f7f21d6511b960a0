use Rattle.std.proofs.Common.{◌≡◌, ◌∙◌, ◌≤◌, ◌<◌, ◌⊎◌, inl, inr, ◌*◌, false, ap, arith, length}
use Rattle.std.proofs.lemmas.Bool.{cases_lt}
use Rattle.clock.specs.Past.{PastOf}
use Rattle.clock.specs.Reports.{ClockOf, ClockHistory}
use Rattle.clock.specs.Standing.{steps_of, leads_on}
use Rattle.clock.specs.Repeats.{with_round}
use Rattle.lot_base.specs.declared.auction_terms.Terms.{Terms}
use Rattle.clock.proofs.AgainRounds.{terms-repeated}
use Rattle.clock.proofs.clocks.Clock.repeat_idle.Goals as goal

pub returns-clause-stops : goal.returns-clause-stops
returns-clause-stops c = λ idle less.
    let i = c.self-2.inside in
    let at : record { terms = i.terms; number = i.number; reports = c.keep_spare.new.self.reports } ≡ c.repeat_rounds-added.new.self.history =
    ap (λ (p : PastOf). record { terms = i.terms; number = i.number; reports = p.reports }) c.keep_spare.ensures ∙ ap (λ (z : ClockOf). z.history) c.self-2.view_is in
    ap (λ (h : ClockHistory). leads_on (with_round h) (steps_of h)) at ∙ by less (cases_lt c.repeat_rounds-added.result c.min-most.result)
  where
    by : c.repeat_rounds-added.result < c.args.rounds → (c.repeat_rounds-added.result < c.min-most.result) ⊎ (c.min-most.result ≤ c.repeat_rounds-added.result) → leads_on (with_round c.repeat_rounds-added.new.self.history) (steps_of c.repeat_rounds-added.new.self.history) ≡ false
    by less (inl below) = c.repeat_rounds-added.ensures.stops below
    by less (inr all) =
        let j = c.self.inside in
        let start : ClockHistory = record { terms = j.terms; number = j.number; reports = c.reserve.new.self.reports } in
        let m = c.min-most.ensures in
        let up : c.steps_left.result ≤ c.repeat_rounds-added.result = omega (arith, m, all, less) in
        let first = c.steps_left.ensures.left in
        let last = c.steps_left-left.ensures.left in
        let more = c.repeat_rounds-added.ensures.steps in
        let same = ap (λ (p : PastOf). steps_of (record { terms = j.terms; number = j.number; reports = p.reports })) c.in_ok-reserve.ensures.ok ∙ ap (λ (z : ClockOf). steps_of z.history) c.self.view_is in
        let most = ap (λ (z : ClockOf). length z.history.terms.goods * z.history.terms.ceiling) c.repeat_rounds-added.ensures.all ∙ ap (λ (t : Terms). length t.goods * t.ceiling) (terms-repeated start c.repeat_rounds-added.result) in
        let old = ap (λ (z : ClockOf). length z.history.terms.goods * z.history.terms.ceiling) c.self.view_is in
        c.steps_left-left.ensures.last c.repeat_rounds-added.ensures.idle (omega (arith, up, first, last, more, same, most, old))

pub returns-clause-busy : goal.returns-clause-busy
returns-clause-busy c = λ not. absurd (not c.requires)
