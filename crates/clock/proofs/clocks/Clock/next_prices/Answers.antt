use Rattle.std.proofs.Common.{◌≡◌, ◌∙◌, ℕ, ◌+◌, ◌-◌, ◌<◌, sym, ap, subst, arith, length, List, get_or}
use Rattle.std.specs.Prelude.{slice_index}
use Rattle.lot_base.specs.Goods.{AllBelow, raised}
use Rattle.lot_base.specs.declared.supply.GoodSet.{GoodSet}
use Rattle.clock.specs.Reports.{ClockOf, ClockHistory}
use Rattle.clock.specs.Standing.{prices_after, last_round, step_set_after}
use Rattle.clock.specs.Kept.{reports_before}
use Rattle.clock.proofs.After.{kept-path}
use Rattle.clock.proofs.Looking.{count-sets, get-sets, numbers-get}
use Rattle.clock.proofs.Next.{can-raise, prices-next}
use Rattle.clock.proofs.clocks.Clock.next_prices.Goals as goal

pub bounds-sets-round : goal.bounds-sets-round
bounds-sets-round c =
    let i = c.self.inside in
    let h : ClockHistory = record { terms = i.terms; number = i.number; reports = i.past.reports } in
    let k = c.args.round - 1 in
    let last : c.args.round < i.steps + 1 = (let e = ap (λ n. n + 1) c.self.invariant.0.standing.steps_are ∙ ap (λ (z : ClockOf). last_round z.history) c.self.view_is in let r = c.requires.before_last in omega (arith, e, r)) in
    let below : k < i.steps = (let o = c.requires.from_one in omega (arith, last, o)) in
    let n = count-sets h i.past.sets i.steps c.self.invariant.0.sets in
    let l = ap length c.sets.ensures in
    omega (arith, n, l, below)

pub raise-requires : goal.raise-requires
raise-requires c =
    let i = c.self.inside in
    let h : ClockHistory = record { terms = i.terms; number = i.number; reports = i.past.reports } in
    let k = c.args.round - 1 in
    let last : c.args.round < i.steps + 1 = (let e = ap (λ n. n + 1) c.self.invariant.0.standing.steps_are ∙ ap (λ (z : ClockOf). last_round z.history) c.self.view_is in let r = c.requires.before_last in omega (arith, e, r)) in
    let below : k < i.steps = (let o = c.requires.from_one in omega (arith, last, o)) in
    let path = kept-path h (reports_before h i.steps) i.steps i.phase i.prices i.account c.self.invariant.0.standing in
    let P : List ℕ → Type 0 = λ ps. AllBelow 4294967295 ps (get_or c.sets.result.now k (record { 0 = 0 })).0 in
    let at : prices_after h k ≡ c.args.prices.now = ap (λ (z : ClockOf). prices_after z.history k) c.self.view_is ∙ sym c.requires.prices in
    subst P at (can-raise h k _ (λ m less. path m (omega (arith, less, below))))

pub returns : goal.returns
returns c =
    let i = c.self.inside in
    let h : ClockHistory = record { terms = i.terms; number = i.number; reports = i.past.reports } in
    let k = c.args.round - 1 in
    let last : c.args.round < i.steps + 1 = (let e = ap (λ n. n + 1) c.self.invariant.0.standing.steps_are ∙ ap (λ (z : ClockOf). last_round z.history) c.self.view_is in let r = c.requires.before_last in omega (arith, e, r)) in
    let below : k < i.steps = (let o = c.requires.from_one in omega (arith, last, o)) in
    let set : (get_or c.sets.result.now k (record { 0 = 0 })).0 ≡ step_set_after h k =
    ap (λ (sets : List GoodSet). (get_or sets k (record { 0 = 0 })).0) c.sets.ensures
    ∙ sym (numbers-get i.past.sets k) ∙ ap (λ xs. slice_index xs k) c.self.invariant.0.sets ∙ get-sets h i.steps k below in
    let at : c.args.prices.now ≡ prices_after h k = c.requires.prices ∙ sym (ap (λ (z : ClockOf). prices_after z.history k) c.self.view_is) in
    let one : k + 1 ≡ c.args.round = (let o = c.requires.from_one in omega (arith, o)) in
    c.raise.ensures ∙ (λ j. raised (at j) (set j)) ∙ sym (prices-next h k) ∙ ap (prices_after h) one
    ∙ ap (λ (z : ClockOf). prices_after z.history c.args.round) c.self.view_is
