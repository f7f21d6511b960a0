-- Each report of the bidder is of a round that is no earlier than the one before, and the prices are those of its round.
use Rattle.std.proofs.Common.{◌≡◌, ◌∙◌, ◌≤◌, ◌-◌, ◌++◌, ℕ, List, ap, arith, length, subst, sym}
use Rattle.lot_base.specs.Demands.{IsDemand}
use Rattle.clock.specs.Standing.{prices_after, steps_of}
use Rattle.rationale.specs.Kept.{AreLow}
use Rattle.observed_demand.specs.Reported.{observation_in, place_in}
use Rattle.observed_demand.specs.declared.observing.Observed.{Observed}
use Rattle.observed_demand.specs.declared.observing.Place.{Place}
use Rattle.rationale.specs.Observations.{Observation}
use Rattle.observed_demand.proofs.Fronts.{demand-fits, prices-fit, there}
use Rattle.observed_demand.proofs.Collecting.{at-number, collected, count-few, kept, other-test, passed, round-here, round-later, round-next, round-within, whose}
use Rattle.observed_demand.proofs.observing.observe_clock.Goals as goal
use Rattle.observed_demand.proofs.observing.observe_clock.Goals.{then-bidder+in_ok-report+in_ok-all, else-bidder}

pub prices_later-prices-requires-clause-later : goal.prices_later-prices-requires-clause-later
prices_later-prices-requires-clause-later c =
    let h = c.args.clock.now.history in
    let n = c.loop-before.before in
    round-later h n c.loop-before.round c.in_ok-report.report c.number-name.ensures.legal (at-number h.reports n c.in_ok-report.report c.in_ok-report.ensures) c.loop-before.invariant.to_last

pub prices_later-prices-requires-clause-to_last : goal.prices_later-prices-requires-clause-to_last
prices_later-prices-requires-clause-to_last c =
    let h = c.args.clock.now.history in
    let n = c.loop-before.before in
    round-within h n c.in_ok-report.report c.number-name.ensures.legal (omega arith) (at-number h.reports n c.in_ok-report.report c.in_ok-report.ensures)

pub with_one-requires-clause-goods : goal.with_one-requires-clause-goods
with_one-requires-clause-goods c =
    let h = c.args.clock.now.history in
    let n = c.loop-before.before in
    let r = c.in_ok-report.report in
    let within = round-within h n r c.number-name.ensures.legal (omega arith) (at-number h.reports n r c.in_ok-report.ensures) in
    let fit = prices-fit h (r.round - 1) (omega (arith, within)) in
    ap length c.prices_later-prices.ensures ∙ fit.goods ∙ ap length (sym (c.loop-before.invariant.supply ∙ c.requires.goods))

pub with_one-requires-clause-low : goal.with_one-requires-clause-low
with_one-requires-clause-low c =
    let h = c.args.clock.now.history in
    let n = c.loop-before.before in
    let r = c.in_ok-report.report in
    let within = round-within h n r c.number-name.ensures.legal (omega arith) (at-number h.reports n r c.in_ok-report.ensures) in
    let fit = prices-fit h (r.round - 1) (omega (arith, within)) in
    subst AreLow (sym c.prices_later-prices.ensures) fit.low

pub with_one-requires-clause-demand : goal.with_one-requires-clause-demand
with_one-requires-clause-demand c =
    let h = c.args.clock.now.history in
    let n = c.loop-before.before in
    let r = c.in_ok-report.report in
    let P : List ℕ → Type 0 = λ supply. IsDemand supply r.demand in
    subst P (sym (c.loop-before.invariant.supply ∙ c.requires.goods)) (demand-fits h n r c.number-name.ensures.legal (at-number h.reports n r c.in_ok-report.ensures))

pub with_one-requires-clause-few : goal.with_one-requires-clause-few
with_one-requires-clause-few c =
    let h = c.args.clock.now.history in
    let steps : steps_of h ≤ 60000 = (let v = c.steps-steps.ensures.value in let f = c.steps-steps.ensures.few in omega (arith, v, f)) in
    let few = count-few (observation_in h) c.args.bidder h c.loop-before.before 60000 c.args.observed.rationale.observations c.loop-before.all.rationale.observations c.number-name.ensures.legal (omega arith) steps c.loop-before.invariant.observations in
    let room = c.requires.room in
    omega (arith, few, room)

pub loop-before-preserved : goal.loop-before-preserved
loop-before-preserved c =
    let h = c.args.clock.now.history in
    let n = c.loop-before.before in
    let legal = c.number-name.ensures.legal in
    let was = c.loop-before.invariant in
    elim c.if-bidder.branch [
      | then-bidder+in_ok-report+in_ok-all w ↦
          let r = w.in_ok-report.report in
          let at = at-number h.reports n r w.in_ok-report.ensures in
          let mine : r.bidder ≡ c.args.bidder = sym (whose h.reports n r c.bidder.result at c.bidder.ensures) ∙ w.if-bidder.true in
          let seen : Observation = record { prices = w.prices_later-prices.result; bundles = r.demand } in
          let is : seen ≡ observation_in h r = (λ i. record { prices = w.prices_later-prices.ensures i; bundles = r.demand }) in
          let here : Place = record { clock = c.number-name.result; round = r.round } in
          let place : here ≡ place_in h r = (λ i. record { clock = c.number-name.ensures.value i; round = r.round }) in
          record {
            supply = ap (λ (o : Observed). o.rationale.supply) w.all-is ∙ w.in_ok-all.ensures.supply ∙ was.supply;
            observations = collected _ _ _ _ _ seen (observation_in h r) (ap (λ (o : Observed). o.rationale.observations) w.all-is ∙ w.in_ok-all.ensures.observations) was.observations is (kept (observation_in h) c.args.bidder h.reports n r at mine);
            places = collected _ _ _ _ _ here (place_in h r) (ap (λ (o : Observed). o.places.items) w.all-is ∙ w.in_ok-all.ensures.places) was.places place (kept (place_in h) c.args.bidder h.reports n r at mine);
            from_one = (let up = round-later h n c.loop-before.round r legal at was.to_last in let one = was.from_one in let e = w.round-is in omega (arith, up, one, e));
            to_last = (let up = round-here h n r legal (omega arith) at in let e = w.round-is in omega (arith, up, e));
            prices_are = w.prices-is ∙ w.prices_later-prices.ensures ∙ ap (λ k. prices_after h (k - 1)) (sym w.round-is);
          }
      | else-bidder w ↦
          let r = there h.reports n (omega arith) in
          let other = whose h.reports n r.0 c.bidder.result r.1 c.bidder.ensures in
          let apart = other-test c.bidder.result r.0.bidder c.args.bidder other w.if-bidder.false in
          record {
            supply = ap (λ (o : Observed). o.rationale.supply) w.all-is ∙ was.supply;
            observations = ap (λ (o : Observed). o.rationale.observations) w.all-is ∙ was.observations ∙ ap (λ xs. c.args.observed.rationale.observations ++ xs) (sym (passed (observation_in h) c.args.bidder h.reports n r.0 r.1 apart));
            places = ap (λ (o : Observed). o.places.items) w.all-is ∙ was.places ∙ ap (λ xs. c.args.observed.places.items ++ xs) (sym (passed (place_in h) c.args.bidder h.reports n r.0 r.1 apart));
            from_one = (let one = was.from_one in let e = w.round-is in omega (arith, one, e));
            to_last = (let up = round-next h n c.loop-before.round legal (omega arith) was.to_last in let e = w.round-is in omega (arith, up, e));
            prices_are = w.prices-is ∙ was.prices_are ∙ ap (λ k. prices_after h (k - 1)) (sym w.round-is);
          }
    ]

pub returns-clause-few : goal.returns-clause-few
returns-clause-few c =
    let h = c.args.clock.now.history in
    let steps : steps_of h ≤ 60000 = (let v = c.steps-steps.ensures.value in let f = c.steps-steps.ensures.few in omega (arith, v, f)) in
    count-few (observation_in h) c.args.bidder h c.loop-before.before 60000 c.args.observed.rationale.observations c.loop-before.all.rationale.observations c.number-name.ensures.legal (omega arith) steps c.loop-before.invariant.observations
