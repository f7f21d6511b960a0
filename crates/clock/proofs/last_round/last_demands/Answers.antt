use Rattle.std.proofs.Common.{◌≢◌, ◌+◌, ℕ, List, sym, ◌∙◌, ap, subst}
use Rattle.lot_base.specs.Demands.{IsDemand}
use Rattle.lot_base.specs.declared.auction_terms.Terms.{Terms}
use Rattle.clock.proofs.LastDemands.{IsCopied, copied-keep, copied-skip}
use Rattle.clock.proofs.last_round.last_demands.Goals as goal
use Rattle.clock.proofs.last_round.last_demands.Goals.{then-bidder-number+in_ok-last_demand+in_ok-push, else-bidder-number}

pub loop-step-preserved : goal.loop-step-preserved
loop-step-preserved c =
    let clock = c.args.clock.now.history in
    let goods = c.args.terms.now.goods in
    let step = c.loop-step.step in
    let bidders = c.args.terms.now.bidders in
    let before = c.loop-step.demands.items in
    elim c.if-bidder-number.branch [
      | then-bidder-number+in_ok-last_demand+in_ok-push w ↦
          let other : step + 1 ≢ clock.number = λ e. w.if-bidder-number.true (e ∙ sym c.number-number.ensures.value) in
          let fits : IsDemand goods w.in_ok-last_demand.field-0 = subst (λ (t : Terms). IsDemand t.goods w.in_ok-last_demand.field-0) c.requires.terms w.in_ok-last_demand.ensures.fits in
          copied-keep clock goods step bidders before c.if-bidder-number.demands.items w.in_ok-last_demand.field-0 c.loop-step.invariant c.loop-step-test.true other w.in_ok-last_demand.ensures.value fits (ap (λ v. v.items) w.demands-is ∙ w.in_ok-push.ensures.items)
      | else-bidder-number w ↦
          let P : List (List (List ℕ)) → Type 0 = λ demands. IsCopied clock goods (step + 1) bidders demands in
          subst P (sym (ap (λ v. v.items) w.demands-is)) (copied-skip clock goods step bidders before c.loop-step.invariant c.loop-step-test.true (w.if-bidder-number.false ∙ c.number-number.ensures.value))
    ]
