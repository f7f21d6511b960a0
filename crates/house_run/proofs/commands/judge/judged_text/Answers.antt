-- All observations of the bidder are decided on.
use Rattle.std.proofs.Common.{◌∙◌, ◌+◌, ℕ, List, ap, arith, length, subst, sym}
use Rattle.std.proofs.lemmas.List.{length-map}
use Rattle.clock.specs.Reports.{ClockOf, histories}
use Rattle.outcome_text.specs.Lines.{text_of}
use Rattle.rationale.specs.Decisions.{IsDecision}
use Rattle.rationale.specs.Observations.{Observation}
use Rattle.observed_demand.specs.Reported.{observations_of, places_of}
use Rattle.house_run.specs.JudgeCommand.{decision_lines}
use Rattle.house_run.proofs.Judging.{clocks-count, places-count}
use Rattle.house_run.proofs.commands.judge.judged_text.Goals as goal

pub observe-requires-clause-few : goal.observe-requires-clause-few
observe-requires-clause-few c =
    let house = c.args.house.now in
    let numbers = clocks-count (histories house.clocks.items) (house.terms.bidders + 1) c.requires.numbers in
    let same = length-map house.clocks.items (λ (k : ClockOf). k.history) in
    let all = ap length c.deref.ensures.value in
    let most = house.terms.bidders_in_range.at_most in
    omega (arith, numbers, same, all, most)

pub decision_text-requires : goal.decision_text-requires
decision_text-requires c =
    let house = c.args.house.now in
    let seen = c.in_ok-observed.observed.rationale.observations in
    let places = c.as_slice-places.ensures.value ∙ c.in_ok-observed.ensures.places in
    let P : List ℕ → Type 0 = λ supply. IsDecision supply seen c.in_ok-decision.decision in
    (seen, ap length c.in_ok-observed.ensures.observations ∙ places-count c.args.bidder (histories c.deref.result.now) ∙ ap length (sym places), subst P c.in_ok-observed.ensures.supply c.in_ok-decision.ensures.decision)

pub returns : goal.returns
returns c =
    let house = c.args.house.now in
    let clocks = ap (λ (ks : List ClockOf). histories ks) c.deref.ensures.value in
    let P : List ℕ → List Observation → Type 0 = λ supply seen. IsDecision supply seen c.in_ok-decision.decision in
    let same = c.in_ok-observed.ensures.observations ∙ ap (observations_of c.args.bidder) clocks in
    let places = c.as_slice-places.ensures.value ∙ c.in_ok-observed.ensures.places ∙ ap (places_of c.args.bidder) clocks in
    record {
      decision = c.in_ok-decision.decision;
      decides = subst (P house.terms.goods) same (subst (λ supply. P supply c.in_ok-observed.observed.rationale.observations) c.in_ok-observed.ensures.supply c.in_ok-decision.ensures.decision);
      text_is = c.in_ok-text.ensures ∙ ap (λ ps. text_of (decision_lines c.args.bidder house.terms.goods ps c.in_ok-decision.decision)) places;
    }
