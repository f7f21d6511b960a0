use Rattle.std.proofs.Common.{List, sym, subst}
use Rattle.std.specs.List.{AllZip}
use Rattle.settlement.specs.Clocks.{AreClocksOf}
use Rattle.settlement.specs.Found.{IsFoundOf}
use Rattle.settlement.specs.Settling.{IsOutcomeOf}
use Rattle.clock.specs.Reports.{ClockOf, histories}
use Rattle.trial.specs.Bidding.{bidders_of}
use Rattle.trial.proofs.Bidders.{known}
use Rattle.trial.proofs.Whole.{settles-well}
use Rattle.trial.proofs.settle_all.Goals as goal

pub settle_found-requires-clause-clocks : goal.settle_found-requires-clause-clocks
settle_found-requires-clause-clocks c =
    let A : List ClockOf → Type 0 = λ clocks. AreClocksOf c.args.terms.now (histories clocks) in
    subst A (sym c.as_slice.ensures.value) c.requires.trial.clocks_are

pub returns-in-Ok-clause-tried : goal.returns-in-Ok-clause-tried
returns-in-Ok-clause-tried c =
    let terms = c.args.terms.now in
    let u = bidders_of terms.goods c.args.valuations.now in
    let clocks = histories c.args.run.clocks.items in
    let O : List ClockOf → Type 0 = λ clocks. IsOutcomeOf (histories clocks) c.in-Ok.settlement in
    let outcome = subst O c.as_slice.ensures.value c.in-Ok.ensures.outcome in
    record {
      trial = c.requires.trial;
      outcome = outcome;
      well = settles-well u terms clocks c.in-Ok.settlement (known terms c.args.valuations.now c.requires.valuations c.requires.substitutes) c.requires.trial outcome;
      whole = c.in-Ok.ensures.whole;
      substitutes = c.requires.substitutes;
    }

pub settle_found-requires-clause-found : goal.settle_found-requires-clause-found
settle_found-requires-clause-found c =
    let F : List ClockOf → Type 0 = λ clocks. AllZip IsFoundOf (histories clocks) c.args.run.rows.items in
    subst F (sym c.as_slice.ensures.value) c.requires.rows
