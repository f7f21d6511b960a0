use Rattle.std.specs.Prelude.{Result, Ok, Err, IfOk, ℕ, ℤ, List}
use Rattle.lot_base.specs.declared.auction_terms.Terms.{Terms}
use Rattle.clock.specs.Reports.{ClockHistory, histories}
use Rattle.settlement.specs.Clocks.{AreClocksOf}
use Rattle.settlement.specs.Settling.{IsOutcomeOf}
use Rattle.settlement.specs.Efficient.{ExplainsAll, IsEfficientSettlement}
use Rattle.settlement.specs.declared.outcome.Settlement.{Settlement}
use Rattle.settlement.specs.Incentives.{IsAmongTruthful, IsChargedBy}
use Rattle.settlement.proofs.Efficient.{efficient-if}
use Rattle.settlement.proofs.PriceBounds.{charged}
use Rattle.settlement.proofs.settle.Goals as goal

efficient-answer : {E : Type 0} (terms : Terms) (clocks : List ClockHistory) (answer : Result Settlement E) → AreClocksOf terms clocks → IfOk answer (IsOutcomeOf clocks)
    → IfOk answer (λ s. (u : ℕ → List ℕ → ℤ) → ExplainsAll u clocks → IsEfficientSettlement u terms s)
efficient-answer terms clocks (Ok s) h is = λ u explains. efficient-if u terms clocks s h explains is
efficient-answer terms clocks (Err e) h is = tt

pub returns-clause-efficient : goal.returns-clause-efficient
returns-clause-efficient c = efficient-answer c.args.terms.now (histories c.args.clocks.now) c.settle_exactly.result c.requires c.settle_exactly.ensures.outcome

charged-answer : {E : Type 0} (terms : Terms) (clocks : List ClockHistory) (answer : Result Settlement E) → IfOk answer (IsOutcomeOf clocks)
    → IfOk answer (λ s. (i : ℕ) (u : ℕ → List ℕ → ℤ) → IsAmongTruthful i u terms clocks → IsChargedBy i u terms s)
charged-answer terms clocks (Ok s) is = λ i u among. charged i u terms clocks s among is
charged-answer terms clocks (Err e) is = tt

pub returns-clause-charged : goal.returns-clause-charged
returns-clause-charged c = charged-answer c.args.terms.now (histories c.args.clocks.now) c.settle_exactly.result c.settle_exactly.ensures.outcome
