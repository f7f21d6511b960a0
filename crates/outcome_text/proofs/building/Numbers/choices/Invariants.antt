use Rattle.outcome_text.proofs.Awards.{AreChoicesTaken}
use Rattle.outcome_text.proofs.building.Numbers.choices.Given as goal

abbrev pub invariant-loop-place : goal.invariant-loop-place
invariant-loop-place l = AreChoicesTaken l.goods l.count l._place l.initial.self.rest.now l.self.rest.now l.bundles.items
