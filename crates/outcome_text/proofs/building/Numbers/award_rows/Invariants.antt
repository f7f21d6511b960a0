use Rattle.outcome_text.proofs.Awards.{AreAwardsTaken}
use Rattle.outcome_text.proofs.building.Numbers.award_rows.Given as goal

abbrev pub invariant-loop-place : goal.invariant-loop-place
invariant-loop-place l = AreAwardsTaken l.goods l.bidders l._place l.initial.self.rest.now l.self.rest.now l.rows.items
