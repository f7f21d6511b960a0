use Rattle.award_assembly.proofs.Places.{first_choice-first, first_choice-clearing, first_choice-none}
use Rattle.award_assembly.proofs.laws.choice_law.Goals as goal

pub returns-clause-first : goal.returns-clause-first
returns-clause-first c = λ supply opening p demands choice e. first_choice-first supply opening p demands choice e

pub returns-clause-clearing : goal.returns-clause-clearing
returns-clause-clearing c = λ supply opening p demands choice e. first_choice-clearing supply opening p demands choice e

pub returns-clause-none : goal.returns-clause-none
returns-clause-none c = λ supply opening p demands e choice h. first_choice-none supply opening p demands e choice h
