-- What `assemble` answers.
use Rattle.std.specs.Prelude.{ℕ, List, Option, Some, None}
use Rattle.lot_base.specs.Choices.{IsFirstChoice, IsClearingChoice}
use Rattle.award_assembly.specs.declared.assembly.Assembly.{Assembly}
use Rattle.award_assembly.specs.declared.assembly.Assembly.TheVariants.{Award, NoChoice}

-- the first clearing choice, or there is none
abbrev pub IsAssembly : List ℕ → List ℕ → List ℕ → List (List (List ℕ)) → Assembly → Type 0
IsAssembly supply opening p demands (Award choice) = IsFirstChoice supply opening p demands choice
IsAssembly supply opening p demands NoChoice = (choice : List (List ℕ)) → IsClearingChoice supply opening p demands choice → ⊥

-- the choice of an answer
abbrev pub choice_in : Assembly → Option (List (List ℕ))
choice_in (Award choice) = Some choice
choice_in NoChoice = None
