-- The standing line of a clock: `clock C round R running prices P.. missing B`, where B is the smallest member without a report
-- in the round; `clock C round R ended prices P..`; or `clock C round R halted G prices P..`, where G is the good at the ceiling.
use Rattle.std.specs.Prelude.{ℕ, List, [], ◌∷◌, ◌++◌, codes, decimal}
use Rattle.lot_base.specs.declared.phases.Phase.{Phase}
use Rattle.lot_base.specs.declared.phases.Phase.TheVariants.{Running, Ended, Halted}
use Rattle.outcome_text.specs.Lines.{line, numerals}

-- the phase in words
abbrev pub phase_words : Phase → List (List ℕ)
phase_words Running = codes "running" ∷ []
phase_words Ended = codes "ended" ∷ []
phase_words (Halted good) = codes "halted" ∷ decimal good ∷ []

-- who is missing, where the clock is running
abbrev pub missing_words : Phase → ℕ → List (List ℕ)
missing_words Running missing = codes "missing" ∷ decimal missing ∷ []
missing_words Ended missing = []
missing_words (Halted good) missing = []

abbrev pub standing_line : ℕ → ℕ → Phase → List ℕ → ℕ → List ℕ
standing_line clock round phase prices missing =
    line (codes "clock" ∷ decimal clock ∷ codes "round" ∷ decimal round ∷ phase_words phase ++ (codes "prices" ∷ numerals prices ++ missing_words phase missing))
