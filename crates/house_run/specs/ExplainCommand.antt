-- The command `explain AUCTION JOURNALS`: a line for each clock of an auction, which says whether it has ended, and if so, why it has an award or none.
use Rattle.std.specs.Prelude.{◌≡◌, ℕ, ℤ, List, [], ◌∷◌, ◌++◌, Some, codes, decimal}
use Rattle.std.specs.List.{AllZip}
use Rattle.lot_base.specs.declared.auction_terms.Terms.{Terms}
use Rattle.clock.specs.Explained.{Explains}
use Rattle.clock.specs.Reports.{ClockHistory}
use Rattle.settlement.specs.Efficient.{ExplainsAll}
use Rattle.overshoot.specs.Explained.{IsExplained, IsTrueEnd}
use Rattle.overshoot.specs.declared.explaining.Explained.{Explained}
use Rattle.overshoot.specs.declared.explaining.Explained.TheVariants.{Running, Halted, Award, Overshoot, Broken}
use Rattle.outcome_text.specs.Lines.{line, numerals}
use Rattle.house_run.specs.Journals.{AreHistories}
use Rattle.house_run.specs.Needs.{Needs, nothing_needed}
use Rattle.house_run.specs.Seen.{ShelfSeen}

abbrev pub explain_needs : List ℕ → List ℕ → Needs
explain_needs auction journals = record nothing_needed { auction = Some auction; journals = Some journals }

-- what a clock has come to, in words: `running`; `halted`; `ended award`; `ended overshoot E short D`, where E is the number of the set of goods;
-- or `ended broken J x X.. y Y.. good G`
abbrev pub end_words : Explained → List (List ℕ)
end_words Running = codes "running" ∷ []
end_words Halted = codes "halted" ∷ []
end_words Award = codes "ended" ∷ codes "award" ∷ []
end_words (Overshoot set short) = codes "ended" ∷ codes "overshoot" ∷ decimal set.0 ∷ codes "short" ∷ decimal short ∷ []
end_words (Broken bidder x y good) =
    codes "ended" ∷ codes "broken" ∷ decimal bidder ∷ codes "x" ∷ numerals x ++ (codes "y" ∷ numerals y ++ (codes "good" ∷ decimal good ∷ []))

abbrev pub end_line : ClockHistory → Explained → List ℕ
end_line c end = line (codes "clock" ∷ decimal c.number ∷ end_words end)

-- the line of each clock
abbrev pub end_lines : List ClockHistory → List Explained → List ℕ
end_lines [] ends = []
end_lines (c ∷ cs) [] = []
end_lines (c ∷ cs) (end ∷ ends) = end_line c end ++ end_lines cs ends

-- The text has a line for each of these clocks, by what it has come to. Where valuations explain the reports of all clocks, each has an award once it
-- has ended, and none halts whose ceiling is above all values.
pub record IsExplainedText (histories : List ClockHistory) (text : List ℕ) : Type 0 where
  -- what each clock has come to
  pub ends : List Explained
  pub explained : AllZip IsExplained histories ends
  pub truthful : (u : ℕ → List ℕ → ℤ) → ExplainsAll u histories → AllZip (IsTrueEnd u) histories ends
  pub text_is : text ≡ end_lines histories ends

-- the same of one clock
pub record IsExplainedLine (c : ClockHistory) (text : List ℕ) : Type 0 where
  pub end : Explained
  pub explained : IsExplained c end
  pub truthful : (u : ℕ → List ℕ → ℤ) → Explains u c → IsTrueEnd u c end
  pub text_is : text ≡ end_line c end

-- the text explains the clock of each journal, in the order of their numbers
pub record ExplainDone (auction journals : List ℕ) (shelf : ShelfSeen) (text : List ℕ) : Type 0 where
  pub terms : Terms
  pub histories : List ClockHistory
  pub are : AreHistories shelf auction journals terms histories
  pub told : IsExplainedText histories text
