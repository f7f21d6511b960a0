-- What was noted of reports since a book was opened.
use Rattle.std.specs.Prelude.{List, [], ◌∷◌, ◌++◌}
use Rattle.demand_set.specs.declared.reports.Report.{Report}
use Rattle.clock_book.specs.declared.entries.Note.{Note}
use Rattle.clock_book.specs.declared.entries.Since.{Since, Opening, Noted'}

-- the reports that were noted, with what is noted of each, the oldest first
abbrev pub noted_in : Since → List (Report × Note)
noted_in Opening = []
noted_in (Noted' marker before report note) = noted_in before ++ (report.value, note) ∷ []
