-- The history of a desk: reports and marks, the oldest first. A report is noted as offered, or as counted where it was in doubt
-- after a fault of the disk and was found on it later. A mark stands for one offer that was answered by a fault of the disk, and has
-- its report.
use Rattle.std.specs.Prelude.{◌≡◌, ℕ, ◌+◌, ◌≤◌, ◌%◌, ◌^◌, List, [], ◌∷◌, ◌++◌, length, map}
use Rattle.std.specs.List.{concat}
use Rattle.demand_set.specs.declared.reports.Report.{Report}
use Rattle.clock.specs.Reports.{ClockHistory}
use Rattle.clock_book.specs.declared.entries.Entry.{Entry}
use Rattle.clock_book.specs.declared.entries.Entry.TheVariants.{Offered, Counted, Mark}
use Rattle.clock_book.specs.declared.entries.Note.{Note}
use Rattle.clock_book.specs.declared.entries.Note.TheVariants as note

-- the reports of a history, and the number of its marks
abbrev pub reports_in : List Entry → List Report
reports_in [] = []
reports_in (Offered r ∷ entries) = r ∷ reports_in entries
reports_in (Counted r ∷ entries) = r ∷ reports_in entries
reports_in (Mark r ∷ entries) = reports_in entries

abbrev pub marks_in : List Entry → ℕ
marks_in [] = 0
marks_in (Offered r ∷ entries) = marks_in entries
marks_in (Counted r ∷ entries) = marks_in entries
marks_in (Mark r ∷ entries) = 1 + marks_in entries

-- A mark of this report stands after just so many reports: it was offered when the clock had these, and answered by a fault of the
-- disk.
pub record IsMarkedBehind (history : List Entry) (count : ℕ) (r : Report) : Type 0 where
  pub before : List Entry
  pub behind : List Entry
  pub is : history ≡ before ++ Mark r ∷ behind
  pub count_is : length (reports_in before) ≡ count

-- The report is in doubt: it was offered and answered by a fault of the disk, and none was taken since.
abbrev pub IsInDoubt : List Entry → Report → Type 0
IsInDoubt history r = IsMarkedBehind history (length (reports_in history)) r

-- the entry of a report and of what is noted of it
abbrev pub entry_of : Report × Note → Entry
entry_of (r, note.Offered) = Offered r
entry_of (r, note.Counted) = Counted r
entry_of (r, note.Failed) = Mark r

-- The history of a desk whose book was opened with these reports, and for which these were noted since.
abbrev pub history_of : List Report → List (Report × Note) → List Entry
history_of opened noted = map Offered opened ++ map entry_of noted

-- a clock's history with the history of its desk, and the room for further reports and for their quantities
pub record NotedOf : Type 0 where
  pub clock : ClockHistory
  pub history : List Entry
  pub spare_reports : ℕ
  pub spare_quantities : ℕ

-- there is room for this report
pub record HasRoomFor (n : NotedOf) (r : Report) : Type 0 where
  pub reports : 1 ≤ n.spare_reports
  pub quantities : length (concat r.demand) ≤ n.spare_quantities

-- the clock has the reports of the history, and its marks are counted modulo 2^64
pub record IsNoted (reports : List Report) (history : List Entry) (marks : ℕ) : Type 0 where
  pub reports_are : reports_in history ≡ reports
  pub counted : marks ≡ marks_in history % 2 ^ 64
