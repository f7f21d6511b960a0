-- How the history of a desk grows by a report or a mark.
use Rattle.std.proofs.Common.{◌≡◌, ◌≢◌, ℕ, ◌+◌, ◌%◌, ◌^◌, List, [], ◌∷◌, ◌++◌, length, map, Option, None, Some, refl, sym, ◌∙◌, ap, subst, arith, append-nil, append_assoc}
use Rattle.std.specs.Prelude.{IfSome}
use Rattle.std.proofs.lemmas.List.{map-append}
use Rattle.demand_set.specs.declared.reports.Report.{Report}
use Rattle.clock_book.specs.declared.entries.Entry.{Entry}
use Rattle.clock_book.specs.declared.entries.Entry.TheVariants.{Offered, Counted, Mark}
use Rattle.clock_book.specs.declared.entries.Note.{Note}
use Rattle.clock_book.specs.declared.entries.Note.TheVariants as note
use Rattle.clock_book.specs.DeskHistories.{reports_in, marks_in, entry_of, history_of, IsMarkedBehind, IsInDoubt, IsNoted}

pub reports-append : (xs ys : List Entry) → reports_in (xs ++ ys) ≡ reports_in xs ++ reports_in ys
reports-append [] ys = refl
reports-append (Offered r ∷ xs) ys = ap (λ l. r ∷ l) (reports-append xs ys)
reports-append (Counted r ∷ xs) ys = ap (λ l. r ∷ l) (reports-append xs ys)
reports-append (Mark r ∷ xs) ys = reports-append xs ys

pub marks-append : (xs ys : List Entry) → marks_in (xs ++ ys) ≡ marks_in xs + marks_in ys
marks-append [] ys = omega arith
marks-append (Offered r ∷ xs) ys = marks-append xs ys
marks-append (Counted r ∷ xs) ys = marks-append xs ys
marks-append (Mark r ∷ xs) ys = let e = marks-append xs ys in omega (arith, e)

-- how many entries there are
pub history-length : (history : List Entry) → length history ≡ length (reports_in history) + marks_in history
history-length [] = refl
history-length (Offered r ∷ entries) = let e = history-length entries in omega (arith, e)
history-length (Counted r ∷ entries) = let e = history-length entries in omega (arith, e)
history-length (Mark r ∷ entries) = let e = history-length entries in omega (arith, e)

-- at opening each report is noted as offered, and there is no mark
pub reports-opened : (reports : List Report) → reports_in (map Offered reports) ≡ reports
reports-opened [] = refl
reports-opened (r ∷ reports) = ap (λ l. r ∷ l) (reports-opened reports)

pub marks-opened : (reports : List Report) → marks_in (map Offered reports) ≡ 0
marks-opened [] = refl
marks-opened (r ∷ reports) = marks-opened reports

pub history-opened : (reports : List Report) → history_of reports [] ≡ map Offered reports
history-opened reports = append-nil (map Offered reports)

pub noted-opened : (reports : List Report) → IsNoted reports (history_of reports []) 0
noted-opened reports =
    subst (λ (h : List Entry). IsNoted reports h 0) (sym (history-opened reports)) (record {
      reports_are = reports-opened reports;
      counted = (let m = marks-opened reports in omega (arith, m));
    })

-- one report more is noted
pub history-push : (opened : List Report) (noted : List (Report × Note)) (x : Report × Note) → history_of opened (noted ++ x ∷ []) ≡ history_of opened noted ++ entry_of x ∷ []
history-push opened noted x = ap (λ l. map Offered opened ++ l) (map-append entry_of noted (x ∷ [])) ∙ sym (append_assoc (map Offered opened) (map entry_of noted) (entry_of x ∷ []))

-- a report that is taken
taken-reports : (r : Report) (how : Note) → how ≢ note.Failed → reports_in (entry_of (r, how) ∷ []) ≡ r ∷ []
taken-reports r note.Offered taken = refl
taken-reports r note.Counted taken = refl
taken-reports r note.Failed taken = absurd (taken refl)

taken-marks : (r : Report) (how : Note) → how ≢ note.Failed → marks_in (entry_of (r, how) ∷ []) ≡ 0
taken-marks r note.Offered taken = refl
taken-marks r note.Counted taken = refl
taken-marks r note.Failed taken = absurd (taken refl)

pub noted-taken : (reports : List Report) (history : List Entry) (marks : ℕ) (r : Report) (how : Note) → how ≢ note.Failed → IsNoted reports history marks → IsNoted (reports ++ r ∷ []) (history ++ entry_of (r, how) ∷ []) marks
noted-taken reports history marks r how taken kept = record {
  reports_are = reports-append history (entry_of (r, how) ∷ []) ∙ (λ i. kept.reports_are i ++ taken-reports r how taken i);
  counted =
      let m = marks-append history (entry_of (r, how) ∷ []) in
      let none = taken-marks r how taken in
      omega (arith, kept.counted, m, none);
}

-- one mark more
reports-marked : (history : List Entry) (r : Report) → reports_in (history ++ Mark r ∷ []) ≡ reports_in history
reports-marked history r = reports-append history (Mark r ∷ []) ∙ append-nil (reports_in history)

pub noted-marked : (reports : List Report) (history : List Entry) (marks now : ℕ) (r : Report) → now ≡ (marks + 1) % 2 ^ 64 → IsNoted reports history marks → IsNoted reports (history ++ Mark r ∷ []) now
noted-marked reports history marks now r e kept = record {
  reports_are = reports-marked history r ∙ kept.reports_are;
  counted = (let m = marks-append history (Mark r ∷ []) in omega (arith, kept.counted, m, e));
}

pub same-reports : (reports : List Report) (history new : List Entry) (r : Report) → new ≡ history ++ Mark r ∷ [] → reports_in history ≡ reports → reports_in new ≡ reports
same-reports reports history new r e is = ap reports_in e ∙ reports-marked history r ∙ is

-- a mark stays where it stands
pub marked-later : (history more : List Entry) (count : ℕ) (r : Report) → IsMarkedBehind history count r → IsMarkedBehind (history ++ more) count r
marked-later history more count r marked = record {
  before = marked.before;
  behind = marked.behind ++ more;
  is = ap (λ l. l ++ more) marked.is ∙ append_assoc marked.before (Mark r ∷ marked.behind) more;
  count_is = marked.count_is;
}

-- a report that is marked is in doubt, and stays so where another mark follows
pub marked-now : (history new : List Entry) (r : Report) → new ≡ history ++ Mark r ∷ [] → IsInDoubt new r
marked-now history new r e = subst (λ (h : List Entry). IsInDoubt h r) (sym e) (record { before = history; behind = []; is = refl; count_is = sym (ap length (reports-marked history r)) })

pub still-in-doubt : (history new : List Entry) (q r : Report) → new ≡ history ++ Mark r ∷ [] → IsInDoubt history q → IsInDoubt new q
still-in-doubt history new q r e doubt =
    subst (λ (h : List Entry). IsInDoubt h q) (sym e)
    (subst (λ (n : ℕ). IsMarkedBehind (history ++ Mark r ∷ []) n q) (sym (ap length (reports-marked history r))) (marked-later history (Mark r ∷ []) (length (reports_in history)) q doubt))

pub doubt-later : (o : Option Report) (history new : List Entry) (r : Report) → new ≡ history ++ Mark r ∷ [] → IfSome o (IsInDoubt history) → IfSome o (IsInDoubt new)
doubt-later None history new r e doubt = tt
doubt-later (Some q) history new r e doubt = still-in-doubt history new q r e doubt
