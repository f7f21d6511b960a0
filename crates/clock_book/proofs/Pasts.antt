-- How the past of a book goes on: by a call that leaves its reports, with one in doubt, and by one that appends a report.
use Rattle.std.proofs.Common.{◌≡◌, ◌⊎◌, inl, inr, ⊎_elim, ℕ, ◌≤◌, List, ◌∷◌, [], ◌++◌, length, take, Some, sym, ◌∙◌, ap, subst, arith, append_assoc, length-append}
use Rattle.std.proofs.lemmas.List.{take_all, take-append-le}
use Rattle.demand_set.specs.declared.reports.Report.{Report}
use Rattle.clock.specs.Reports.{ClockHistory, with_report}
use Rattle.house_io.specs.Moments.{AtEach, EachLeaves, Moment, Moments}
use Rattle.house_io.proofs.Moments.{at_weaker, leaves_weaker}
use Rattle.report_journal.specs.Format.{Contents, StandsFor}
use Rattle.report_journal.specs.Puts.{IsBeforeOrAfter, with_one_more}
use Rattle.recovery.specs.Entries.{payload_of, IsReportOf, AreReportsOf}
use Rattle.recovery.specs.Journaled.{Owner, contents_of, StandsForReports}
use Rattle.recovery.proofs.Lists.{all-push}
use Rattle.clock_book.specs.declared.entries.Entry.{Entry}
use Rattle.clock_book.specs.declared.origins.Origin.{Origin}
use Rattle.clock_book.specs.DeskHistories.{IsMarkedBehind}
use Rattle.clock_book.specs.Past.{owner_in, IsEither, IsNext, StoodFor, KeepsPast}
use Rattle.clock_book.proofs.Histories.{marked-later}
use Rattle.clock_book.proofs.Sizes.{contents-push}

pub each-append : (P : List ℕ → Type 0) (xs ys : List Moment) → EachLeaves P xs → EachLeaves P ys → EachLeaves P (xs ++ ys)
each-append P [] ys first second = second
each-append P (x ∷ xs) ys first second = (first.0, each-append P xs ys first.1 second)

each-weaker : (P Q : List ℕ → Type 0) (xs : List Moment) → ((file : List ℕ) → P file → Q file) → EachLeaves P xs → EachLeaves Q xs
each-weaker P Q [] weaker each = tt
each-weaker P Q (x ∷ xs) weaker each = (leaves_weaker P Q x weaker each.0, each-weaker P Q xs weaker each.1)

pub after-one : (owner : Owner) (reports : List Report) (r : Report) (file : List ℕ) → AreReportsOf owner.terms reports → IsReportOf owner.terms r
    → StandsFor (with_one_more (contents_of owner reports) (payload_of (length owner.terms.goods) r)) file → StandsForReports owner (reports ++ r ∷ []) file
after-one owner reports r file are report stands =
    let P : Contents → Type 0 = λ x. StandsFor x file in
    record { stands = subst P (sym (contents-push owner reports r)) stands; are = all-push (IsReportOf owner.terms) reports r are report }

pub either : (owner : Owner) (reports : List Report) (r : Report) (file : List ℕ) → AreReportsOf owner.terms reports → IsReportOf owner.terms r
    → IsBeforeOrAfter (contents_of owner reports) (payload_of (length owner.terms.goods) r) file → IsEither owner reports (Some r) file
either owner reports r file are report is = ⊎_elim (λ before. inl (record { stands = before; are = are })) (λ after. inr (after-one owner reports r file are report after)) is

pub at-either : (owner : Owner) (reports : List Report) (r : Report) (x : Contents) (old new : Moments) → AreReportsOf owner.terms reports → IsReportOf owner.terms r
    → x ≡ contents_of owner reports → AtEach (IsBeforeOrAfter x (payload_of (length owner.terms.goods) r)) old new → AtEach (IsEither owner reports (Some r)) old new
at-either owner reports r x old new are report e call =
    let payload = payload_of (length owner.terms.goods) r in
    let P : Contents → Type 0 = λ y. AtEach (IsBeforeOrAfter y payload) old new in
    at_weaker (IsBeforeOrAfter (contents_of owner reports) payload) (IsEither owner reports (Some r)) old new (λ file is. either owner reports r file are report is) (subst P e call)

-- what the file stood for, by the reports at its count
abbrev Stood : Origin → ClockHistory → List Entry → List ℕ → ℕ → List Report → Type 0
Stood origin c history file count reports =
    StandsForReports (owner_in origin) reports file
    ⊎ ((r : Report) × IsNext (record c { reports = reports }) r × IsMarkedBehind history count r × StandsForReports (owner_in origin) (reports ++ r ∷ []) file)

stood-later : (origin : Origin) (c : ClockHistory) (history more : List Entry) (file : List ℕ) (count : ℕ) (reports : List Report) → Stood origin c history file count reports → Stood origin c (history ++ more) file count reports
stood-later origin c history more file count reports (inl stands) = inl stands
stood-later origin c history more file count reports (inr one) = inr (one.0, one.1, marked-later history more count one.0 one.2, one.3)

-- the file stood for the reports that the clock has
pub stood-whole : (origin : Origin) (c : ClockHistory) (history : List Entry) (file : List ℕ) → origin.reports ≤ length c.reports → Stood origin c history file (length c.reports) c.reports → StoodFor origin c history file
stood-whole origin c history file least stood = record {
  count = length c.reports;
  least = least;
  most = omega arith;
  stands = subst (Stood origin c history file (length c.reports)) (sym (take_all (length c.reports) c.reports (omega arith))) stood;
}

module _ (origin : Origin) (c : ClockHistory) (q : Report) (are : AreReportsOf origin.terms c.reports) (report : IsReportOf origin.terms q) (history new : List Entry) (more : List Entry) (grown : new ≡ history ++ more) where
  -- what the file stood for before
  stood-on : (file : List ℕ) → StoodFor origin c history file → StoodFor origin c new file
  stood-on file stood =
      subst (λ (h : List Entry). StoodFor origin c h file) (sym grown) (record {
        count = stood.count;
        least = stood.least;
        most = stood.most;
        stands = stood-later origin c history more file stood.count (take stood.count c.reports) stood.stands;
      })

  stood-pushed : (file : List ℕ) → StoodFor origin c new file → StoodFor origin (with_report c q) new file
  stood-pushed file stood =
      record {
        count = stood.count;
        least = stood.least;
        most = let m = stood.most in omega (arith, m, longer);
        stands = subst (Stood origin c new file stood.count) (sym (take-append-le stood.count c.reports (q ∷ []) stood.most)) stood.stands;
      }
    where
      longer : length c.reports ≤ length (c.reports ++ q ∷ [])
      longer = simp length-append (omega arith)

  -- the report is in doubt there
  stood-in-doubt : (file : List ℕ) → origin.reports ≤ length c.reports → IsNext c q → IsMarkedBehind new (length c.reports) q
      → IsBeforeOrAfter (contents_of (owner_in origin) c.reports) (payload_of (length origin.terms.goods) q) file → StoodFor origin c new file
  stood-in-doubt file least next doubt is =
      stood-whole origin c new file least (⊎_elim (λ before. inl (record { stands = before; are = are })) (λ after. inr (q, next, doubt, after-one (owner_in origin) c.reports q file are report after)) is)

  -- the report was appended
  stood-appended : (file : List ℕ) → origin.reports ≤ length c.reports → IsBeforeOrAfter (contents_of (owner_in origin) c.reports) (payload_of (length origin.terms.goods) q) file → StoodFor origin (with_report c q) new file
  stood-appended file least is =
      let more : origin.reports ≤ length (c.reports ++ q ∷ []) = simp length-append (omega (arith, least)) in
      ⊎_elim
      (λ before. stood-pushed file (stood-whole origin c new file least (inl (record { stands = before; are = are }))))
      (λ after. stood-whole origin (with_report c q) new file more (inl (after-one (owner_in origin) c.reports q file are report after)))
      is

  module _ (old now : Moments) (least : origin.reports ≤ length c.reports) (past : KeepsPast origin c history old)
      (call : AtEach (IsBeforeOrAfter (contents_of (owner_in origin) c.reports) (payload_of (length origin.terms.goods) q)) old now) where
    past-by : (d : ClockHistory) → ((file : List ℕ) → StoodFor origin c history file → StoodFor origin d new file)
        → ((file : List ℕ) → IsBeforeOrAfter (contents_of (owner_in origin) c.reports) (payload_of (length origin.terms.goods) q) file → StoodFor origin d new file) → KeepsPast origin d new now
    past-by d stays is =
        let P : List ℕ → Type 0 = λ file. StoodFor origin c history file in
        let R : List ℕ → Type 0 = λ file. StoodFor origin d new file in
        let Q : List ℕ → Type 0 = λ file. IsBeforeOrAfter (contents_of (owner_in origin) c.reports) (payload_of (length origin.terms.goods) q) file in
        record {
          later = call.more ++ past.later;
          between = past.between;
          earlier = past.earlier;
          split = call.grown ∙ ap (λ (l : List Moment). call.more ++ l) past.split ∙ sym (append_assoc call.more past.later (past.between ++ past.earlier));
          synced = past.synced;
          answered = past.answered;
          stood = each-append R call.more past.later (each-weaker Q R call.more is call.each) (each-weaker P R past.later stays past.stood);
          opened = past.opened;
        }

    pub past-in-doubt : IsNext c q → IsMarkedBehind new (length c.reports) q → KeepsPast origin c new now
    past-in-doubt next doubt = past-by c stood-on (λ file is. stood-in-doubt file least next doubt is)

    pub past-more : KeepsPast origin (with_report c q) new now
    past-more = past-by (with_report c q) (λ file stood. stood-pushed file (stood-on file stood)) (λ file is. stood-appended file least is)
