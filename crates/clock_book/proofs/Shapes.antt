-- The ways in which a file may be read, each with what it says of the file.
use Rattle.std.proofs.Common.{◌≡◌, ◌≢◌, ◌⊎◌, inl, inr, ⊎_elim, ℕ, ◌+◌, List, [], ◌∷◌, ◌++◌, length, Result, Ok, Err, ◌∙◌, ap, subst}
use Rattle.demand_set.specs.declared.reports.Report.{Report}
use Rattle.clock.specs.Reports.{ClockHistory}
use Rattle.clock.specs.Judging.{IsLegal, judgement_of}
use Rattle.clock.specs.declared.judging.Judgement.{Judgement}
use Rattle.clock.specs.declared.judging.Judgement.TheVariants.{Take}
use Rattle.report_journal.specs.declared.headers.Header.{Header}
use Rattle.report_journal.specs.Format.{StandsFor, IsDamaged, IsUnformed, HasNoHeader}
use Rattle.report_journal.specs.Fronts.{HasHeader}
use Rattle.report_journal.specs.Puts.{with_one_more}
use Rattle.recovery.specs.declared.faults.JournalCause.{JournalCause}
use Rattle.recovery.specs.declared.faults.JournalCause.TheVariants as cause
use Rattle.recovery.specs.Entries.{AreReportsOf, SpellsNone}
use Rattle.recovery.specs.Journaled.{Owner, contents_of, BeginsWith, BeginsWithReports}
use Rattle.recovery.specs.Causes.{IsHeaderCause, IsBrokenHeader, IsBrokenRecord}
use Rattle.clock_book.specs.declared.faults.OpenFault.{OpenFault}
use Rattle.clock_book.specs.declared.faults.OpenFault.TheVariants as why
use Rattle.clock_book.specs.Opening.{history_of, IsOpening}

-- a file with the owner's header: it has these reports and an end, these and a damaged record, these and a record of no report, or
-- these and a report that is not taken
pub data Body : Type 0 where
  Whole : List Report → Body
  Damaged : List Report → Body
  NoReport : List Report → List ℕ → Body
  NotTaken : List Report → Report → Judgement → Body

-- a file without it: unformed, without a header, or with another one
pub data Head : Type 0 where
  Unformed : Head
  Headless : Head
  Other : Header → JournalCause → Head

pub record IsSound (owner : Owner) (reports : List Report) : Type 0 where
  pub legal : IsLegal (history_of owner reports)
  pub are : AreReportsOf owner.terms reports

pub record IsNone (owner : Owner) (reports : List Report) (payload : List ℕ) (file : List ℕ) : Type 0 where
  pub sound : IsSound owner reports
  pub begins : BeginsWith (with_one_more (contents_of owner reports) payload) file
  pub none : SpellsNone owner.terms payload

pub record IsRefused (owner : Owner) (reports : List Report) (r : Report) (judgement : Judgement) (file : List ℕ) : Type 0 where
  pub legal : IsLegal (history_of owner reports)
  pub begins : BeginsWithReports owner (reports ++ r ∷ []) file
  pub judged : judgement ≡ judgement_of (history_of owner reports) r
  pub refused : judgement ≢ Take

abbrev pub IsBody : Owner → List ℕ → Body → Type 0
IsBody owner file (Whole reports) = IsSound owner reports × StandsFor (contents_of owner reports) file
IsBody owner file (Damaged reports) = IsSound owner reports × IsDamaged (contents_of owner reports) file
IsBody owner file (NoReport reports payload) = IsNone owner reports payload file
IsBody owner file (NotTaken reports r judgement) = IsRefused owner reports r judgement file

abbrev pub IsHead : Owner → List ℕ → Head → Type 0
IsHead owner file Unformed = IsUnformed file
IsHead owner file Headless = HasNoHeader file
IsHead owner file (Other header found) = HasHeader header file × IsHeaderCause owner header found

abbrev pub body_answer : Owner → Body → Result ClockHistory OpenFault
body_answer owner (Whole reports) = Ok (history_of owner reports)
body_answer owner (Damaged reports) = Err (why.Broken (record { number = length reports + 1; cause = cause.Damaged }))
body_answer owner (NoReport reports payload) = Err (why.Broken (record { number = length reports + 1; cause = cause.NotReport }))
body_answer owner (NotTaken reports r judgement) = Err (why.NotAcceptable (length reports + 1) judgement)

abbrev pub head_answer : Owner → Head → Result ClockHistory OpenFault
head_answer owner Unformed = Ok (history_of owner [])
head_answer owner Headless = Err (why.Broken (record { number = 0; cause = cause.Damaged }))
head_answer owner (Other header found) = Err (why.Broken (record { number = 0; cause = found }))

pub record HasBody (owner : Owner) (file : List ℕ) (answer : Result ClockHistory OpenFault) : Type 0 where
  pub body : Body
  pub is : IsBody owner file body
  pub answer_is : answer ≡ body_answer owner body

pub record HasHead (owner : Owner) (file : List ℕ) (answer : Result ClockHistory OpenFault) : Type 0 where
  pub head : Head
  pub is : IsHead owner file head
  pub answer_is : answer ≡ head_answer owner head

broken-head : (owner : Owner) (number : ℕ) (found : JournalCause) (file : List ℕ) → number ≡ 0 → IsBrokenHeader owner found file → HasHead owner file (Err (why.Broken (record { number = number; cause = found })))
broken-head owner number cause.Damaged file is broken = record { head = Headless; is = broken; answer_is = λ i. Err (why.Broken (record { number = is i; cause = cause.Damaged })) }
broken-head owner number (cause.OtherClock c) file is broken = record { head = Other broken.header (cause.OtherClock c); is = (broken.has, broken.cause_is); answer_is = λ i. Err (why.Broken (record { number = is i; cause = cause.OtherClock c })) }
broken-head owner number (cause.OtherAuction d) file is broken = record { head = Other broken.header (cause.OtherAuction d); is = (broken.has, broken.cause_is); answer_is = λ i. Err (why.Broken (record { number = is i; cause = cause.OtherAuction d })) }
broken-head owner number (cause.OtherVersion v) file is broken = record { head = Other broken.header (cause.OtherVersion v); is = (broken.has, broken.cause_is); answer_is = λ i. Err (why.Broken (record { number = is i; cause = cause.OtherVersion v })) }
broken-head owner number (cause.OtherOpening g) file is broken = record { head = Other broken.header (cause.OtherOpening g); is = (broken.has, broken.cause_is); answer_is = λ i. Err (why.Broken (record { number = is i; cause = cause.OtherOpening g })) }
broken-head owner number cause.NotReport file is broken = absurd broken.cause_is

broken-body : (owner : Owner) (reports : List Report) (number : ℕ) (found : JournalCause) (file : List ℕ) → number ≡ length reports + 1 → IsSound owner reports → IsBrokenRecord owner reports found file
    → HasBody owner file (Err (why.Broken (record { number = number; cause = found })))
broken-body owner reports number cause.Damaged file is sound broken = record { body = Damaged reports; is = (sound, broken); answer_is = λ i. Err (why.Broken (record { number = is i; cause = cause.Damaged })) }
broken-body owner reports number cause.NotReport file is sound broken = record {
  body = NoReport reports broken.payload;
  is = record { sound = sound; begins = broken.begins; none = broken.none };
  answer_is = λ i. Err (why.Broken (record { number = is i; cause = cause.NotReport }));
}
broken-body owner reports number (cause.OtherClock c) file is sound broken = absurd broken
broken-body owner reports number (cause.OtherAuction d) file is sound broken = absurd broken
broken-body owner reports number (cause.OtherVersion v) file is sound broken = absurd broken
broken-body owner reports number (cause.OtherOpening g) file is sound broken = absurd broken

-- what a file is read as has a body or a head
pub shape-of : (owner : Owner) (file : List ℕ) (answer : Result ClockHistory OpenFault) → IsOpening owner file answer → HasHead owner file answer ⊎ HasBody owner file answer
shape-of owner file (Ok c) is = ⊎_elim
    (λ none. inl (record { head = Unformed; is = none.0; answer_is = ap (λ (k : ClockHistory). Ok k) (is.history.is ∙ ap (history_of owner) none.1) }))
    (λ stands. inr (record {
      body = Whole c.reports;
      is = (record { legal = subst IsLegal is.history.is is.history.legal; are = stands.are }, stands.stands);
      answer_is = ap (λ (k : ClockHistory). Ok k) is.history.is;
    })) is.read
shape-of owner file (Err (why.Broken broken)) is = ⊎_elim
    (λ header. inl (broken-head owner broken.number broken.cause file header.0 header.2))
    (λ body. inr (broken-body owner is.reports broken.number broken.cause file body.0 (record { legal = is.legal; are = body.1 }) body.2)) is.broken_is
shape-of owner file (Err (why.NotAcceptable number judgement)) is = inr (record {
  body = NotTaken is.before is.report judgement;
  is = record { legal = is.legal; begins = is.begins; judged = is.judged; refused = is.refused };
  answer_is = ap (λ n. Err (why.NotAcceptable n judgement)) is.number_is;
})
shape-of owner file (Err why.DiskFault) is = absurd is
shape-of owner file (Err why.NoMemory) is = absurd is
