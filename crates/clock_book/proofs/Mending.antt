-- What a mend and an append leave of what a book keeps.
use Rattle.std.proofs.Common.{◌≡◌, inl, ℕ, ◌+◌, ◌-◌, ◌^◌, ◌≤◌, ◌∙◌, true, min, List, ◌∷◌, [], ◌++◌, length, Option, Some, None, is_some, Err, refl, sym, ap, subst, arith, append-nil, length-append}
use Rattle.std.specs.Prelude.{IfSome, IsSome}
use Rattle.std.specs.List.{concat}
use Rattle.std.specs.Option.{option_map}
use Rattle.lot_base.specs.declared.auction_terms.Terms.{Terms}
use Rattle.demand_set.specs.declared.reports.Report.{Report}
use Rattle.clock.specs.Reports.{ClockHistory, with_report}
use Rattle.house_io.specs.Faults.{Rose}
use Rattle.house_io.specs.Moments.{Moments, AtEach, Leaves}
use Rattle.house_io.proofs.Moments.{at_start, leaves_here, leaves_weaker}
use Rattle.report_journal.specs.Format.{Contents, StandsFor, front}
use Rattle.report_journal.specs.Calls.{Mends, CountsFaults}
use Rattle.report_journal.specs.declared.faults.JournalFault.{JournalFault}
use Rattle.report_journal.specs.declared.faults.JournalFault.TheVariants as fault
use Rattle.report_journal.specs.declared.faults.Mended.{Mended}
use Rattle.report_journal.specs.Journals.{JournalOf, KeepsRecords, Stands}
use Rattle.report_journal.specs.Puts.{IsBeforeOrAfter, with_one_more}
use Rattle.recovery.specs.Entries.{payload_of, IsReportOf, AreReportsOf}
use Rattle.recovery.specs.Journaled.{Owner, contents_of, StandsForReports}
use Rattle.recovery.proofs.Lists.{all-push}
use Rattle.clock_book.specs.declared.entries.Entry.{Entry}
use Rattle.clock_book.specs.declared.entries.Entry.TheVariants.{Mark}
use Rattle.clock_book.specs.declared.origins.Origin.{Origin}
use Rattle.clock_book.specs.DeskHistories.{NotedOf, HasRoomFor, reports_in, marks_in, IsMarkedBehind, IsInDoubt}
use Rattle.clock_book.specs.Past.{owner_in, IsNext, IsEither, KeepsPast}
use Rattle.clock_book.specs.Books.{IsWaiting, IsBook, HasRoom, kept_for}
use Rattle.clock_book.specs.Offers.{record_end}
use Rattle.clock_book.proofs.Histories.{reports-append, marks-append, same-reports, marked-now, marked-later, doubt-later}
use Rattle.clock_book.proofs.Nexts.{next-report}
use Rattle.clock_book.proofs.Pasts.{either, past-in-doubt, past-more}
use Rattle.clock_book.proofs.Sizes.{contents-push, end-push, quantities-push}

-- a report is pending where a payload is in doubt
pub some-pending : {X : Type 0} (f : Report → X) (o : Option Report) (x : Option X) → x ≡ option_map f o → IsSome x → (q : Report) × (o ≡ Some q)
some-pending {X} f None x is some = let e : is_some {T = X} None ≡ true = ap is_some (sym is) ∙ some in absurd (cc)
some-pending f (Some q) x is some = (q, refl)

pub none-pending : {X : Type 0} (f : Report → X) (o : Option Report) → option_map f o ≡ None → o ≡ None
none-pending f None e = refl
none-pending f (Some q) e = absurd (cc)

pub waiting : (n : NotedOf) (o : Option Report) (q : Report) → o ≡ Some q → IfSome o (IsWaiting n) → IsWaiting n q
waiting n o q is waits = let P : Option Report → Type 0 = λ x. IfSome x (IsWaiting n) in subst P is waits

-- the marks are at most the faults, and one fault more was counted
pub marks-marked : (h k : List Entry) (r : Report) (before now : ℕ) → k ≡ h ++ Mark r ∷ [] → min (marks_in h) (2 ^ 64 - 1) ≤ before → Rose before now → min (marks_in k) (2 ^ 64 - 1) ≤ now
marks-marked h k r before now e most rose = let n = ap marks_in e in let m = marks-append h (Mark r ∷ []) in omega (arith, n, m, most, rose)

doubted : (n : NotedOf) (o : Option Report) (q : Report) → o ≡ Some q → IfSome o (IsInDoubt n.history) → reports_in n.history ≡ n.clock.reports → IsMarkedBehind n.history (length n.clock.reports) q
doubted n o q is doubt same =
    let P : Option Report → Type 0 = λ x. IfSome x (IsInDoubt n.history) in
    subst (λ (k : ℕ). IsMarkedBehind n.history k q) (ap length same) (subst P is doubt)

waiting-same : (n m : NotedOf) (o : Option Report) → m.clock ≡ n.clock → m.spare_reports ≡ n.spare_reports → m.spare_quantities ≡ n.spare_quantities → IfSome o (IsWaiting n) → IfSome o (IsWaiting m)
waiting-same n m None clock reports quantities waits = tt
waiting-same n m (Some q) clock reports quantities waits =
    let P : ClockHistory → Type 0 = λ k. IsNext k q in
    record { next = subst P (sym clock) waits.next; room = record { reports = omega (arith, waits.room.reports, reports); quantities = omega (arith, waits.room.quantities, quantities) } }

-- the same room
pub room-same : (n m : NotedOf) (k l : ℕ) → m.clock ≡ n.clock → m.spare_reports ≡ n.spare_reports → m.spare_quantities ≡ n.spare_quantities → l ≡ k → HasRoom n k → HasRoom m l
room-same n m k l clock reports quantities records room =
    let P : ClockHistory → ℕ → ℕ → ℕ → Type 0 = λ c a b d. HasRoom (record { clock = c; history = m.history; spare_reports = a; spare_quantities = b }) d in
    let here : P n.clock n.spare_reports n.spare_quantities k = record { reports = room.reports; quantities = room.quantities; records_are = room.records_are } in
    subst (λ c. P c m.spare_reports m.spare_quantities l) (sym clock) (subst (λ a. P n.clock a m.spare_quantities l) (sym reports) (subst (λ b. P n.clock n.spare_reports b l) (sym quantities) (subst (λ d. P n.clock n.spare_reports n.spare_quantities d) (sym records) here)))

-- a report was taken from the room
room-less : (n m : NotedOf) (q : Report) (k l : ℕ) → m.clock ≡ with_report n.clock q → n.spare_reports ≤ m.spare_reports + 1 → n.spare_quantities ≤ m.spare_quantities + length (concat q.demand) → k ≤ l + 1 → HasRoom n k → HasRoom m l
room-less n m q k l clock reports quantities records room =
    let P : ClockHistory → Type 0 = λ c. HasRoom (record { clock = c; history = m.history; spare_reports = m.spare_reports; spare_quantities = m.spare_quantities }) l in
    let more = length-append n.clock.reports (q ∷ []) in
    let all = quantities-push n.clock.reports q in
    let here : P (with_report n.clock q) = record {
      reports = omega (arith, room.reports, reports, more);
      quantities = omega (arith, room.quantities, quantities, all);
      records_are = omega (arith, room.records_are, records, more);
    } in
    subst P (sym clock) here

module _ {D : Type 0} (j k : JournalOf D) (told told' : Type 0) (old new : Moments) (faults faults' : ℕ) (n : NotedOf) (pending : Option Report) (origin : Origin)
    (book : IsBook j told old faults n pending origin) (tells : told' → told) (later : faults ≤ faults') where
  abbrev payload : Report → List ℕ
  payload r = payload_of (length origin.terms.goods) r

  -- what the calls leave at each moment
  abbrev Call : Report → Type 0
  Call q = told' → AtEach (IsBeforeOrAfter j.contents (payload q)) old new

  own : (q : Report) → Call q → told' → AtEach (IsBeforeOrAfter (contents_of (owner_in origin) n.clock.reports) (payload q)) old new
  own q call t = let X : Contents → Type 0 = λ x. AtEach (IsBeforeOrAfter x (payload q)) old new in subst X (book.contents (tells t)) (call t)

  pub report-of : (q : Report) → IsNext n.clock q → IsReportOf origin.terms q
  report-of q next = next-report origin.terms n.clock q book.terms next

  -- a mend failed: the report is still pending, and the offered one is marked
  pub mend-failed : (m : NotedOf) (q r : Report) → pending ≡ Some q → k.pending ≡ j.pending → k.end ≡ j.end → k.spare ≡ j.spare → (told' → k.contents ≡ j.contents) → Rose faults faults' → Call q
      → m.clock ≡ n.clock → m.history ≡ n.history ++ Mark r ∷ [] → m.spare_reports ≡ n.spare_reports → m.spare_quantities ≡ n.spare_quantities → IsBook k told' new faults' m pending origin
  mend-failed m q r is same_pending same_end same_spare same_contents rose call clock history reports quantities =
      let next = (waiting n pending q is book.waits).next in
      let marked = doubted n pending q is book.doubt book.reports in
      let here : IsMarkedBehind m.history (length n.clock.reports) q = subst (λ (h : List Entry). IsMarkedBehind h (length n.clock.reports) q) (sym history) (marked-later n.history (Mark r ∷ []) (length n.clock.reports) q marked) in
      record {
        terms = ap (λ c. c.terms) clock ∙ book.terms;
        number = ap (λ c. c.number) clock ∙ book.number;
        are = subst (λ (c : ClockHistory). AreReportsOf origin.terms c.reports) (sym clock) book.are;
        opened = subst (λ (c : ClockHistory). origin.reports ≤ length c.reports) (sym clock) book.opened;
        end = same_end ∙ book.end ∙ ap (λ c. length (front (contents_of (owner_in origin) c.reports))) (sym clock);
        in_doubt = same_pending ∙ book.in_doubt;
        waits = waiting-same n m pending clock reports quantities book.waits;
        doubt = doubt-later pending n.history m.history r history book.doubt;
        reports = same-reports n.clock.reports n.history m.history r history book.reports ∙ ap (λ c. c.reports) (sym clock);
        marks = marks-marked n.history m.history r faults faults' history book.marks rose;
        room = room-same n m (j.spare + kept_for pending) (k.spare + kept_for pending) clock reports quantities (ap (λ s. s + kept_for pending) same_spare) book.room;
        contents = λ t. same_contents t ∙ book.contents (tells t) ∙ ap (λ c. contents_of (owner_in origin) c.reports) (sym clock);
        past = λ t. subst (λ (c : ClockHistory). KeepsPast origin c m.history new) (sym clock)
            (past-in-doubt origin n.clock q book.are (report-of q next) n.history m.history (Mark r ∷ []) history old new book.opened (book.past (tells t)) (own q call t) next here);
        first = λ t. book.first (tells t);
      }

  -- the pending report is dropped
  pub mend-dropped : (q : Report) → pending ≡ Some q → k.pending ≡ None → k.end ≡ j.end → k.spare ≡ j.spare + 1 → (told' → k.contents ≡ j.contents) → Call q → IsBook k told' new faults' n None origin
  mend-dropped q is none same_end spare same_contents call =
      let next = (waiting n pending q is book.waits).next in
      record {
        terms = book.terms;
        number = book.number;
        are = book.are;
        opened = book.opened;
        end = same_end ∙ book.end;
        in_doubt = none;
        waits = tt;
        doubt = tt;
        reports = book.reports;
        marks = let m = book.marks in omega (arith, m, later);
        room = let kept : kept_for pending ≡ 1 = ap kept_for is in room-same n n (j.spare + kept_for pending) (k.spare + 0) refl refl refl (omega (arith, spare, kept)) book.room;
        contents = λ t. same_contents t ∙ book.contents (tells t);
        past = λ t. past-in-doubt origin n.clock q book.are (report-of q next) n.history n.history [] (sym (append-nil n.history)) old new book.opened (book.past (tells t)) (own q call t) next (doubted n pending q is book.doubt book.reports);
        first = λ t. book.first (tells t);
      }

  -- a report that the clock takes next is after the others on the disk, and the clock took it
  pub one-more : (m : NotedOf) (q : Report) (e : Entry) → IsNext n.clock q → k.pending ≡ None → k.end ≡ j.end + 5 + length (payload q) → j.spare + kept_for pending ≤ k.spare + 1
      → (told' → k.contents ≡ with_one_more j.contents (payload q)) → Call q → m.clock ≡ with_report n.clock q → m.history ≡ n.history ++ e ∷ [] → reports_in (e ∷ []) ≡ q ∷ [] → marks_in (e ∷ []) ≡ 0
      → n.spare_reports ≤ m.spare_reports + 1 → n.spare_quantities ≤ m.spare_quantities + length (concat q.demand) → IsBook k told' new faults' m None origin
  one-more m q e next none grown spare more call clock history taken unmarked reports quantities =
      let report = report-of q next in
      record {
        terms = ap (λ c. c.terms) clock ∙ book.terms;
        number = ap (λ c. c.number) clock ∙ book.number;
        are = subst (λ (c : ClockHistory). AreReportsOf origin.terms c.reports) (sym clock) (all-push (IsReportOf origin.terms) n.clock.reports q book.are report);
        opened = subst (λ (c : ClockHistory). origin.reports ≤ length c.reports) (sym clock) (let o = book.opened in simp length-append (omega (arith, o)));
        end = grown ∙ ap (λ l. l + 5 + length (payload q)) book.end ∙ sym (end-push (owner_in origin) n.clock.reports q) ∙ ap (λ c. length (front (contents_of (owner_in origin) c.reports))) (sym clock);
        in_doubt = none;
        waits = tt;
        doubt = tt;
        reports = ap reports_in history ∙ reports-append n.history (e ∷ []) ∙ (λ i. book.reports i ++ taken i) ∙ ap (λ c. c.reports) (sym clock);
        marks = let h = ap marks_in history in let a = marks-append n.history (e ∷ []) in let m = book.marks in omega (arith, h, a, m, later, unmarked);
        room = room-less n m q (j.spare + kept_for pending) (k.spare + 0) clock reports quantities (omega (arith, spare)) book.room;
        contents = λ t. more t ∙ ap (λ x. with_one_more x (payload q)) (book.contents (tells t)) ∙ sym (contents-push (owner_in origin) n.clock.reports q) ∙ ap (λ c. contents_of (owner_in origin) c.reports) (sym clock);
        past = λ t. subst (λ (c : ClockHistory). KeepsPast origin c m.history new) (sym clock) (past-more origin n.clock q book.are report n.history m.history (e ∷ []) history old new book.opened (book.past (tells t)) (own q call t));
        first = λ t. book.first (tells t);
      }

  -- an append failed: its report is pending, and marked
  pub put-in-doubt : (m : NotedOf) (r : Report) → pending ≡ None → IsNext n.clock r → HasRoomFor n r → k.pending ≡ Some (payload r) → k.end ≡ j.end → j.spare ≤ k.spare + 1 → (told' → k.contents ≡ j.contents) → Rose faults faults' → Call r
      → m.clock ≡ n.clock → m.history ≡ n.history ++ Mark r ∷ [] → m.spare_reports ≡ n.spare_reports → m.spare_quantities ≡ n.spare_quantities → IsBook k told' new faults' m (Some r) origin
  put-in-doubt m r nothing next room doubt same_end spare same_contents rose call clock history reports quantities =
      let N : ClockHistory → Type 0 = λ c. IsNext c r in
      let none : kept_for pending ≡ 0 = ap kept_for nothing in
      let marked : IsInDoubt m.history r = marked-now n.history m.history r history in
      let same : reports_in m.history ≡ n.clock.reports = same-reports n.clock.reports n.history m.history r history book.reports in
      record {
        terms = ap (λ c. c.terms) clock ∙ book.terms;
        number = ap (λ c. c.number) clock ∙ book.number;
        are = subst (λ (c : ClockHistory). AreReportsOf origin.terms c.reports) (sym clock) book.are;
        opened = subst (λ (c : ClockHistory). origin.reports ≤ length c.reports) (sym clock) book.opened;
        end = same_end ∙ book.end ∙ ap (λ c. length (front (contents_of (owner_in origin) c.reports))) (sym clock);
        in_doubt = doubt;
        waits = record { next = subst N (sym clock) next; room = record { reports = omega (arith, room.reports, reports); quantities = omega (arith, room.quantities, quantities) } };
        doubt = marked;
        reports = same ∙ ap (λ c. c.reports) (sym clock);
        marks = marks-marked n.history m.history r faults faults' history book.marks rose;
        room =
            let had = book.room in
            let first = room-same n m (j.spare + kept_for pending) (j.spare + kept_for pending) clock reports quantities refl book.room in
            record { reports = first.reports; quantities = first.quantities; records_are = omega (arith, first.records_are, spare, none) };
        contents = λ t. same_contents t ∙ book.contents (tells t) ∙ ap (λ c. contents_of (owner_in origin) c.reports) (sym clock);
        past = λ t. subst (λ (c : ClockHistory). KeepsPast origin c m.history new) (sym clock)
            (past-in-doubt origin n.clock r book.are (report-of r next) n.history m.history (Mark r ∷ []) history old new book.opened (book.past (tells t)) (own r call t) next
            (subst (λ (x : ℕ). IsMarkedBehind m.history x r) (ap length same) marked));
        first = λ t. book.first (tells t);
      }

  -- where the record of one report more would end
  pub needed-is : (r : Report) → j.end + 6 + length (payload r) ≡ record_end (owner_in origin) n.clock.reports r
  needed-is r = ap (λ e. e + 6 + length (payload r)) book.end

-- a mend that failed
pub record IsFailing {D : Type 0} (j k : JournalOf D) (before now : ℕ) : Type 0 where
  pub some : IsSome j.pending
  pub keeps : KeepsRecords j k
  pub pending : k.pending ≡ j.pending
  pub spare : k.spare ≡ j.spare
  pub later : before ≤ now
  pub rose : Rose before now

pub failing : {D : Type 0} (j k : JournalOf D) (before now : ℕ) (why : JournalFault) → Mends j k (Err why) → CountsFaults {T = Mended} before now (Err why) → IsFailing j k before now
failing j k before now fault.DiskFault mends counts = record { some = mends.0; keeps = mends.1; pending = mends.2; spare = mends.3; later = counts.0; rose = counts.1 }
failing j k before now fault.NoMemory mends counts = absurd mends
failing j k before now fault.NotMended mends counts = absurd mends
failing j k before now (fault.Full needed) mends counts = absurd mends

-- nothing is in doubt: each image stands for the contents
pub stands-settled : (owner : Owner) (reports : List Report) (x : Contents) (o : Option (List ℕ)) (ms : Moments) → AreReportsOf owner.terms reports → x ≡ contents_of owner reports → o ≡ None → Stands x o ms → Leaves (StandsForReports owner reports) ms.now
stands-settled owner reports x o ms are same none stands =
    let P : Option (List ℕ) → Type 0 = λ p. Stands x p ms in
    let s = subst P none stands in
    let Q : Contents → Type 0 = λ z. StandsFor z ms.now.read in
    leaves_here (StandsForReports owner reports) ms.now s.0 (record { stands = subst Q same s.1; are = are })

-- each image stands for the reports, or for these and the pending one
pub stands-either : (owner : Owner) (reports : List Report) (pending : Option Report) (x : Contents) (o : Option (List ℕ)) (ms : Moments) → AreReportsOf owner.terms reports → IfSome pending (IsReportOf owner.terms) → x ≡ contents_of owner reports
    → o ≡ option_map (payload_of (length owner.terms.goods)) pending → Stands x o ms → Leaves (IsEither owner reports pending) ms.now
stands-either owner reports None x o ms are report same is stands = stands-settled owner reports x o ms are same is stands
stands-either owner reports (Some q) x o ms are report same is stands =
    let P : Option (List ℕ) → Type 0 = λ p. Stands x p ms in
    let s = subst P is stands in
    let payload = payload_of (length owner.terms.goods) q in
    let X : Contents → Type 0 = λ y. Leaves (IsBeforeOrAfter y payload) ms.now in
    leaves_weaker (IsBeforeOrAfter (contents_of owner reports) payload) (IsEither owner reports (Some q)) ms.now (λ file e. either owner reports q file are report e) (subst X same s.0)

pub next-of : (n : NotedOf) (o : Option Report) → IfSome o (IsWaiting n) → IfSome o (IsNext n.clock)
next-of n None w = tt
next-of n (Some q) w = w.next

pub reports-of : (terms : Terms) (n : NotedOf) (o : Option Report) → n.clock.terms ≡ terms → IfSome o (IsWaiting n) → IfSome o (IsReportOf terms)
reports-of terms n None same w = tt
reports-of terms n (Some q) same w = next-report terms n.clock q same w.next

-- nothing happened, and nothing is in doubt
pub at-rest : (owner : Owner) (reports : List Report) (x : Contents) (o : Option (List ℕ)) (ms : Moments) → AreReportsOf owner.terms reports → x ≡ contents_of owner reports → o ≡ None → Stands x o ms → AtEach (StandsForReports owner reports) ms ms
at-rest owner reports x o ms are same none stands = at_start (StandsForReports owner reports) ms (stands-settled owner reports x o ms are same none stands)

-- the same of what a book keeps
pub kept-rest : (owner : Owner) (reports : List Report) (pending : Option Report) (r : Report) (ms : Moments) → pending ≡ None → Leaves (IsEither owner reports pending) ms.now → AtEach (IsEither owner reports (Some r)) ms ms
kept-rest owner reports pending r ms none stands =
    let P : Option Report → Type 0 = λ o. Leaves (IsEither owner reports o) ms.now in
    at_start (IsEither owner reports (Some r)) ms (leaves_weaker (StandsForReports owner reports) (IsEither owner reports (Some r)) ms.now (λ file s. inl s) (subst P none stands))
