-- What a book keeps once it is begun, and what is left of the disk where it is not.
use Rattle.std.proofs.Common.{◌≡◌, inl, inr, ⊎_elim, ℕ, ◌+◌, ◌∙◌, IsTrue, List, [], ◌∷◌, ◌++◌, length, take, map, Option, None, Err, refl, sym, ap, subst, arith, append_assoc, length-append}
use Rattle.std.proofs.lemmas.Bool.{true≢false}
use Rattle.house_io.specs.Disks.{DiskShown, is_told, told_moments}
use Rattle.byte_numbers.specs.Spelling.{big_bytes}
use Rattle.std.proofs.lemmas.List.{take_all, length-map}
use Rattle.demand_set.specs.declared.reports.Report.{Report}
use Rattle.clock.specs.Reports.{ClockHistory, ClockOf, applied}
use Rattle.house_io.specs.Moments.{Moment, Moments, AtEach, EachLeaves, Leaves, IsSettled, all, synced_at, settled}
use Rattle.house_io.proofs.Moments.{at_weaker, at_start, leaves_weaker, leaves_here}
use Rattle.report_journal.specs.Calls.{Forms, FailsToForm, Attaches}
use Rattle.report_journal.specs.Format.{Contents, StandsFor, IsUnformed, records, front, first_gate, header_bytes}
use Rattle.report_journal.specs.Journals.{JournalOf, Stands, payloads_at}
use Rattle.report_journal.specs.Puts.{IsUnformedOrEmpty, IsSynced, empty}
use Rattle.report_journal.specs.Scans.{IsFormed, gate_after, end_in}
use Rattle.report_journal.specs.Scans.{contents_of as found_in}
use Rattle.report_journal.specs.declared.faults.JournalFault.{JournalFault}
use Rattle.report_journal.specs.declared.faults.JournalFault.TheVariants as journal
use Rattle.report_journal.specs.declared.headers.Header.{Header}
use Rattle.report_journal.specs.declared.places.Place.{Place}
use Rattle.report_journal.specs.declared.scanning.Scanned.{Scanned}
use Rattle.report_journal.specs.declared.scanning.Scanned.TheVariants as scanned
use Rattle.report_journal.proofs.Forming.{empty_size}
use Rattle.recovery.specs.Entries.{payload_of, AreReportsOf}
use Rattle.recovery.specs.Journaled.{Owner, header_of, contents_of, StandsForReports}
use Rattle.recovery.specs.Streams.{AreLong, IsWhole, IsUndamaged}
use Rattle.clock_book.specs.declared.faults.OpenFault.{OpenFault}
use Rattle.clock_book.specs.declared.faults.OpenFault.TheVariants as why
use Rattle.clock_book.specs.declared.entries.Entry.{Entry}
use Rattle.clock_book.specs.declared.origins.Origin.{Origin}
use Rattle.clock_book.specs.Opening.{ReadsClock, IsSyncedBy, CountsFaults}
use Rattle.clock_book.specs.Opened.{IsFound, IsLaid, IsNotBegun, IsUnopened, LeftUnopened, KeepsRoom, not_formed, IsFromOutside}
use Rattle.clock_book.specs.DeskHistories.{NotedOf, reports_in, marks_in}
use Rattle.clock_book.specs.Past.{owner_in, StoodFor, IsAsOpened, KeepsPast}
use Rattle.clock_book.specs.Books.{IsBook, HasRoom}
use Rattle.clock_book.proofs.Mending.{stands-settled}
use Rattle.clock_book.proofs.Pasts.{each-append, stood-whole}
use Rattle.clock_book.proofs.Sizes.{quantities-push}

-- a clock that took one report more from its room
pub room-taken : (empty old new : ClockOf) (r : Report) → KeepsRoom empty old → new ≡ applied old r → KeepsRoom empty new
room-taken empty old new r kept is =
    let more = length-append old.history.reports (r ∷ []) in
    let all = quantities-push old.history.reports r in
    subst (λ (k : ClockOf). KeepsRoom empty k) (sym is) (record { reports = omega (arith, kept.reports, more); quantities = omega (arith, kept.quantities, all) })

-- the moments of a call but for the newest
record IsBetween (P : List ℕ → Type 0) (old new : Moments) : Type 0 where
  between : List Moment
  past_is : new.past ≡ between ++ old.past
  each : EachLeaves P between

between-of : (P : List ℕ → Type 0) (old new : Moments) → AtEach P old new → IsBetween P old new
between-of P old new call = by call.more call.grown call.each call.first
  where
    by : (more : List Moment) → all new ≡ more ++ all old → EachLeaves P more → Leaves P old.now → IsBetween P old new
    by [] grown each first = record { between = []; past_is = (let e : new.past ≡ old.past = cc in e); each = tt }
    by (m ∷ more) grown each first = record {
      between = more ++ old.now ∷ [];
      past_is = (let e : new.past ≡ more ++ old.now ∷ old.past = cc in e) ∙ sym (append_assoc more (old.now ∷ []) old.past);
      each = each-append P more (old.now ∷ []) each.1 (first, tt);
    }

past-begins : (origin : Origin) (c : ClockHistory) (history : List Entry) (x : Contents) (o : Option (List ℕ)) (old new : Moments) → AreReportsOf origin.terms c.reports → origin.reports ≡ length c.reports → x ≡ contents_of (owner_in origin) c.reports → o ≡ None → Stands x o new
    → origin.answered ≡ length new.past → origin.synced ≡ length old.past → AtEach (IsAsOpened (owner_in origin) origin.read) old new → KeepsPast origin c history new
past-begins origin c history x o old new are count same none stands answered synced call =
    let P : List ℕ → Type 0 = λ file. StoodFor origin c history file in
    let Q : List ℕ → Type 0 = λ file. IsAsOpened (owner_in origin) origin.read file in
    let here : Leaves P new.now = leaves_weaker (StandsForReports (owner_in origin) c.reports) P new.now (λ file s. stood-whole origin c history file (omega (arith, count)) (inl s)) (stands-settled (owner_in origin) c.reports x o new are same none stands) in
    let opening = between-of Q old new call in
    record {
      later = new.now ∷ [];
      between = opening.between;
      earlier = old.past;
      split = ap (λ (l : List Moment). new.now ∷ l) opening.past_is;
      synced = sym synced;
      answered = ap length (sym opening.past_is) ∙ sym answered;
      stood = (here, tt);
      opened = opening.each;
    }

pub begun : {D : Type 0} (k : JournalOf D) (told : Type 0) (old new : Moments) (faults : ℕ) (n : NotedOf) (origin : Origin) → n.clock.terms ≡ origin.terms → n.clock.number ≡ origin.clock → AreReportsOf origin.terms n.clock.reports
    → origin.reports ≡ length n.clock.reports → k.end ≡ length (front (contents_of (owner_in origin) n.clock.reports)) → k.pending ≡ None → reports_in n.history ≡ n.clock.reports → marks_in n.history ≡ 0 → HasRoom n (k.spare + 0)
    → (told → k.contents ≡ contents_of (owner_in origin) n.clock.reports) → (told → Stands k.contents k.pending new) → (told → origin.answered ≡ length new.past) → (told → origin.synced ≡ length old.past)
    → (told → AtEach (IsAsOpened (owner_in origin) origin.read) old new) → (told → IsTrue origin.told) → IsBook k told new faults n None origin
begun k told old new faults n origin terms number are count end none reports unmarked room contents stands answered synced call first = record {
  terms = terms;
  number = number;
  are = are;
  opened = omega (arith, count);
  end = end;
  in_doubt = none;
  waits = tt;
  doubt = tt;
  reports = reports;
  marks = omega (arith, unmarked);
  room = room;
  contents = contents;
  past = λ t. past-begins origin n.clock n.history k.contents k.pending old new are count (contents t) none (stands t) (answered t) (synced t) (call t);
  first = first;
}

-- an unformed file is formed
as-formed : (owner : Owner) (header : Header) (read file : List ℕ) → header ≡ header_of owner → IsUnformed read → IsUnformedOrEmpty header file → IsAsOpened owner read file
as-formed owner header read file same unformed is =
    let P : Header → Type 0 = λ h. StandsFor (empty h) file in
    inr (unformed, ⊎_elim (λ u. inl u) (λ s. inr (record { stands = subst P same s; are = tt })) is)

at-formed : (owner : Owner) (header : Header) (old new : Moments) → header ≡ header_of owner → IsUnformed old.now.read → AtEach (IsUnformedOrEmpty header) old new → AtEach (IsAsOpened owner old.now.read) old new
at-formed owner header old new same unformed call = at_weaker (IsUnformedOrEmpty header) (IsAsOpened owner old.now.read) old new (λ file is. as-formed owner header old.now.read file same unformed is) call

-- a file that is left as it was
pub at-same : (owner : Owner) (ms : Moments) → IsSettled ms.now → AtEach (IsAsOpened owner ms.now.read) ms ms
at-same owner ms settled = at_start (IsAsOpened owner ms.now.read) ms (leaves_here (IsAsOpened owner ms.now.read) ms.now settled (inl refl))

module _ {D : Type 0} (shown : D → DiskShown) (owner : Owner) where
  pub laid-formed : (header : Header) (old : D) (j : JournalOf D) → header ≡ header_of owner → (IsTrue (is_told (shown old)) → IsSettled (told_moments (shown old)).now × IsUnformed (told_moments (shown old)).now.read) → Forms shown header old j → IsLaid shown owner [] old j
  laid-formed header old j same unformed forms =
      let P : Header → Type 0 = λ h. first_gate h ≡ length (front (contents_of owner [])) in
      record {
        contents = λ t. forms.contents ∙ ap empty same;
        end = forms.end ∙ subst P (sym same) (sym (empty_size (header_of owner)));
        pending = forms.pending;
        later = forms.later;
        steady = forms.steady;
        leaves = λ t. at-formed owner header (told_moments (shown old)) (told_moments (shown j.disk)) same (unformed (forms.later.told t)).1 (forms.leaves t).stand;
      }

  pub not-formed : (header : Header) (old new : D) (fault : JournalFault) → header ≡ header_of owner → (IsTrue (is_told (shown old)) → IsSettled (told_moments (shown old)).now × IsUnformed (told_moments (shown old)).now.read) → FailsToForm shown header old new fault
      → IsNotBegun shown owner old new (not_formed fault)
  not-formed header old new journal.DiskFault same unformed fails = record {
    counts = fails.refuses;
    outside = tt;
    later = fails.later;
    leaves = λ t. at-formed owner header (told_moments (shown old)) (told_moments (shown new)) same (unformed (fails.later.told t)).1 (fails.leaves t).stand;
  }
  not-formed header old new journal.NoMemory same unformed fails = record {
    counts = ap (λ d. (shown d).faults) fails.refuses;
    outside = tt;
    later = fails.later;
    leaves = λ t. at-formed owner header (told_moments (shown old)) (told_moments (shown new)) same (unformed (fails.later.told t)).1 (fails.leaves t).stand;
  }
  not-formed header old new journal.NotMended same unformed fails = absurd fails.refuses
  not-formed header old new (journal.Full needed) same unformed fails = absurd fails.refuses

  -- nothing was done
  pub not-begun : (old new : D) → new ≡ old → (IsTrue (is_told (shown old)) → IsSettled (told_moments (shown old)).now) → IsNotBegun shown owner old new why.NoMemory
  not-begun old new same is_settled =
      let P : D → Type 0 = λ d. IsNotBegun shown owner old d why.NoMemory in
      subst P (sym same) (record { counts = refl; outside = tt; later = record { told = λ t. t; claim = refl }; leaves = λ t. at-same owner (told_moments (shown old)) (is_settled t) })

  pub laid-not-begun : (reports : List Report) (old : D) (j : JournalOf D) → IsLaid shown owner reports old j → IsNotBegun shown owner old j.disk why.NoMemory
  laid-not-begun reports old j laid = record { counts = laid.steady; outside = tt; later = laid.later; leaves = laid.leaves }

-- where records of these lengths end
gates : (goods : ℕ) (places : List Place) (reports : List Report) (gate : ℕ) → AreLong goods places reports → gate_after gate places ≡ gate + length (records (map (payload_of goods) reports))
gates goods [] [] gate long = omega arith
gates goods [] (r ∷ reports) gate long = absurd (let n = ap length long in omega (arith, n))
gates goods (p ∷ places) [] gate long = absurd (let n = ap length long in omega (arith, n))
gates goods (p ∷ places) (r ∷ reports) gate long =
    let payload = payload_of goods r in
    let heads : p.length ≡ length payload = ap (head_or 0) long in
    let tails : AreLong goods places reports = ap tail_of long in
    let e = gates goods places reports (gate + 5 + p.length) tails in
    let a = length-append (big_bytes 4 (length payload) ++ payload) (records (map (payload_of goods) reports)) in
    let b = length-append (big_bytes 4 (length payload)) payload in
    omega (arith, e, a, b, heads)
  where
    head_or : ℕ → List ℕ → ℕ
    head_or d [] = d
    head_or d (x ∷ xs) = x

    tail_of : List ℕ → List ℕ
    tail_of [] = []
    tail_of (x ∷ xs) = xs

count-long : (goods : ℕ) (places : List Place) (reports : List Report) → AreLong goods places reports → length places ≡ length reports
count-long goods places reports long =
    sym (length-map places (λ p. p.length)) ∙ ap length long ∙ length-map reports (λ r. length (payload_of goods r))

pub formed-of : (scan : Scanned) → IsUndamaged scan → (scan ≡ scanned.Unformed → ⊥) → IsFormed scan
formed-of scanned.Unformed undamaged not = absurd (not refl)
formed-of (scanned.Formed header places end) undamaged not = tt
formed-of (scanned.Damaged header places number) undamaged not = absurd undamaged

pub undamaged-of : (owner : Owner) (scan : Scanned) (reports : List Report) → IsWhole owner scan reports → IsUndamaged scan
undamaged-of owner scanned.Unformed reports whole = tt
undamaged-of owner (scanned.Formed header places end) reports whole = tt
undamaged-of owner (scanned.Damaged header places number) reports whole = absurd whole

-- the contents and the end that a scan found
found-contents : (told : Type 0) (owner : Owner) (reports : List Report) (scan : Scanned) (file : List ℕ) → IsFound told owner reports scan file → IsFormed scan → told → found_in scan file ≡ contents_of owner reports
found-contents told owner reports scanned.Unformed file found formed t = absurd formed
found-contents told owner reports (scanned.Damaged header places number) file found formed t = absurd formed
found-contents told owner reports (scanned.Formed header places end) file found formed t =
    let whole = found.whole in
    let count = count-long (length owner.terms.goods) places reports whole.1 in
    let all : take (length reports) places ≡ places = take_all (length reports) places (omega (arith, count)) in
    let payloads = sym (ap (payloads_at file) all) ∙ found.payloads t in
    λ i. record { header = whole.0 i; payloads = payloads i }

found-end : (told : Type 0) (owner : Owner) (reports : List Report) (scan : Scanned) (file : List ℕ) → IsFound told owner reports scan file → IsFormed scan → end_in scan ≡ length (front (contents_of owner reports))
found-end told owner reports scanned.Unformed file found formed = absurd formed
found-end told owner reports (scanned.Damaged header places number) file found formed = absurd formed
found-end told owner reports (scanned.Formed header places end) file found formed =
    let whole = found.whole in
    let g = gates (length owner.terms.goods) places reports (first_gate header) whole.1 in
    let h = ap first_gate whole.0 in
    let a = length-append (header_bytes (header_of owner)) (records (map (payload_of (length owner.terms.goods)) reports)) in
    omega (arith, g, h, a, found.in_order.2)

found-unformed : (owner : Owner) (scan : Scanned) (reports : List Report) → scan ≡ scanned.Unformed → IsWhole owner scan reports → reports ≡ []
found-unformed owner scan reports is whole = let P : Scanned → Type 0 = λ s. IsWhole owner s reports in subst P is whole

pub laid-unformed : {D : Type 0} (shown : D → DiskShown) (owner : Owner) (told : Type 0) (reports : List Report) (scan : Scanned) (file : List ℕ) (old : D) (j : JournalOf D) → scan ≡ scanned.Unformed → IsFound told owner reports scan file
    → IsLaid shown owner [] old j → IsLaid shown owner reports old j
laid-unformed shown owner told reports scan file old j is found laid =
    let P : List Report → Type 0 = λ rs. IsLaid shown owner rs old j in
    subst P (sym (found-unformed owner scan reports is found.whole)) laid

pub laid-attached : {D : Type 0} (shown : D → DiskShown) (owner : Owner) (reports : List Report) (scan : Scanned) (old : D) (j : JournalOf D) → IsFormed scan → (IsTrue (is_told (shown old)) → IsSettled (told_moments (shown old)).now)
    → Attaches shown old scan j → IsFound (IsTrue (is_told (shown old))) owner reports scan (told_moments (shown old)).now.read → IsLaid shown owner reports old j
laid-attached {D} shown owner reports scan old j formed is_settled attaches found =
    let told : IsTrue (is_told (shown j.disk)) → IsTrue (is_told (shown old)) = λ t. subst (λ (d : D). IsTrue (is_told (shown d))) attaches.disk t in
    let P : D → Type 0 = λ d. AtEach (IsAsOpened owner (told_moments (shown old)).now.read) (told_moments (shown old)) (told_moments (shown d)) in
    record {
      contents = λ t. attaches.contents ∙ found-contents (IsTrue (is_told (shown old))) owner reports scan (told_moments (shown old)).now.read found formed (told t);
      end = attaches.end ∙ found-end (IsTrue (is_told (shown old))) owner reports scan (told_moments (shown old)).now.read found formed;
      pending = attaches.pending;
      later = record { told = told; claim = ap (λ d. (shown d).claimed) attaches.disk };
      steady = ap (λ d. (shown d).faults) attaches.disk;
      leaves = λ t. subst P (sym attaches.disk) (at-same owner (told_moments (shown old)) (is_settled (told t)));
    }

-- a reading that was refused
left-synced : (owner : Owner) (old new : Moments) → IsSynced old new → LeftUnopened owner old new
left-synced owner old new is = ⊎_elim (λ same. inl same) (λ synced. inr (left synced)) is
  where
    left : new ≡ synced_at old → AtEach (IsAsOpened owner old.now.read) (synced_at old) new
    left synced =
        let P : Moments → Type 0 = λ ms. AtEach (IsAsOpened owner old.now.read) (synced_at old) ms in
        subst P (sym synced) (at-same owner (synced_at old) refl)

pub left-by : (T : Type 0) (owner : Owner) (old new : Moments) (fault : OpenFault) → IsSyncedBy {T = T} (Err fault) old new → LeftUnopened owner old new
left-by T owner old new why.DiskFault is = left-synced owner old new is
left-by T owner old new why.NoMemory is = left-synced owner old new is
left-by T owner old new (why.Broken broken) is = left-synced owner old new (inr is)
left-by T owner old new (why.NotAcceptable number judgement) is = left-synced owner old new (inr is)

pub counts-by : (T : Type 0) (before now : ℕ) (fault : OpenFault) → CountsFaults {T = T} before now (Err fault) → CountsFaults {T = ℕ} before now (Err fault)
counts-by T before now why.DiskFault is = is
counts-by T before now why.NoMemory is = is
counts-by T before now (why.Broken broken) is = is
counts-by T before now (why.NotAcceptable number judgement) is = is

-- a book that was not begun after a reading that went well
pub unopened : {D : Type 0} (shown : D → DiskShown) (owner : Owner) (old mid new : D) (fault : OpenFault) → (IsTrue (is_told (shown mid)) → told_moments (shown mid) ≡ synced_at (told_moments (shown old))) → (IsTrue (is_told (shown mid)) → IsTrue (is_told (shown old))) → (shown mid).faults ≡ (shown old).faults
    → IsTrue (shown mid).claimed → IsNotBegun shown owner mid new fault → IsUnopened shown owner old new fault
unopened shown owner old mid new fault synced told steady claimed not =
    record {
      refused = λ t. outside fault not.outside;
      counts = counted fault not.counts;
      told = λ t. told (not.later.told t);
      unclaimed = λ is t. absurd (true≢false (sym claimed ∙ sym not.later.claim ∙ is));
      leaves = λ t.
          let P : Moments → Type 0 = λ ms. AtEach (IsAsOpened owner ms.now.read) ms (told_moments (shown new)) in
          inr (subst P (synced (not.later.told t)) (not.leaves t));
    }
  where
    outside : (w : OpenFault) → IsFromOutside w → ReadsClock owner (told_moments (shown old)).now.read (Err w)
    outside why.DiskFault is = tt
    outside why.NoMemory is = tt
    outside (why.Broken broken) is = absurd is
    outside (why.NotAcceptable number judgement) is = absurd is

    counted : (w : OpenFault) → CountsFaults {T = ℕ} (shown mid).faults (shown new).faults (Err w) → CountsFaults {T = ℕ} (shown old).faults (shown new).faults (Err w)
    counted w counts = let P : ℕ → Type 0 = λ f. CountsFaults {T = ℕ} f (shown new).faults (Err w) in subst P steady counts
