-- What a move of journals comes to, by what became of the books on the targets.
use Rattle.std.proofs.Common.{◌≡◌, ◌⊎◌, inl, inr, ⊎_elim, ◌<◌, ◌≤◌, ℕ, IsTrue, List, length, get_or, Result, Ok, Err, refl, sym, ◌∙◌, ap, subst, arith}
use Rattle.std.proofs.lemmas.Bool.{true≢false}
use Rattle.house_io.specs.Disks.{DiskShown, is_told, told_moments}
use Rattle.std.proofs.lemmas.List.{length-map}
use Rattle.lot_base.specs.declared.auction_terms.Terms.{Terms}
use Rattle.house_io.specs.Faults.{Rose}
use Rattle.house_io.specs.Moments.{Leaves, AtEach, synced_at}
use Rattle.clock.specs.Reports.{ClockHistory}
use Rattle.recovery.specs.Journaled.{Owner, owner_of, StandsForReports}
use Rattle.clock_book.specs.Past.{IsAsOpened}
use Rattle.clock_book.specs.Books.{BookOf, BookState}
use Rattle.clock_book.specs.Opened.{Opens, IsLeftUnlessClaimed}
use Rattle.clock_book.specs.Opening.{IsOpening}
use Rattle.migration.specs.declared.faults.MoveFault.{MoveFault}
use Rattle.migration.specs.declared.faults.MoveFault.TheVariants.{NotOpened, NotFront, Full, DiskFault, NoMemory}
use Rattle.migration.specs.Moving.{AreAlike, AreClocksAs, LeavesTarget, IsFront, IsMoved}
use Rattle.migration.specs.Moves.{IsFullAt, TellsFaultOf, WasOpen, WasFront, WasMoved, WasOnlyOpened, OnlyOpened, HasMoveCause, Moves}
use Rattle.migration.specs.Targets.{disks_of, AreOpen, AreFronts, IsFrontFault, AreReady, IsStop, IsWhole, AreOffered}
use Rattle.migration.proofs.Lists.{some-of, disk-at}
use Rattle.migration.proofs.Left.{owner-is, only-opened, left-opened, left-on, was-open, was-front}

module _ {D : Type 0} (shown : D → DiskShown) (terms : Terms) (digest : List ℕ) (clocks : List ClockHistory) (old : List D) (first : List (BookOf D))
    (are : AreOpen shown terms digest old first) (many : length first ≡ length old) where
  opens-at : (k : ℕ) (d : D) (b : BookOf D) → k < length old → Opens shown (owner_of terms k digest) (get_or old k d) (get_or first k b)
  opens-at k d b below = are.each k d b (omega (arith, below, many))

  -- some book, where there is one
  book-of : (k : ℕ) → k < length old → BookOf D
  book-of k below = some-of first k (omega (arith, below, many))

  -- each book whose reports are a front of its clock's is ready for the others
  pub ready : AreClocksAs terms clocks → length clocks ≡ length old → AreFronts clocks first (length first) → AreReady clocks first
  ready judges count fronts = record {
    count = count ∙ sym many;
    each = λ k b c below.
        let o = are.each k b.disk b below in
        let of = o.origin in
        let front = fronts.each k b c below in
        let judge = judges.each k c (omega (arith, below, many, count)) in
        record {
          few = front.few;
          reports = front.same;
          settled = ap (λ (s : BookState). s.pending) o.state;
          alike = subst (λ (t : Terms). AreAlike (get_or clocks k c).terms t) (sym of.terms_are) judge.0;
          number = judge.1 ∙ sym of.clock_is;
        };
  }

  module _ (last : List (BookOf D)) (long : length last ≡ length old) where
    new-at : (k : ℕ) (d : D) (b : BookOf D) → k < length old → get_or (disks_of last) k d ≡ (get_or last k b).disk
    new-at k d b below = disk-at last k b d (omega (arith, below, long))

    -- what is said of a target, by its book
    on-disk : (P : D → Type 0) (k : ℕ) (d : D) → k < length old → ((b : BookOf D) → P (get_or last k b).disk) → P (get_or (disks_of last) k d)
    on-disk P k d below says = let b = book-of k below in subst P (sym (new-at k d b below)) (says b)

    told-by : (k : ℕ) (d : D) (b : BookOf D) → k < length old → IsTrue (is_told (shown (get_or (disks_of last) k d))) → IsTrue (is_told (shown (get_or last k b).disk))
    told-by k d b below t = subst (λ (z : D). IsTrue (is_told (shown z))) (new-at k d b below) t

  was-open-at : (k : ℕ) (d : D) → k < length old → WasOpen shown terms digest clocks old (disks_of first) k d
  was-open-at k d below t =
      let b = book-of k below in
      was-open shown (owner_of terms k digest) (get_or old k d) (get_or first k b) (opens-at k d b below) (told-by first many k d b below t)

  only-opened-at : (k : ℕ) (d : D) → k < length old → WasOnlyOpened shown terms digest clocks old (disks_of first) k d
  only-opened-at k d below = on-disk first many (λ z. IsTrue (is_told (shown z)) → AtEach (IsAsOpened (owner_of terms k digest) (told_moments (shown (get_or old k d))).now.read) (synced_at (told_moments (shown (get_or old k d)))) (told_moments (shown z))) k d below
      (λ b. only-opened shown (owner_of terms k digest) (get_or old k d) (get_or first k b) (opens-at k d b below))

  unoffered : (answer : MoveFault) → IsFrontFault clocks first answer → OnlyOpened shown terms digest clocks old (disks_of first) (Err answer)
  unoffered (NotOpened clock fault) is = absurd is
  unoffered (NotFront clock number) is = only-opened-at
  unoffered (Full clock needed) is = tt
  unoffered (DiskFault clock) is = tt
  unoffered NoMemory is = tt

  fault-cause : (answer : MoveFault) → IsFrontFault clocks first answer → HasMoveCause shown terms digest clocks old (disks_of first) answer
  fault-cause (NotOpened clock fault) is = absurd is
  fault-cause (Full clock needed) is = absurd is
  fault-cause (DiskFault clock) is = absurd is
  fault-cause NoMemory is = tt
  fault-cause (NotFront clock number) is =
      let within : clock < length old = (let w = is.within in omega (arith, w, many)) in
      let fronts = is.before in
      record {
        within = within;
        opened = was-open-at;
        before = λ k d c less t.
            let below : k < length old = omega (arith, less, within) in
            let b = book-of k below in
            was-front shown (owner_of terms k digest) (get_or old k d) (get_or first k b) (opens-at k d b below) (get_or clocks k c).reports (fronts.each k b c less) (told-by first many k d b below t);
        differs = λ d x t.
            let b = book-of clock within in
            let o = opens-at clock d b within in
            ((get_or first clock b).state.clock, o.read (told-by first many clock d b within t), is.off b x);
      }

  -- the targets were opened and looked at, and not all have fronts, or there was no memory to look
  pub not-moved : (answer : MoveFault) (new : List D) → new ≡ disks_of first → IsFrontFault clocks first answer → Moves shown terms digest clocks old new (Err answer)
  not-moved answer new is why =
      let M : List D → Type 0 = λ l. Moves shown terms digest clocks old l (Err answer) in
      subst M (sym is) (record {
        count = length-map first (λ (b : BookOf D). b.disk) ∙ many;
        left = λ k d c below. on-disk first many (λ z. IsTrue (is_told (shown z)) → LeavesTarget (owner_of terms k digest) (get_or clocks k c).reports (told_moments (shown (get_or old k d))) (told_moments (shown z))) k d below
            (λ b. left-opened shown (owner_of terms k digest) (get_or old k d) (get_or first k b) (opens-at k d b below) (get_or clocks k c).reports);
        unoffered = unoffered answer why;
        told = λ k d below. on-disk first many (λ z. IsTrue (is_told (shown z)) → IsTrue (is_told (shown (get_or old k d)))) k d below (λ b. (opens-at k d b below).told);
        unclaimed = λ k d below. on-disk first many (λ z. IsLeftUnlessClaimed (shown (get_or old k d)) (shown z)) k d below (λ b is t. absurd (true≢false (sym (opens-at k d b below).claimed ∙ is)));
        counts = λ k d below. inl (on-disk first many (λ z. (shown z).faults ≡ (shown (get_or old k d)).faults) k d below (λ b. (opens-at k d b below).steady));
        moved = tt;
        cause = fault-cause answer why;
      })

  module _ (last : List (BookOf D)) (fronts : AreFronts clocks first (length first)) where
    front-below : (k : ℕ) → k < length old → k < length first
    front-below k below = omega (arith, below, many)

    long-of : (answer : Result (Unit {0}) MoveFault) → AreOffered shown clocks first last answer → length last ≡ length old
    long-of answer offered = offered.count ∙ many

    left-at : (answer : Result (Unit {0}) MoveFault) (offered : AreOffered shown clocks first last answer) (k : ℕ) (d : D) (c : ClockHistory) → k < length old → IsTrue (is_told (shown (get_or (disks_of last) k d)))
        → LeavesTarget (owner_of terms k digest) (get_or clocks k c).reports (told_moments (shown (get_or old k d))) (told_moments (shown (get_or (disks_of last) k d)))
    left-at answer offered k d c below = on-disk last (long-of answer offered) (λ z. IsTrue (is_told (shown z)) → LeavesTarget (owner_of terms k digest) (get_or clocks k c).reports (told_moments (shown (get_or old k d))) (told_moments (shown z))) k d below
        (λ b t. left-on shown (owner_of terms k digest) (get_or old k d) (get_or first k b) (opens-at k d b below) (get_or clocks k c).reports (fronts.each k b c (front-below k below)) (get_or clocks k c) (get_or last k b) refl
        (offered.each k b c (front-below k below)) t)

    told-at : (answer : Result (Unit {0}) MoveFault) (offered : AreOffered shown clocks first last answer) (k : ℕ) (d : D) (c : ClockHistory) → k < length old → IsTrue (is_told (shown (get_or (disks_of last) k d))) → IsTrue (is_told (shown (get_or old k d)))
    told-at answer offered k d c below = on-disk last (long-of answer offered) (λ z. IsTrue (is_told (shown z)) → IsTrue (is_told (shown (get_or old k d)))) k d below
        (λ b t. let o = opens-at k d b below in let goes = offered.each k b c (front-below k below) in o.told (goes.later.told t))

    unclaimed-at : (answer : Result (Unit {0}) MoveFault) (offered : AreOffered shown clocks first last answer) (k : ℕ) (d : D) (c : ClockHistory) → k < length old → IsLeftUnlessClaimed (shown (get_or old k d)) (shown (get_or (disks_of last) k d))
    unclaimed-at answer offered k d c below = on-disk last (long-of answer offered) (λ z. IsLeftUnlessClaimed (shown (get_or old k d)) (shown z)) k d below
        (λ b is t. let o = opens-at k d b below in let goes = offered.each k b c (front-below k below) in absurd (true≢false (sym o.claimed ∙ sym goes.later.claim ∙ is)))

    counts-at : (answer : Result (Unit {0}) MoveFault) (offered : AreOffered shown clocks first last answer) (k : ℕ) (d : D) → k < length old
        → ((shown (get_or (disks_of last) k d)).faults ≡ (shown (get_or old k d)).faults) ⊎ (TellsFaultOf k answer × ((shown (get_or old k d)).faults ≤ (shown (get_or (disks_of last) k d)).faults))
    counts-at answer offered k d below = on-disk last (long-of answer offered) (λ z. ((shown z).faults ≡ (shown (get_or old k d)).faults) ⊎ (TellsFaultOf k answer × ((shown (get_or old k d)).faults ≤ (shown z).faults))) k d below
        (λ b.
        let o = opens-at k d b below in
        let steady = o.steady in
        ⊎_elim (λ same. inl (same ∙ steady)) (λ rose. inr (rose.0, (let r = rose.1 in omega (arith, r, steady)))) (offered.counts k b (front-below k below)))

    open-at : (answer : Result (Unit {0}) MoveFault) (offered : AreOffered shown clocks first last answer) (k : ℕ) (d : D) → k < length old → WasOpen shown terms digest clocks old (disks_of last) k d
    open-at answer offered k d below = on-disk last (long-of answer offered) (λ z. IsTrue (is_told (shown z)) → (c : ClockHistory) × IsOpening (owner_of terms k digest) (told_moments (shown (get_or old k d))).now.read (Ok c)) k d below
        (λ b t.
        let goes = offered.each k b (get_or first k b).state.clock (front-below k below) in
        was-open shown (owner_of terms k digest) (get_or old k d) (get_or first k b) (opens-at k d b below) (goes.later.told t))

    front-at : (answer : Result (Unit {0}) MoveFault) (offered : AreOffered shown clocks first last answer) (k : ℕ) (d : D) (c : ClockHistory) → k < length old → WasFront shown terms digest clocks old (disks_of last) k d c
    front-at answer offered k d c below = on-disk last (long-of answer offered) (λ z. IsTrue (is_told (shown z)) → IsFront (owner_of terms k digest) (get_or clocks k c).reports (told_moments (shown (get_or old k d))).now.read) k d below
        (λ b t.
        let goes = offered.each k b c (front-below k below) in
        was-front shown (owner_of terms k digest) (get_or old k d) (get_or first k b) (opens-at k d b below) (get_or clocks k c).reports (fronts.each k b c (front-below k below)) (goes.later.told t))

    -- the target of a clock whose reports were all offered
    moved-from : (answer : Result (Unit {0}) MoveFault) (offered : AreOffered shown clocks first last answer) (k : ℕ) (d : D) (c : ClockHistory) → k < length old
        → ((b : BookOf D) → IsWhole shown clocks first last k b c) → WasMoved shown terms digest clocks old (disks_of last) k d c
    moved-from answer offered k d c below whole = on-disk last (long-of answer offered) (λ z. IsTrue (is_told (shown z)) → IsMoved (owner_of terms k digest) (get_or clocks k c).reports (told_moments (shown (get_or old k d))) (told_moments (shown z))) k d below
        (λ b t.
        let o = opens-at k d b below in
        let goes = offered.each k b c (front-below k below) in
        let reports = (get_or clocks k c).reports in
        let L : Owner → Type 0 = λ w. Leaves (StandsForReports w reports) (told_moments (shown (get_or last k b).disk)).now in
        record {
          front = was-front shown (owner_of terms k digest) (get_or old k d) (get_or first k b) o reports (fronts.each k b c (front-below k below)) (goes.later.told t);
          whole = subst L (owner-is shown (owner_of terms k digest) (get_or old k d) (get_or first k b) o) (whole b t);
        })

    moved-at : (offered : AreOffered shown clocks first last (Ok tt)) (k : ℕ) (d : D) (c : ClockHistory) → k < length old → WasMoved shown terms digest clocks old (disks_of last) k d c
    moved-at offered k d c below = moved-from (Ok tt) offered k d c below (λ b. offered.whole k b c (front-below k below))

    stop-cause : (answer : MoveFault) → AreOffered shown clocks first last (Err answer) → IsStop shown clocks first last answer → HasMoveCause shown terms digest clocks old (disks_of last) answer
    stop-cause (NotOpened clock fault) offered is = absurd is
    stop-cause (NotFront clock number) offered is = absurd is
    stop-cause NoMemory offered is = tt
    stop-cause (Full clock needed) offered is =
        let within : clock < length old = (let w = is.within in omega (arith, w, many)) in
        record {
          within = within;
          opened = open-at (Err (Full clock needed)) offered;
          fronts = front-at (Err (Full clock needed)) offered;
          before = λ k d c less. moved-from (Err (Full clock needed)) offered k d c (omega (arith, less, within)) (λ b. is.before k b c less);
          full = λ c.
              let b = book-of clock within in
              let d = b.disk in
              let F : Owner → Type 0 = λ w. IsFullAt needed w (get_or clocks clock c).reports in
              subst F (owner-is shown (owner_of terms clock digest) (get_or old clock d) (get_or first clock b) (opens-at clock d b within)) (is.cause b c).1;
        }
    stop-cause (DiskFault clock) offered is =
        let within : clock < length old = (let w = is.within in omega (arith, w, many)) in
        record {
          within = within;
          opened = open-at (Err (DiskFault clock)) offered;
          fronts = front-at (Err (DiskFault clock)) offered;
          before = λ k d c less. moved-from (Err (DiskFault clock)) offered k d c (omega (arith, less, within)) (λ b. is.before k b c less);
          rose = λ d. on-disk last (long-of (Err (DiskFault clock)) offered) (λ z. Rose (shown (get_or old clock d)).faults (shown z).faults) clock d within
              (λ b.
              let o = opens-at clock d b within in
              let steady = o.steady in
              let c : ClockHistory = record { terms = terms; number = 0; reports = (get_or first clock b).state.clock.reports } in
              subst (λ (n : ℕ). Rose n (shown (get_or last clock b).disk).faults) steady (is.cause b c).1);
        }

    never-unoffered : (answer : MoveFault) → IsStop shown clocks first last answer → OnlyOpened shown terms digest clocks old (disks_of last) (Err answer)
    never-unoffered (NotOpened clock fault) is = absurd is
    never-unoffered (NotFront clock number) is = absurd is
    never-unoffered (Full clock needed) is = tt
    never-unoffered (DiskFault clock) is = tt
    never-unoffered NoMemory is = tt

    -- the reports were offered, or a clock's were not all
    pub moved : (new : List D) (answer : Result (Unit {0}) MoveFault) (c : ClockHistory) → new ≡ disks_of last → AreOffered shown clocks first last answer → Moves shown terms digest clocks old new answer
    moved new (Ok t) c is offered = subst (λ (l : List D). Moves shown terms digest clocks old l (Ok t)) (sym is) (record {
      count = length-map last (λ (b : BookOf D). b.disk) ∙ long-of (Ok t) offered;
      left = left-at (Ok t) offered;
      unoffered = tt;
      told = λ k d below. told-at (Ok t) offered k d c below;
      unclaimed = λ k d below. unclaimed-at (Ok t) offered k d c below;
      counts = counts-at (Ok t) offered;
      moved = moved-at offered;
      cause = tt;
    })
    moved new (Err fault) c is offered = subst (λ (l : List D). Moves shown terms digest clocks old l (Err fault)) (sym is) (record {
      count = length-map last (λ (b : BookOf D). b.disk) ∙ long-of (Err fault) offered;
      left = left-at (Err fault) offered;
      unoffered = never-unoffered fault offered.cause;
      told = λ k d below. told-at (Err fault) offered k d c below;
      unclaimed = λ k d below. unclaimed-at (Err fault) offered k d c below;
      counts = counts-at (Err fault) offered;
      moved = tt;
      cause = stop-cause fault offered offered.cause;
    })
