-- From the disks of a house's journals to these disks again.
use Rattle.std.proofs.Common.{true≢false, ◌≡◌, ◌∙◌, ◌<◌, ◌≤◌, ◌-◌, ◌^◌, min, ℕ, zero, suc, IsTrue, List, [], ◌∷◌, length, map, get_or, Option, Some, Result, Ok, Err, arith, inl, inr, refl, sym, ap, subst}
use Rattle.house_io.specs.Disks.{DiskShown, is_told, told_moments}
use Rattle.std.specs.List.{AllByRecursion, flat_map}
use Rattle.std.specs.Prelude.{◌⊎◌}
use Rattle.std.proofs.lemmas.Bool.{cases_lt}
use Rattle.std.proofs.lemmas.List.{get_or-map, length-map}
use Rattle.std.proofs.lemmas.List.Elements.{All-from_recursion}
use Rattle.lot_base.specs.declared.auction_terms.Terms.{Terms}
use Rattle.house_io.specs.Doors.{DoorLinks}
use Rattle.house_io.specs.Links.{LinkBytes}
use Rattle.house_io.specs.Nets.{NetLists}
use Rattle.auction_file.specs.declared.listing.Auction.{Auction}
use Rattle.clock.specs.Reports.{ClockHistory}
use Rattle.recovery.specs.Journaled.{owner_of}
use Rattle.clock_book.specs.Books.{BookOf, IsKept}
use Rattle.clock_book.specs.DeskHistories.{marks_in}
use Rattle.clock_book.specs.Opened.{IsLeftUnlessClaimed, Opens}
use Rattle.clock_book.specs.declared.faults.OpenFault.{OpenFault}
use Rattle.clock_book.specs.declared.faults.OpenFault.TheVariants as why
use Rattle.clock_family.specs.Houses.{HouseOf, HousePassOf, IsNewPass, IsOpened}
use Rattle.clock_family.specs.Opening.{IsNotOpen}
use Rattle.turn_desk.specs.Passes.{Opened}
use Rattle.house_serve.specs.Houses.{DoorRun, Joins, turns_of}
use Rattle.house_run.specs.ClockRuns.{AreNewPasses, BeginNew, ClockRun, IsClockRun, IsJournalRun, IsNewPassAt}
use Rattle.house_run.specs.Hosting.{BooksBack, HostEnd, HostOutcome, HouseEnd, HouseNotServed, HouseOutcome, HouseServed, IsHosted, IsUnhosted, LeavesDisk, LeavesNet, ServedAnswer}
use Rattle.house_run.specs.Status.{end_at}
use Rattle.house_run.specs.declared.ends.Ended.{Ended}
use Rattle.house_run.specs.declared.hosting.Hosted.{Hosted}
use Rattle.house_run.proofs.DiskSteps.{some-of}
use Rattle.house_run.proofs.GivingSteps.{told-same}
use Rattle.house_run.proofs.ClockRunning.{clock-run, journal-run, run_of, was-journal, was-run, back_of}

-- the runs of books that were opened and closed, in order of the clocks
runs_in : {D : Type 0} → List (Opened (BookOf D)) → List (BookOf D) → List ClockRun
runs_in [] books = []
runs_in (d ∷ desks) [] = []
runs_in (d ∷ desks) (b ∷ books) = run_of d.book b ∷ runs_in desks books

length-runs : {D : Type 0} (desks : List (Opened (BookOf D))) (books : List (BookOf D)) → length books ≡ length desks → length (runs_in desks books) ≡ length desks
unfolding runs_in
length-runs [] books e = refl
length-runs (d ∷ desks) [] e = absurd (omega arith)
length-runs (d ∷ desks) (b ∷ books) e = ap suc (length-runs desks books (let t : length books ≡ length desks = omega arith in t))

runs-at : {D : Type 0} (desks : List (Opened (BookOf D))) (books : List (BookOf D)) (k : ℕ) (c : ClockRun) (d : Opened (BookOf D)) (b : BookOf D) → length books ≡ length desks → k < length desks
    → get_or (runs_in desks books) k c ≡ run_of (get_or desks k d).book (get_or books k b)
unfolding runs_in
runs-at [] books k c d b e below = absurd (omega arith)
runs-at (x ∷ desks) [] k c d b e below = absurd (omega arith)
runs-at (x ∷ desks) (y ∷ books) zero c d b e below = refl
runs-at (x ∷ desks) (y ∷ books) (suc k) c d b e below = runs-at desks books k c d b (let t : length books ≡ length desks = omega arith in t) (omega arith)

histories-in : {D : Type 0} (desks : List (Opened (BookOf D))) (books : List (BookOf D)) → length books ≡ length desks → map (λ (b : BookOf D). b.state.clock) books ≡ map (λ (c : ClockRun). c.closed.clock) (runs_in desks books)
unfolding runs_in
histories-in [] [] e = refl
histories-in [] (b ∷ books) e = absurd (omega arith)
histories-in (d ∷ desks) [] e = absurd (omega arith)
histories-in (d ∷ desks) (b ∷ books) e = ap (λ l. b.state.clock ∷ l) (histories-in desks books (let t : length books ≡ length desks = omega arith in t))

module _ {D : Type 0} (shown : D → DiskShown) (terms : Terms) (digest : List ℕ) where
  -- one clock of a house that was opened and closed
  record RanAt (old disks : List D) (desks : List (Opened (BookOf D))) (books : List (BookOf D)) (k : ℕ) : Type 0 where
    desk : Opened (BookOf D)
    book : BookOf D
    run_is : (c : ClockRun) → get_or (runs_in desks books) k c ≡ run_of (get_or desks k desk).book (get_or books k book)
    clock : IsClockRun (owner_of terms k digest) (run_of (get_or desks k desk).book (get_or books k book))
    claimed : (d : D) → IsTrue (shown (get_or disks k d)).claimed
    marks : (d : D) → min (marks_in (get_or books k book).state.history) (2 ^ 64 - 1) ≤ (shown (get_or disks k d)).faults
    journal : (d : D) → IsTrue (is_told (shown (get_or disks k d))) → IsJournalRun (owner_of terms k digest) (run_of (get_or desks k desk).book (get_or books k book)) (told_moments (shown (get_or old k d))) (told_moments (shown (get_or disks k d)))

  ran-at : (old disks : List D) (house : HouseOf D) (books : List (BookOf D)) → length house.desks ≡ length old
      → ((k : ℕ) (x : D) (d : Opened (BookOf D)) → k < length old → Opens shown (owner_of terms k digest) (get_or old k x) (get_or house.desks k d).book)
      → BooksBack shown house.desks books disks → (k : ℕ) → k < length old → RanAt old disks house.desks books k
  ran-at old disks house books count opens back k below =
      let long = back.count in
      let desk = some-of house.desks k (omega arith) in
      let book = some-of books k (omega arith) in
      let first = (get_or house.desks k desk).book in
      let closed = get_or books k book in
      let within : k < length house.desks = omega arith in
      let inside : k < length books = omega arith in
      let same = back.origins k desk book within in
      let Kept : BookOf D → Type 0 = λ b. IsKept shown b in
      let kept = All-from_recursion Kept books back.kept k book inside in
      let x = some-of old k below in
      record {
        desk = desk;
        book = book;
        run_is = λ c. runs-at house.desks books k c desk book long within;
        clock = clock-run shown (owner_of terms k digest) (get_or old k x) first closed (opens k x desk below) same kept;
        claimed = λ d.
            let is : get_or disks k d ≡ closed.disk = ap (λ l. get_or l k d) back.disks_are ∙ get_or-map (λ (b : BookOf D). b.disk) books k book d inside in
            subst (λ (y : D). IsTrue (shown y).claimed) (sym is) kept.claimed;
        marks = λ d.
            let is : get_or disks k d ≡ closed.disk = ap (λ l. get_or l k d) back.disks_are ∙ get_or-map (λ (b : BookOf D). b.disk) books k book d inside in
            subst (λ (y : D). min (marks_in closed.state.history) (2 ^ 64 - 1) ≤ (shown y).faults) (sym is) kept.marks;
        journal = λ d told.
            let is : get_or disks k d ≡ closed.disk = ap (λ l. get_or l k d) back.disks_are ∙ get_or-map (λ (b : BookOf D). b.disk) books k book d inside in
            let J : D → Type 0 = λ y. IsJournalRun (owner_of terms k digest) (run_of first closed) (told_moments (shown (get_or old k d))) (told_moments (shown y)) in
            subst J (sym is) (journal-run shown (owner_of terms k digest) (get_or old k d) first closed (opens k d desk below) same kept (subst (λ y. IsTrue (is_told (shown y))) is told));
      }

  -- the passes with which the doors began were new ones of the house
  new-passes : (count : ℕ) (old disks : List D) (house : HouseOf D) (all : List HousePassOf) (books : List (BookOf D)) (p : HousePassOf) → IsOpened shown terms digest count old house all
      → BooksBack shown house.desks books disks → IsNewPass house p → AreNewPasses (runs_in house.desks books) p.passes
  new-passes count old disks house all books p opened back new =
      let long = length-runs house.desks books back.count in
      let same = new.of_house.count in
      record {
        count = same ∙ sym long;
        each = λ k c q below.
            let clocks = opened.clocks in
            let r = ran-at old disks house books opened.clocks opened.books back k (omega arith) in
            let within : k < length house.desks = omega arith in
            let inside : k < length p.passes = omega arith in
            subst (λ (run : ClockRun). IsNewPassAt run (get_or p.passes k q)) (sym (r.run_is c))
            (record { origin = new.origin k r.desk q within ∙ ap Some (sym (back.origins k r.desk r.book within)); seen = new.seen k r.desk q within; own = new.own k q inside });
      }

  begin-all : {R L : Type 0} (count : ℕ) (old disks : List D) (house : HouseOf D) (all : List HousePassOf) (books : List (BookOf D)) (runs : List (DoorRun R L)) → IsOpened shown terms digest count old house all
      → BooksBack shown house.desks books disks → AllByRecursion (IsNewPass house) (map (λ (r : DoorRun R L). r.before) runs) → BeginNew (runs_in house.desks books) runs
  begin-all count old disks house all books [] opened back new = tt
  begin-all count old disks house all books (r ∷ runs) opened back new = (new-passes count old disks house all books r.before opened back new.0, begin-all count old disks house all books runs opened back new.1)

  refused-host : {N : Type 0} (fault : OpenFault) (old disks : List D) (clock : ℕ) (told : Option N) (counted : ℕ) → IsNotOpen shown terms digest old disks clock fault
      → HostEnd {N = N} shown terms digest old disks told told counted counted (end_at clock fault)
  refused-host why.DiskFault old disks clock told counted not = inl (record { clock = clock; end_is = refl; not_open = not; same = record { told_same = refl; counted_same = refl } })
  refused-host why.NoMemory old disks clock told counted not = inr (inr (inr (record { end_is = refl; steady = refl })))
  refused-host (why.Broken broken) old disks clock told counted not = inr (inl (record { clock = clock; fault = why.Broken broken; end_is = refl; not_open = not; refusal = tt; same = record { told_same = refl; counted_same = refl } }))
  refused-host (why.NotAcceptable number judgement) old disks clock told counted not =
      inr (inl (record { clock = clock; fault = why.NotAcceptable number judgement; end_is = refl; not_open = not; refusal = tt; same = record { told_same = refl; counted_same = refl } }))

  -- each disk was left by an opening that was refused, or its book was closed unused
  left-unopened : (fault : OpenFault) (old disks : List D) (clock : ℕ) → IsNotOpen shown terms digest old disks clock fault → (k : ℕ) (d : D) → LeavesDisk shown (owner_of terms k digest) (get_or old k d) (get_or disks k d)
  left-unopened fault old disks clock not k d = of (cases_lt k clock)
    where
      of : (k < clock) ⊎ (clock ≤ k) → LeavesDisk shown (owner_of terms k digest) (get_or old k d) (get_or disks k d)
      of (inl before) =
          let was = not.before k d before in
          inr (run_of was.first (back_of was.first (get_or disks k d)), was-run shown (owner_of terms k digest) (get_or old k d) (get_or disks k d) was, refl, was-journal shown (owner_of terms k digest) (get_or old k d) (get_or disks k d) was)
      of (inr beyond) = elim (cases_lt clock k) [
        | inl after ↦ inl (λ told. inl (ap (λ (y : D). told_moments (shown y)) (not.after k d after)))
        | inr same ↦
            let here : clock ≡ k = omega arith in
            subst (λ (n : ℕ). LeavesDisk shown (owner_of terms n digest) (get_or old n d) (get_or disks n d)) here (inl (not.refused d).leaves)
      ]

  -- each disk that is not claimed was left as it was
  quiet-unopened : (fault : OpenFault) (old disks : List D) (clock : ℕ) → IsNotOpen shown terms digest old disks clock fault → (k : ℕ) (d : D) → IsLeftUnlessClaimed (shown (get_or old k d)) (shown (get_or disks k d))
  quiet-unopened fault old disks clock not k d = of (cases_lt k clock)
    where
      of : (k < clock) ⊎ (clock ≤ k) → IsLeftUnlessClaimed (shown (get_or old k d)) (shown (get_or disks k d))
      of (inl before) = λ unclaimed. absurd (true≢false (sym (not.before k d before).claimed ∙ unclaimed))
      of (inr beyond) = elim (cases_lt clock k) [
        | inl after ↦ λ unclaimed told. ap (λ (y : D). told_moments (shown y)) (not.after k d after)
        | inr same ↦
            let here : clock ≡ k = omega arith in
            subst (λ (n : ℕ). IsLeftUnlessClaimed (shown (get_or old n d)) (shown (get_or disks n d))) here (not.refused d).unclaimed
      ]

module _ {D R L M : Type 0} (shown : D → DiskShown) (told : R → Option (DoorLinks M)) (faults : R → ℕ) (link_told : M → Option LinkBytes) (link_faults : M → ℕ) (auction : Auction) (address : List ℕ) (count sessions : ℕ) where
  -- no house was opened
  pub not-hosted : (fault : OpenFault) (old disks : List D) (clock : ℕ) (lists : Option (NetLists R L)) (counted : ℕ) → IsNotOpen shown auction.terms auction.digest old disks clock fault
      → HostOutcome {L = L} shown told faults link_told link_faults auction address count sessions old (Err (end_at clock fault)) disks lists lists counted counted
  not-hosted fault old disks clock lists counted not = inr (record {
    disks_count = not.count;
    left = λ k d below. left-unopened shown auction.terms auction.digest fault old disks clock not k d;
    unclaimed = λ k d below. quiet-unopened shown auction.terms auction.digest fault old disks clock not k d;
    net_is = told-same (LeavesNet told address count) lists (λ x. inl refl);
    cause = refused-host shown auction.terms auction.digest fault old disks clock lists counted not;
  })

  -- a house was opened, and served
  hosted-served : (answer : Result Hosted Ended) (old disks : List D) (house : HouseOf D) (passes : List HousePassOf) (told_before told_after : Option (NetLists R L)) (counted_before counted : ℕ)
      → IsOpened shown auction.terms auction.digest count old house passes
      → HouseServed {L = L} shown told faults link_told link_faults auction address count sessions house.desks passes disks answer told_before told_after counted_before counted
      → IsHosted {L = L} shown told faults link_told link_faults auction address count sessions old disks answer told_before told_after counted_before counted
  hosted-served answer old disks house passes told_before told_after counted_before counted opened served =
      let back = served.back in
      let books = served.books in
      let at = ran-at shown auction.terms auction.digest old disks house books opened.clocks opened.books back in
      let long : length (runs_in house.desks books) ≡ length old = length-runs house.desks books back.count ∙ opened.clocks in
      let all : length disks ≡ length books = ap length back.disks_are ∙ length-map books (λ (b : BookOf D). b.disk) in
      let A : List ClockHistory → Type 0 = λ cs. ServedAnswer cs served.runs answer counted_before counted in
      record {
        disks_count = all ∙ back.count ∙ opened.clocks;
        clocks = runs_in house.desks books;
        count_is = long;
        clocks_are = λ k c below. let r = at k (omega arith) in subst (λ (run : ClockRun). IsClockRun (owner_of auction.terms k auction.digest) run) (sym (r.run_is c)) r.clock;
        journals_are = λ k c d below told_now.
            let r = at k (omega arith) in
            subst (λ (run : ClockRun). IsJournalRun (owner_of auction.terms k auction.digest) run (told_moments (shown (get_or old k d))) (told_moments (shown (get_or disks k d)))) (sym (r.run_is c)) (r.journal d told_now);
        claimed = λ k d below. (let r = at k (omega arith) in r.claimed d);
        marks = λ k c d below.
            let r = at k (omega arith) in
            subst (λ (run : ClockRun). min (marks_in run.closed.history) (2 ^ 64 - 1) ≤ (shown (get_or disks k d)).faults) (sym (r.run_is c)) (r.marks d);
        runs = served.runs;
        new = begin-all shown auction.terms auction.digest count old disks house passes books served.runs opened back (subst (AllByRecursion (IsNewPass house)) served.passes_are opened.new);
        ran = served.ran;
        joins = λ k c below.
            let r = at k (omega arith) in
            let within : k < length house.desks = (let o = opened.clocks in omega arith) in
            subst (λ (run : ClockRun). Joins run.opening run.closed.history (flat_map turns_of served.runs) k) (sym (r.run_is c)) (served.joins k r.desk r.book within);
        answer_is = subst A (histories-in house.desks books back.count) served.answer_is;
      }

  house-end : (old disks : List D) (told_before told_after : Option (NetLists R L)) (counted_before counted : ℕ) (end : Ended) → HouseEnd counted_before counted end
      → HostEnd {N = NetLists R L} shown auction.terms auction.digest old disks told_before told_after counted_before counted end
  house-end old disks told_before told_after counted_before counted end cause = inr (inr cause)

  -- a house was opened, and closed unused
  hosted-unused : (end : Ended) (old disks : List D) (house : HouseOf D) (passes : List HousePassOf) (told_before told_after : Option (NetLists R L)) (counted_before counted : ℕ)
      → IsOpened shown auction.terms auction.digest count old house passes
      → HouseNotServed {L = L} shown told faults link_told link_faults auction address count sessions house.desks disks end told_before told_after counted_before counted
      → IsUnhosted {L = L} shown told faults link_told link_faults auction address count sessions old disks end told_before told_after counted_before counted
  hosted-unused end old disks house passes told_before told_after counted_before counted opened not =
      let back = not.closed.back in
      let books = not.closed.books in
      let at = ran-at shown auction.terms auction.digest old disks house books opened.clocks opened.books back in
      let all : length disks ≡ length books = ap length back.disks_are ∙ length-map books (λ (b : BookOf D). b.disk) in
      record {
        disks_count = all ∙ back.count ∙ opened.clocks;
        left = λ k d below.
            let r = at k below in
            let within : k < length house.desks = (let o = opened.clocks in omega arith) in
            inr (run_of (get_or house.desks k r.desk).book (get_or books k r.book), r.clock, not.closed.unused k r.desk r.book within, r.journal d);
        unclaimed = λ k d below unclaimed. absurd (let r = at k below in true≢false (sym (r.claimed d) ∙ unclaimed));
        net_is = not.net_is;
        cause = house-end old disks told_before told_after counted_before counted end not.cause;
      }

  -- a house was opened, and came to this
  pub hosted : (answer : Result Hosted Ended) (old disks : List D) (house : HouseOf D) (passes : List HousePassOf) (told_before told_after : Option (NetLists R L)) (counted_before counted : ℕ)
      → IsOpened shown auction.terms auction.digest count old house passes
      → HouseOutcome {L = L} shown told faults link_told link_faults auction address count sessions house.desks passes answer disks told_before told_after counted_before counted
      → HostOutcome {L = L} shown told faults link_told link_faults auction address count sessions old answer disks told_before told_after counted_before counted
  hosted (Ok done) old disks house passes told_before told_after counted_before counted opened served = hosted-served (Ok done) old disks house passes told_before told_after counted_before counted opened served
  hosted (Err end) old disks house passes told_before told_after counted_before counted opened (inl served) = inl (hosted-served (Err end) old disks house passes told_before told_after counted_before counted opened served)
  hosted (Err end) old disks house passes told_before told_after counted_before counted opened (inr not) = inr (hosted-unused end old disks house passes told_before told_after counted_before counted opened not)
