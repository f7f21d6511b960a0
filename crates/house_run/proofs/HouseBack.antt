-- What is left of a house that was served, or not, once it was closed.
use Rattle.std.proofs.Common.{◌≡◌, ◌∙◌, ◌<◌, ◌≤◌, ◌+◌, ◌-◌, ◌++◌, ℕ, zero, suc, true, false, List, [], ◌∷◌, length, map, take, drop, get_or, Option, Some, None, Result, Ok, Err, arith, inl, inr, refl, sym, ap, subst}
use Rattle.house_io.specs.Disks.{DiskShown}
use Rattle.std.specs.List.{AllByRecursion}
use Rattle.std.specs.Prelude.{◌⊎◌}
use Rattle.std.proofs.lemmas.Bool.{cases_Bool}
use Rattle.std.proofs.lemmas.List.{length-map}
use Rattle.house_io.specs.Doors.{DoorLinks}
use Rattle.house_io.specs.Faults.{Rose, raised_by}
use Rattle.house_io.specs.Links.{LinkBytes}
use Rattle.house_io.specs.Nets.{AsksDoors, GivesDoors, NetLists}
use Rattle.house_io.specs.Shelves.{IsRefused}
use Rattle.house_io.specs.Told.{IfTold}
use Rattle.house_io.specs.declared.shelves.Refusal.{Refusal}
use Rattle.house_io.specs.declared.shelves.Refusal.TheVariants as refusal
use Rattle.auction_file.specs.declared.listing.Auction.{Auction}
use Rattle.clock_book.specs.Books.{BookOf, IsKept}
use Rattle.clock_family.proofs.Unused.{same-history}
use Rattle.clock_family.specs.Houses.{AreClosed, HouseOf, HousePassOf, IsNewPass, column}
use Rattle.turn_desk.specs.Passes.{Known, Opened}
use Rattle.clock_book.specs.declared.entries.Entry.{Entry}
use Rattle.clock_book.specs.declared.origins.Origin.{Origin}
use Rattle.house_serve.specs.Houses.{DoorRun, IsRun, IsServed}
use Rattle.house_serve.specs.declared.houses.DoorLog.{DoorLog}
use Rattle.house_run.specs.GivingBack.{TakesAll, raised_by_all}
use Rattle.house_run.specs.ClockRuns.{NoneFailed}
use Rattle.house_run.specs.Hosting.{BooksBack, DoorsServed, HouseEnd, HouseOutcome, HouseServed, HouseUnused, LeavesNet, LogsOutcome, ServedAnswer, net_end}
use Rattle.house_run.specs.declared.ends.Ended.{Ended}
use Rattle.house_run.specs.declared.hosting.Hosted.{Hosted}
use Rattle.house_run.proofs.GivingSteps.{map-map, raised-later, raised-none, told-then}

pub books-back : {D : Type 0} (shown : D → DiskShown) (desks : List (Opened (BookOf D))) (passes : List HousePassOf) (books : List (BookOf D)) (disks : List D) → AreClosed desks passes books
    → disks ≡ map (λ (b : BookOf D). b.disk) books → AllByRecursion (λ (b : BookOf D). IsKept shown b) books → BooksBack shown desks books disks
books-back shown desks passes books disks closed are kept = record { count = closed.count; origins = λ k d b below. (closed.each k d b below).origin_is; disks_are = are; kept = kept }

all-cell : {A : Type 0} (P : A → Type 0) (xs : List A) (k : ℕ) → ((x : A) → k < length xs → P (get_or xs k x)) → AllByRecursion P (take 1 (drop k xs))
all-cell P [] zero holds = tt
all-cell P [] (suc k) holds = tt
all-cell P (x ∷ xs) zero holds = (holds x (omega arith), tt)
all-cell P (x ∷ xs) (suc k) holds = all-cell P xs k (λ y below. holds y (omega arith))

all-join : {A : Type 0} (P : A → Type 0) (xs ys : List A) → AllByRecursion P xs → AllByRecursion P ys → AllByRecursion P (xs ++ ys)
all-join P [] ys first second = second
all-join P (x ∷ xs) ys first second = (first.0, all-join P xs ys first.1 second)

-- new passes have made nothing
none-own : {D : Type 0} (house : HouseOf D) (passes : List HousePassOf) (k : ℕ) → AllByRecursion (IsNewPass house) passes → AllByRecursion (λ (p : Known Entry Origin). p.own ≡ []) (column k passes)
none-own house [] k new = tt
none-own house (p ∷ passes) k new =
    all-join (λ (q : Known Entry Origin). q.own ≡ []) (take 1 (drop k p.passes)) (column k passes) (all-cell (λ (q : Known Entry Origin). q.own ≡ []) p.passes k (new.0.own k)) (none-own house passes k new.1)

-- a house that was closed with new passes has the books that it had
pub unused-back : {D : Type 0} (shown : D → DiskShown) (house : HouseOf D) (passes : List HousePassOf) (books : List (BookOf D)) (disks : List D) → AllByRecursion (IsNewPass house) passes → AreClosed house.desks passes books
    → disks ≡ map (λ (b : BookOf D). b.disk) books → AllByRecursion (λ (b : BookOf D). IsKept shown b) books → HouseUnused shown house.desks disks
unused-back {D} shown house passes books disks new closed are kept = record {
  books = books;
  back = books-back shown house.desks passes books disks closed are kept;
  unused = λ k d b below. same-history (λ (x : BookOf D). x.state.history) (λ (x : BookOf D). x.origin) (get_or house.desks k d).book (column k passes) (get_or books k b) (none-own house passes k new) (closed.each k d b below);
}

all-zeros : {A : Type 0} (f : A → ℕ) (xs : List A) → AllByRecursion (λ x. f x ≡ 0) xs → AllByRecursion (λ n. n ≡ 0) (map f xs)
all-zeros f [] all = tt
all-zeros f (x ∷ xs) all = (all.0, all-zeros f xs all.1)

-- doors without a fault add nothing
pub none-added : {A : Type 0} (f : A → ℕ) (xs : List A) (before now : ℕ) → AllByRecursion (λ x. f x ≡ 0) xs → now ≡ raised_by_all before (map f xs) → now ≡ before
none-added f xs before now none is = is ∙ raised-none before (map f xs) (all-zeros f xs none)

-- the doors were given, and then given back
module _ {R L M : Type 0} (told : R → Option (DoorLinks M)) where
  both : (address : List ℕ) (count : ℕ) (given back : List R) (a b c : NetLists R L) → length back ≡ count → GivesDoors told address count given a b → TakesAll back b c → DoorsServed told address count given back a c
  both address count given back a b c long gives takes =
      let places : b.door_places ≡ a.door_places + count = ap (λ l. l.door_places) gives.rest in
      let e = takes (omega arith) in
      let left : b.door_places - length back ≡ a.door_places = omega arith in
      record {
        empty = gives.empty;
        given_are = gives.given_are;
        are_empty = gives.are_empty;
        after_is = e ∙ (λ i. record { doors = (gives.rest i).doors; links = (gives.rest i).links; closed = (gives.rest i).closed ++ back; hung_up = (gives.rest i).hung_up; door_places = left i; link_places = (gives.rest i).link_places; asked = (gives.rest i).asked; dialled = (gives.rest i).dialled });
      }

  pub doors-served : (address : List ℕ) (count : ℕ) (given back : List R) (before between after : Option (NetLists R L)) → length back ≡ count → IfTold before between (GivesDoors told address count given) → IfTold between after (TakesAll back)
      → IfTold before after (DoorsServed told address count given back)
  doors-served address count given back before between after long gives takes =
      told-then (GivesDoors told address count given) (TakesAll back) (DoorsServed told address count given back) before between after (λ a b c g t. both address count given back a b c long g t) gives takes

  -- the doors went back as they came
  pub doors-back : (address : List ℕ) (count : ℕ) (given : List R) (before between after : Option (NetLists R L)) → length given ≡ count → IfTold before between (GivesDoors told address count given) → IfTold between after (TakesAll given)
      → IfTold before after (LeavesNet told address count)
  doors-back address count given before between after long gives takes =
      told-then (GivesDoors told address count given) (TakesAll given) (LeavesNet told address count) before between after (λ a b c g t. inr (inr (given, both address count given given a b c long g t))) gives takes

  -- the net refused doors, or memory ran out before it was asked
  pub refused-doors : (why : Refusal) (address : List ℕ) (count : ℕ) (before after : Option (NetLists R L)) → IfTold before after (AsksDoors told address count (Err why)) → IfTold before after (LeavesNet told address count)
  refused-doors why address count before None asks = tt
  refused-doors why address count None (Some b) asks = absurd asks
  refused-doors refusal.Failed address count (Some a) (Some b) asks = inr (inl asks)
  refused-doors refusal.NoMemory address count (Some a) (Some b) asks = inl asks

module _ {R M : Type 0} (told : R → Option (DoorLinks M)) (faults : R → ℕ) (link_told : M → Option LinkBytes) (link_faults : M → ℕ) (auction : Auction) (sessions : ℕ) where
  runs-failed : (runs : List (DoorRun R M)) → AllByRecursion (λ (log : DoorLog R). log.failed ≡ false) (map (λ (r : DoorRun R M). r.log) runs) → AllByRecursion (λ (r : DoorRun R M). r.log.failed ≡ false) runs
  runs-failed [] all = tt
  runs-failed (r ∷ runs) all = (all.0, runs-failed runs all.1)

  logs-failed : (runs : List (DoorRun R M)) → NoneFailed runs → AllByRecursion (λ (log : DoorLog R). log.failed ≡ false) (map (λ (r : DoorRun R M). r.log) runs)
  logs-failed [] all = tt
  logs-failed (r ∷ runs) all = (all.0, logs-failed runs all.1)

  -- doors that did not fail had no fault
  no-faults : (runs : List (DoorRun R M)) → AllByRecursion (IsRun told faults link_told link_faults auction sessions) runs → AllByRecursion (λ (r : DoorRun R M). r.log.failed ≡ false) runs
      → AllByRecursion (λ door. faults door ≡ 0) (map (λ (r : DoorRun R M). r.door) runs) → AllByRecursion (λ (log : DoorLog R). faults log.door ≡ 0) (map (λ (r : DoorRun R M). r.log) runs)
  no-faults [] each none fresh = tt
  no-faults (r ∷ runs) each none fresh = ((each.0.done none.0).1 ∙ fresh.0, no-faults runs each.1 none.1 fresh.1)

  -- where one failed, the count of the net rose
  some-fault : (runs : List (DoorRun R M)) (before : ℕ) → AllByRecursion (IsRun told faults link_told link_faults auction sessions) runs → AllByRecursion (λ door. faults door ≡ 0) (map (λ (r : DoorRun R M). r.door) runs)
      → (AllByRecursion (λ (log : DoorLog R). log.failed ≡ false) (map (λ (r : DoorRun R M). r.log) runs) → ⊥) → Rose before (raised_by_all before (map (λ (log : DoorLog R). faults log.door) (map (λ (r : DoorRun R M). r.log) runs)))
  some-fault [] before each fresh some = absurd (some tt)
  some-fault (r ∷ runs) before each fresh some = of (λ e. some-fault runs before each.1 fresh.1 (λ all. some (e, all))) (cases_Bool r.log.failed)
    where
      rest : List ℕ
      rest = map (λ (log : DoorLog R). faults log.door) (map (λ (q : DoorRun R M). q.log) runs)

      of : (r.log.failed ≡ false → Rose before (raised_by_all before rest)) → (r.log.failed ≡ true) ⊎ (r.log.failed ≡ false) → Rose before (raised_by_all (raised_by before (faults r.log.door)) rest)
      of later (inl e) =
          let f = (each.0.failed e).1 in
          let z = fresh.0 in
          let l = raised-later (raised_by before (faults r.log.door)) rest in
          omega arith
      of later (inr e) =
          let same : raised_by before (faults r.log.door) ≡ before = (let z = (each.0.done e).1 ∙ fresh.0 in omega arith) in
          subst (λ (n : ℕ). Rose before (raised_by_all n rest)) (sym same) (later e)

  -- what is told of doors that served
  pub served-answer : {D : Type 0} (answer : Result Hosted Ended) (runs : List (DoorRun R M)) (books : List (BookOf D)) (before now : ℕ) → AllByRecursion (IsRun told faults link_told link_faults auction sessions) runs → AllByRecursion (λ door. faults door ≡ 0) (map (λ (r : DoorRun R M). r.door) runs)
      → now ≡ raised_by_all before (map (λ (log : DoorLog R). faults log.door) (map (λ (r : DoorRun R M). r.log) runs)) → LogsOutcome books (map (λ (r : DoorRun R M). r.log) runs) answer
      → ServedAnswer (map (λ (b : BookOf D). b.state.clock) books) runs answer before now
  served-answer (Ok hosted) runs books before now each fresh raised outcome =
      let never = runs-failed runs outcome.0 in
      record {
        none_failed = never;
        histories_are = outcome.1;
        ends_are = outcome.2 ∙ map-map (λ (l : DoorLog R). l.ends.items) (λ (r : DoorRun R M). r.log) runs;
        steady = none-added (λ (l : DoorLog R). faults l.door) (map (λ (r : DoorRun R M). r.log) runs) before now (no-faults runs each never fresh) raised;
      }
  served-answer (Err end) runs books before now each fresh raised outcome = record {
    some_failed = λ none. outcome.1 (logs-failed runs none);
    cause = record {
      end_is = outcome.0;
      rose = subst (λ (n : ℕ). Rose before n) (sym raised) (some-fault runs before each fresh outcome.1);
      later = subst (λ (n : ℕ). before ≤ n) (sym raised) (raised-later before (map (λ (l : DoorLog R). faults l.door) (map (λ (r : DoorRun R M). r.log) runs)));
    };
  }

module _ {D R L M : Type 0} (shown : D → DiskShown) (told : R → Option (DoorLinks M)) (faults : R → ℕ) (link_told : M → Option LinkBytes) (link_faults : M → ℕ) (auction : Auction) (sessions : ℕ) where
  as-outcome : (answer : Result Hosted Ended) (address : List ℕ) (count : ℕ) (desks : List (Opened (BookOf D))) (passes : List HousePassOf) (disks : List D) (before after : Option (NetLists R L)) (counted counted_after : ℕ)
      → HouseServed {L = L} shown told faults link_told link_faults auction address count sessions desks passes disks answer before after counted counted_after
      → HouseOutcome {L = L} shown told faults link_told link_faults auction address count sessions desks passes answer disks before after counted counted_after
  as-outcome (Ok hosted) address count desks passes disks before after counted counted_after served = served
  as-outcome (Err end) address count desks passes disks before after counted counted_after served = inl served

  -- a house was served: its doors are back at the net, and its books were taken apart
  pub served-outcome : (answer : Result Hosted Ended) (address : List ℕ) (house : HouseOf D) (passes : List HousePassOf) (doors : List R) (books : List (BookOf D)) (logs : List (DoorLog R)) (disks : List D) (before between after : Option (NetLists R L)) (counted counted_after : ℕ)
      → IsServed told faults link_told link_faults auction sessions house passes doors books logs → AllByRecursion (λ door. faults door ≡ 0) doors → IfTold before between (GivesDoors told address (length doors) doors)
      → disks ≡ map (λ (b : BookOf D). b.disk) books → AllByRecursion (λ (b : BookOf D). IsKept shown b) books
      → IfTold between after (TakesAll (map (λ (log : DoorLog R). log.door) logs)) → counted_after ≡ raised_by_all counted (map (λ (log : DoorLog R). faults log.door) logs) → LogsOutcome books logs answer
      → HouseOutcome {L = L} shown told faults link_told link_faults auction address (length doors) sessions house.desks passes answer disks before after counted counted_after
  served-outcome answer address house passes doors books logs disks before between after counted counted_after served fresh gives are kept takes raised outcome =
      let runs = served.runs in
      let first = subst (AllByRecursion (λ door. faults door ≡ 0)) served.doors_are fresh in
      let back : map (λ (l : DoorLog R). l.door) logs ≡ map (λ (r : DoorRun R M). r.log.door) runs = ap (map (λ (l : DoorLog R). l.door)) served.logs_are ∙ map-map (λ (l : DoorLog R). l.door) (λ (r : DoorRun R M). r.log) runs in
      let long : length runs ≡ length doors = sym (ap length served.doors_are ∙ length-map runs (λ (r : DoorRun R M). r.door)) in
      let G : List R → Type 0 = λ ds. IfTold before between (GivesDoors told address (length doors) ds) in
      let T : List R → Type 0 = λ ds. IfTold between after (TakesAll ds) in
      let O : List (DoorLog R) → Type 0 = λ ls. LogsOutcome books ls answer in
      as-outcome answer address (length doors) house.desks passes disks before after counted counted_after (record {
        books = books;
        back = books-back shown house.desks (map (λ (r : DoorRun R M). r.after) runs) books disks served.closed are kept;
        runs = runs;
        passes_are = served.passes_are;
        ran = record {
          count_is = long;
          each = served.each;
          lists = doors-served told address (length doors) (map (λ (r : DoorRun R M). r.door) runs) (map (λ (r : DoorRun R M). r.log.door) runs) before between after (length-map runs (λ (r : DoorRun R M). r.log.door) ∙ long) (subst G served.doors_are gives) (subst T back takes);
        };
        joins = served.joins;
        answer_is = served-answer told faults link_told link_faults auction sessions answer runs books counted counted_after served.each first (raised ∙ ap (λ ls. raised_by_all counted (map (λ (l : DoorLog R). faults l.door) ls)) served.logs_are) (subst O served.logs_are outcome);
      })

pub refused-end : (why : Refusal) (before now : ℕ) → before ≤ now → IsRefused why before now → HouseEnd before now (net_end why)
refused-end refusal.Failed before now later rose = inl (record { end_is = refl; rose = rose; later = later })
refused-end refusal.NoMemory before now later same = inr (record { end_is = refl; steady = same })
