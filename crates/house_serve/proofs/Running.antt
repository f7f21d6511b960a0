-- From booths to the runs of their doors.
use Rattle.std.proofs.Common.{◌≡◌, ℕ, suc, ◌<◌, List, [], ◌∷◌, length, map, get_or, refl, sym, ◌∙◌, ap, subst, arith}
use Rattle.std.specs.Prelude.{Option}
use Rattle.std.specs.List.{AllByRecursion, AllZip}
use Rattle.house_io.specs.Links.{LinkBytes}
use Rattle.house_io.specs.Doors.{DoorLinks}
use Rattle.auction_file.specs.declared.listing.Auction.{Auction}
use Rattle.clock_book.specs.Books.{BookOf}
use Rattle.clock_family.specs.Houses.{HouseOf, HousePassOf, IsNewPass, AreAllOf, AreClosed}
use Rattle.house_serve.specs.Booths.{WasServed, log_of}
use Rattle.house_serve.specs.Houses.{DoorRun, IsRun, IsServed}
use Rattle.house_serve.specs.declared.booths.Booth.{Booth}
use Rattle.house_serve.specs.declared.houses.DoorLog.{DoorLog}
use Rattle.house_serve.proofs.Closing.{joins}
use Rattle.clock_family.proofs.Still.{AreStill, all_still_of}

module _ {R L : Type 0} (told : R → Option (DoorLinks L)) (faults : R → ℕ) (link_told : L → Option LinkBytes) (link_faults : L → ℕ) (auction : Auction) (sessions : ℕ) where
  abbrev pub Was : Booth HousePassOf R → Booth HousePassOf R → Type 0
  Was old new = WasServed told faults link_told link_faults auction sessions old new

  pub zipped : (olds news : List (Booth HousePassOf R)) → length news ≡ length olds → ((i : ℕ) (d : Booth HousePassOf R) → i < length olds → Was (get_or olds i d) (get_or news i d)) → AllZip Was olds news
  zipped [] [] size h = tt
  zipped [] (n ∷ ns) size h = absurd (omega (arith, size))
  zipped (o ∷ os) [] size h = absurd (omega (arith, size))
  zipped (o ∷ os) (n ∷ ns) size h = (h 0 o (omega arith), zipped os ns (omega (arith, size)) (λ i d below. h (suc i) d (omega (arith, below))))

  abbrev run_of : (old new : Booth HousePassOf R) → Was old new → DoorRun R L
  run_of old new w = record { before = old.pass; after = new.pass; door = old.door; log = log_of new; visits = w.door.visits }

  abbrev runs_of : (olds news : List (Booth HousePassOf R)) → AllZip Was olds news → List (DoorRun R L)
  runs_of [] [] z = []
  runs_of [] (n ∷ ns) z = []
  runs_of (o ∷ os) [] z = []
  runs_of (o ∷ os) (n ∷ ns) z = run_of o n z.0 ∷ runs_of os ns z.1

  befores : (olds news : List (Booth HousePassOf R)) (z : AllZip Was olds news) → map (λ (c : Booth HousePassOf R). c.pass) olds ≡ map (λ (d : DoorRun R L). d.before) (runs_of olds news z)
  befores [] [] z = refl
  befores [] (n ∷ ns) z = absurd z
  befores (o ∷ os) [] z = absurd z
  befores (o ∷ os) (n ∷ ns) z = ap (λ (l : List HousePassOf). o.pass ∷ l) (befores os ns z.1)

  afters : (olds news : List (Booth HousePassOf R)) (z : AllZip Was olds news) → map (λ (c : Booth HousePassOf R). c.pass) news ≡ map (λ (d : DoorRun R L). d.after) (runs_of olds news z)
  afters [] [] z = refl
  afters [] (n ∷ ns) z = absurd z
  afters (o ∷ os) [] z = absurd z
  afters (o ∷ os) (n ∷ ns) z = ap (λ (l : List HousePassOf). n.pass ∷ l) (afters os ns z.1)

  doors_of : (olds news : List (Booth HousePassOf R)) (z : AllZip Was olds news) → map (λ (c : Booth HousePassOf R). c.door) olds ≡ map (λ (d : DoorRun R L). d.door) (runs_of olds news z)
  doors_of [] [] z = refl
  doors_of [] (n ∷ ns) z = absurd z
  doors_of (o ∷ os) [] z = absurd z
  doors_of (o ∷ os) (n ∷ ns) z = ap (λ (l : List R). o.door ∷ l) (doors_of os ns z.1)

  logs_of : (olds news : List (Booth HousePassOf R)) (z : AllZip Was olds news) → map log_of news ≡ map (λ (d : DoorRun R L). d.log) (runs_of olds news z)
  logs_of [] [] z = refl
  logs_of [] (n ∷ ns) z = absurd z
  logs_of (o ∷ os) [] z = absurd z
  logs_of (o ∷ os) (n ∷ ns) z = ap (λ (l : List (DoorLog R)). log_of n ∷ l) (logs_of os ns z.1)

  run_is : (old new : Booth HousePassOf R) (w : Was old new) → IsRun told faults link_told link_faults auction sessions (run_of old new w)
  run_is old new w = record { ends = w.door.ends_are; held = w.door.held; links = w.door.links; done = w.done; failed = w.failed }

  each_run : (olds news : List (Booth HousePassOf R)) (z : AllZip Was olds news) → AllByRecursion (IsRun told faults link_told link_faults auction sessions) (runs_of olds news z)
  each_run [] [] z = tt
  each_run [] (n ∷ ns) z = absurd z
  each_run (o ∷ os) [] z = absurd z
  each_run (o ∷ os) (n ∷ ns) z = (run_is o n z.0, each_run os ns z.1)

  passes_still : (olds news : List (Booth HousePassOf R)) → AllZip Was olds news → AreStill (map (λ (c : Booth HousePassOf R). c.pass) olds) (map (λ (c : Booth HousePassOf R). c.pass) news)
  passes_still [] [] z = tt
  passes_still [] (n ∷ ns) z = absurd z
  passes_still (o ∷ os) [] z = absurd z
  passes_still (o ∷ os) (n ∷ ns) z = (z.0.still, passes_still os ns z.1)

  module _ {D : Type 0} (house : HouseOf D) (olds news : List (Booth HousePassOf R)) (z : AllZip Was olds news) (passes : List HousePassOf) (passes_are : map (λ (c : Booth HousePassOf R). c.pass) olds ≡ passes) (all : AreAllOf house.desks passes) where
    -- the passes at last are all of the house's
    pub all_after : AreAllOf house.desks (map (λ (c : Booth HousePassOf R). c.pass) news)
    all_after = all_still_of house.desks (map (λ (c : Booth HousePassOf R). c.pass) olds) (map (λ (c : Booth HousePassOf R). c.pass) news) (passes_still olds news z) (subst (AreAllOf house.desks) (sym passes_are) all)

    pub served : (doors : List R) (books : List (BookOf D)) (logs : List (DoorLog R)) → map (λ (c : Booth HousePassOf R). c.door) olds ≡ doors → logs ≡ map log_of news → AllByRecursion (IsNewPass house) passes
        → AreClosed house.desks (map (λ (c : Booth HousePassOf R). c.pass) news) books → IsServed told faults link_told link_faults auction sessions house passes doors books logs
    served doors books logs doors_are logs_are new closed =
        let runs = runs_of olds news z in
        let before : passes ≡ map (λ (d : DoorRun R L). d.before) runs = sym passes_are ∙ befores olds news z in
        let shut : AreClosed house.desks (map (λ (d : DoorRun R L). d.after) runs) books = subst (λ (l : List HousePassOf). AreClosed house.desks l books) (afters olds news z) closed in
        record {
          runs = runs;
          passes_are = before;
          doors_are = sym doors_are ∙ doors_of olds news z;
          logs_are = logs_are ∙ logs_of olds news z;
          each = each_run olds news z;
          closed = shut;
          joins = joins told faults link_told link_faults auction sessions house runs books (each_run olds news z) (subst (AllByRecursion (IsNewPass house)) before new) (subst (AreAllOf house.desks) before all)
              (subst (AllByRecursion (λ (p : HousePassOf). length p.passes ≡ length house.desks)) (afters olds news z) all_after.rows) shut;
        }
