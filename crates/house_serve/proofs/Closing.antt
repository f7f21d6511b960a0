-- The doors of a house that was served and closed.
use Rattle.std.proofs.Common.{◌≡◌, ℕ, ◌<◌, List, [], ◌∷◌, length, map, get_or, ◌∙◌, subst, arith}
use Rattle.std.specs.List.{AllByRecursion}
use Rattle.house_io.specs.Links.{LinkBytes}
use Rattle.house_io.specs.Doors.{DoorLinks}
use Rattle.std.specs.Prelude.{Option}
use Rattle.auction_file.specs.declared.listing.Auction.{Auction}
use Rattle.clock_book.specs.Books.{BookOf}
use Rattle.clock_book.specs.declared.entries.Entry.{Entry}
use Rattle.clock_book.specs.declared.origins.Origin.{Origin}
use Rattle.turn_desk.specs.Passes.{Known, Opened, Closes}
use Rattle.clock_family.specs.Houses.{HouseOf, HousePassOf, IsNewPass, AreAllOf, AreClosed, still}
use Rattle.house_serve.specs.Houses.{DoorRun, IsRun, Joins}
use Rattle.house_serve.proofs.Leading.{seen_at, own_at}
use Rattle.house_serve.proofs.Bridging.{visits_lead}
use Rattle.house_serve.proofs.Joining.{RunsAt, all_turns, column_is, joined}

some_at : {A : Type 0} (xs : List A) (k : ℕ) → k < length xs → A
some_at [] k below = absurd (omega (arith, below))
some_at (x ∷ xs) k below = x

module _ {R L D : Type 0} (told : R → Option (DoorLinks L)) (faults : R → ℕ) (link_told : L → Option LinkBytes) (link_faults : L → ℕ) (auction : Auction) (sessions : ℕ) (house : HouseOf D) where
  -- each pass has a place for each desk
  abbrev pub HasRow : HousePassOf → Type 0
  HasRow p = length p.passes ≡ length house.desks

  runs_at : (blank : Known Entry Origin) (clock : ℕ) (first : Opened (BookOf D)) → clock < length house.desks → (ds : List (DoorRun R L)) → AllByRecursion (IsRun told faults link_told link_faults auction sessions) ds
      → AllByRecursion (IsNewPass house) (map (λ (d : DoorRun R L). d.before) ds) → AllByRecursion HasRow (map (λ (d : DoorRun R L). d.after) ds)
      → AllByRecursion (RunsAt clock (get_or house.desks clock first).book.state.history) ds
  runs_at blank clock first below [] each new rows = tt
  runs_at blank clock first below (d ∷ ds) each new rows =
      let fresh : IsNewPass house d.before = new.0 in
      let count : length d.before.passes ≡ length house.desks = fresh.of_house.count in (
        record {
          leads = visits_lead link_told link_faults auction d.visits d.before d.after each.0.held;
          opened = seen_at blank clock [] d.before ∙ fresh.seen clock first (still blank) below;
          none = own_at blank clock [] d.before ∙ fresh.own clock (still blank) (omega (arith, count, below));
          within = (let r = rows.0 in omega (arith, r, below));
        },
        runs_at blank clock first below ds each.1 new.1 rows.1,
      )

  pub joins : (ds : List (DoorRun R L)) (books : List (BookOf D)) → AllByRecursion (IsRun told faults link_told link_faults auction sessions) ds → AllByRecursion (IsNewPass house) (map (λ (d : DoorRun R L). d.before) ds)
      → AreAllOf house.desks (map (λ (d : DoorRun R L). d.before) ds) → AllByRecursion HasRow (map (λ (d : DoorRun R L). d.after) ds) → AreClosed house.desks (map (λ (d : DoorRun R L). d.after) ds) books
      → (clock : ℕ) (first : Opened (BookOf D)) (book : BookOf D) → clock < length house.desks
      → Joins (get_or house.desks clock first).book.state.history (get_or books clock book).state.history (all_turns ds) clock
  joins [] books each new all rows closed clock first book below = absurd (let some = (all.columns clock first below).some_pass in omega (arith, some))
  joins (d ∷ ds) books each new all rows closed clock first book below =
      let count : length d.before.passes ≡ length house.desks = new.0.of_house.count in
      let blank : Known Entry Origin = some_at d.before.passes clock (omega (arith, count, below)) in
      let runs = runs_at blank clock first below (d ∷ ds) each new rows in
      let opening : List Entry = (get_or house.desks clock first).book.state.history in
      let shut : List Entry = (get_or books clock book).state.history in
      let c = subst (λ (l : List (Known Entry Origin)). Closes (λ (b : BookOf D). b.state.history) (λ (b : BookOf D). b.origin) (get_or house.desks clock first).book l (get_or books clock book))
      (column_is blank clock opening shut (d ∷ ds) runs) (closed.each clock first book below) in
      joined blank clock opening shut (d ∷ ds) runs (record { goes_on = c.goes_on; seen = c.seen; own = c.own; places = c.places })
