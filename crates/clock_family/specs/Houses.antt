-- A house and its passes, as contracts see them: how they are opened, and how they are closed.
use Rattle.std.specs.Prelude.{◌≡◌, ◌<◌, ℕ, Bool, List, [], ◌∷◌, ◌++◌, length, map, take, drop, slice_index_or, Option, Some, None}
use Rattle.house_io.specs.Disks.{DiskShown}
use Rattle.std.specs.List.{AllByRecursion}
use Rattle.lot_base.specs.declared.auction_terms.Terms.{Terms}
use Rattle.house_io.specs.Moments.{Moments}
use Rattle.recovery.specs.Journaled.{owner_of}
use Rattle.clock_book.specs.Books.{BookOf}
use Rattle.clock_book.specs.Opened.{Opens}
use Rattle.clock_book.specs.declared.entries.Entry.{Entry}
use Rattle.clock_book.specs.declared.origins.Origin.{Origin}
use Rattle.turn_desk.specs.Passes.{Opened, Known, AreAll, Closes}
use Rattle.clock_family.specs.Turns.{AreOf}

-- the terms of an auction, the digest of its file, and a desk for each clock, in order
pub record HouseOf (D : Type 0) : Type 0 where
  pub terms : Terms
  pub digest : List ℕ
  pub desks : List (Opened (BookOf D))

-- a pass for each desk of a house, in order. The first one of a house has room to close one of so many passes; any other has 0 there.
pub record HousePassOf : Type 0 where
  pub passes : List (Known Entry Origin)
  pub room : ℕ

-- for how many passes, and for how many clocks, there is room to close a house
pub record ClosingOf : Type 0 where
  pub room : ℕ
  pub clocks : ℕ

-- for how many passes there is room, which may be for none
abbrev pub room_of : Option ClosingOf → ℕ
room_of None = 0
room_of (Some c) = c.room

-- a pass but for what it has seen and made
abbrev pub still : Known Entry Origin → Known Entry Origin
still p = record p { seen = []; own = [] }

abbrev pub all_still : HousePassOf → HousePassOf
all_still p = record p { passes = map still p.passes }

-- the passes of the desk at this place, one of each pass of the house
abbrev pub column : ℕ → List HousePassOf → List (Known Entry Origin)
column clock [] = []
column clock (p ∷ ps) = take 1 (drop clock p.passes) ++ column clock ps

-- the room that the first pass has
abbrev pub room_in : List HousePassOf → ℕ
room_in [] = 0
room_in (p ∷ ps) = p.room

-- all passes of a house, in order, each at rest
pub record AreAllOf {B : Type 0} (desks : List (Opened B)) (passes : List HousePassOf) : Type 0 where
  pub rows : AllByRecursion (λ (p : HousePassOf). length p.passes ≡ length desks) passes
  pub columns : (k : ℕ) (d : Opened B) → k < length desks → AreAll (slice_index_or desks k d).id (column k passes)
  pub room : room_in passes ≡ length passes

-- a new pass of a house: it is of the desks' books, has seen their histories at the opening, and has made nothing
pub record IsNewPass {D : Type 0} (house : HouseOf D) (p : HousePassOf) : Type 0 where
  pub of_house : AreOf house.terms house.digest house.desks p.passes
  pub origin : (k : ℕ) (d : Opened (BookOf D)) (q : Known Entry Origin) → k < length house.desks → (slice_index_or p.passes k q).origin ≡ Some (slice_index_or house.desks k d).book.origin
  pub seen : (k : ℕ) (d : Opened (BookOf D)) (q : Known Entry Origin) → k < length house.desks → (slice_index_or p.passes k q).seen ≡ (slice_index_or house.desks k d).book.state.history
  pub own : (k : ℕ) (q : Known Entry Origin) → k < length p.passes → (slice_index_or p.passes k q).own ≡ []

-- A house that was opened on these disks, one for each clock, with so many new passes.
pub record IsOpened {D : Type 0} (shown : D → DiskShown) (terms : Terms) (digest : List ℕ) (count : ℕ) (disks : List D) (house : HouseOf D) (passes : List HousePassOf) : Type 0 where
  pub terms_are : house.terms ≡ terms
  pub digest_is : house.digest ≡ digest
  pub clocks : length house.desks ≡ length disks
  pub books : (k : ℕ) (x : D) (d : Opened (BookOf D)) → k < length disks → Opens shown (owner_of terms k digest) (slice_index_or disks k x) (slice_index_or house.desks k d).book
  pub count_is : length passes ≡ count
  pub new : AllByRecursion (IsNewPass house) passes
  pub all : AreAllOf house.desks passes

-- The books of a closed house, of whose desks these were, in order: the history of each begins with that at the opening and with what
-- each pass has seen, and each place beyond the opening is the own place of exactly one pass.
pub record AreClosed {D : Type 0} (desks : List (Opened (BookOf D))) (passes : List HousePassOf) (books : List (BookOf D)) : Type 0 where
  pub count : length books ≡ length desks
  pub each : (k : ℕ) (d : Opened (BookOf D)) (b : BookOf D) → k < length desks
      → Closes (λ (book : BookOf D). book.state.history) (λ (book : BookOf D). book.origin) (slice_index_or desks k d).book (column k passes) (slice_index_or books k b)
