-- The rule of the desk: what holds of its words, its slot and all views between any two steps.
-- Word 0 is the next ticket, word 1 the ticket that is served, word 2 the number of entries, each modulo 2^64. Word 3 is the gauge of the
-- history that is shown: at the end of a turn that is the whole of it, and so it stays until the end of the next.
-- The slot has the book, or is out with the seat whose turn it is.
-- `KeepsRule` is what every step keeps. `AtHome` says in plain words what it comes to while the book lies on the desk, and `InTurn`
-- while a seat has it.
use Rattle.std.specs.Prelude.{◌≡◌, ◌≢◌, ℕ, ◌+◌, ◌%◌, ◌^◌, ◌<◌, ◌≤◌, List, [], ◌∷◌, ◌++◌, length, Option, Some, Bool, true, false, ltb, slice_index}
use mathlib.Core.Option.{some, none}
use mathlib.Core.Option as maybe
use lib.ListN.{get_elem?}
use Rattle.atomic_table.specs.Table.{State}
use Rattle.turn_desk.specs.declared.view.Stage.{Stage}
use Rattle.turn_desk.specs.declared.view.Stage.TheVariants.{Rests, Waits, Holds}
use Rattle.turn_desk.specs.declared.view.View.{View}
use Rattle.turn_desk.specs.Histories.{StartsWith, StartsWithAll, StandIn, times_at, total, one_if, between}
use Rattle.turn_desk.specs.Views.{active, holding, at_ticket, ticket_of, reached, numbered}

-- the slot: empty while its value is out
abbrev pub home : {B : Type 0} → Bool → B → maybe.Option (Option B)
home true b = none
home false b = some (Some b)

-- the holder has the ticket that is served, and knows the history
abbrev pub FitsTurn : {E : Type 0} → ℕ → List E → Stage E → Type 0
FitsTurn serving history Rests = Unit {0}
FitsTurn serving history (Waits n) = Unit {0}
FitsTurn serving history (Holds n before more) = (n ≡ serving) × (before ++ more ≡ history)

module _ {E O : Type 0} where
  -- what a view knows of the ticket that is served, of the history and how far it is shown, and of the origin and the length at the start
  pub record Fits (serving : ℕ) (history shown : List E) (origin : O) (start : ℕ) (v : View E O) : Type 0 where
    pub turn_is : FitsTurn serving history v.stage
    pub seen : StartsWith shown v.seen
    pub also : StartsWithAll shown v.also
    pub own : StandIn history v.own
    pub origin_is : 0 < v.seats → v.origin ≡ Some origin
    pub start_is : 0 < v.seats → v.start ≡ start
    pub busy : active v.stage ≤ v.seats
    pub spent : v.seats ≡ 0 → v.own ≡ []

  -- each ticket from the one that is served to the next one is in one seat's hands
  pub record IsQueue (serving ticket : ℕ) (views : List (View E O)) : Type 0 where
    pub length_is : ticket ≡ serving + total (λ (v : View E O). active v.stage) views
    pub tickets : (n : ℕ) → total (λ (v : View E O). at_ticket n v.stage) views ≡ between serving ticket n

  -- the seats that are not spent have different numbers, each below the number of seats made, which one seat keeps
  pub record IsCrew (views : List (View E O)) : Type 0 where
    pub maker : ℕ
    pub others : (j : ℕ) (v : View E O) → get_elem? views j ≡ some v → j ≢ maker → v.made ≡ 0
    pub seats : total (λ (v : View E O). v.seats) views ≡ total (λ (v : View E O). v.made) views
    pub numbers : (n : ℕ) → total (numbered n) views ≤ one_if (ltb n (total (λ (v : View E O). v.made) views))
    pub few : total (λ (v : View E O). v.made) views ≤ 64

module _ {B E O : Type 0} (history : B → List E) (origin : B → O) (gauge : O → List E → ℕ) (first : B) where
  -- what every step keeps, of a desk that was opened with the book `first`
  pub record KeepsRule (s : State (Option B) (View E O)) : Type 0 where
    -- what the four words and the home are read as: tickets that were drawn and served, the entries, those that are shown, the book
    pub ticket : ℕ
    pub serving : ℕ
    pub log : List E
    pub shown : List E
    pub out : Bool
    pub book : B
    -- they are just these
    pub words_are : s.words ≡ ticket % 2 ^ 64 ∷ serving % 2 ^ 64 ∷ length log % 2 ^ 64 ∷ gauge (origin first) shown ∷ []
    pub homes_are : s.homes ≡ home out book ∷ []
    -- where nobody has the turn, the book is at home with all entries
    pub book_is : out ≡ false → (history book ≡ log) × (origin book ≡ origin first)
    -- the history began as the book was opened, and what is shown is a front of it: all of it, where nobody has the turn
    pub goes_on : StartsWith log (history first)
    pub shown_in : StartsWith log shown
    pub settled : out ≡ false → shown ≡ log
    -- who has the turn has the book, and each view fits
    pub holders : total (λ (v : View E O). holding v.stage) s.views ≡ one_if out
    pub each : (j : ℕ) (v : View E O) → get_elem? s.views j ≡ some v → Fits serving log shown (origin first) (length (history first)) v
    -- each place beyond the opening is the own place of just one view
    pub places : (k : ℕ) → total (λ (v : View E O). times_at k v.own) s.views ≡ between (length (history first)) (length log) k
    -- the views that wait stand in line after the ticket that is served, and the views are of one crew
    pub queue : IsQueue serving ticket s.views
    pub crew : IsCrew s.views

module _ {B E O : Type 0} (history : B → List E) (origin : B → O) (first : B) where
  -- what tells views apart, whether the book is out or not
  pub record AreApart (views : List (View E O)) : Type 0 where
    -- views that are not spent have different numbers, the first book's origin, and the length of its history
    pub numbers : (i j : ℕ) (v w : View E O) → get_elem? views i ≡ some v → get_elem? views j ≡ some w → 0 < v.seats → 0 < w.seats → v.number ≡ w.number → i ≡ j
    pub below : (j : ℕ) (v : View E O) → get_elem? views j ≡ some v → 0 < v.seats → v.number < total (λ (w : View E O). w.made) views
    pub origins : (j : ℕ) (v : View E O) → get_elem? views j ≡ some v → 0 < v.seats → (v.origin ≡ Some (origin first)) × (v.start ≡ length (history first))
    -- one view at most keeps how many were made
    pub maker : (i j : ℕ) (v w : View E O) → get_elem? views i ≡ some v → get_elem? views j ≡ some w → 0 < v.made → 0 < w.made → i ≡ j

module _ {B E O : Type 0} (history : B → List E) (origin : B → O) (gauge : O → List E → ℕ) (first : B) where
  -- what is so while the book lies on the desk
  pub record AtHome (book : B) (s : State (Option B) (View E O)) : Type 0 where
    -- the count is that of the book's history, which goes on from the first book's, and the origin is the first book's
    pub count : slice_index s.words 2 ≡ length (history book) % 2 ^ 64
    -- and so is the gauge
    pub gauge_is : slice_index s.words 3 ≡ gauge (origin first) (history book)
    pub goes_on : StartsWith (history book) (history first)
    pub origin_is : origin book ≡ origin first
    -- the history begins with what each view has seen, or took over from views that it joined, and has each view's own entries at
    -- their places
    pub seen : (j : ℕ) (v : View E O) → get_elem? s.views j ≡ some v → StartsWith (history book) v.seen
    pub also : (j : ℕ) (v : View E O) → get_elem? s.views j ≡ some v → StartsWithAll (history book) v.also
    pub own : (j : ℕ) (v : View E O) → get_elem? s.views j ≡ some v → StandIn (history book) v.own
    -- each place beyond the first book's history is the own place of exactly one view, and no other place is
    pub places : (k : ℕ) → total (λ (v : View E O). times_at k v.own) s.views ≡ between (length (history first)) (length (history book)) k
    pub apart : AreApart history origin first s.views
    -- the next ticket is the one that is served and the number of views that wait, since none holds the turn
    pub queue : slice_index s.words 0 ≡ (slice_index s.words 1 + total (λ (v : View E O). active v.stage) s.views) % 2 ^ 64
    pub holders : total (λ (v : View E O). holding v.stage) s.views ≡ 0

  -- what is so while the view w, at this place among the views, has the turn
  pub record InTurn (place : ℕ) (w : View E O) (s : State (Option B) (View E O)) : Type 0 where
    -- the book is out, its ticket is the one that is served, and no other view has the turn
    pub slot : s.homes ≡ none ∷ []
    pub serving : slice_index s.words 1 ≡ ticket_of w.stage % 2 ^ 64
    pub alone : (j : ℕ) (v : View E O) → j ≢ place → get_elem? s.views j ≡ some v → holding v.stage ≡ 0
    -- the count is that of the history that it has reached, which begins with what each view has seen and has each view's own entries
    pub count : slice_index s.words 2 ≡ length (reached w.stage) % 2 ^ 64
    -- the gauge is that of a front of it
    pub shown : List E
    pub shown_in : StartsWith (reached w.stage) shown
    pub gauge_is : slice_index s.words 3 ≡ gauge (origin first) shown
    pub goes_on : StartsWith (reached w.stage) (history first)
    pub seen : (j : ℕ) (v : View E O) → get_elem? s.views j ≡ some v → StartsWith (reached w.stage) v.seen
    pub also : (j : ℕ) (v : View E O) → get_elem? s.views j ≡ some v → StartsWithAll (reached w.stage) v.also
    pub own : (j : ℕ) (v : View E O) → get_elem? s.views j ≡ some v → StandIn (reached w.stage) v.own
    pub places : (k : ℕ) → total (λ (v : View E O). times_at k v.own) s.views ≡ between (length (history first)) (length (reached w.stage)) k
    pub apart : AreApart history origin first s.views
    -- the next ticket is the one that is served and the number of views that wait or have the turn
    pub queue : slice_index s.words 0 ≡ (slice_index s.words 1 + total (λ (v : View E O). active v.stage) s.views) % 2 ^ 64
