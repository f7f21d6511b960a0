-- What contracts see of a desk and of its passes.
-- A pass rests, or holds the turn: then it has the history that the book had at the take.
-- Its own entries are those that it appended, each with its place. The first pass knows how many were made; the others have 0 there.
use Rattle.std.specs.Prelude.{◌≡◌, ℕ, suc, ◌+◌, ◌%◌, ◌^◌, ◌<◌, List, [], ◌∷◌, ◌++◌, length, drop, Option, Some, None, unwrap_or}
use Rattle.std.specs.List.{AllByRecursion}
use Rattle.atomic_table.specs.Seated.{TableId}
use Rattle.atomic_table.specs.Table.{Me}
use Rattle.turn_desk.specs.declared.view.Stage.{Stage}
use Rattle.turn_desk.specs.declared.view.Stage.TheVariants.{Rests, Waits, Holds}
use Rattle.turn_desk.specs.declared.view.View.{View}
use Rattle.turn_desk.specs.Histories.{StartsWith, StartsWithAll, StandIn, placed, times_at, total, between}
use Rattle.turn_desk.specs.Views.{began, unsteady, hands_of}

-- which desk, and the book that was laid on it at first
pub record Opened (B : Type 0) : Type 0 where
  pub id : TableId
  pub book : B

-- of which desk a pass is, and what it knows
pub record Known (E O : Type 0) : Type 0 where
  pub desk : TableId
  pub number : ℕ
  pub origin : Option O
  pub start : ℕ
  pub seen : List E
  -- what passes that it heard of had seen
  pub also : List (List E)
  pub own : List (ℕ × E)
  pub turn : Option (List E)
  pub made : ℕ

-- of which desk a witness is, and the history that the pass had seen of which it was made
pub record Witnessed (E : Type 0) : Type 0 where
  pub desk : TableId
  pub seen : List E

-- the history at the take, while the turn lasts
abbrev pub turn_of : {E : Type 0} → Stage E → Option (List E)
turn_of Rests = None
turn_of (Waits n) = None
turn_of (Holds n before more) = Some before

module _ {E O : Type 0} where
  -- a view, as contracts see it
  abbrev pub known : TableId → View E O → Known E O
  known desk v = record { desk = desk; number = v.number; origin = v.origin; start = v.start; seen = v.seen; also = v.also; own = v.own; turn = turn_of v.stage; made = v.made }

  -- what holds of a pass between two calls, beside its number and the count of entries at the take
  pub record IsSteady {B : Type 0} (number count : ℕ) (me : Me (Option B) (View E O)) : Type 0 where
    pub number_is : me.0.number ≡ number
    pub count_is : count ≡ length (began me.0.stage) % 2 ^ 64
    pub hands_are : me.1 ≡ hands_of me.0.stage
    pub steady : unsteady me.0.stage ≡ 0
    pub whole : me.0.seats ≡ 1

  -- what a witness keeps, whose seat is none of the desk's: it has no turn, no entries, and nothing that it heard of itself
  pub record IsWitness {B : Type 0} (me : Me (Option B) (View E O)) : Type 0 where
    pub rests : me.0.stage ≡ Rests
    pub hands : me.1 ≡ []
    pub nobody : me.0.seats ≡ 0
    pub none_made : me.0.made ≡ 0
    pub none_own : me.0.own ≡ []
    pub none_also : me.0.also ≡ []

  -- the pass has heard of this history
  abbrev pub heard : Known E O → List E → Known E O
  heard p history = record p { also = history ∷ p.also }

  -- the pass has the turn, which began with this history
  abbrev pub at_turn : Known E O → List E → Known E O
  at_turn p history = record p { turn = Some history }

  -- the pass rests, has seen this history, and has as its own what was appended in the turn
  abbrev pub after_giving : Known E O → List E → Known E O
  after_giving p history = let before = unwrap_or p.turn [] in record p { turn = None; seen = history; own = p.own ++ placed (length before) (drop (length before) history) }

  -- A glance by a pass: it tells the gauge of a history that begins with all that the pass has seen and heard of. Afterwards it has seen this
  -- history.
  pub record PassGlances (gauge : O → List E → ℕ) (p : Known E O) (found : ℕ) (p' : Known E O) : Type 0 where
    pub origin : O
    pub origin_is : p.origin ≡ Some origin
    pub history : List E
    pub goes_on : StartsWith history p.seen
    pub also : StartsWithAll history p.also
    pub gauge_is : found ≡ gauge origin history
    pub sees : p' ≡ record p { seen = history }

  -- a new pass, which rests: the first of n is `new_pass desk history origin n 0`
  abbrev pub new_pass : TableId → List E → O → ℕ → ℕ → Known E O
  new_pass desk history origin made number = record { desk = desk; number = number; origin = Some origin; start = length history; seen = history; also = []; own = []; turn = None; made = made }

  -- new passes with the numbers from k on
  abbrev pub AreLater : TableId → List E → O → ℕ → List (Known E O) → Type 0
  AreLater desk history origin k [] = Unit {0}
  AreLater desk history origin k (p ∷ ps) = (p ≡ new_pass desk history origin 0 k) × AreLater desk history origin (k + 1) ps

  -- n new passes with the numbers from 0 on
  abbrev pub AreNew : ℕ → TableId → List E → O → List (Known E O) → Type 0
  AreNew n desk history origin [] = n ≡ 0
  AreNew n desk history origin (p ∷ ps) = (n ≡ suc (length ps)) × (p ≡ new_pass desk history origin n 0) × AreLater desk history origin 1 ps

  -- all passes of a desk, in any order, each at rest
  pub record AreAll (desk : TableId) (passes : List (Known E O)) : Type 0 where
    pub desks : AllByRecursion (λ (p : Known E O). p.desk ≡ desk) passes
    pub rest : AllByRecursion (λ (p : Known E O). p.turn ≡ None) passes
    pub some_pass : 0 < length passes
    pub all : total (λ (p : Known E O). p.made) passes ≡ length passes

  -- the entries of all these, each with its place
  abbrev pub owns : List (Known E O) → List (ℕ × E)
  owns [] = []
  owns (p ∷ ps) = p.own ++ owns ps

  -- one view that rests stands for these passes
  pub record Gathers (v : View E O) (passes : List (Known E O)) : Type 0 where
    pub rests : v.stage ≡ Rests
    pub some_seat : 0 < v.seats
    pub own : v.own ≡ owns passes
    pub seats : v.seats ≡ length passes
    pub made : v.made ≡ total (λ (p : Known E O). p.made) passes
    pub seen : (history : List E) → StartsWith history v.seen → StartsWithAll history v.also → AllByRecursion (λ (p : Known E O). StartsWith history p.seen) passes
    pub also : (history : List E) → StartsWithAll history v.also → AllByRecursion (λ (p : Known E O). StartsWithAll history p.also) passes

-- the book of a closed desk, of which `first` was the book at the start and these were the passes
pub record Closes {B E O : Type 0} (history : B → List E) (origin : B → O) (first : B) (passes : List (Known E O)) (book : B) : Type 0 where
  pub origin_is : origin book ≡ origin first
  pub goes_on : StartsWith (history book) (history first)
  pub seen : AllByRecursion (λ (p : Known E O). StartsWith (history book) p.seen) passes
  pub also : AllByRecursion (λ (p : Known E O). StartsWithAll (history book) p.also) passes
  pub own : AllByRecursion (λ (p : Known E O). StandIn (history book) p.own) passes
  -- each place beyond the first book's history is the own place of exactly one pass, and no other place is
  pub places : (k : ℕ) → total (λ (p : Known E O). times_at k p.own) passes ≡ between (length (history first)) (length (history book)) k
