-- The steps of the desk: what each tells the seat that takes it, of the view before and the view after.
-- There are eleven kinds: draw a ticket, read which is served, take the book out, append one entry, put the book back, write the gauge, pass on,
-- read the gauge, split a seat, split a witness, join a seat. Taking out and putting back change the slot in the holder's hands, and no view.
use Rattle.std.specs.Prelude.{◌≡◌, ◌≢◌, ℕ, ◌+◌, ◌%◌, ◌^◌, List, [], ◌∷◌, ◌++◌, length, drop, Option, Some, None}
use Rattle.atomic_table.specs.Table.{Me, Step, rest}
use Rattle.turn_desk.specs.declared.view.Stage.TheVariants.{Rests, Waits, Holds}
use Rattle.turn_desk.specs.declared.view.View.{View}
use Rattle.turn_desk.specs.Histories.{StartsWith, StartsWithAll, StandIn, placed, times_at, between}
use Rattle.turn_desk.specs.Views.{ticket_of, began, added, reached, posed}

-- a seat: its view, and the slots in its hands
abbrev pub Seated : Type 0 → Type 0 → Type 0 → Type 0
Seated B E O = Me (Option B) (View E O)

-- the history of the book in hand
abbrev pub in_hand : {B E : Type 0} → (B → List E) → List (ℕ × Option B) → List E
in_hand history [] = []
in_hand history ((k, None) ∷ xs) = []
in_hand history ((k, Some b) ∷ xs) = history b

module _ {E O : Type 0} where
  -- it waits with a ticket that shows as this number
  abbrev pub DrawsTicket : View E O → ℕ → View E O → Type 0
  DrawsTicket v found w = (n : ℕ) × (found ≡ n % 2 ^ 64) × (w ≡ posed v (Waits n))

  -- the view one entry on: the entry is reached, and is its own, with its place
  abbrev pub grown : View E O → E → View E O
  grown v e = record v { stage = Holds (ticket_of v.stage) (began v.stage) (added v.stage ++ e ∷ []); own = v.own ++ (length (reached v.stage), e) ∷ [] }

  -- the view that has seen what it has reached, which it shows to all
  abbrev pub shown_to : View E O → View E O
  shown_to v = record v { seen = reached v.stage }

  -- a glance at a history that begins with what was seen and heard of, and then all of it is seen
  pub record Glances (gauge : O → List E → ℕ) (v : View E O) (found : ℕ) (w : View E O) : Type 0 where
    pub origin : O
    pub origin_is : v.origin ≡ Some origin
    pub history : List E
    pub goes_on : StartsWith history v.seen
    pub also : StartsWithAll history v.also
    pub gauge_is : found ≡ gauge origin history
    pub sees : w ≡ record v { seen = history }

  -- the view after its turn
  abbrev pub rested : View E O → View E O
  rested v = record v { stage = Rests; seen = reached v.stage }

  -- the view that is split, and the new one, which has the first number not yet made
  abbrev pub parent : View E O → View E O
  parent v = record v { made = v.made + 1 }

  abbrev pub child : View E O → View E O
  child v = record { stage = Rests; seen = v.seen; also = []; own = []; origin = v.origin; start = v.start; number = v.made; seats = 1; made = 0 }

  -- one view for two, and the one that is spent
  abbrev pub both_of : View E O → View E O → View E O
  both_of v w = record v { also = w.seen ∷ (w.also ++ v.also); own = w.own ++ v.own; seats = v.seats + w.seats; made = v.made + w.made }

  -- a view that stands for no seat, and has seen what this one has
  abbrev pub witness : View E O → View E O
  witness v = record { stage = Rests; seen = v.seen; also = []; own = []; origin = None; start = 0; number = 0; seats = 0; made = 0 }

  abbrev pub nobody : View E O
  nobody = record { stage = Rests; seen = []; also = []; own = []; origin = None; start = 0; number = 0; seats = 0; made = 0 }

  -- a whole turn: it begins with this history
  abbrev pub TakesTurn : View E O → List E → View E O → Type 0
  TakesTurn v history w = (n : ℕ) × (w ≡ posed v (Holds n history []))

  -- and it ends with this one, of which what was appended is the view's own
  abbrev pub after_turn : View E O → List E → View E O
  after_turn v history = record v { stage = Rests; seen = history; own = v.own ++ placed (length (began v.stage)) (drop (length (began v.stage)) history) }

module _ {B E O : Type 0} where
  abbrev pub drawn : Step (Option B) → Seated B E O → ℕ → Seated B E O → Type 0
  drawn st m found m' = (n : ℕ) × (found ≡ n % 2 ^ 64) × (m' ≡ (posed m.0 (Waits n), m.1))

  -- the turn begins, with a book that goes on from what was seen and heard of and has the origin that the view knows
  abbrev pub Begins : (B → List E) → (B → O) → Seated B E O → Seated B E O → Type 0
  Begins history origin m m' =
      (b : B) × (m' ≡ (posed m.0 (Holds (ticket_of m.0.stage) (history b) []), (0, Some b) ∷ m.1)) × StartsWith (history b) m.0.seen × (m.0.origin ≡ Some (origin b)) × StartsWithAll (history b) m.0.also

  -- the turn begins where the number served is the ticket's own, and else nothing changes
  abbrev pub looked : (B → List E) → (B → O) → Step (Option B) → Seated B E O → ℕ → Seated B E O → Type 0
  looked history origin st m found m' =
      (found ≡ ticket_of m.0.stage % 2 ^ 64 → Begins history origin m m')
      × (found ≢ ticket_of m.0.stage % 2 ^ 64 → m' ≡ m)

  -- the next entry of the book in hand becomes the view's own
  abbrev pub appended : (B → List E) → Step (Option B) → Seated B E O → ℕ → Seated B E O → Type 0
  appended history st m found m' = (e : E) × StartsWith (in_hand history m.1) (reached m.0.stage ++ e ∷ []) × (m' ≡ (grown m.0 e, m.1))

  abbrev pub told : Step (Option B) → Seated B E O → ℕ → Seated B E O → Type 0
  told st m stored m' = m' ≡ (shown_to m.0, m.1)

  abbrev pub glanced : (O → List E → ℕ) → Step (Option B) → Seated B E O → ℕ → Seated B E O → Type 0
  glanced gauge st m found m' = Glances gauge m.0 found m'.0 × (m'.1 ≡ m.1)

  abbrev pub passed : Step (Option B) → Seated B E O → ℕ → Seated B E O → Type 0
  passed st m found m' = m' ≡ (rested m.0, rest m.1)

  -- what is known at the end, of the book and of the one view that stands for all
  pub record Ends (history : B → List E) (origin : B → O) (first : B) (v : View E O) (b : B) : Type 0 where
    pub origin_is : origin b ≡ origin first
    pub goes_on : StartsWith (history b) (history first)
    pub seen : StartsWith (history b) v.seen
    pub also : StartsWithAll (history b) v.also
    pub own : StandIn (history b) v.own
    pub places : (k : ℕ) → times_at k v.own ≡ between (length (history first)) (length (history b)) k
