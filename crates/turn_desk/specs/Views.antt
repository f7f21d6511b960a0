-- The view of a seat at the desk: what its thread knows of the ticket lock, and what the desk may rely on it for.
-- A ticket lock is that of J. M. Mellor-Crummey and M. L. Scott, "Algorithms for Scalable Synchronization on Shared-Memory
-- Multiprocessors", ACM Transactions on Computer Systems 9(1), 1991: each comer draws the next number, and waits until it is served.
-- A seat that rests has no ticket. A spent seat stands for none, rests, and has no entries.
use Rattle.std.specs.Prelude.{ℕ, List, [], ◌∷◌, ◌++◌, length, Option, Some, None, ◌==◌, ◌&&◌, ltb}
use Rattle.turn_desk.specs.Histories.{one_if}
use Rattle.turn_desk.specs.declared.view.Stage.{Stage}
use Rattle.turn_desk.specs.declared.view.Stage.TheVariants.{Rests, Waits, Holds}
use Rattle.turn_desk.specs.declared.view.View.{View}

module _ {E : Type 0} where
  -- 1 for a seat that waits for its turn or has it
  abbrev pub active : Stage E → ℕ
  active Rests = 0
  active (Waits n) = 1
  active (Holds n before more) = 1

  -- 1 for a seat whose turn it is
  abbrev pub holding : Stage E → ℕ
  holding Rests = 0
  holding (Waits n) = 0
  holding (Holds n before more) = 1

  -- 1 for a seat that has the ticket k
  abbrev pub at_ticket : ℕ → Stage E → ℕ
  at_ticket k Rests = 0
  at_ticket k (Waits n) = one_if (k == n)
  at_ticket k (Holds n before more) = one_if (k == n)

  -- the ticket of a seat that has one
  abbrev pub ticket_of : Stage E → ℕ
  ticket_of Rests = 0
  ticket_of (Waits n) = n
  ticket_of (Holds n before more) = n

  -- the history when the turn began
  abbrev pub began : Stage E → List E
  began Rests = []
  began (Waits n) = []
  began (Holds n before more) = before

  -- the entries appended in this turn
  abbrev pub added : Stage E → List E
  added Rests = []
  added (Waits n) = []
  added (Holds n before more) = more

  -- the history that the holder has reached
  abbrev pub reached : Stage E → List E
  reached stage = began stage ++ added stage

  -- 0 for a seat that rests, and for one at the start of its turn
  abbrev pub unsteady : Stage E → ℕ
  unsteady Rests = 0
  unsteady (Waits n) = 1
  unsteady (Holds n before more) = length more

  -- the slots in the hands of a seat between two calls: the holder's, whose book is out
  abbrev pub hands_of : {B : Type 0} → Stage E → List (ℕ × Option B)
  hands_of Rests = []
  hands_of (Waits n) = []
  hands_of (Holds n before more) = (0, None) ∷ []

module _ {E O : Type 0} where
  -- the view in another stage
  abbrev pub posed : View E O → Stage E → View E O
  posed v stage = record v { stage = stage }

  -- the view of the first seat, before any other is split from it
  abbrev pub founder : List E → O → View E O
  founder history origin = record { stage = Rests; seen = history; also = []; own = []; origin = Some origin; start = length history; number = 0; seats = 1; made = 1 }

  -- 1 if the view is not spent and has this number
  abbrev pub numbered : ℕ → View E O → ℕ
  numbered n v = one_if (ltb 0 v.seats && (n == v.number))
