-- What a pass does in its turn, in the words of the desk's history alone.
use Rattle.std.specs.Prelude.{◌≡◌, ◌≢◌, ℕ, ◌+◌, ◌<◌, ◌≤◌, List, [], ◌∷◌, ◌++◌, length, Some, None, slice_index_or}
use Rattle.lot_base.specs.declared.auction_terms.Terms.{Terms}
use Rattle.lot_base.specs.declared.limits.TheConstants.{GREATEST_FILE}
use Rattle.demand_set.specs.declared.reports.Report.{Report}
use Rattle.clock.specs.Reports.{ClockHistory}
use Rattle.clock.specs.Judging.{judgement_of}
use Rattle.clock.specs.Standing.{last_round, phase_of, prices_of}
use Rattle.clock.specs.declared.clocks.Look.{Look}
use Rattle.clock.specs.declared.judging.Judgement.TheVariants as judged
use Rattle.clock.specs.declared.judging.Offered.{Offered}
use Rattle.clock.specs.declared.judging.Offered.TheVariants as answers
use Rattle.recovery.specs.Journaled.{Owner, owner_of}
use Rattle.clock_book.specs.declared.entries.Entry.{Entry}
use Rattle.clock_book.specs.declared.entries.Entry.TheVariants as entry
use Rattle.clock_book.specs.declared.origins.Origin.{Origin}
use Rattle.clock_book.specs.DeskHistories.{reports_in, IsInDoubt}
use Rattle.clock_book.specs.Opening.{history_of}
use Rattle.clock_book.specs.Past.{owner_in}
use Rattle.clock_book.specs.Offers.{record_end}
use Rattle.turn_desk.specs.Histories.{StartsWith, StartsWithAll}
use Rattle.turn_desk.specs.Passes.{Opened, Known, at_turn, after_giving}

-- the owner's clock with the reports of a desk's history
abbrev pub clock_in : Owner → List Entry → ClockHistory
clock_in owner history = history_of owner (reports_in history)

-- At most one report is counted first, and that only where it is in doubt.
abbrev pub IsCounted : List Entry → List Entry → Type 0
IsCounted history [] = Unit {0}
IsCounted history (entry.Counted q ∷ []) = IsInDoubt history q
IsCounted history _ = ⊥

-- What each answer appends to the history in which it is judged, and when it comes. Want of memory is never answered.
abbrev pub Appends : Owner → Offered → List Entry → Report → List Entry → Type 0
Appends owner answers.Taken history r after =
    (judgement_of (clock_in owner history) r ≡ judged.Take) × (record_end owner (reports_in history) r ≤ GREATEST_FILE) × (after ≡ history ++ entry.Offered r ∷ [])
Appends owner answers.Again history r after = (judgement_of (clock_in owner history) r ≡ judged.Again) × (after ≡ history)
Appends owner (answers.Refused judgement) history r after =
    (judgement_of (clock_in owner history) r ≡ judgement) × (judgement ≢ judged.Take) × (judgement ≢ judged.Again) × (after ≡ history)
Appends owner (answers.Full needed) history r after =
    (judgement_of (clock_in owner history) r ≡ judged.Take) × (needed ≡ record_end owner (reports_in history) r) × (GREATEST_FILE < needed) × (after ≡ history)
Appends owner answers.DiskFault history r after = after ≡ history ++ entry.Mark r ∷ []
Appends owner answers.NoMemory history r after = ⊥

-- An offer: a report that is in doubt may be counted, and then an answer follows.
pub record IsHistoryOffer (owner : Owner) (before : List Entry) (r : Report) (answer : Offered) (after : List Entry) : Type 0 where
  pub counted : List Entry
  pub is_counted : IsCounted before counted
  pub appends : Appends owner answer (before ++ counted) r after

-- what is shown of a clock
pub record Shows (c : ClockHistory) (look : Look) : Type 0 where
  pub round : look.round ≡ last_round c
  pub phase : look.phase ≡ phase_of c
  pub prices : look.prices ≡ prices_of c

-- An offer by a pass: in its turn the history begins with all that it has seen and heard of. Afterwards it has seen what the offer left, and
-- what was appended is its own.
pub record PassOffers (r : Report) (answer : Offered) (old new : Known Entry Origin) : Type 0 where
  pub origin : Origin
  pub origin_is : old.origin ≡ Some origin
  pub before : List Entry
  pub goes_on : StartsWith before old.seen
  pub also : StartsWithAll before old.also
  pub after : List Entry
  pub offers : IsHistoryOffer (owner_in origin) before r answer after
  pub gives : new ≡ after_giving (at_turn old before) after

-- A look by a pass: it shows how the clock stands in a history that begins with all that the pass has seen and heard of. So it is no older
-- than any turn that ended before the pass heard of it. Afterwards it has seen this history, and nothing more is its own.
pub record PassLooks (look : Look) (old new : Known Entry Origin) : Type 0 where
  pub origin : Origin
  pub origin_is : old.origin ≡ Some origin
  pub before : List Entry
  pub goes_on : StartsWith before old.seen
  pub also : StartsWithAll before old.also
  pub shows : Shows (clock_in (owner_in origin) before) look
  pub same : new ≡ record old { seen = before }

-- the pass is one of a book of this owner
abbrev pub IsOf : Owner → Known Entry Origin → Type 0
IsOf owner pass = (origin : Origin) × (pass.origin ≡ Some origin) × (owner_in origin ≡ owner)

-- The passes are those of the desks, in order of the clocks, each at rest.
pub record AreOf {B : Type 0} (terms : Terms) (digest : List ℕ) (desks : List (Opened B)) (passes : List (Known Entry Origin)) : Type 0 where
  pub clocks : length desks ≡ terms.bidders + 1
  pub count : length passes ≡ length desks
  pub desk : (k : ℕ) (d : Opened B) (p : Known Entry Origin) → k < length passes → (slice_index_or passes k p).desk ≡ (slice_index_or desks k d).id
  pub rest : (k : ℕ) (p : Known Entry Origin) → k < length passes → (slice_index_or passes k p).turn ≡ None
  pub book : (k : ℕ) (p : Known Entry Origin) → k < length passes → IsOf (owner_of terms k digest) (slice_index_or passes k p)

-- all other passes stay
abbrev pub OthersStay : ℕ → List (Known Entry Origin) → List (Known Entry Origin) → Type 0
OthersStay clock old new = (k : ℕ) (other : Known Entry Origin) → k ≢ clock → slice_index_or new k other ≡ slice_index_or old k other

-- A look at a clock, and an offer to a clock, by a pass of a house.
pub record LooksAt (clock : ℕ) (look : Look) (old new : List (Known Entry Origin)) : Type 0 where
  pub looks : (other : Known Entry Origin) → PassLooks look (slice_index_or old clock other) (slice_index_or new clock other)
  pub others : OthersStay clock old new

pub record OffersAt (clock : ℕ) (r : Report) (answer : Offered) (old new : List (Known Entry Origin)) : Type 0 where
  pub offers : (other : Known Entry Origin) → PassOffers r answer (slice_index_or old clock other) (slice_index_or new clock other)
  pub others : OthersStay clock old new
