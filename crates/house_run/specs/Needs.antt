-- What a command needs of the outside: which files it reads, where its journals lie, what it asks of the auction, and what it does on the net. The
-- definitions of ends and frames ask about this alone, and never about the command.
use Rattle.std.specs.Prelude.{◌≡◌, ◌⊎◌, ℕ, zero, suc, ◌/◌, ◌%◌, ◌≤◌, Bool, false, List, [], ◌∷◌, ◌++◌, Option, Some, None, option_map, codes, decimal}
use Rattle.house_io.specs.Shelves.{with_name}
use Rattle.lot_base.specs.declared.limits.TheConstants.{MOST_BIDDERS}
use Rattle.lot_base.specs.declared.auction_terms.Terms.{Terms}
use Rattle.command_line.specs.Parts.{Bidding, Serving}

-- a log, and the terms on which it is judged
pub record Log : Type 0 where
  pub terms : Terms
  pub name : List ℕ

-- where the journals of an auction are moved: another file of it, and what the names of the journals there begin with
pub record Moving : Type 0 where
  pub auction : List ℕ
  pub journals : List ℕ

pub record Needs : Type 0 where
  -- the name of the auction file
  pub auction : Option (List ℕ)
  pub log : Option Log
  -- what the names of the journals begin with
  pub journals : Option (List ℕ)
  -- whether the clocks of the journals are settled
  pub settles : Bool
  -- the name of the file with the bidders' valuations
  pub values : Option (List ℕ)
  -- the number of the bidder whose part is taken, or whose reports are judged
  pub bidder : Option ℕ
  -- the prices at which the clocks start
  pub start : Option (List ℕ)
  pub bid : Option Bidding
  pub serve : Option Serving
  -- where the journals are moved
  pub moving : Option Moving

abbrev pub nothing_needed : Needs
nothing_needed = record {
  auction = None;
  log = None;
  journals = None;
  settles = false;
  values = None;
  bidder = None;
  start = None;
  bid = None;
  serve = None;
  moving = None;
}

-- it is needed, and it has P
abbrev pub Has : {A : Type 0} → Option A → (A → Type 0) → Type 0
Has None P = ⊥
Has (Some a) P = P a

-- the journal of a clock: the prefix, `/clock-`, the clock in two digits, `.ahj`
abbrev pub journal_name : List ℕ → ℕ → List ℕ
journal_name journals clock = journals ++ (codes "/clock-" ++ (decimal (clock / 10) ++ (decimal (clock % 10) ++ codes ".ahj")))

-- the journals of so many clocks, from clock 0 on
abbrev pub first_journals : List ℕ → ℕ → List (List ℕ)
first_journals journals zero = []
first_journals journals (suc clock) = first_journals journals clock ++ journal_name journals clock ∷ []

-- these names opened in turn, after those before
abbrev pub with_names : List (List ℕ) → List (List ℕ) → List (List ℕ)
with_names [] before = before
with_names (name ∷ names) before = with_names names (with_name name before)

-- the journal of a clock of some auction
abbrev pub IsJournal : List ℕ → List ℕ → Type 0
IsJournal journals name = (clock : ℕ) × (clock ≤ MOST_BIDDERS) × (name ≡ journal_name journals clock)

abbrev pub list_of : {A : Type 0} → Option A → List A
list_of None = []
list_of (Some a) = a ∷ []

-- the files that are read from front to end, in the order in which they are
abbrev pub sources : Needs → List (List ℕ)
sources needs = list_of needs.auction ++ (list_of (option_map (λ log. log.name) needs.log) ++ (list_of needs.values ++ list_of (option_map (λ moving. moving.auction) needs.moving)))

abbrev pub IsSource : Needs → List ℕ → Type 0
IsSource needs name =
    Has needs.auction (λ auction. name ≡ auction)
    ⊎ (Has needs.log (λ log. name ≡ log.name) ⊎ (Has needs.values (λ values. name ≡ values) ⊎ Has needs.moving (λ moving. name ≡ moving.auction)))
