-- What is read of options and of the words of `bid` and `migrate`.
use Rattle.std.specs.Prelude.{◌≡◌, ◌≢◌, ◌≤◌, ℕ, List, [], ◌∷◌, ◌++◌, Some, codes, decimal, length}
use Rattle.clap.specs.Matches.{first_value}
use Rattle.clap.specs.declared.parser.matches.Found.{Found}
use Rattle.lot_base.specs.Goods.{IsRange}
use Rattle.command_line.specs.Commands.{Bid, Command, Migrate}
use Rattle.command_line.specs.Parts.{Bidding}
use Rattle.command_line.specs.declared.options.Given.{Given}
use Rattle.command_line.specs.declared.options.Given.TheVariants.{Never, Once, Again}

-- these are the words of an option that begins so
abbrev pub IsGiven : Given → List ℕ → List (List ℕ) → Type 0
IsGiven Never front words = words ≡ []
IsGiven (Once value) front words = words ≡ (front ++ value.now) ∷ []
IsGiven Again front words = 2 ≤ length words

-- the ids of the words of `bid`
abbrev pub bid_ids : List (List ℕ)
bid_ids = codes "AUCTION" ∷ codes "VALUES" ∷ codes "BIDDER" ∷ codes "TOKEN" ∷ codes "ADDRESS" ∷ []

-- the command `bid` of the words by these ids
pub record IsBidOf (f : Found) (looks : ℕ) (command : Command) : Type 0 where
  pub auction : List ℕ
  pub values : List ℕ
  pub part : Bidding
  pub command_is : command ≡ Bid auction values part
  pub auction_is : first_value f (codes "AUCTION") ≡ Some auction
  pub values_are : first_value f (codes "VALUES") ≡ Some values
  pub bidder_is : first_value f (codes "BIDDER") ≡ Some (decimal part.bidder)
  pub token_is : first_value f (codes "TOKEN") ≡ Some part.token
  pub address_is : first_value f (codes "ADDRESS") ≡ Some part.address
  pub bidder_range : IsRange 1 12 part.bidder
  pub token_range : IsRange 1 64 (length part.token)
  pub looks_are : part.looks ≡ looks

-- the ids of the words of `migrate`
abbrev pub migrate_ids : List (List ℕ)
migrate_ids = codes "OLD" ∷ codes "JOURNALS" ∷ codes "NEW" ∷ codes "TARGET" ∷ []

-- the command `migrate` of the words by these ids
pub record IsMigrateOf (f : Found) (command : Command) : Type 0 where
  pub old : List ℕ
  pub journals : List ℕ
  pub new : List ℕ
  pub target : List ℕ
  pub command_is : command ≡ Migrate old journals new target
  pub old_is : first_value f (codes "OLD") ≡ Some old
  pub journals_are : first_value f (codes "JOURNALS") ≡ Some journals
  pub new_is : first_value f (codes "NEW") ≡ Some new
  pub target_is : first_value f (codes "TARGET") ≡ Some target
  pub apart : journals ≢ target
