-- A call of the program as a life, or as a run that was done: where its words are such, and the shelf tells its files.
use Rattle.std.specs.Prelude.{◌≡◌, ◌++◌, ℕ, List, [], ◌∷◌, Some, Ok}
use Rattle.house_io.specs.Shelves.{NamedFile}
use Rattle.auction_file.specs.AuctionFile.{auction_of}
use Rattle.auction_file.specs.Listing.{listing_of}
use Rattle.auction_file.specs.declared.listing.Auction.{Auction}
use Rattle.command_line.specs.Commands.{Command, Serve, Spells}
use Rattle.command_line.specs.Parts.{Serving}
use Rattle.house_run.specs.Nets.{NetSeen}
use Rattle.house_run.specs.Seen.{Outside, SinkSeen, content}
use Rattle.house_run.specs.declared.ends.Ended.{Ended}
use Rattle.house_run.specs.declared.ends.Ended.TheVariants as how
use Rattle.house_lives.specs.Lives.{AreLives, IsLife, Leads, Life}
use Rattle.house_lives.specs.Readings.{IsDoneRun}

-- the shelf told these files as the call began, and those as it ended, and this file of the first says the auction
pub record TellsAuction (value : Auction) (auction : List ℕ) (before after : List NamedFile) (seen : Outside) : Type 0 where
  pub told_before : seen.shelf.files_before ≡ Some before
  pub told : seen.shelf.files ≡ Some after
  pub says : auction_of (content before auction) ≡ Ok (listing_of value)

-- the call as a life of the laws: with these choices of `serve`, from and to these files, and with those with which the next life begins
abbrev pub life_of : List (List ℕ) → Outside → NetSeen → SinkSeen → Ended → Serving → List NamedFile → List NamedFile → List NamedFile → Life
life_of words seen net sink answer s before after next = record { words = words; serving = s; seen = seen; net = net; sink = sink; answer = answer; before = before; after = after; next = next }

-- where the words are those of `serve`, the call is a life, whatever it answered and whatever files the next life begins with
abbrev pub IsOneLife : List (List ℕ) → Outside → NetSeen → SinkSeen → Ended → Type 0
IsOneLife words seen net sink answer = (value : Auction) (auction journals : List ℕ) (s : Serving) (before after next : List NamedFile)
    → Spells (Serve auction journals s) words → TellsAuction value auction before after seen → IsLife value auction journals (life_of words seen net sink answer s before after next)

-- Where the words are those of `serve`, lives led to the files with which the call began, and those with which it ended lead to the next
-- ones, then these lives and the call lead to the next ones. So lives are counted on, call by call.
abbrev pub JoinsLives : List (List ℕ) → Outside → NetSeen → SinkSeen → Ended → Type 0
JoinsLives words seen net sink answer = (value : Auction) (auction journals : List ℕ) (s : Serving) (first : List NamedFile) (lives : List Life) (before after next : List NamedFile)
    → Spells (Serve auction journals s) words → TellsAuction value auction before after seen → AreLives value auction journals first lives before → Leads value journals after next
    → AreLives value auction journals first (lives ++ life_of words seen net sink answer s before after next ∷ []) next

-- where the words are those of a command, and the answer is Done, the call is a run that was done
abbrev pub IsOneDone : List (List ℕ) → Outside → NetSeen → SinkSeen → Ended → Type 0
IsOneDone words seen net sink answer = (command : Command) (value : Auction) (auction : List ℕ) (before after : List NamedFile)
    → Spells command words → TellsAuction value auction before after seen → answer ≡ how.Done → IsDoneRun command value auction before after words seen net sink
