-- The headline over lives: what a `settle` or a `standing` writes that is done, at the end of any list of lives.
use Rattle.std.specs.Prelude.{◌≤◌, ℕ, Bool, List, slice_index_or}
use Rattle.house_io.specs.Shelves.{NamedFile}
use Rattle.auction_file.specs.declared.listing.Auction.{Auction}
use Rattle.clock.specs.Reports.{ClockHistory}
use Rattle.command_line.specs.Commands.{Explain, Judge, Settle, Standing}
use Rattle.house_run.specs.Nets.{NetSeen}
use Rattle.house_run.specs.Seen.{Outside, SinkSeen}
use Rattle.house_lives.specs.Kept.{KeepsLives}
use Rattle.house_lives.specs.Lives.{AreLives, Life}
use Rattle.house_lives.specs.Readings.{ExplainsHistories, IsDoneRun, JudgesHistories, SettlesHistories, TellsHistories}

-- of these histories, one of each clock, each keeps what was acknowledged in the lives
abbrev pub KeepAll : Auction → List ℕ → List NamedFile → List Life → List ClockHistory → Type 0
KeepAll value journals first lives histories = (k : ℕ) (c : ClockHistory) → k ≤ value.terms.bidders → KeepsLives value journals first lives k (slice_index_or histories k c)

-- The outcome was written in which the histories settle of all clocks, and each of these keeps what was acknowledged in the lives.
pub record SettlesLives (value : Auction) (journals : List ℕ) (json : Bool) (first : List NamedFile) (lives : List Life) (last : List NamedFile) (sink : SinkSeen) : Type 0 where
  pub settles : SettlesHistories value journals json last sink
  pub keeps : KeepAll value journals first lives settles.histories

-- It was written how the histories of all clocks stand, and each of these keeps what was acknowledged in the lives.
pub record TellsLives (value : Auction) (journals : List ℕ) (first : List NamedFile) (lives : List Life) (last : List NamedFile) (sink : SinkSeen) : Type 0 where
  pub tells : TellsHistories value journals last sink
  pub keeps : KeepAll value journals first lives tells.histories

-- It was written what the clocks of these histories have come to, and each of these keeps what was acknowledged in the lives.
pub record ExplainsLives (value : Auction) (journals : List ℕ) (first : List NamedFile) (lives : List Life) (last : List NamedFile) (sink : SinkSeen) : Type 0 where
  pub explains : ExplainsHistories value journals last sink
  pub keeps : KeepAll value journals first lives explains.histories

-- It was decided on the bidder's observations in the histories of all clocks, and each of these keeps what was acknowledged in the lives.
pub record JudgesLives (value : Auction) (journals : List ℕ) (bidder : ℕ) (first : List NamedFile) (lives : List Life) (last : List NamedFile) (sink : SinkSeen) : Type 0 where
  pub judges : JudgesHistories value journals bidder last sink
  pub keeps : KeepAll value journals first lives judges.histories

-- at the end of any list of lives, a `settle` that is done
abbrev pub SettledLivesLaw : Type 0
SettledLivesLaw = (value : Auction) (auction journals : List ℕ) (json : Bool) (first : List NamedFile) (lives : List Life) (last after : List NamedFile) (words : List (List ℕ)) (seen : Outside) (net : NetSeen) (sink : SinkSeen)
    → AreLives value auction journals first lives last → IsDoneRun (Settle auction journals json) value auction last after words seen net sink → SettlesLives value journals json first lives last sink

-- the same of a `standing`
abbrev pub StandingLivesLaw : Type 0
StandingLivesLaw = (value : Auction) (auction journals : List ℕ) (first : List NamedFile) (lives : List Life) (last after : List NamedFile) (words : List (List ℕ)) (seen : Outside) (net : NetSeen) (sink : SinkSeen)
    → AreLives value auction journals first lives last → IsDoneRun (Standing auction journals) value auction last after words seen net sink → TellsLives value journals first lives last sink

-- so an `explain`
abbrev pub ExplainedLivesLaw : Type 0
ExplainedLivesLaw = (value : Auction) (auction journals : List ℕ) (first : List NamedFile) (lives : List Life) (last after : List NamedFile) (words : List (List ℕ)) (seen : Outside) (net : NetSeen) (sink : SinkSeen)
    → AreLives value auction journals first lives last → IsDoneRun (Explain auction journals) value auction last after words seen net sink → ExplainsLives value journals first lives last sink

-- so a `judge`
abbrev pub JudgedLivesLaw : Type 0
JudgedLivesLaw = (value : Auction) (auction journals : List ℕ) (bidder : ℕ) (first : List NamedFile) (lives : List Life) (last after : List NamedFile) (words : List (List ℕ)) (seen : Outside) (net : NetSeen) (sink : SinkSeen)
    → AreLives value auction journals first lives last → IsDoneRun (Judge auction journals bidder) value auction last after words seen net sink → JudgesLives value journals bidder first lives last sink
