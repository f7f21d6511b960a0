-- One more life after others.
use Rattle.std.proofs.Common.{List, [], ◌∷◌, ◌++◌, ℕ, refl}
use Rattle.house_io.specs.Shelves.{NamedFile}
use Rattle.auction_file.specs.declared.listing.Auction.{Auction}
use Rattle.house_run.specs.Ends.{RunEnds}
use Rattle.house_run.specs.Nets.{NetSeen}
use Rattle.house_run.specs.Seen.{Outside, SinkSeen}
use Rattle.house_run.specs.declared.ends.Ended.{Ended}
use Rattle.house_lives.specs.Lives.{AreLives, IsLife, Leads, Life}
use Rattle.house_lives.specs.Runs.{JoinsLives, life_of}

-- where lives led to the files with which it begins, they lead with it to the next ones
pub one-more : (value : Auction) (auction journals : List ℕ) (first : List NamedFile) (lives : List Life) (l : Life) → AreLives value auction journals first lives l.before → IsLife value auction journals l
    → Leads value journals l.after l.next → AreLives value auction journals first (lives ++ l ∷ []) l.next
one-more value auction journals first [] l are life leads = (are, life, leads, refl)
one-more value auction journals first (m ∷ lives) l are life leads = (are.0, are.1, are.2, one-more value auction journals m.next lives l are.3 life leads)

-- a call that kept its contract is one more
pub joined : (words : List (List ℕ)) (seen : Outside) (net : NetSeen) (sink : SinkSeen) (answer : Ended) → RunEnds words seen net sink answer → JoinsLives words seen net sink answer
joined words seen net sink answer ends value auction journals s first lives before after next spells tells are leads =
    one-more value auction journals first lives (life_of words seen net sink answer s before after next) are
    (record { spelled = spells; ends = ends; told_before = tells.told_before; told = tells.told; says = tells.says }) leads
