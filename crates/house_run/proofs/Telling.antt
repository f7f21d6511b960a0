-- What a file that was read gives, and which texts were written.
use Rattle.std.proofs.Common.{◌≡◌, ◌≢◌, inl, inr, ℕ, List, Ok, Err, Result, Vec, Global, arith, sym, ap, subst, ◌∙◌}
use Rattle.auction_file.specs.AuctionFile.{Listing, auction_of}
use Rattle.auction_file.specs.declared.faults.AuctionFault.{AuctionFault}
use Rattle.auction_file.specs.declared.faults.AuctionFault.TheVariants as refused
use Rattle.house_run.specs.Causes.{IsBadAuction}
use Rattle.house_run.specs.Commands.{IsDone, needs_of}
use Rattle.command_line.specs.Commands.{Command, Spells}
use Rattle.house_run.specs.Ends.{CommandEnds, CommandFrame, JobAnswer, RunEnds, ShelfAnswer, Wrote, WroteLine, as_seen}
use Rattle.house_run.specs.NetEnds.{Ends, NetFrame}
use Rattle.house_run.specs.Needs.{Needs}
use Rattle.house_run.specs.Nets.{NetSeen, IsNetUntouched}
use Rattle.house_run.specs.Seen.{Outside, ShelfSeen, SinkSeen, IsAuctionAt, IsRead, auction_limit}
use Rattle.house_run.specs.declared.ends.Ended.{Ended}
use Rattle.house_run.specs.declared.ends.Ended.TheVariants as how

-- the auction file that was read gives the listing, or its first fault
pub auction-read : (name : List ℕ) (shelf : ShelfSeen) (read bytes : List ℕ) (listing : Listing) → bytes ≡ read → IsRead shelf name auction_limit read → auction_of bytes ≡ Ok listing → IsAuctionAt shelf name listing
auction-read name shelf read bytes listing same is says = record { read = read; is_read = is; says = ap auction_of (sym same) ∙ says }

pub bad-auction : (name : List ℕ) (shelf : ShelfSeen) (read bytes : List ℕ) (fault : AuctionFault) → bytes ≡ read → IsRead shelf name auction_limit read → fault ≢ refused.NoMemory
    → (fault ≢ refused.NoMemory → auction_of bytes ≡ Err fault) → IsBadAuction name fault shelf
bad-auction name shelf read bytes fault same is other e = record { read = read; is_read = is; says = ap auction_of (sym same) ∙ e other; other = other }

-- the line that was written is that of the end
pub same-end : (sink : SinkSeen) (end made answer : Ended) → end ≡ made → WroteLine sink made answer → WroteLine sink end answer
same-end sink end made answer e wrote = let P : Ended → Type 0 = λ x. WroteLine sink x answer in subst P (sym e) wrote

-- the text of a job that was done is written
pub job-done : (command : Command) (seen : Outside) (net : NetSeen) (sink : SinkSeen) (text written : List ℕ) (answer : Ended) → IsDone command seen net text → CommandFrame command how.Done seen net → NetFrame (needs_of command) how.Done net → written ≡ text
    → Wrote sink how.Done written answer → CommandEnds command seen net sink answer
job-done command seen net sink text written answer done frame net_frame same wrote =
    let P : List ℕ → Type 0 = λ t. Wrote sink how.Done t answer in
    inl (record { text = text; done = done; frame = frame; net_frame = net_frame; wrote = subst P same wrote })

-- the line of another end is written, or memory for it ran out
pub job-ends : (command : Command) (seen : Outside) (net : NetSeen) (sink : SinkSeen) (end answer : Ended) → Ends (needs_of command) (as_seen command seen) net end → CommandFrame command end seen net → NetFrame (needs_of command) end net
    → WroteLine sink end answer → CommandEnds command seen net sink answer
job-ends command seen net sink end answer cause frame net_frame wrote = inr (record { end = end; cause = cause; frame = frame; net_frame = net_frame; wrote = wrote })

-- the words are this command, and it ends
pub command-ends : (command : Command) (words : List (List ℕ)) (seen : Outside) (net : NetSeen) (sink : SinkSeen) (answer : Ended) → Spells command words → CommandEnds command seen net sink answer → RunEnds words seen net sink answer
command-ends command words seen net sink answer spelled ends = inr (inl (record { command = command; spelled = spelled; ends = ends }))

-- a job that goes to the shelf alone answers as its command does
pub on-shelf : (command : Command) (Done : ShelfSeen → List ℕ → Type 0) (seen : Outside) (net : NetSeen) (result : Result (Vec ℕ Global) Ended) → as_seen command seen ≡ seen → ((text : List ℕ) → Done seen.shelf text → IsDone command seen net text)
    → ShelfAnswer Done (needs_of command) seen result → JobAnswer command seen net result
on-shelf command Done seen net (Ok text) same done answer = done text.items answer
on-shelf command Done seen net (Err end) same done answer = subst (λ (x : Outside). Ends (needs_of command) x net end) (sym same) (inl answer)

-- and leaves the net as it was
pub left-alone : (needs : Needs) (end : Ended) (net : NetSeen) → IsNetUntouched net → NetFrame needs end net
left-alone needs end net same = record {
  quiet = λ other. same.1;
  later = (let e = same.1 in omega arith);
  untouched = λ no_bid no_serve. same;
  early = λ clock no_bid ended. same;
}
