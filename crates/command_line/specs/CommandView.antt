-- The command that the words which were read stand for.
use Rattle.command_line.specs.Commands.{Command, Fold, Check, Standing, Explain, Judge, Settle, Trial, Float, Make, Serve, Bid, Migrate}
use Rattle.command_line.specs.Parts as parts
use Rattle.command_line.specs.declared.words.Serving.{Serving}
use Rattle.command_line.specs.declared.words.Bidding.{Bidding}
use Rattle.command_line.specs.declared.words.CommandWords.{CommandWords}
use Rattle.command_line.specs.declared.words.CommandWords.TheVariants as read

abbrev pub serving_as : Serving → parts.Serving
serving_as s = record { address = s.address.now; doors = s.doors; sessions = s.sessions }

abbrev pub bidding_as : Bidding → parts.Bidding
bidding_as b = record { bidder = b.bidder; token = b.token.now; address = b.address.now; looks = b.looks }

abbrev pub command_as : CommandWords → Command
command_as (read.Fold terms log) = Fold terms log.now
command_as (read.Check auction) = Check auction.now
command_as (read.Standing auction journals) = Standing auction.now journals.now
command_as (read.Explain auction journals) = Explain auction.now journals.now
command_as (read.Judge auction journals bidder) = Judge auction.now journals.now bidder
command_as (read.Settle auction journals json) = Settle auction.now journals.now json
command_as (read.Trial auction values workers) = Trial auction.now values.now workers
command_as (read.Float auction values start) = Float auction.now values.now start
command_as (read.Make number workers) = Make number workers
command_as (read.Serve auction journals serving) = Serve auction.now journals.now (serving_as serving)
command_as (read.Bid auction values bidding) = Bid auction.now values.now (bidding_as bidding)
command_as (read.Migrate old journals new target) = Migrate old.now journals.now new.now target.now
