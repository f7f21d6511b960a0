use Rattle.clap.specs.Words.{found_of}
use Rattle.command_line.specs.CommandView.{command_as}
use Rattle.command_line.specs.Givens.{bid_ids}
use Rattle.command_line.specs.Positionals.{texts}
use Rattle.command_line.proofs.NamedWords.{named-some, no-bid, no-part, spells-bid}
use Rattle.command_line.proofs.OptionWords.{none-then, some-value, text-count}
use Rattle.command_line.proofs.words.read_bid.Goals as goal

pub returns-in_default-clause-none : goal.returns-in_default-clause-none
returns-in_default-clause-none c = λ line parted. no-bid line (texts c.args.words.now) (texts c.args.options.now) parted (λ auction values token address bidder looks bidder_is token_is same option. c.in_default.ensures.none looks option)

pub returns-in_default-2-clause-none : goal.returns-in_default-2-clause-none
returns-in_default-2-clause-none c = λ line parted. no-bid line (texts c.args.words.now) (texts c.args.options.now) parted (λ auction values token address bidder looks bidder_is token_is same option. let other = rw c.in_default-2.is at c.in_ok-matches.ensures.none in other (text-count c.args.words.now _ same))

pub bid_of-requires : goal.bid_of-requires
bid_of-requires c =
    let named = rw c.in-Some-2.is at c.in_ok-matches.ensures.some in
    named-some (found_of c.in-Some-2.matches) bid_ids (texts c.args.words.now) named

pub returns-clause-some : goal.returns-clause-some
returns-clause-some c =
    let named = rw c.in-Some-2.is at c.in_ok-matches.ensures.some in
    some-value c.bid_of.result _ _ (λ command is line parted. spells-bid (found_of c.in-Some-2.matches) c.in-Some.looks (command_as command) line (texts c.args.words.now) (texts c.args.options.now) named is parted c.in-Some.ensures.some) c.bid_of.ensures.some

pub returns-clause-none : goal.returns-clause-none
returns-clause-none c =
    let named = rw c.in-Some-2.is at c.in_ok-matches.ensures.some in
    none-then c.bid_of.result _ _ (λ none line parted. no-bid line (texts c.args.words.now) (texts c.args.options.now) parted (λ auction values token address bidder looks bidder_is token_is same option.
    let found = no-part (found_of c.in-Some-2.matches) (texts c.args.words.now) auction values token address bidder named same in
    none bidder token bidder_is token_is found.0 found.1)) c.bid_of.ensures.none
