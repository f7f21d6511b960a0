-- The files are read, and then the part is played over a link.
use Rattle.std.proofs.Common.{◌≡◌, ◌∙◌, ◌⊎◌, ◌++◌, ◌∷◌, [], Ok, ap, inl, inr, refl}
use Rattle.std.proofs.lemmas.Result.{err_from_is_err_and}
use Rattle.std.specs.List.{flat_map}
use Rattle.house_run.specs.BidCommand.{look_line}
use Rattle.command_line.specs.CommandView.{bidding_as}
use Rattle.house_run.specs.Dialling.{PlaysIn, part_in}
use Rattle.house_run.specs.Nets.{net_seen}
use Rattle.house_io.specs.NetsShown.{NetView}
use Rattle.house_run.specs.Seen.{outside}
use Rattle.house_run.specs.declared.ends.Ended.TheVariants as how
use Rattle.house_run.proofs.GivingSteps.{told-same}
use Rattle.house_run.proofs.Talking.{bid-ends, bid-leaves, quiet-counts, stop-frame}
use Rattle.house_run.proofs.commands.bid.job.Goals as goal

pub returns-in_err-market-clause-answer : goal.returns-in_err-market-clause-answer
returns-in_err-market-clause-answer g c =
    let exit = err_from_is_err_and c.from_residual.result c.from_residual.ensures.1 in
    let net = net_seen g.N.Net c.args.net.now c.args.net.now in
    rw (exit.1, exit.2) ((c.in_err-market.ensures.ends (bidding_as c.args.bidding.now) refl).cause net)

pub returns-in_err-market-clause-frame : goal.returns-in_err-market-clause-frame
returns-in_err-market-clause-frame g c =
    let exit = err_from_is_err_and c.from_residual.result c.from_residual.ensures.1 in
    let net = net_seen g.N.Net c.args.net.now c.args.net.now in
    let address = (bidding_as c.args.bidding.now).address in
    rw (exit.1, exit.2) (record { frame = (c.in_err-market.ensures.ends (bidding_as c.args.bidding.now) refl).frame; talked = inl (told-same (λ (b a : NetView). (a ≡ b) ⊎ (a ≡ record b { dialled = b.dialled ++ address ∷ [] })) net.told (λ x. inl refl)) })

pub returns-in_err-market-clause-net_frame : goal.returns-in_err-market-clause-net_frame
returns-in_err-market-clause-net_frame g c =
    let exit = err_from_is_err_and c.from_residual.result c.from_residual.ensures.1 in
    rw (exit.1, exit.2) (bid-leaves c.args.auction.now c.args.values.now (bidding_as c.args.bidding.now) c.in_err-market.field-0.0 _ (quiet-counts _ c.in_err-market.field-0.0 refl))

pub returns-in_err-seen-clause-answer : goal.returns-in_err-seen-clause-answer
returns-in_err-seen-clause-answer g c =
    let exit = err_from_is_err_and c.from_residual-in_err-seen.result c.from_residual-in_err-seen.ensures.1 in
    let seen = outside g.H.Shelf c.args.shelf.now c.read_bidders.new.shelf in
    let net = net_seen g.N.Net c.args.net.now c.talk.new.net in
    let b = bidding_as c.args.bidding.now in
    let market = c.in_ok-market.market in
    let part = part_in market.auction.terms market.valuations.items b in
    let plays : PlaysIn seen.shelf c.args.auction.now c.args.values.now b part = record {
      terms = market.auction.terms;
      valuations = market.valuations.items;
      market = c.in_ok-market.ensures.read;
      bidder_is = record { at_least = c.requires.from_one; at_most = c.in_ok-market.ensures.bidder };
      part_is = refl;
    } in
    rw (exit.1, exit.2) (bid-ends c.in_err-seen.field-0.0 c.args.auction.now c.args.values.now b seen net part plays c.in_err-seen.ensures.ends)

pub returns-in_err-seen-clause-frame : goal.returns-in_err-seen-clause-frame
returns-in_err-seen-clause-frame g c =
    let exit = err_from_is_err_and c.from_residual-in_err-seen.result c.from_residual-in_err-seen.ensures.1 in
    let seen = outside g.H.Shelf c.args.shelf.now c.read_bidders.new.shelf in
    let net = net_seen g.N.Net c.args.net.now c.talk.new.net in
    let b = bidding_as c.args.bidding.now in
    let market = c.in_ok-market.market in
    let part = part_in market.auction.terms market.valuations.items b in
    let plays : PlaysIn seen.shelf c.args.auction.now c.args.values.now b part = record {
      terms = market.auction.terms;
      valuations = market.valuations.items;
      market = c.in_ok-market.ensures.read;
      bidder_is = record { at_least = c.requires.from_one; at_most = c.in_ok-market.ensures.bidder };
      part_is = refl;
    } in
    rw (exit.1, exit.2) (stop-frame c.args.auction.now c.args.values.now b c.in_err-seen.field-0.0 seen net part (c.in_ok-market.ensures.frame b c.in_err-seen.field-0.0) plays c.in_err-seen.ensures.left)

pub returns-in_err-seen-clause-net_frame : goal.returns-in_err-seen-clause-net_frame
returns-in_err-seen-clause-net_frame g c =
    let exit = err_from_is_err_and c.from_residual-in_err-seen.result c.from_residual-in_err-seen.ensures.1 in
    rw (exit.1, exit.2) (bid-leaves c.args.auction.now c.args.values.now (bidding_as c.args.bidding.now) c.in_err-seen.field-0.0 _ c.in_err-seen.ensures.counts)

pub returns-in-Ok-clause-answer : goal.returns-in-Ok-clause-answer
returns-in-Ok-clause-answer g c =
    let market = c.in_ok-market.market in
    let b = bidding_as c.args.bidding.now in
    record {
      part = part_in market.auction.terms market.valuations.items b;
      plays = record {
        terms = market.auction.terms;
        valuations = market.valuations.items;
        market = c.in_ok-market.ensures.read;
        bidder_is = record { at_least = c.requires.from_one; at_most = c.in_ok-market.ensures.bidder };
        part_is = refl;
      };
      seen = c.in_ok-seen.seen;
      talks = c.in_ok-seen.ensures.talks;
      text_is = c.in-Ok.ensures ∙ ap (flat_map look_line) c.deref.ensures.value;
    }

pub returns-in-Ok-clause-frame : goal.returns-in-Ok-clause-frame
returns-in-Ok-clause-frame g c =
    let b = bidding_as c.args.bidding.now in
    let market = c.in_ok-market.market in
    record {
      frame = c.in_ok-market.ensures.frame b how.Done;
      talked = inr (record {
        part = part_in market.auction.terms market.valuations.items b;
        plays = record {
          terms = market.auction.terms;
          valuations = market.valuations.items;
          market = c.in_ok-market.ensures.read;
          bidder_is = record { at_least = c.requires.from_one; at_most = c.in_ok-market.ensures.bidder };
          part_is = refl;
        };
        answer = Ok c.in_ok-seen.seen;
        talks = c.in_ok-seen.ensures.talks;
        so = inl refl;
      });
    }

pub returns-in-Ok-clause-net_frame : goal.returns-in-Ok-clause-net_frame
returns-in-Ok-clause-net_frame g c = bid-leaves c.args.auction.now c.args.values.now (bidding_as c.args.bidding.now) how.Done _ c.in_ok-seen.ensures.counts

pub returns-clause-frame : goal.returns-clause-frame
returns-clause-frame g c =
    let b = bidding_as c.args.bidding.now in
    let market = c.in_ok-market.market in
    record {
      frame = c.in_ok-market.ensures.frame b how.NoMemory;
      talked = inr (record {
        part = part_in market.auction.terms market.valuations.items b;
        plays = record {
          terms = market.auction.terms;
          valuations = market.valuations.items;
          market = c.in_ok-market.ensures.read;
          bidder_is = record { at_least = c.requires.from_one; at_most = c.in_ok-market.ensures.bidder };
          part_is = refl;
        };
        answer = Ok c.in_ok-seen.seen;
        talks = c.in_ok-seen.ensures.talks;
        so = inr refl;
      });
    }
