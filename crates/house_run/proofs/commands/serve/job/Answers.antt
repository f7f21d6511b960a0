-- The auction is read, and then served on its journals.
use Rattle.std.proofs.Common.{◌∙◌, map, refl}
use Rattle.std.proofs.lemmas.Result.{err_from_is_err_and}
use Rattle.clock.specs.Reports.{histories}
use Rattle.command_line.specs.CommandView.{serving_as}
use Rattle.house_run.specs.Nets.{net_seen}
use Rattle.house_run.specs.Seen.{outside, shelf_seen}
use Rattle.house_run.specs.ServeTexts.{serve_text}
use Rattle.house_run.specs.declared.ends.Ended.TheVariants as how
use Rattle.house_run.proofs.ServeJobs.{Read, done-frame, err-answer, err-frame, net-left, refused-answer, refused-frame, serve-done}
use Rattle.house_run.proofs.commands.serve.job.Goals as goal

pub returns-in_err-auction-clause-answer : goal.returns-in_err-auction-clause-answer
returns-in_err-auction-clause-answer g c =
    let exit = err_from_is_err_and c.from_residual.result c.from_residual.ensures.1 in
    let seen = outside g.H.Shelf c.args.shelf.now c.read_auction.new.shelf in
    let net = net_seen g.N.Net c.args.net.now c.args.net.now in
    rw (exit.1, exit.2) (refused-answer c.args.auction.now c.args.journals.now (serving_as c.args.serving.now) c.in_err-auction.field-0.0 seen net c.read_auction.ensures.reads c.in_err-auction.ensures.refused)

pub returns-in_err-auction-clause-frame : goal.returns-in_err-auction-clause-frame
returns-in_err-auction-clause-frame g c =
    let exit = err_from_is_err_and c.from_residual.result c.from_residual.ensures.1 in
    let seen = outside g.H.Shelf c.args.shelf.now c.read_auction.new.shelf in
    let net = net_seen g.N.Net c.args.net.now c.args.net.now in
    rw (exit.1, exit.2) (refused-frame c.args.auction.now c.args.journals.now (serving_as c.args.serving.now) c.in_err-auction.field-0.0 seen net (refl, refl) c.read_auction.ensures.reads c.in_err-auction.ensures.refused)

pub returns-in_err-hosted-clause-answer : goal.returns-in_err-hosted-clause-answer
returns-in_err-hosted-clause-answer g c =
    let exit = err_from_is_err_and c.from_residual-in_err-hosted.result c.from_residual-in_err-hosted.ensures.1 in
    let s = serving_as c.args.serving.now in
    let value = c.in_ok-auction.auction in
    let first = shelf_seen g.H.Shelf c.args.shelf.now c.read_auction.new.shelf in
    let seen = outside g.H.Shelf c.args.shelf.now c.serve_journals.new.shelf in
    let net = net_seen g.N.Net c.args.net.now c.serve_journals.new.net in
    let files = g.H.Shelf.files c.read_auction.new.shelf in
    let faults = g.H.Shelf.faults c.read_auction.new.shelf in
    let names = g.H.Shelf.opened c.read_auction.new.shelf in
    let r : Read c.args.auction.now value seen files faults names first =
    record { before_is = refl; is = c.in_ok-auction.ensures.read; files_are = refl; read = c.read_auction.ensures.reads.unchanged; opened = c.in_ok-auction.ensures.opened; steady = c.in_ok-auction.ensures.steady } in
    rw (exit.1, exit.2) (err-answer c.args.auction.now c.args.journals.now s value seen files faults names first r c.in_err-hosted.field-0.0 net c.in_err-hosted.ensures)

pub returns-in_err-hosted-clause-frame : goal.returns-in_err-hosted-clause-frame
returns-in_err-hosted-clause-frame g c =
    let exit = err_from_is_err_and c.from_residual-in_err-hosted.result c.from_residual-in_err-hosted.ensures.1 in
    let s = serving_as c.args.serving.now in
    let value = c.in_ok-auction.auction in
    let first = shelf_seen g.H.Shelf c.args.shelf.now c.read_auction.new.shelf in
    let seen = outside g.H.Shelf c.args.shelf.now c.serve_journals.new.shelf in
    let net = net_seen g.N.Net c.args.net.now c.serve_journals.new.net in
    let files = g.H.Shelf.files c.read_auction.new.shelf in
    let faults = g.H.Shelf.faults c.read_auction.new.shelf in
    let names = g.H.Shelf.opened c.read_auction.new.shelf in
    let r : Read c.args.auction.now value seen files faults names first =
    record { before_is = refl; is = c.in_ok-auction.ensures.read; files_are = refl; read = c.read_auction.ensures.reads.unchanged; opened = c.in_ok-auction.ensures.opened; steady = c.in_ok-auction.ensures.steady } in
    rw (exit.1, exit.2) (err-frame c.args.auction.now c.args.journals.now s value seen files faults names first r c.in_err-hosted.field-0.0 net c.in_err-hosted.ensures)

pub returns-in_err-hosted-clause-net_frame : goal.returns-in_err-hosted-clause-net_frame
returns-in_err-hosted-clause-net_frame g c =
    let exit = err_from_is_err_and c.from_residual-in_err-hosted.result c.from_residual-in_err-hosted.ensures.1 in
    let shelf = shelf_seen g.H.Shelf c.read_auction.new.shelf c.serve_journals.new.shelf in
    let net = net_seen g.N.Net c.args.net.now c.serve_journals.new.net in
    rw (exit.1, exit.2) (net-left c.args.auction.now c.args.journals.now (serving_as c.args.serving.now) c.in_ok-auction.auction shelf c.in_err-hosted.field-0.0 net c.in_err-hosted.ensures)

pub returns-in-Ok-clause-answer : goal.returns-in-Ok-clause-answer
returns-in-Ok-clause-answer g c =
    let s = serving_as c.args.serving.now in
    let value = c.in_ok-auction.auction in
    let first = shelf_seen g.H.Shelf c.args.shelf.now c.read_auction.new.shelf in
    let seen = outside g.H.Shelf c.args.shelf.now c.serve_journals.new.shelf in
    let net = net_seen g.N.Net c.args.net.now c.serve_journals.new.net in
    let files = g.H.Shelf.files c.read_auction.new.shelf in
    let faults = g.H.Shelf.faults c.read_auction.new.shelf in
    let names = g.H.Shelf.opened c.read_auction.new.shelf in
    let r : Read c.args.auction.now value seen files faults names first =
    record { before_is = refl; is = c.in_ok-auction.ensures.read; files_are = refl; read = c.read_auction.ensures.reads.unchanged; opened = c.in_ok-auction.ensures.opened; steady = c.in_ok-auction.ensures.steady } in
    serve-done c.args.auction.now c.args.journals.now s value seen files faults names first r net c.in_ok-hosted.hosted c.in-Ok.text.items c.in_ok-hosted.ensures
    (c.in-Ok.ensures ∙ (λ i. serve_text (map (λ ends. ends.items) (c.deref.ensures.value i)) (histories (c.deref-2.ensures.value i))))

pub returns-in-Ok-clause-frame : goal.returns-in-Ok-clause-frame
returns-in-Ok-clause-frame g c =
    let s = serving_as c.args.serving.now in
    let value = c.in_ok-auction.auction in
    let first = shelf_seen g.H.Shelf c.args.shelf.now c.read_auction.new.shelf in
    let seen = outside g.H.Shelf c.args.shelf.now c.serve_journals.new.shelf in
    let net = net_seen g.N.Net c.args.net.now c.serve_journals.new.net in
    let files = g.H.Shelf.files c.read_auction.new.shelf in
    let faults = g.H.Shelf.faults c.read_auction.new.shelf in
    let names = g.H.Shelf.opened c.read_auction.new.shelf in
    let r : Read c.args.auction.now value seen files faults names first =
    record { before_is = refl; is = c.in_ok-auction.ensures.read; files_are = refl; read = c.read_auction.ensures.reads.unchanged; opened = c.in_ok-auction.ensures.opened; steady = c.in_ok-auction.ensures.steady } in
    done-frame c.args.auction.now c.args.journals.now s value seen files faults names first r how.Done net c.in_ok-hosted.hosted c.in_ok-hosted.ensures (λ doors none. none)

pub returns-clause-frame : goal.returns-clause-frame
returns-clause-frame g c =
    let s = serving_as c.args.serving.now in
    let value = c.in_ok-auction.auction in
    let first = shelf_seen g.H.Shelf c.args.shelf.now c.read_auction.new.shelf in
    let seen = outside g.H.Shelf c.args.shelf.now c.serve_journals.new.shelf in
    let net = net_seen g.N.Net c.args.net.now c.serve_journals.new.net in
    let files = g.H.Shelf.files c.read_auction.new.shelf in
    let faults = g.H.Shelf.faults c.read_auction.new.shelf in
    let names = g.H.Shelf.opened c.read_auction.new.shelf in
    let r : Read c.args.auction.now value seen files faults names first =
    record { before_is = refl; is = c.in_ok-auction.ensures.read; files_are = refl; read = c.read_auction.ensures.reads.unchanged; opened = c.in_ok-auction.ensures.opened; steady = c.in_ok-auction.ensures.steady } in
    done-frame c.args.auction.now c.args.journals.now s value seen files faults names first r how.NoMemory net c.in_ok-hosted.hosted c.in_ok-hosted.ensures (λ doors none. none)
