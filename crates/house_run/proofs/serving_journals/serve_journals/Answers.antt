-- The journals were not all opened, or they were, and the house on them came to what it says.
use Rattle.std.proofs.Common.{◌≡◌, ◌∙◌, ◌+◌, ℕ, List, length, Err, inr, ap, subst, sym, option_map}
use Rattle.std.specs.Prelude.{String}
use Rattle.std.specs.declared.alloc.Global.{Global}
use Rattle.command_line.specs.CommandView.{serving_as}
use Rattle.house_run.specs.Disks.{AreNames, AreNotOpen, AreOpened}
use Rattle.house_io.specs.NetsShown.{net_shown, net_view}
use Rattle.house_run.specs.Nets.{NetSeen, net_seen_by}
use Rattle.house_run.specs.Seen.{shelf_seen}
use Rattle.house_run.specs.Serving.{ServesJournals}
use Rattle.house_run.specs.declared.ends.Ended.{Ended}
use Rattle.house_run.specs.declared.ends.Ended.TheVariants as how
use Rattle.house_run.proofs.NetsSeen.{as-shown}
use Rattle.house_run.proofs.ServeSteps.{none-opened, none-served, served-journals}
use Rattle.house_run.proofs.serving_journals.serve_journals.Goals as goal

pub returns-in_default : goal.returns-in_default
returns-in_default g c =
    let value = c.args.auction.now in
    let s = serving_as c.args.serving.now in
    let shelf = shelf_seen g.H.Shelf c.args.shelf.now c.args.shelf.now in
    let other = net_shown g.N.Net.told g.N.Door.Door.told g.N.Door.Link.Link.told g.N.Door.Link.Link.faults g.N.Link.Link.told g.N.Net.faults in
    subst (λ (n : NetSeen). ServesJournals value c.args.journals.now s shelf n (Err how.NoMemory)) (as-shown g.N.Net.shown other g.met.N.Net.shows c.args.net.now c.args.net.now)
    (inr (none-served value c.args.journals.now s (g.H.Shelf.files c.args.shelf.now) (g.H.Shelf.faults c.args.shelf.now) (g.H.Shelf.opened c.args.shelf.now)
    (option_map (net_view g.N.Door.Door.told g.N.Door.Link.Link.told g.N.Door.Link.Link.faults g.N.Link.Link.told) (g.N.Net.told c.args.net.now)) (g.N.Net.faults c.args.net.now)))

pub returns-in-Err : goal.returns-in-Err
returns-in-Err g c =
    let value = c.args.auction.now in
    let journals = c.args.journals.now in
    let shelf = shelf_seen g.H.Shelf c.args.shelf.now c.open_journals.new.shelf in
    let other = net_shown g.N.Net.told g.N.Door.Door.told g.N.Door.Link.Link.told g.N.Door.Link.Link.faults g.N.Link.Link.told g.N.Net.faults in
    let net = net_seen_by other c.args.net.now c.args.net.now in
    let same = c.deref.ensures.value in
    let are = subst (λ (names : List (String Global)). AreNames journals names) (sym same) c.in-Ok.ensures.names in
    let long : length c.deref.result.now ≡ value.terms.bidders + 1 = ap length same ∙ c.in-Ok.ensures.count in
    let not = subst (λ (n : ℕ). AreNotOpen journals n c.in-Err.unread.clock c.in-Err.unread.fault shelf) long (c.in-Err.ensures.refused journals are) in
    subst (λ (n : NetSeen). ServesJournals value journals (serving_as c.args.serving.now) shelf n (Err c.end_at.result)) (as-shown g.N.Net.shown other g.met.N.Net.shows c.args.net.now c.args.net.now)
    (subst (λ (end : Ended). ServesJournals value journals (serving_as c.args.serving.now) shelf net (Err end)) (sym c.end_at.ensures)
    (inr (none-opened c.in-Err.unread.fault value journals (serving_as c.args.serving.now) c.in-Err.unread.clock shelf (option_map (net_view g.N.Door.Door.told g.N.Door.Link.Link.told g.N.Door.Link.Link.faults g.N.Link.Link.told) (g.N.Net.told c.args.net.now)) (g.N.Net.faults c.args.net.now) not)))

pub close_journals-requires-clause-opened : goal.close_journals-requires-clause-opened
close_journals-requires-clause-opened g c κs within =
    subst (λ (names : List (String Global)). AreOpened names (g.H.Shelf.opened c.open_journals.new.shelf)) (c.deref.ensures.value ∙ sym c.deref-2.ensures.value) c.in-Ok-open_journals.ensures.opened

pub returns : goal.returns
returns g c =
    let value = c.args.auction.now in
    let journals = c.args.journals.now in
    let s = serving_as c.args.serving.now in
    let shelf = shelf_seen g.H.Shelf c.args.shelf.now c.close_journals.new.shelf in
    let are = subst (λ (names : List (String Global)). AreNames journals names) (sym c.deref.ensures.value) c.in-Ok.ensures.names in
    let back = subst (λ (names : List (String Global)). AreNames journals names) (sym c.deref-2.ensures.value) c.in-Ok.ensures.names in
    let long = c.in-Ok-open_journals.ensures.count ∙ ap length c.deref.ensures.value ∙ c.in-Ok.ensures.count in
    let other = net_shown g.N.Net.told g.N.Door.Door.told g.N.Door.Link.Link.told g.N.Door.Link.Link.faults g.N.Link.Link.told g.N.Net.faults in
    subst (λ (n : NetSeen). ServesJournals value journals s shelf n c.host-answer.result.0) (as-shown g.N.Net.shown other g.met.N.Net.shows c.args.net.now c.host-answer.new.net)
    (served-journals g.H.Disk.Disk.shown g.N.Door.Door.told g.N.Door.Door.faults g.N.Door.Link.Link.told g.N.Door.Link.Link.faults g.N.Link.Link.told value journals s
    c.in-Ok-open_journals.disks.items c.host-answer.result.1.items shelf (g.H.Shelf.files c.open_journals.new.shelf) (g.H.Shelf.faults c.open_journals.new.shelf) (g.H.Shelf.opened c.open_journals.new.shelf) (g.N.Net.told c.args.net.now) (g.N.Net.told c.host-answer.new.net)
    (g.N.Net.faults c.args.net.now) (g.N.Net.faults c.host-answer.new.net) long (c.in-Ok-open_journals.ensures.open journals are) (c.close_journals.ensures journals back) c.host-answer.result.0 c.host-answer.ensures)
