use Rattle.std.proofs.Common.{◌≡◌, ◌∙◌, List, length, sym, ap, subst, arith}
use Rattle.std.proofs.lemmas.List.{length-map}
use Rattle.clock_book.specs.declared.entries.Entry.{Entry}
use Rattle.clock_book.specs.declared.origins.Origin.{Origin}
use Rattle.turn_desk.specs.Passes.{Opened, Known}
use Rattle.clock_book.specs.Books.{BookOf}
use Rattle.clock_family.specs.Houses.{HousePassOf, IsOpened}
use Rattle.clock_family.specs.Rows.{AreDealt}
use Rattle.clock_family.proofs.Openings.{house-opened, laid-all}
use Rattle.clock_family.proofs.houses.House.open.Goals as goal

pub deal-desks-requires-clause-passes : goal.deal-desks-requires-clause-passes
deal-desks-requires-clause-passes g c =
    laid-all g.D.Disk.shown c.args.auction.now.terms c.args.auction.now.digest c.args.passes c.args.disks.items c.in-Ok-lay_all.laid.items (length c.in-Ok.tray.rows.items) c.in-Ok-lay_all.ensures.ok (let n = c.requires.disks in omega (arith, n)) c.in-Ok.ensures.passes

pub returns-in-Ok-lay_all-clause-opened : goal.returns-in-Ok-lay_all-clause-opened
returns-in-Ok-lay_all-clause-opened g c =
    let laid = c.in-Ok-lay_all.laid.items in
    let rows = c.deal-desks.new.rows.items in
    let passes = c.gather-passes.result.items in
    let many : length rows ≡ c.args.passes = c.deal-desks.ensures.count ∙ c.in-Ok.ensures.passes in
    let is = c.gather-passes.ensures.rows in
    let count : length passes ≡ c.args.passes = sym (length-map passes (λ (p : HousePassOf). p.passes)) ∙ ap length is ∙ length-map rows (λ v. v.items) ∙ many in
    let Dealt : List (List (Known Entry Origin)) → Type 0 = λ rs. AreDealt laid rs in
    let opened = house-opened g.D.Disk.shown c.args.auction.now.terms c.args.auction.now.digest c.args.passes c.args.disks.items laid passes c.in-Ok-lay_all.ensures.ok c.in-Ok-lay_all.ensures.count c.requires.disks (subst Dealt (sym is) c.deal-desks.ensures.dealt) count (c.gather-passes.ensures.room ∙ many) in
    let Is : List (Opened (BookOf g.row.D.Denot)) → Type 0 = λ ds. IsOpened g.D.Disk.shown c.args.auction.now.terms c.args.auction.now.digest c.args.passes c.args.disks.items (record { terms = c.args.auction.now.terms; digest = c.args.auction.now.digest; desks = ds }) passes in
    subst Is (sym c.deal-desks.ensures.desks) opened
