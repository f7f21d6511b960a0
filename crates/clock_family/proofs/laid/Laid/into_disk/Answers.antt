use Rattle.std.proofs.Common.{◌≡◌, [], sym, subst}
use Rattle.std.specs.List.{AllByRecursion}
use Rattle.clock_book.specs.declared.entries.Entry.{Entry}
use Rattle.clock_book.specs.declared.origins.Origin.{Origin}
use Rattle.turn_desk.specs.Passes.{Known, Closes}
use Rattle.clock_book.specs.Books.{BookOf}
use Rattle.clock_family.specs.Opening.{LaidOf, IsGivenBack}
use Rattle.clock_family.proofs.Unused.{same-history, given-back}
use Rattle.clock_family.proofs.laid.Laid.into_disk.Goals as goal

pub returns : goal.returns
returns g c =
    let first = c.self.inside.desk.book in
    let ps = c.self.inside.passes.items in
    let b = c.into_book-book.result in
    let k = c.close.ensures in
    let Nothing : LaidOf g.row.D.Denot → Type 0 = λ l. AllByRecursion (λ (p : Known Entry Origin). p.own ≡ []) l.passes in
    let nothing = subst Nothing (sym c.self.view_is) c.requires.unused.made_nothing in
    let Is : BookOf g.row.D.Denot → Type 0 = Closes (λ (x : BookOf g.row.D.Denot). x.state.history) (λ (x : BookOf g.row.D.Denot). x.origin) first ps in
    let closes : Is b = subst Is (sym c.into_book-book.ensures) (record { origin_is = k.origin_is; goes_on = k.goes_on; seen = k.seen; also = k.also; own = k.own; places = k.places }) in
    let same = same-history (λ (x : BookOf g.row.D.Denot). x.state.history) (λ (x : BookOf g.row.D.Denot). x.origin) first ps b nothing closes in
    let back = given-back g.D.Disk.shown b first.origin first.state.history c.into_parts-clock.result.1 c.clock-kept.ensures.kept closes.origin_is same c.into_parts-clock.ensures.disk in
    let Back : LaidOf g.row.D.Denot → Type 0 = λ l. IsGivenBack g.D.Disk.shown l.desk.book.origin l.desk.book.state.history c.into_parts-clock.result.1 in
    record { given_back = subst Back c.self.view_is back }
