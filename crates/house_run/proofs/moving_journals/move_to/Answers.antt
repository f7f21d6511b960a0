-- The targets were not all opened, or they were, and moving came to what it says.
use Rattle.std.proofs.Common.{◌≡◌, ◌∙◌, ◌+◌, ℕ, List, Result, length, ap, subst, sym}
use Rattle.std.specs.Prelude.{String}
use Rattle.std.specs.declared.alloc.Global.{Global}
use Rattle.clock.specs.Reports.{histories}
use Rattle.migration.specs.Moves.{Moves}
use Rattle.migration.specs.declared.faults.MoveFault.{MoveFault}
use Rattle.house_run.specs.Disks.{AreNames, AreNotOpen, AreOpened}
use Rattle.house_run.specs.MovingJournals.{JournalsNotMoved}
use Rattle.house_run.specs.Seen.{shelf_seen}
use Rattle.house_run.specs.declared.ends.Ended.{Ended}
use Rattle.house_run.proofs.TargetSteps.{journals-moved, journals-not-moved, none-opened}
use Rattle.house_run.proofs.moving_journals.move_to.Goals as goal

pub returns-in-Err : goal.returns-in-Err
returns-in-Err g c =
    let value = c.args.auction.now in
    let target = c.args.target.now in
    let cs = histories c.args.clocks.now in
    let shelf = shelf_seen g.H.Shelf c.args.shelf.now c.open_journals.new.shelf in
    let same = c.deref.ensures.value in
    let are = subst (λ (names : List (String Global)). AreNames target names) (sym same) c.in-Ok.ensures.names in
    let long : length c.deref.result.now ≡ value.terms.bidders + 1 = ap length same ∙ c.in-Ok.ensures.count in
    let not = subst (λ (n : ℕ). AreNotOpen target n c.in-Err.unread.clock c.in-Err.unread.fault shelf) long (c.in-Err.ensures.refused target are) in
    subst (λ (end : Ended). JournalsNotMoved value cs target shelf end) (sym c.end_at.ensures) (none-opened c.in-Err.unread.fault value cs target c.in-Err.unread.clock shelf not)

pub close_journals-requires-clause-opened : goal.close_journals-requires-clause-opened
close_journals-requires-clause-opened g c κs within =
    subst (λ (names : List (String Global)). AreOpened names (g.H.Shelf.opened c.open_journals.new.shelf)) (c.deref.ensures.value ∙ sym c.deref-2.ensures.value) c.in-Ok-open_journals.ensures.opened

pub returns-in-Ok-answer : goal.returns-in-Ok-answer
returns-in-Ok-answer g c =
    let value = c.args.auction.now in
    let target = c.args.target.now in
    let cs = histories c.args.clocks.now in
    let shelf = shelf_seen g.H.Shelf c.args.shelf.now c.close_journals.new.shelf in
    let old = c.in-Ok-open_journals.disks.items in
    let disks = c.move_journals-answer.result.1.items in
    let are = subst (λ (names : List (String Global)). AreNames target names) (sym c.deref.ensures.value) c.in-Ok.ensures.names in
    let back = subst (λ (names : List (String Global)). AreNames target names) (sym c.deref-2.ensures.value) c.in-Ok.ensures.names in
    let long = c.in-Ok-open_journals.ensures.count ∙ ap length c.deref.ensures.value ∙ c.in-Ok.ensures.count in
    let M : Result (Unit {0}) MoveFault → Type 0 = λ answer. Moves g.H.Disk.Disk.shown value.terms value.digest cs old disks answer in
    journals-moved g.H.Disk.Disk.shown value cs target old disks shelf (g.H.Shelf.files c.open_journals.new.shelf) (g.H.Shelf.faults c.open_journals.new.shelf) (g.H.Shelf.opened c.open_journals.new.shelf) long
    (c.in-Ok-open_journals.ensures.open target are) (c.close_journals.ensures target back) c.in-Ok-answer.field-0 (subst M c.in-Ok-answer.is c.move_journals-answer.ensures)

pub returns : goal.returns
returns g c =
    let value = c.args.auction.now in
    let target = c.args.target.now in
    let cs = histories c.args.clocks.now in
    let shelf = shelf_seen g.H.Shelf c.args.shelf.now c.close_journals.new.shelf in
    let old = c.in-Ok-open_journals.disks.items in
    let disks = c.move_journals-answer.result.1.items in
    let are = subst (λ (names : List (String Global)). AreNames target names) (sym c.deref.ensures.value) c.in-Ok.ensures.names in
    let back = subst (λ (names : List (String Global)). AreNames target names) (sym c.deref-2.ensures.value) c.in-Ok.ensures.names in
    let long = c.in-Ok-open_journals.ensures.count ∙ ap length c.deref.ensures.value ∙ c.in-Ok.ensures.count in
    let M : Result (Unit {0}) MoveFault → Type 0 = λ answer. Moves g.H.Disk.Disk.shown value.terms value.digest cs old disks answer in
    subst (λ (end : Ended). JournalsNotMoved value cs target shelf end) (sym c.move_end.ensures)
    (journals-not-moved g.H.Disk.Disk.shown value cs target old disks shelf (g.H.Shelf.files c.open_journals.new.shelf) (g.H.Shelf.faults c.open_journals.new.shelf) (g.H.Shelf.opened c.open_journals.new.shelf) long
    (c.in-Ok-open_journals.ensures.open target are) (c.close_journals.ensures target back) c.in-Err-answer.fault (subst M c.in-Err-answer.is c.move_journals-answer.ensures))
