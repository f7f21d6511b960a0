use Rattle.std.proofs.Common.{◌≡◌, ◌∙◌, ◌<◌, ◌+◌, ℕ, List, length, get_or, arith, inl, inr, sym, ap, subst}
use Rattle.std.specs.Prelude.{Contains, string_bytes}
use Rattle.std.proofs.lemmas.Bool.{cases_lt}
use Rattle.std.proofs.lemmas.List.{get_or_read, length_push}
use Rattle.clock_book.specs.declared.faults.OpenFault.{OpenFault}
use Rattle.house_run.specs.Disks.{AreNotOpen, AreOpen, fault_of}
use Rattle.house_run.specs.Needs.{journal_name}
use Rattle.house_run.specs.Seen.{shelf_seen}
use Rattle.house_run.proofs.DiskNames.{name-at, names-front, opened-front}
use Rattle.house_run.proofs.DiskSteps.{not-open, open-more}
use Rattle.house_run.proofs.disks.open_journals.Goals as goal

pub close_journals-requires-clause-opened : goal.close_journals-requires-clause-opened
close_journals-requires-clause-opened g c κs within =
    let t = c.loop-clock-test.true in
    opened-front c.args.names.now c.loop-clock.clock (g.H.Shelf.opened c.disk.new.self) (omega arith)
    (λ j name below. c.disk.ensures.opening.kept (string_bytes (get_or c.args.names.now j name)) (c.loop-clock.invariant.opening.opened j name below))

pub returns-in-loop-clock-clause-refused : goal.returns-in-loop-clock-clause-refused
returns-in-loop-clock-clause-refused g c = λ journals are.
    let names = c.args.names.now in
    let clock = c.loop-clock.clock in
    let below : clock < length names = c.loop-clock-test.true in
    let i = c.loop-clock.invariant.opening in
    let shelf = shelf_seen g.H.Shelf c.args.shelf.now c.close_journals.new.shelf in
    let is = c.deref.ensures ∙ ap (λ s. string_bytes s) c.index-names-clock.is ∙ name-at journals names clock c.index-names-clock.result are below ∙ ap (journal_name journals) (sym i.count) in
    let here : AreNotOpen journals (length names) (length c.loop-clock.disks.items) (fault_of c.in-Err.refusal) shelf =
    not-open g.H.Disk.Disk.shown journals c.in-Err.refusal c.loop-clock.disks.items c.deref.result.now (length names) shelf
    (g.H.Shelf.files c.loop-clock.shelf) (g.H.Shelf.files c.disk.new.self) (g.H.Shelf.faults c.loop-clock.shelf) (g.H.Shelf.faults c.disk.new.self) (g.H.Shelf.opened c.loop-clock.shelf) (g.H.Shelf.opened c.disk.new.self)
    (let k = i.count in omega arith) (let k = i.count in let f = c.requires.few in omega arith) is (i.are journals are) c.disk.ensures.files c.disk.ensures.opening.counts c.in-Err.ensures.opening.refused c.in-Err.ensures.opening.names
    (c.close_journals.ensures journals (names-front journals names clock (omega arith) are)) in
    subst (λ (k : ℕ). AreNotOpen journals (length names) k c.fault_of.result shelf) i.count
    (subst (λ (fault : OpenFault). AreNotOpen journals (length names) (length c.loop-clock.disks.items) fault shelf) (sym c.fault_of.ensures) here)

pub loop-clock-preserved : goal.loop-clock-preserved
loop-clock-preserved g c =
    let names = c.args.names.now in
    let clock = c.loop-clock.clock in
    let below : clock < length names = c.loop-clock-test.true in
    let i = c.loop-clock.invariant.opening in
    let disk = c.in-Ok-disk.disk in
    let shelf = shelf_seen g.H.Shelf c.args.shelf.now c.disk.new.self in
    let n = c.index-names-clock.result in
    let Holds : List ℕ → Type 0 = λ name. Contains (g.H.Shelf.opened c.disk.new.self) name in
    record {
      opening = record {
        count = ap length c.push_reserved.ensures.items ∙ length_push c.loop-clock.disks.items disk ∙ ap (λ k. k + 1) i.count;
        opened = λ k name less. elim (cases_lt k clock) [
          | inl before ↦ c.disk.ensures.opening.kept (string_bytes (get_or names k name)) (i.opened k name before)
          | inr beyond ↦
              let same : clock ≡ k = omega arith in
              subst (λ (m : ℕ). Holds (string_bytes (get_or names m name))) same
              (subst Holds (c.deref.ensures ∙ ap (λ s. string_bytes s) (get_or_read names clock n below c.index-names-clock.is name)) c.in-Ok-disk.ensures.opening.opened)
        ];
        are = λ journals are.
            let is = c.deref.ensures ∙ ap (λ s. string_bytes s) c.index-names-clock.is ∙ name-at journals names clock n are below ∙ ap (journal_name journals) (sym i.count) in
            subst (λ disks. AreOpen g.H.Disk.Disk.shown journals disks shelf) (sym c.push_reserved.ensures.items)
            (open-more g.H.Disk.Disk.shown journals c.loop-clock.disks.items disk c.deref.result.now shelf
            (g.H.Shelf.files c.loop-clock.shelf) (g.H.Shelf.faults c.loop-clock.shelf) (g.H.Shelf.opened c.loop-clock.shelf) is (i.are journals are)
            c.in-Ok-disk.ensures.fresh c.in-Ok-disk.ensures.stands c.disk.ensures.files c.in-Ok-disk.ensures.opening.steady c.in-Ok-disk.ensures.opening.names);
      };
      room = let r = c.loop-clock.invariant.room in let k = c.push_reserved.ensures.capacity in omega arith;
    }
