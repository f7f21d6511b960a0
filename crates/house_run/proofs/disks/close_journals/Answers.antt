use Rattle.std.proofs.Common.{◌≡◌, ◌∙◌, ◌<◌, ◌+◌, ◌++◌, ℕ, List, [], ◌∷◌, length, get_or, arith, refl, rules, sym, ap, subst}
use Rattle.std.specs.Prelude.{Contains, string_bytes}
use Rattle.std.proofs.lemmas.List.{length_push}
use Rattle.house_run.specs.Needs.{journal_name}
use Rattle.house_run.specs.Seen.{shelf_seen}
use Rattle.house_run.proofs.DiskNames.{name-at}
use Rattle.house_run.proofs.DiskSteps.{given-more, next-of, none-given}
use Rattle.house_run.proofs.disks.close_journals.Goals as goal

pub loop-name-init : goal.loop-name-init
loop-name-init g c = record {
  front = [];
  disks_are = sym c.from_vec-rest.ensures.items;
  count = refl;
  left = let e = ap length c.from_vec-rest.ensures.items in let n = c.requires.count in omega arith;
  same = refl;
  given = λ journals are. none-given g.H.Disk.Disk.shown journals (g.H.Shelf.files c.args.shelf.now) (g.H.Shelf.faults c.args.shelf.now) (g.H.Shelf.opened c.args.shelf.now);
}

pub close_disk-requires : goal.close_disk-requires
close_disk-requires g c =
    let n = c.name-item.result in
    let h = c.requires.opened c.loop-name.name-index n c.loop-name-test.true in
    let P : List (List ℕ) → List ℕ → Type 0 = λ opened name. Contains opened name in
    let read : string_bytes (get_or c.args.names.now c.loop-name.name-index n) ≡ c.deref.result.now = ap (λ s. string_bytes s) (sym c.name-item.is) ∙ sym c.deref.ensures in
    subst (P (g.H.Shelf.opened c.loop-name.shelf)) read (subst (λ (opened : List (List ℕ)). P opened (string_bytes (get_or c.args.names.now c.loop-name.name-index n))) (sym c.loop-name.invariant.same) h)

pub loop-name-preserved : goal.loop-name-preserved
loop-name-preserved g c =
    let i = c.loop-name.invariant in
    let disk = c.unwrap-disk.result in
    let is : c.loop-name.rest.items ≡ disk ∷ c.pop_front.new.self.items = search rules in
    let below : c.loop-name.name-index < length c.args.names.now = c.loop-name-test.true in
    record {
      front = i.front ++ disk ∷ [];
      disks_are = next-of c.args.disks.items i.front c.loop-name.rest.items c.pop_front.new.self.items disk is i.disks_are;
      count = length_push i.front disk ∙ ap (λ n. n + 1) i.count;
      left = let e = ap length is in let l = i.left in omega arith;
      same = c.close_disk.ensures.names ∙ i.same;
      given = λ journals are.
          given-more g.H.Disk.Disk.shown journals i.front disk c.deref.result.now (shelf_seen g.H.Shelf c.args.shelf.now c.close_disk.new.self)
          (g.H.Shelf.files c.loop-name.shelf) (g.H.Shelf.faults c.loop-name.shelf) (g.H.Shelf.opened c.loop-name.shelf) (let k = i.count in let f = c.requires.few in omega arith)
          (c.deref.ensures ∙ ap (λ s. string_bytes s) c.name-item.is ∙ name-at journals c.args.names.now c.loop-name.name-index c.name-item.result are below ∙ ap (journal_name journals) (sym i.count))
          (i.given journals are) c.close_disk.ensures.counts c.close_disk.ensures.left c.close_disk.ensures.others c.close_disk.ensures.names;
    }
