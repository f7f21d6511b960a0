-- The disk was opened, synced and read, and closed.
use Rattle.std.proofs.Common.{◌∙◌, inr}
use Rattle.house_run.proofs.Closing.{disk-closed, only-this-one}
use Rattle.house_run.proofs.JournalSteps.{count-read, synced-so}
use Rattle.house_run.proofs.journals.read_named.Goals as goal

pub returns-clause-step : goal.returns-clause-step
returns-clause-step g c = record {
  files = disk-closed c.args.name.now (g.H.Disk.Disk.shown c.in-Ok.disk) (g.H.Disk.Disk.shown c.read_clock-answer.new.disk) (g.H.Shelf.files c.args.shelf.now) (g.H.Shelf.files c.disk.new.self) (g.H.Shelf.files c.close_disk.new.self) c.disk.ensures.files c.in-Ok.ensures.stands
      (λ told. synced-so _ _ (count-read c.read_clock-answer.result _ _ (c.read_clock-answer.ensures.synced told))) (c.read_clock-answer.ensures.later.claim ∙ c.in-Ok.ensures.fresh.unclaimed)
      c.close_disk.ensures.others c.close_disk.ensures.left;
  counts = only-this-one c.args.name.now _ _ _ _ c.in-Ok.ensures.opening.counts c.close_disk.ensures.counts;
  names = inr (c.close_disk.ensures.names ∙ c.in-Ok.ensures.opening.names);
}
