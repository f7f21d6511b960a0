use Rattle.std.proofs.Common.{◌∙◌, ◌+◌, ap, length}
use Rattle.std.proofs.lemmas.List.{length_push}
use Rattle.house_run.proofs.DiskNames.{names-more}
use Rattle.house_run.proofs.disks.journal_names.Goals as goal

pub loop-clock-preserved : goal.loop-clock-preserved
loop-clock-preserved c = record {
  names = names-more c.args.journals.now c.loop-clock.names.items c.push.new.self.items c.in_ok-name.name c.loop-clock.clock c.loop-clock.invariant.names c.loop-clock.invariant.count c.in_ok-name.ensures c.in_ok-push.ensures.items;
  count = ap length c.in_ok-push.ensures.items ∙ length_push c.loop-clock.names.items c.in_ok-name.name ∙ ap (λ n. n + 1) c.loop-clock.invariant.count;
}
