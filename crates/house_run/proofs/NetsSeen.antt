-- What a contract sees of the net in one call, by what the net tells of its doors and links.
use Rattle.std.proofs.Common.{◌≡◌, sym}
use Rattle.house_io.specs.NetsShown.{NetShown}
use Rattle.house_run.specs.Nets.{net_seen_by}

pub as-shown : {N : Type 0} (shown other : N → NetShown) → ((net : N) → shown net ≡ other net) → (before after : N) → net_seen_by other before after ≡ net_seen_by shown before after
as-shown shown other shows before after = λ i. record {
  told_before = (sym (shows before) i).told;
  told = (sym (shows after) i).told;
  faults_before = (sym (shows before) i).faults;
  faults = (sym (shows after) i).faults;
}
