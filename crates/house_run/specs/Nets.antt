-- What a contract sees of the net in one call.
use Rattle.std.specs.Prelude.{◌≡◌, ℕ, Option}
use Rattle.house_io.specs.NetsShown.{NetShown, NetView}
use Rattle.house_io.specs.declared.nets.Net as nets

-- the net of a call: what it tells, and the count of its faults, as the call began and as it ended
pub record NetSeen : Type 0 where
  pub told_before : Option NetView
  pub told : Option NetView
  pub faults_before : ℕ
  pub faults : ℕ

abbrev pub net_seen_by : {N : Type 0} → (N → NetShown) → N → N → NetSeen
net_seen_by shown before after = record {
  told_before = (shown before).told;
  told = (shown after).told;
  faults_before = (shown before).faults;
  faults = (shown after).faults;
}

abbrev pub net_seen : {N L D M : Type 0} → nets.Ghosts N L D M → N → N → NetSeen
net_seen net before after = net_seen_by net.shown before after

-- nothing was done on the net
abbrev pub IsNetUntouched : NetSeen → Type 0
IsNetUntouched net = (net.told ≡ net.told_before) × (net.faults ≡ net.faults_before)
