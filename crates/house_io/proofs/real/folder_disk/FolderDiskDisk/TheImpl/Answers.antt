use Rattle.std.proofs.Common.{◌≡◌, ap, rules, sym, true, false, true≢false, IsTrue}
use Rattle.std.specs.Prelude.{Result, Ok, Err, IfOk, OnOk, OnErr}
use Rattle.house_io.specs.Disks.{IsLater, untold}
use Rattle.house_io.proofs.real.folder_disk.FolderDiskDisk.TheImpl.Goals as goal

-- of a disk that never tells
none-told : {P : Type 0} → IsTrue false → P
none-told told = absurd (true≢false (sym told))

if_ok-untold : {T E : Type 0} (P : T → Type 0) (r : Result T E) → IfOk r (λ n. IsTrue false → P n)
if_ok-untold P (Ok n) = none-told
if_ok-untold P (Err e) = search rules

on_ok-untold : {T E : Type 0} (P : Type 0) (r : Result T E) → OnOk r (IsTrue false → P)
on_ok-untold P (Ok n) = none-told
on_ok-untold P (Err e) = search rules

on_err-untold : {T E : Type 0} (P : Type 0) (r : Result T E) → OnErr r (IsTrue false → P)
on_err-untold P (Ok n) = search rules
on_err-untold P (Err e) = none-told

on_err-map : {T E P Q : Type 0} (r : Result T E) → (P → Q) → OnErr r P → OnErr r Q
on_err-map (Ok n) f p = p
on_err-map (Err e) f p = f p

pub size-tells : goal.size-tells
size-tells g c = record {
  size = if_ok-untold _ c.result;
  moments = none-told;
  later = record { told = none-told; claim = c.ensures.claimed };
  cause = c.ensures.cause;
}

pub read_at-tells : goal.read_at-tells
read_at-tells g c = record {
  count = c.ensures.count;
  bytes = if_ok-untold _ c.result;
  moments = none-told;
  later = record { told = none-told; claim = c.ensures.claimed };
  cause = c.ensures.cause;
}

pub claim-tells : goal.claim-tells
claim-tells g c = record {
  claimed = c.ensures.claimed;
  failed = on_err-map c.result (λ same. record { told = none-told; claim = same.1 }) c.ensures.failed;
  told = none-told;
  moments = none-told;
  cause = c.ensures.cause;
}

pub write_at-tells : goal.write_at-tells
write_at-tells g c = record {
  written = on_ok-untold _ c.result;
  torn = on_err-untold _ c.result;
  later = record { told = none-told; claim = c.ensures.claimed };
  cause = c.ensures.cause;
}

pub sync-tells : goal.sync-tells
sync-tells g c = record {
  synced = on_ok-untold _ c.result;
  failed = on_err-untold _ c.result;
  later = record { told = none-told; claim = c.ensures.claimed };
  cause = c.ensures.cause;
}
