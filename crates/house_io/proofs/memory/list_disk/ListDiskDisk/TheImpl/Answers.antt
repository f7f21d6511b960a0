use Rattle.std.proofs.Common.{◌≡◌, refl, length, rules, IsTrue}
use Rattle.std.proofs.lemmas.List.{get_or_past}
use Rattle.std.specs.Prelude.{Result, Ok, Err, OnOk, OnErr}
use Rattle.house_io.specs.Moments.{Moments, wrote, HasTorn}
use Rattle.house_io.specs.Recorded.{moments_of}
use Rattle.house_io.proofs.Moments.{settled_torn}
use Rattle.house_io.proofs.Shown.{told-keep, told-later}
use Rattle.house_io.proofs.memory.list_disk.ListDiskDisk.TheImpl.Goals as goal

on_ok-both : {T E P Q S : Type 0} (r : Result T E) → (P → Q → S) → OnOk r P → OnOk r Q → OnOk r S
on_ok-both (Ok x) f p q = f p q
on_ok-both (Err e) f p q = p

on_err-both : {T E P Q S : Type 0} (r : Result T E) → (P → Q → S) → OnErr r P → OnErr r Q → OnErr r S
on_err-both (Ok x) f p q = p
on_err-both (Err e) f p q = f p q

either-way : {T E P Q S : Type 0} (r : Result T E) → (P → S) → (Q → S) → OnOk r P → OnErr r Q → S
either-way (Ok x) f g p q = f p
either-way (Err e) f g p q = g q

-- a failed write left what a read gives as it was
pub write_at-tells : goal.write_at-tells
write_at-tells c =
    let old = c.args.self.now in
    let new = c.new.self.now in
    let file = (moments_of old.file).now.read in
    let at = c.args.at in
    let from = c.args.from.now in
    record {
      written = on_ok-both c.result
          (λ takes is. told-keep (λ (before after : Moments). after ≡ wrote at from before) old.file.told new.file.told (moments_of old.file) (moments_of new.file) old.claimed new.claimed old.faults new.faults
          (λ told. (takes.tells.0 told).0) is)
          c.ensures.whole c.ensures.written;
      torn = on_err-both c.result
          (λ takes left. told-keep (λ (before after : Moments). HasTorn at (length from) before after) old.file.told new.file.told (moments_of old.file) (moments_of new.file) old.claimed new.claimed old.faults new.faults
          (λ told. (takes.tells.0 told).0) (λ told. (file, settled_torn file file at (length from) refl, left told, λ i past _. get_or_past file i 0 past)))
          c.ensures.part c.ensures.torn;
      later = told-later old.file.told new.file.told (moments_of old.file) (moments_of new.file) old.claimed new.claimed old.faults new.faults
          (either-way c.result (λ takes told. (takes.tells.0 told).0) (λ takes told. (takes.tells.0 told).0) c.ensures.whole c.ensures.part) c.ensures.claimed;
      cause = search rules;
    }
