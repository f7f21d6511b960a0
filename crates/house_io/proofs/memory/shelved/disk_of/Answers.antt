use Rattle.std.proofs.Common.{◌≡◌, ◌∙◌, ap, rules}
use Rattle.std.specs.Prelude.{IfOk}
use Rattle.std.proofs.lemmas.Result.{IfOk-weaker}
use Rattle.house_io.specs.ShelvedFiles.{disk_at}
use Rattle.house_io.proofs.Shelving.{moments_at-shown}
use Rattle.house_io.proofs.memory.shelved.disk_of.Goals as goal

-- the disk stands as the file is shown
pub returns-in-Some-clause-moments : goal.returns-in-Some-clause-moments
returns-in-Some-clause-moments g c =
    let is : IfOk c.open.result (λ disk. g.D.MemoryDisk.stands disk ≡ disk_at c.args.files.now.there.items c.args.room c.args.name.now) = search rules in
    IfOk-weaker c.open.result _ _ (λ disk same. ap (λ d. d.moments) same ∙ moments_at-shown c.args.files.now.there.items c.args.room c.args.name.now) is
