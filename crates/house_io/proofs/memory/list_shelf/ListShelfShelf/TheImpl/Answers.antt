use Rattle.std.proofs.Common.{◌≡◌, refl}
use Rattle.std.proofs.lemmas.Result.{IfOk-weaker}
use Rattle.house_io.specs.Recorded.{moments_of}
use Rattle.house_io.specs.ListFiles.{disk_as_listed}
use Rattle.house_io.proofs.Shelving.{keeps-left, keeps-others, same-files, opened-stands}
use Rattle.house_io.specs.ListShelves.{closing}
use Rattle.house_io.proofs.memory.list_shelf.ListShelfShelf.TheImpl.Goals as goal

-- the disk that is opened stands as its file does, and no file changes
pub disk-tells : goal.disk-tells
disk-tells c =
    let old = c.args.self.now in
    let new = c.new.self.now in
    record {
      fresh = IfOk-weaker c.result _ _ (λ disk is. record { unclaimed = is.0; faults = is.1 }) c.ensures.fresh;
      stands = IfOk-weaker c.result _ _ (λ disk is. opened-stands new.told old.files new.files c.args.name.now disk.file.told (moments_of disk.file) disk.claimed disk.faults c.ensures.same.1 is.0 is.1) c.ensures.stands;
      files = same-files old.told new.told old.files new.files c.ensures.same.0 c.ensures.same.1;
      opening = c.ensures.opening;
    }

-- the disk that is closed leaves its file as it stands, and the others as they are
pub close_disk-tells : goal.close_disk-tells
close_disk-tells c =
    let old = c.args.self.now in
    let new = c.new.self.now in
    let disk = c.args.disk in
    let name = c.args.name.now in
    record {
      counts = c.ensures.added;
      left = keeps-left name disk.file.told disk.claimed (disk_as_listed disk) disk.faults (closing old) (closing new) c.ensures.keeps;
      others = keeps-others name disk.file.told disk.claimed (disk_as_listed disk) (closing old) (closing new) c.ensures.keeps;
      names = c.ensures.names;
    }
