use Rattle.house_run.proofs.HouseBack.{unused-back}
use Rattle.house_run.proofs.hosting.close_house.Goals as goal

pub returns : goal.returns
returns g c =
    unused-back g.D.Disk.shown c.args.house c.args.passes.items c.close.result.items c.take_apart.new.disks.items c.requires.new c.close.ensures.closed c.take_apart.ensures.disks c.take_apart.ensures.kept
