use Rattle.auction_file.proofs.Cells.{padded-copied}
use Rattle.auction_file.proofs.naming.name_cells.Goals as goal

pub returns : goal.returns
returns c = padded-copied c.args.bytes.now c.copy_from_slice.new.self c.copy_from_slice.ensures.after
