use Rattle.std.proofs.Common.{◌≡◌, ◌+◌, ◌∙◌, refl, length, rules}
use Rattle.house_io.proofs.Overlays.{put_back}
use Rattle.house_io.proofs.memory.recorded_file.overwrite.Goals as goal

pub returns-clause-bytes : goal.returns-clause-bytes
returns-clause-bytes c =
    let long : c.lengthen.new.bytes.len ≡ length c.deref_mut.result.now = search rules in
    put_back c.args.bytes.now.items c.args.from.now c.args.at (c.args.at + length c.args.from.now) refl c.lengthen.new.bytes.len c.deref_mut.result.now c.copy_from_slice.new.self c.lengthen.new.bytes.items (c.deref_mut.ensures.value ∙ c.lengthen.ensures.filled) c.copy_from_slice.ensures.after c.lengthen.ensures.filled long
