use Rattle.std.proofs.Common.{◌∙◌, ap, length, min, take}
use Rattle.house_io.proofs.Fronts.{takes-front, after_place}
use Rattle.house_io.proofs.memory.sure.take_front.Goals as goal

-- what was copied is a front of what was left
pub returns-clause-bytes : goal.returns-clause-bytes
returns-clause-bytes c =
    let left = after_place c.args.bytes.now c.args.at.now in
    takes-front c.args.bytes.now c.args.into.now c.copy_from_slice.new.self c.args.at.now c.min-count.result c.if-at-bytes.false
    (c.min-count.ensures ∙ ap (λ xs. min (length xs) (length c.args.into.now)) left) (c.copy_from_slice.ensures.after ∙ ap (take c.min-count.result) left)
