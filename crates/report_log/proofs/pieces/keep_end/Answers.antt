use Rattle.std.proofs.Common.{◌≡◌, ◌∙◌, ◌+◌, ◌-◌, ap, arith, drop, length, length-drop, sym, take}
use Rattle.std.proofs.lemmas.List.{drop-take, length-take-le, take_at}
use Rattle.report_log.proofs.pieces.keep_end.Goals as goal

pub returns : goal.returns
returns c =
    let old = c.args.buffer.now in
    let end = c.args.end in
    let left = c.args.left in
    let from = end - left in
    let n = end - from in
    let same : n ≡ left = omega (arith, c.requires.left) in
    let sum : from + n ≡ end = omega (arith, c.requires.left) in
    let long : length (take n (drop from old)) ≡ left = length-take-le n (drop from old) (omega (arith, length-drop from old, c.requires.end)) ∙ same in
    ap (take left) c.copy_within.ensures.after ∙ take_at (take n (drop from old)) (drop (0 + n) old) left long
    ∙ sym (drop-take from n old) ∙ ap (λ k. drop from (take k old)) sum
