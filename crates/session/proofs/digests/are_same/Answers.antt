use Rattle.std.proofs.Common.{◌<◌, ◌∙◌, sym, ap, arith, length, Bool, ◌&&◌, nat_eq, slice_index_or}
use Rattle.session.proofs.Compared.{one_more}
use Rattle.session.proofs.digests.are_same.Goals as goal

pub loop-place-preserved : goal.loop-place-preserved
loop-place-preserved c =
    let left = c.args.left.now in
    let right = c.args.right.now in
    let place = c.loop-place.place in
    let in_left : place < length left = omega (arith, c.loop-place-test.true, c.type_inv.left) in
    let in_right : place < length right = omega (arith, c.loop-place-test.true, c.type_inv.right) in
    ap (λ (b : Bool). b && nat_eq (slice_index_or left place 0) (slice_index_or right place 0)) c.loop-place.invariant ∙ sym (one_more left right place 0 0 in_left in_right)
