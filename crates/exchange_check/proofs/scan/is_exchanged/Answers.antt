use Rattle.std.proofs.Common.{arith, refl, inl, inr}
use Rattle.std.proofs.lemmas.Bool.{iff_false, false≢true}
use Rattle.exchange_check.proofs.scan.is_exchanged.Goals as goal
use Rattle.lot_base.specs.Box.{bundle_at}
use Rattle.lot_base.proofs.Vec.{within_from_at, length-below}
use Rattle.exchange_check.proofs.AtPlace.{AtMost-bundle_at}
use Rattle.exchange_check.proofs.Spots.{more_of, alone}

pub overflow_sub-less : goal.overflow_sub-less
overflow_sub-less c =
    let r = c.requires in
    let t = alone _ _ _ _ _ r.table.distances r.x r.y r.good (more_of _ _ _ _ _ _ r.free_x r.free_y r.good (omega arith)) in
    t.room

pub overflow_add-more : goal.overflow_add-more
overflow_add-more c =
    let r = c.requires in
    let t = alone _ _ _ _ _ r.table.distances r.x r.y r.good (more_of _ _ _ _ _ _ r.free_x r.free_y r.good (omega arith)) in
    let within = t.more_in in
    let few = r.table.few in
    omega arith

pub returns-then-is_no_worse : goal.returns-then-is_no_worse
returns-then-is_no_worse c =
    let r = c.requires in
    let t = (alone _ _ _ _ _ r.table.distances r.x r.y r.good (more_of _ _ _ _ _ _ r.free_x r.free_y r.good (omega arith))).value c.args.table.now.values.now in
    ((λ b i. inl (t.0 (c.is_no_worse.ensures.0 c.if-is_no_worse.true))), (λ p. refl))

pub returns : goal.returns
returns c =
    let s = c.args.table.now.supply.now in
    let y = c.args.y in
    let r = c.requires in
    let lt = more_of _ _ _ _ _ _ r.free_x r.free_y r.good (omega arith) in
    let t = (alone _ _ _ _ _ r.table.distances r.x r.y r.good lt).value c.args.table.now.values.now in (
      (λ b. absurd (false≢true b)),
      (λ p. elim (p lt) [
        | inl i ↦ absurd (iff_false c.is_no_worse.ensures c.if-is_no_worse.false (t.1 i))
        | inr q ↦
            let i = q.1 in
            let w = within_from_at (bundle_at s y) q.0 (omega arith) in
            let len = length-below (bundle_at s y) s (AtMost-bundle_at s y r.y) in
            absurd (c.loop-other.invariant q.0 (omega arith) (i, q.2))
      ]),
    )
