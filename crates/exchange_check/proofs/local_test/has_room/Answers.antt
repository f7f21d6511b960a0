use Rattle.std.proofs.Common.{arith, get_or}
use Rattle.std.proofs.lemmas.Bool.{leb-true, le-leb}
use Rattle.exchange_check.proofs.local_test.has_room.Goals as goal
use Rattle.lot_base.specs.Box.{bundle_at}
use Rattle.exchange_check.proofs.AtPlace.{AtMost-bundle_at, room_same, room_other}

pub returns-then-i-j : goal.returns-then-i-j
returns-then-i-j c =
    let s = c.args.supply.now in
    let f = get_or c.args.free.now c.args.i 0 in
    let r = room_same s (bundle_at s c.args.index) c.args.i c.args.j f (AtMost-bundle_at s c.args.index c.requires.within) c.requires.i c.requires.j c.if-i-j.true (c.requires.free c.args.i c.requires.i) in
    ((λ t. r.0 (leb-true 2 f t)), (λ b. le-leb 2 f (r.1 b)))

pub returns-then-free-i-ge1 : goal.returns-then-free-i-ge1
returns-then-free-i-ge1 c =
    let s = c.args.supply.now in
    let f = get_or c.args.free.now c.args.i 0 in
    let g = get_or c.args.free.now c.args.j 0 in
    let r = room_other s (bundle_at s c.args.index) c.args.i c.args.j f g (AtMost-bundle_at s c.args.index c.requires.within) c.requires.i c.requires.j c.if-i-j.false
    (c.requires.free c.args.i c.requires.i) (c.requires.free c.args.j c.requires.j) in
    ((λ t. r.0 (c.if-free-i-ge1.true, leb-true 1 g t)), (λ b. le-leb 1 g (r.1 b).1))

pub returns-else-free-i-ge1 : goal.returns-else-free-i-ge1
returns-else-free-i-ge1 c =
    let s = c.args.supply.now in
    let f = get_or c.args.free.now c.args.i 0 in
    let g = get_or c.args.free.now c.args.j 0 in
    let r = room_other s (bundle_at s c.args.index) c.args.i c.args.j f g (AtMost-bundle_at s c.args.index c.requires.within) c.requires.i c.requires.j c.if-i-j.false
    (c.requires.free c.args.i c.requires.i) (c.requires.free c.args.j c.requires.j) in
    ((λ t. absurd (let h = leb-true 1 f t in let n = c.if-free-i-ge1.false in omega arith)), (λ b. le-leb 1 f (r.1 b).0))
