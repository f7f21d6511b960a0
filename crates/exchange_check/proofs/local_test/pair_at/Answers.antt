use Rattle.std.proofs.Common.{arith, get_or, refl}
use Rattle.std.proofs.lemmas.Bool.{iff_false, false≢true}
use Rattle.exchange_check.proofs.local_test.pair_at.Goals as goal
use Rattle.exchange_check.proofs.AtPlace.{spot_within, falls_is}

pub falls-requires : goal.falls-requires
falls-requires c =
    let s = c.args.table.now.supply.now in
    let i = c.args.i in
    let j = c.args.j in
    let e = c.requires.table.distances i c.requires.i in
    let f = c.requires.table.distances j c.requires.j in
    let t = spot_within s c.args.index i j c.requires.within c.requires.i c.requires.j (c.has_room.ensures.0 c.if-not-has_room.false) in
    let few = c.requires.table.few in
    omega arith

pub returns-then-not-falls : goal.returns-then-not-falls
returns-then-not-falls c =
    let s = c.args.table.now.supply.now in
    let i = c.args.i in
    let j = c.args.j in
    let t = falls_is s c.args.table.now.values.now c.args.index i j (get_or c.args.table.now.strides.now i 0) (get_or c.args.table.now.strides.now j 0)
    c.requires.within c.requires.i c.requires.j (c.requires.table.distances i c.requires.i) (c.requires.table.distances j c.requires.j) in
    let b = c.has_room.ensures.0 c.if-not-has_room.false in
    ((λ r. absurd (false≢true r)), (λ p. absurd (iff_false c.falls.ensures c.if-not-falls.true (t.1 (p b).0))))

pub returns : goal.returns
returns c =
    let s = c.args.table.now.supply.now in
    let i = c.args.i in
    let j = c.args.j in
    let t = falls_is s c.args.table.now.values.now c.args.index i j (get_or c.args.table.now.strides.now i 0) (get_or c.args.table.now.strides.now j 0)
    c.requires.within c.requires.i c.requires.j (c.requires.table.distances i c.requires.i) (c.requires.table.distances j c.requires.j) in
    ((λ r b. (t.0 (c.falls.ensures.0 c.if-not-falls.false), (λ k hk. c.loop-k.invariant k (omega arith)))), (λ p. refl))
