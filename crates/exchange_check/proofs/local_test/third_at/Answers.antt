use Rattle.std.proofs.Common.{◌<◌, List, ℕ, arith, get_or, subst}
use Rattle.exchange_check.proofs.local_test.third_at.Goals as goal
use Rattle.lot_base.specs.Goods.{at, AtMost}
use Rattle.lot_base.specs.Box.{bundle_at}
use Rattle.exchange_check.proofs.Local.{up-up}
use Rattle.exchange_check.proofs.AtPlace.{in_place, spot_within, third_is}

pub third_holds-requires-clause-ab : goal.third_holds-requires-clause-ab
third_holds-requires-clause-ab c =
    let s = c.args.table.now.supply.now in
    let i = c.args.i in
    let j = c.args.j in
    let e = c.requires.table.distances i c.requires.i in
    let f = c.requires.table.distances j c.requires.j in
    let t = spot_within s c.args.index i j c.requires.within c.requires.i c.requires.j c.requires.pair in
    let few = c.requires.table.few in
    omega arith

pub third_holds-requires-clause-ac : goal.third_holds-requires-clause-ac
third_holds-requires-clause-ac c =
    let s = c.args.table.now.supply.now in
    let i = c.args.i in
    let k = c.args.k in
    let w = bundle_at s c.args.index in
    let e = c.requires.table.distances i c.requires.i in
    let f = c.requires.table.distances k c.requires.k in
    let g = c.requires.free k c.requires.k in
    let h : at w k < at s k = omega arith in
    let t = spot_within s c.args.index i k c.requires.within c.requires.i c.requires.k (in_place s w i c.args.j k c.requires.i c.if-k-i.false h c.requires.pair) in
    let few = c.requires.table.few in
    omega arith

pub third_holds-requires-clause-bc : goal.third_holds-requires-clause-bc
third_holds-requires-clause-bc c =
    let s = c.args.table.now.supply.now in
    let j = c.args.j in
    let k = c.args.k in
    let w = bundle_at s c.args.index in
    let e = c.requires.table.distances j c.requires.j in
    let f = c.requires.table.distances k c.requires.k in
    let g = c.requires.free k c.requires.k in
    let h : at w k < at s k = omega arith in
    let B : List ℕ → Type 0 = λ r. AtMost r s in
    let t = spot_within s c.args.index j k c.requires.within c.requires.j c.requires.k (in_place s w j c.args.i k c.requires.j c.if-k-j.false h (subst B (up-up w c.args.i j) c.requires.pair)) in
    let few = c.requires.table.few in
    omega arith

pub returns : goal.returns
returns c =
    let s = c.args.table.now.supply.now in
    let i = c.args.i in
    let j = c.args.j in
    let k = c.args.k in
    let w = bundle_at s c.args.index in
    let g = c.requires.free k c.requires.k in
    let h : at w k < at s k = omega arith in
    let t = third_is s c.args.table.now.values.now c.args.index i j k (get_or c.args.table.now.strides.now i 0) (get_or c.args.table.now.strides.now j 0) (get_or c.args.table.now.strides.now k 0)
    c.requires.within c.requires.i c.requires.j c.requires.k (c.requires.table.distances i c.requires.i) (c.requires.table.distances j c.requires.j) (c.requires.table.distances k c.requires.k) in
    ((λ r ni nj lt. t.0 (c.third_holds.ensures.0 r)), (λ f. c.third_holds.ensures.1 (t.1 (f c.if-k-i.false c.if-k-j.false h))))
