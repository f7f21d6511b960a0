use Rattle.std.proofs.Common.{ℕ, List, arith, subst}
use Rattle.exchange_check.proofs.scan.first_broken.Goals as goal
use Rattle.lot_base.specs.Box.{bundle_at, index_of}
use Rattle.valuation.specs.Values.{valuation_of}
use Rattle.exchange_check.specs.Exchange.{IsExchanged}
use Rattle.lot_base.proofs.Vec.{within_from_at, length-below}
use Rattle.lot_base.proofs.Index.{index_of-small}
use Rattle.lot_base.proofs.Index.{bundle_at-index_of}

pub returns-clause-none : goal.returns-clause-none
returns-clause-none c = λ x y k bx by h.
    let s = c.args.table.now.supply.now in
    let u = valuation_of s c.args.table.now.values.now in
    let z = c.requires.size in
    let ix = index_of-small s x bx in
    let iy = index_of-small s y by in
    let l = length-below x s bx in
    let w = within_from_at x k (omega arith) in
    let P : List ℕ → Type 0 = λ a. IsExchanged u a (bundle_at s (index_of s y)) k in
    let Q : List ℕ → Type 0 = λ b. IsExchanged u x b k in
    subst Q (bundle_at-index_of s y by) (subst P (bundle_at-index_of s x bx) (c.loop-x.invariant (index_of s x) (index_of s y) k (omega arith) iy (omega arith))) h
