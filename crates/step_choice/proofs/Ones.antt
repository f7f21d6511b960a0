-- The goods of a set are the ones of its number.
use Rattle.std.proofs.Common.{◌≡◌, ◌<◌, ◌^◌, ◌+◌, ◌*◌, ◌/◌, ◌%◌, ℕ, zero, suc, refl, ap, ◌∙◌, arith}
use Rattle.std.proofs.lemmas.Nat.{ones_cat}
use Rattle.std.proofs.Math.Nat.{pow-suc}
use Rattle.std.specs.Int.Count.{ones}
use Rattle.lot_base.specs.Goods.{size_of}

last-one : (d : ℕ) → d < 2 → ones d ≡ d
unfolding ones
last-one zero below = refl
last-one (suc zero) below = refl
last-one (suc (suc d)) below = absurd (omega arith)

pub size-ones : (goods set : ℕ) → set < 2 ^ goods → ones set ≡ size_of goods set
size-ones zero set below = let none : set ≡ 0 = omega (arith, below) in ap ones none ∙ last-one 0 (omega arith)
size-ones (suc goods) set below =
    let power : 2 ^ suc goods ≡ 2 ^ goods * 2 = pow-suc 2 goods in
    let halves : set ≡ set / 2 * 2 ^ 1 + set % 2 = omega arith in
    let split : ones (set / 2 * 2 ^ 1 + set % 2) ≡ ones (set / 2) + ones (set % 2) = ones_cat 1 (set / 2) (set % 2) (omega arith) in
    let rest = size-ones goods (set / 2) (omega (arith, below, power)) in
    let last = last-one (set % 2) (omega arith) in
    ap ones halves ∙ split ∙ omega (arith, rest, last)
