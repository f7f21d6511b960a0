-- The units of sets of goods, with a good more that comes after the others.
use Rattle.std.proofs.Common.{◌≡◌, ◌<◌, ◌≤◌, ℕ, zero, suc, ◌+◌, ◌-◌, ◌*◌, ◌/◌, ◌%◌, ◌^◌, nat_eq, cond, List, [], ◌∷◌, length, get_or, inl, inr, refl, ◌∙◌, ap, arith}
use Rattle.std.proofs.lemmas.Bool.{cases_lt}
use Rattle.std.proofs.Math.Nat.{pow-suc}
use Rattle.lot_base.specs.Goods.{quantity_in}

-- no good has no units
pub units-none : (goods : List ℕ) → quantity_in goods 0 ≡ 0
units-none [] = refl
units-none (x ∷ goods) = let rest = units-none goods in omega (arith, rest)

pub units-more : (goods : List ℕ) (good set : ℕ) → good < length goods → set < 2 ^ good → quantity_in goods (2 ^ good + set) ≡ quantity_in goods set + get_or goods good 0
units-more [] good set inside below = absurd (omega arith)
units-more (x ∷ goods) zero zero inside below = omega arith
units-more (x ∷ goods) zero (suc set) inside below = absurd (omega arith)
units-more (x ∷ goods) (suc good) set inside below =
    let power : 2 ^ suc good ≡ 2 ^ good * 2 = pow-suc 2 good in
    let n = 2 ^ suc good + set in
    let last : n % 2 ≡ set % 2 = omega (arith, power) in
    let others : n / 2 ≡ 2 ^ good + set / 2 = omega (arith, power) in
    let rest = units-more goods good (set / 2) (omega arith) (omega (arith, below, power)) in
    (λ i. cond (nat_eq (last i) 1) x 0 + quantity_in goods (others i)) ∙ omega (arith, rest)

-- so many sets are twice as many with a good more
pub sets-twice : (good sets : ℕ) → sets ≡ 2 ^ good → sets * 2 ≡ 2 ^ (good + 1)
sets-twice good sets is = let e : good + 1 ≡ suc good = omega arith in rw e (let power : 2 ^ suc good ≡ 2 ^ good * 2 = pow-suc 2 good in omega (arith, is, power))

pub sets-few : (good sets : ℕ) → good < 6 → sets ≡ 2 ^ good → sets ≤ 32
sets-few zero sets few is = omega (arith, is)
sets-few (suc zero) sets few is = omega (arith, is)
sets-few (suc (suc zero)) sets few is = omega (arith, is)
sets-few (suc (suc (suc zero))) sets few is = omega (arith, is)
sets-few (suc (suc (suc (suc zero)))) sets few is = omega (arith, is)
sets-few (suc (suc (suc (suc (suc zero))))) sets few is = omega (arith, is)
sets-few (suc (suc (suc (suc (suc (suc good)))))) sets few is = absurd (omega arith)

-- the units of the first so many sets are there, and as many again are filled in
pub units-next : (goods old new : List ℕ) (good sets more : ℕ) → good < length goods → sets ≡ 2 ^ good → more ≡ get_or goods good 0
    → ((k : ℕ) → k < sets → get_or old k 0 ≡ quantity_in goods k)
    → ((k : ℕ) → k < sets → get_or new k 0 ≡ get_or old k 0)
    → ((k : ℕ) → k < sets → get_or new (sets + k) 0 ≡ get_or old k 0 + more)
    → (k : ℕ) → k < sets * 2 → get_or new k 0 ≡ quantity_in goods k
units-next goods old new good sets more inside is supply before kept added k below =
    elim (cases_lt k sets) [
      | inl first ↦ kept k first ∙ before k first
      | inr second ↦ (
          let rest : k - sets < sets = omega (arith, second, below) in
          let whole : sets + (k - sets) ≡ k = omega (arith, second) in
          let a = added (k - sets) rest in
          let b = before (k - sets) rest in
          let small : k - sets < 2 ^ good = omega (arith, rest, is) in
          let m = units-more goods good (k - sets) inside small in
          let place : 2 ^ good + (k - sets) ≡ k = omega (arith, whole, is) in
          ap (λ n. get_or new n 0) (let w : k ≡ sets + (k - sets) = omega (arith, whole) in w) ∙ a ∙ (let e : get_or old (k - sets) 0 + more ≡ quantity_in goods (k - sets) + get_or goods good 0 = omega (arith, b, supply) in e)
          ∙ (let f : quantity_in goods (k - sets) + get_or goods good 0 ≡ quantity_in goods (2 ^ good + (k - sets)) = omega (arith, m) in f) ∙ ap (quantity_in goods) place)
    ]
