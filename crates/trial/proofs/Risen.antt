-- The set of goods on which prices rose.
use Rattle.std.proofs.Common.{◌≡◌, ◌<◌, ◌≤◌, ℕ, zero, suc, ◌+◌, ◌-◌, ◌*◌, ◌/◌, ◌%◌, ◌^◌, Bool, true, false, cond, nat_eq, List, [], ◌∷◌, length, drop, refl, sym, ◌∙◌, ap, arith}
use Rattle.std.specs.Prelude.{nat_lt, slice_index}
use Rattle.std.proofs.lemmas.Bool.Decides.{nat_tests}
use Rattle.lot_base.specs.Goods.{raised}
use mir.Val.{bool_byte}

pub from-place : (xs : List ℕ) (d : ℕ) → d < length xs → drop d xs ≡ slice_index xs d ∷ drop (suc d) xs
from-place [] d below = absurd (omega arith)
from-place (x ∷ xs) zero below = refl
from-place (x ∷ xs) (suc d) below = from-place xs d (omega arith)

record IsBit (a b s : ℕ) (later earlier : List ℕ) : Type 0 where
  pub bit : cond (nat_lt b a) 1 0 ≡ s % 2
  pub rest : later ≡ raised earlier (s / 2)

bit-is : (a b s : ℕ) (later earlier : List ℕ) → a ∷ later ≡ raised (b ∷ earlier) s → IsBit a b s later earlier
bit-is a b s later earlier e =
    let first : a ≡ cond (nat_eq (s % 2) 1) (b + 1) b = cc in
    let rest : later ≡ raised earlier (s / 2) = cc in
    record { bit = grind (arith, nat_tests); rest = rest }

pub set-next : (before after : List ℕ) (n place bit old : ℕ) → length before ≡ n → length after ≡ n → place < n → bit ≡ cond (nat_lt (slice_index before (n - 1 - place)) (slice_index after (n - 1 - place))) 1 0
    → ((set : ℕ) → set < 2 ^ place → drop (n - place) after ≡ raised (drop (n - place) before) set → old ≡ set)
    → (set : ℕ) → set < 2 ^ (place + 1) → drop (n - (place + 1)) after ≡ raised (drop (n - (place + 1)) before) set → old * 2 + bit ≡ set
set-next before after n place bit old lb la below is all set small whole =
    let d : ℕ = n - 1 - place in
    let e : n - (place + 1) ≡ n - 1 - place = omega arith in
    let f : n - place ≡ suc (n - 1 - place) = omega arith in
    let split : slice_index after d ∷ drop (suc d) after ≡ raised (slice_index before d ∷ drop (suc d) before) set =
    sym (from-place after d (omega arith)) ∙ ap (λ k. drop k after) (sym e) ∙ whole ∙ ap (λ xs. raised xs set) (ap (λ k. drop k before) e ∙ from-place before d (omega arith)) in
    let b = bit-is (slice_index after d) (slice_index before d) set (drop (suc d) after) (drop (suc d) before) split in
    let one : place + 1 ≡ suc place = omega arith in
    let double : 2 ^ suc place ≡ 2 ^ place * 2 = omega arith in
    let power = ap (λ k. 2 ^ k) one ∙ double in
    let o = all (set / 2) (omega (arith, power)) (ap (λ k. drop k after) f ∙ b.rest ∙ ap (λ k. raised (drop k before) (set / 2)) (sym f)) in
    let bb = b.bit in
    omega (arith, o, bb, is)

bit-small : (b : Bool) → cond b 1 0 ≤ 1
bit-small true = omega arith
bit-small false = omega arith

pub small-next : (place bit old : ℕ) (b : Bool) → bit ≡ cond b 1 0 → old < 2 ^ place → old * 2 + bit < 2 ^ (place + 1)
small-next place bit old b is low =
    let one : place + 1 ≡ suc place = omega arith in
    let double : 2 ^ suc place ≡ 2 ^ place * 2 = omega arith in
    let power = ap (λ k. 2 ^ k) one ∙ double in
    let few = bit-small b in
    omega (arith, power, few, is)

pub byte-is : (b : Bool) → bool_byte b ≡ cond b 1 0
byte-is true = refl
byte-is false = refl
