-- How many entries the lists of a file have.
use Rattle.std.proofs.Common.{◌≡◌, ◌≤◌, ◌*◌, ℕ, ◌+◌, Bool, true, false, nat_eq, List, [], ◌∷◌, length, Ok, refl, arith, length-append}
use Rattle.std.specs.Prelude.{ℤ}
use Rattle.std.proofs.lemmas.Bool.Decides.{nat_tests}
use Rattle.std.proofs.Math.Nat.{mul-le-mul}
use Rattle.lot_base.specs.Goods.{box_size}
use Rattle.lot_base.proofs.Index.{box_size-above_0}
use Rattle.valuation.specs.declared.faults.ValuesFault.TheVariants.{Length}
use Rattle.valuation.specs.Forms.{total}
use Rattle.toml_tree.specs.Steps.{check}
use Rattle.valuation.specs.ValuesFile.{long, all_long, joined}
use Rattle.toml_tree.proofs.Passed.{bind_ok}

pub long-count : (bidder needed found : ℕ) (u : Unit {0}) → long bidder needed found ≡ Ok u → found ≡ needed
long-count bidder needed found u h = by (nat_eq found needed) refl h
  where
    by : (b : Bool) → nat_eq found needed ≡ b → check b (Length bidder found needed) ≡ Ok u → found ≡ needed
    by true e g = grind (arith, nat_tests)
    by false e g = cc g

pub length-joined : (bidder : ℕ) (supply : List ℕ) (lists : List (List ℤ)) (u : Unit {0}) → length lists ≡ length supply → all_long bidder supply lists ≡ Ok u → length (joined lists) ≡ total supply
length-joined bidder [] [] u e h = refl
length-joined bidder [] (l ∷ lists) u e h = absurd (omega arith)
length-joined bidder (s ∷ supply) [] u e h = absurd (omega arith)
length-joined bidder (s ∷ supply) (l ∷ lists) u e h =
    let first = bind_ok (long bidder s (length l)) _ u h in
    let here = long-count bidder s (length l) first.0 first.1 in
    let rest = length-joined bidder supply lists u (omega (arith, e)) first.2 in
    omega (arith, length-append l (joined lists), here, rest)

pub total-small : (supply : List ℕ) → total supply + 1 ≤ box_size supply
total-small [] = omega arith
total-small (s ∷ supply) =
    let i = total-small supply in
    let some = box_size-above_0 supply in
    let k : s * 1 ≤ s * box_size supply = mul-le-mul (let r : s ≤ s = omega arith in r) some in
    omega (arith, i, k)
