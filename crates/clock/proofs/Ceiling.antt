-- Each step raises a price, and none passes the ceiling.
use Rattle.std.proofs.Common.{◌≡◌, ◌≢◌, ◌<◌, ◌≤◌, ℕ, ◌+◌, ◌/◌, ◌%◌, ◌^◌, Bool, true, false, ◌&&◌, nat_eq, cond, List, [], ◌∷◌, length, Option, Some, None, refl, arith}
use Rattle.std.proofs.lemmas.Bool.Decides.{nat_tests}
use Rattle.std.proofs.Math.Nat.{pow-succ'}
use Rattle.lot_base.specs.Goods.{raised}
use Rattle.clock.specs.Standing.{good_from}

abbrev pub total : List ℕ → ℕ
total [] = 0
total (p ∷ ps) = p + total ps

abbrev pub AllUpTo : ℕ → List ℕ → Type 0
AllUpTo ceiling [] = Unit {0}
AllUpTo ceiling (p ∷ ps) = (p ≤ ceiling) × AllUpTo ceiling ps

-- the test of the first good failed, or it is that good
first-none : (b : Bool) (k : ℕ) (rest : Option ℕ) → cond b (Some k) rest ≡ None → (b ≡ false) × (rest ≡ None)
first-none true k rest e = absurd (let f : Some k ≡ None = e in cc)
first-none false k rest e = (refl, e)

pub record Raises (ceiling : ℕ) (ps : List ℕ) (set : ℕ) : Type 0 where
  pub within : AllUpTo ceiling (raised ps set)
  pub no_less : total ps ≤ total (raised ps set)
  pub more : set ≢ 0 → total ps + 1 ≤ total (raised ps set)

apart : (s p c : ℕ) → (nat_eq (s % 2) 1 && nat_eq p c) ≡ false → nat_eq (s % 2) 1 ≡ true → p ≢ c
apart s p c e b = grind (arith, nat_tests)

-- one good, and the others
raises-first : (b : Bool) (ceiling p : ℕ) (ps : List ℕ) (set : ℕ) → b ≡ nat_eq (set % 2) 1 → p ≤ ceiling → (b ≡ true → p ≢ ceiling) → Raises ceiling ps (set / 2)
    → (AllUpTo ceiling (cond b (p + 1) p ∷ raised ps (set / 2))) × (p + total ps ≤ cond b (p + 1) p + total (raised ps (set / 2))) × (set ≢ 0 → p + total ps + 1 ≤ cond b (p + 1) p + total (raised ps (set / 2)))
raises-first true ceiling p ps set e up apart r = let n = apart refl in ((omega arith, r.within), omega (arith, r.no_less), λ _. omega (arith, r.no_less))
raises-first false ceiling p ps set e up apart r =
    ((up, r.within), omega (arith, r.no_less), λ some. let odd : set % 2 ≢ 1 = grind (arith, nat_tests) in let half : set / 2 ≢ 0 = omega arith in omega (arith, r.more half))

pub raises : (k ceiling : ℕ) (ps : List ℕ) (set : ℕ) → AllUpTo ceiling ps → set < 2 ^ length ps → good_from k ceiling ps set ≡ None → Raises ceiling ps set
raises k ceiling [] set up below none = record { within = tt; no_less = omega arith; more = λ n. absurd (omega arith) }
raises k ceiling (p ∷ ps) set up below none =
    let h = first-none (nat_eq (set % 2) 1 && nat_eq p ceiling) k (good_from (k + 1) ceiling ps (set / 2)) none in
    let small : set / 2 < 2 ^ length ps = let e = pow-succ' 2 (length ps) in omega arith in
    let r = raises (k + 1) ceiling ps (set / 2) up.1 small h.1 in
    let f = raises-first (nat_eq (set % 2) 1) ceiling p ps set refl up.0 (apart set p ceiling h.0) r in
    record { within = f.0; no_less = f.1; more = f.2 }
