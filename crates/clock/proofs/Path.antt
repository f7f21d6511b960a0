-- The steps that a clock has made, of which there are at most as many as prices can rise.
use Rattle.std.proofs.Common.{◌≡◌, ◌≢◌, ◌<◌, ◌≤◌, ℕ, zero, suc, ◌+◌, ◌*◌, ◌^◌, Bool, true, false, not, ◌&&◌, nat_eq, cond, List, [], ◌∷◌, length, Option, Some, None, is_none, refl, sym, ◌∙◌, ap, arith, inl, inr, ◌⊎◌, unwrap_or}
use Rattle.std.specs.Prelude.{find}
use Rattle.std.specs.List.{range_with_len, AllByRecursion}
use Rattle.std.proofs.lemmas.Bool.Decides.{nat_tests}
use Rattle.std.proofs.Math.Nat.{eq-or-lt_of_le}
use Rattle.std.proofs.lemmas.Nat.{pow_pos}
use Rattle.lot_base.specs.Steps.{step_set}
use Rattle.lot_base.proofs.Within.{both}
use Rattle.lot_base.proofs.Cells.{length-raised}
use Rattle.lot_base.proofs.Openings.{all-below}
use Rattle.clock.specs.Reports.{ClockHistory}
use Rattle.clock.specs.Standing.{HasSteps, step_set_after, leads_on, is_full_after, good_at_ceiling, prices_after, steps_from, steps_of}
use Rattle.clock.proofs.Ceiling.{total, AllUpTo, raises}

pub none-from : (o : Option ℕ) → is_none o ≡ true → o ≡ None
none-from None e = refl
none-from (Some x) e = absurd (let f : false ≡ true = e in cc)

pub up-below : (ceiling : ℕ) (ps : List ℕ) → AllByRecursion (λ price. price < ceiling) ps → AllUpTo ceiling ps
up-below ceiling [] below = tt
up-below ceiling (p ∷ ps) below = (let b = below.0 in omega arith, up-below ceiling ps below.1)

pub total-up : (ceiling : ℕ) (ps : List ℕ) → AllUpTo ceiling ps → total ps ≤ length ps * ceiling
total-up ceiling [] up = omega arith
total-up ceiling (p ∷ ps) up = let e = total-up ceiling ps up.1 in omega (arith, up.0)

-- a number that is found is one of those looked at
found-by : (b : Bool) (a top : ℕ) (rest : Option ℕ) → a < top → unwrap_or rest 0 < top → unwrap_or (cond b (Some a) rest) 0 < top
found-by true a top rest below h = below
found-by false a top rest below h = h

find-short : (test : ℕ → Bool) (a n : ℕ) → unwrap_or (find test (range_with_len a (suc n))) 0 < a + suc n
find-short test a zero = found-by (test a) a (a + 1) None (omega arith) (omega arith)
find-short test a (suc n) =
    let h = find-short test (a + 1) n in
    found-by (test a) a (a + suc (suc n)) (find test (range_with_len (a + 1) (suc n))) (omega arith) (omega (arith, h))

find-in : (test : ℕ → Bool) (n : ℕ) → 0 < n → unwrap_or (find test (range_with_len 0 n)) 0 < n
find-in test zero some = absurd (omega arith)
find-in test (suc n) some = omega (arith, find-short test 0 n)

pub step-below : (goods bidders : List ℕ) (demands : _) → step_set goods demands bidders < 2 ^ length goods
unfolding step_set
step-below goods bidders demands = find-in _ (2 ^ length goods) (pow_pos (length goods))

pub record OnThePath (c : ClockHistory) (n : ℕ) : Type 0 where
  pub up : AllUpTo c.terms.ceiling (prices_after c n)
  pub risen : n ≤ total (prices_after c n)
  pub goods : length (prices_after c n) ≡ length c.terms.goods

pub on_the_path : (c : ClockHistory) (n : ℕ) → ((m : ℕ) → m < n → leads_on c m ≡ true) → OnThePath c n
unfolding prices_after
on_the_path c zero before =
    record { up = up-below _ _ (all-below c.terms.goods c.terms.ceiling c.terms.opening c.terms.opens); risen = omega arith; goods = c.terms.opens.goods }
on_the_path c (suc n) before =
    let o = on_the_path c n (λ m below. before m (omega arith)) in
    let g = both (is_full_after c n) (not (nat_eq (step_set_after c n) 0) && is_none (good_at_ceiling c n)) (before n (omega arith)) in
    let h = both (not (nat_eq (step_set_after c n) 0)) (is_none (good_at_ceiling c n)) g.1 in
    let some : step_set_after c n ≢ 0 = let t = h.0 in grind (arith, nat_tests) in
    let small : step_set_after c n < 2 ^ length (prices_after c n) = rw o.goods (step-below _ _ _) in
    let r = raises 0 c.terms.ceiling (prices_after c n) (step_set_after c n) o.up small (none-from _ h.1) in
    record { up = r.within; risen = omega (arith, r.more some, o.risen); goods = length-raised (prices_after c n) (step_set_after c n) ∙ o.goods }

below-or : (m n : ℕ) → m < suc n → (m < n) ⊎ (m ≡ n)
below-or m n below = swap (eq-or-lt_of_le (let k : m ≤ n = omega arith in k))
  where
    swap : (m ≡ n) ⊎ (m < n) → (m < n) ⊎ (m ≡ n)
    swap (inl e) = inr e
    swap (inr l) = inl l

pub one_more : (c : ClockHistory) (n : ℕ) → ((m : ℕ) → m < n → leads_on c m ≡ true) → leads_on c n ≡ true → (m : ℕ) → m < suc n → leads_on c m ≡ true
one_more c n before e m below = by (below-or m n below)
  where
    by : (m < n) ⊎ (m ≡ n) → leads_on c m ≡ true
    by (inl less) = before m less
    by (inr same) = ap (leads_on c) same ∙ e

-- no clock makes more steps
pub stops_by : (c : ClockHistory) (n : ℕ) → length c.terms.goods * c.terms.ceiling ≤ n → ((m : ℕ) → m < n → leads_on c m ≡ true) → leads_on c n ≡ false
stops_by c n most before = by (leads_on c n) refl
  where
    by : (b : Bool) → leads_on c n ≡ b → b ≡ false
    by false e = refl
    by true e =
        let o = on_the_path c (suc n) (one_more c n before e) in
        let t = total-up c.terms.ceiling (prices_after c (suc n)) o.up in
        absurd (let k : total (prices_after c (suc n)) ≤ length c.terms.goods * c.terms.ceiling = rw (← o.goods) t in omega (arith, o.risen))

pub has_steps-from : (c : ClockHistory) (limit start : ℕ) → ((m : ℕ) → m < start → leads_on c m ≡ true) → length c.terms.goods * c.terms.ceiling ≤ start + limit → HasSteps c (steps_from limit c start)
unfolding steps_from
has_steps-from c zero start before most = record { before = before; stops = stops_by c start (omega arith) before }
has_steps-from c (suc limit) start before most = by (leads_on c start) refl (λ longer. has_steps-from c limit (suc start) longer (omega arith))
  where
    by : (b : Bool) → leads_on c start ≡ b → (((m : ℕ) → m < suc start → leads_on c m ≡ true) → HasSteps c (steps_from limit c (suc start))) → HasSteps c (elim b [ true ↦ steps_from limit c (suc start) | false ↦ start ])
    by false e rest = record { before = before; stops = e }
    by true e rest = rest (one_more c start before e)

pub has_steps : (c : ClockHistory) → HasSteps c (steps_of c)
unfolding steps_of
has_steps c = has_steps-from c _ 0 (λ m below. absurd (omega arith)) (omega arith)

pub compare-or : (m n : ℕ) → (m < n) ⊎ ((n < m) ⊎ (m ≡ n))
compare-or zero zero = inr (inr refl)
compare-or zero (suc n) = inl (omega arith)
compare-or (suc m) zero = inr (inl (omega arith))
compare-or (suc m) (suc n) = by (compare-or m n)
  where
    by : (m < n) ⊎ ((n < m) ⊎ (m ≡ n)) → (suc m < suc n) ⊎ ((suc n < suc m) ⊎ (suc m ≡ suc n))
    by (inl l) = inl (omega (arith, l))
    by (inr (inl l)) = inr (inl (omega (arith, l)))
    by (inr (inr e)) = inr (inr (ap (λ k. suc k) e))

-- the number of the steps is the only one
pub steps-only : (c : ClockHistory) (n : ℕ) → HasSteps c n → steps_of c ≡ n
steps-only c n h = by (compare-or (steps_of c) n)
  where
    by : (steps_of c < n) ⊎ ((n < steps_of c) ⊎ (steps_of c ≡ n)) → steps_of c ≡ n
    by (inl less) = absurd (let a : leads_on c (steps_of c) ≡ true = h.before (steps_of c) less in let b : leads_on c (steps_of c) ≡ false = (has_steps c).stops in let f : true ≡ false = sym a ∙ b in cc)
    by (inr (inl more)) = absurd (let a : leads_on c n ≡ true = (has_steps c).before n more in let f : true ≡ false = sym a ∙ h.stops in cc)
    by (inr (inr same)) = same
