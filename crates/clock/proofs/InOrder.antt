-- Where each report is of the round that its number has, the reports of a round stand together.
use Rattle.std.proofs.Common.{◌≡◌, ◌≢◌, ◌<◌, ◌≤◌, ℕ, zero, suc, ◌+◌, ◌-◌, ◌*◌, ◌/◌, true, false, ◌&&◌, nat_eq, cond, List, [], ◌∷◌, take, drop, Option, Some, refl, sym, ◌∙◌, ap, arith, inl, inr, ◌⊎◌}
use Rattle.std.specs.Prelude.{find, slice_get}
use Rattle.std.proofs.lemmas.Bool.{cases_lt}
use Rattle.std.proofs.lemmas.Bool.Decides.{nat_tests}
use Rattle.std.proofs.Math.Nat.{div-lt_iff_lt-mul}
use Rattle.demand_set.specs.declared.reports.Report.{Report}
use Rattle.clock.specs.Reports.{is_named}

div-below : (m t n : ℕ) → 1 ≤ m → n < t * m → n / m < t
div-below m t n some below = (div-lt_iff_lt-mul some).1 below

div-above : (m t n : ℕ) → 1 ≤ m → t * m ≤ n → t ≤ n / m
div-above m t n some above = by (cases_lt (n / m) t)
  where
    by : (n / m < t) ⊎ (t ≤ n / m) → t ≤ n / m
    by (inl less) = absurd (let b = (div-lt_iff_lt-mul some).0 less in omega (arith, b, above))
    by (inr up) = up

unnamed : (t b : ℕ) (r : Report) (o : Option Report) → r.round ≢ t → cond (is_named t b r) (Some r) o ≡ o
unnamed t b r o other = let e : nat_eq r.round t ≡ false = grind (arith, nat_tests) in ap (λ s. cond (s && nat_eq r.bidder b) (Some r) o) e

named : (t b : ℕ) (r : Report) (o : Option Report) → r.round ≡ t → cond (is_named t b r) (Some r) o ≡ cond (nat_eq r.bidder b) (Some r) o
named t b r o same = let e : nat_eq r.round t ≡ true = grind (arith, nat_tests) in ap (λ s. cond (s && nat_eq r.bidder b) (Some r) o) e

-- the reports between two numbers
between : ℕ → ℕ → List Report → List Report
between from to rs = take (to - from) (drop from rs)

take-none : (n k : ℕ) → let empty : List Report = [] in take n (drop k empty) ≡ empty
take-none zero zero = refl
take-none zero (suc k) = refl
take-none (suc n) zero = refl
take-none (suc n) (suc k) = refl

between-none : (from to : ℕ) → between from to [] ≡ []
unfolding between
between-none from to = take-none (to - from) from

between-skip : (from to : ℕ) (r : Report) (rs : List Report) → 0 < from → between from to (r ∷ rs) ≡ between (from - 1) (to - 1) rs
unfolding between
between-skip zero to r rs some = absurd (omega arith)
between-skip (suc from) to r rs some =
    let e : to - suc from ≡ to - 1 - (suc from - 1) = omega arith in
    let f : suc from - 1 ≡ from = omega arith in
    (λ i. take (e i) (drop (sym f i) rs))

between-here : (from to : ℕ) (r : Report) (rs : List Report) → from ≡ 0 → 0 < to → between from to (r ∷ rs) ≡ r ∷ between (from - 1) (to - 1) rs
unfolding between
between-here from to r rs none some =
    let e : to - from ≡ suc (to - 1 - (from - 1)) = omega arith in
    let f : from - 1 ≡ 0 = omega arith in
    (λ i. take (e i) (drop (none i) (r ∷ rs))) ∙ ap (λ n. r ∷ take (to - 1 - (from - 1)) (drop n rs)) (sym f)

between-past : (from to : ℕ) (rs : List Report) → to ≡ 0 → between from to rs ≡ []
unfolding between
between-past from to rs e = let f : to - from ≡ 0 = omega arith in ap (λ n. take n (drop from rs)) f

find-between : (m t b k : ℕ) (rs : List Report) → 1 ≤ m → 1 ≤ t → ((i : ℕ) (r : Report) → slice_get rs i ≡ Some r → r.round ≡ (k + i) / m + 1)
    → find (is_named t b) rs ≡ find (λ (r : Report). nat_eq r.bidder b) (between ((t - 1) * m - k) (t * m - k) rs)
find-between m t b k [] some one order = sym (ap (find (λ (r : Report). nat_eq r.bidder b)) (between-none ((t - 1) * m - k) (t * m - k)))
find-between m t b k (r ∷ rs) some one order =
    let rest = find-between m t b (k + 1) rs some one (λ i x e. order (suc i) x e ∙ ap (λ n. n / m + 1) (let n : k + suc i ≡ k + 1 + i = omega arith in n)) in
    let here : r.round ≡ k / m + 1 = order 0 r refl ∙ ap (λ n. n / m + 1) (let n : k + 0 ≡ k = omega arith in n) in
    let p : (t - 1) * m - k - 1 ≡ (t - 1) * m - (k + 1) = omega arith in
    let q : t * m - k - 1 ≡ t * m - (k + 1) = omega arith in
    by here p q rest (cases_lt k ((t - 1) * m)) (cases_lt k (t * m))
  where
    by : r.round ≡ k / m + 1 → (t - 1) * m - k - 1 ≡ (t - 1) * m - (k + 1) → t * m - k - 1 ≡ t * m - (k + 1)
        → find (is_named t b) rs ≡ find (λ (r : Report). nat_eq r.bidder b) (between ((t - 1) * m - (k + 1)) (t * m - (k + 1)) rs)
        → (k < (t - 1) * m) ⊎ ((t - 1) * m ≤ k) → (k < t * m) ⊎ (t * m ≤ k)
        → cond (is_named t b r) (Some r) (find (is_named t b) rs) ≡ find (λ (r : Report). nat_eq r.bidder b) (between ((t - 1) * m - k) (t * m - k) (r ∷ rs))
    by here p q rest (inl before) w =
        let d = div-below m (t - 1) k some before in
        unnamed t b r (find (is_named t b) rs) (omega (arith, here, d)) ∙ rest
        ∙ ap (find (λ (r : Report). nat_eq r.bidder b)) ((λ i. between (sym p i) (sym q i) rs) ∙ sym (between-skip ((t - 1) * m - k) (t * m - k) r rs (omega (arith, before))))
    by here p q rest (inr after) (inl inside) =
        let d = div-below m t k some inside in
        let u = div-above m (t - 1) k some after in
        let none : (t - 1) * m - k ≡ 0 = omega (arith, after) in
        named t b r (find (is_named t b) rs) (omega (arith, here, d, u, one)) ∙ ap (cond (nat_eq r.bidder b) (Some r)) rest
        ∙ ap (find (λ (r : Report). nat_eq r.bidder b)) ((λ i. r ∷ between (sym p i) (sym q i) rs) ∙ sym (between-here ((t - 1) * m - k) (t * m - k) r rs none (omega (arith, inside))))
    by here p q rest (inr after) (inr behind) =
        let u = div-above m t k some behind in
        let z : t * m - k ≡ 0 = omega (arith, behind) in
        let z' : t * m - (k + 1) ≡ 0 = omega (arith, behind) in
        unnamed t b r (find (is_named t b) rs) (omega (arith, here, u)) ∙ rest
        ∙ ap (find (λ (r : Report). nat_eq r.bidder b)) (between-past ((t - 1) * m - (k + 1)) (t * m - (k + 1)) rs z' ∙ sym (between-past ((t - 1) * m - k) (t * m - k) (r ∷ rs) z))

-- the report of a bidder in a round is found among those of the round
pub find-in_order : (m t b : ℕ) (rs : List Report) → 1 ≤ m → 1 ≤ t → ((i : ℕ) (r : Report) → slice_get rs i ≡ Some r → r.round ≡ i / m + 1)
    → find (is_named t b) rs ≡ find (λ (r : Report). nat_eq r.bidder b) (take m (drop ((t - 1) * m) rs))
unfolding between
find-in_order m t b rs some one order =
    let a : (t - 1) * m - 0 ≡ (t - 1) * m = omega arith in
    let s : t ≡ t - 1 + 1 = omega (arith, one) in
    let w : t * m ≡ (t - 1) * m + m = ap (λ n. n * m) s ∙ (let k : (t - 1 + 1) * m ≡ (t - 1) * m + m = grind arith in k) in
    let e : t * m - 0 - ((t - 1) * m - 0) ≡ m = omega (arith, w) in
    find-between m t b 0 rs some one (λ i r f. order i r f ∙ ap (λ n. n / m + 1) (let z : i ≡ 0 + i = omega arith in z))
    ∙ (λ i. find (λ (r : Report). nat_eq r.bidder b) (take (e i) (drop (a i) rs)))
