-- Sums over the members of a clock, where one of them changes.
use Rattle.std.proofs.Common.{◌≡◌, ◌≢◌, ◌<◌, ◌≤◌, ◌⊎◌, inl, inr, ℕ, zero, suc, ◌+◌, ◌*◌, Bool, true, false, not, ◌&&◌, nat_eq, cond, List, [], ◌∷◌, length, is_some, refl, sym, ◌∙◌, ap, arith}
use Rattle.std.specs.Prelude.{filter, nat_le}
use Rattle.std.specs.List.{range_with_len}
use Rattle.std.proofs.Math.Nat.{eq-or-lt_of_le}
use Rattle.std.proofs.lemmas.Bool.Decides.{nat_tests}
use Rattle.lot_base.specs.Economy.{total_units}
use Rattle.lot_base.proofs.Within.{both}
use Rattle.clock.specs.Reports.{ClockHistory, members, members_of, is_full, demand_in}
use Rattle.demand_set.specs.declared.reports.Report.{Report}
use Rattle.clock.specs.Judging.{is_member}
use Rattle.clock.specs.Kept.{missing_count}

-- below all that is summed
total-below : (f g : ℕ → ℕ) (q : ℕ → Bool) (a n b : ℕ) → b < a → ((j : ℕ) → j ≢ b → g j ≡ f j) → total_units g (filter q (range_with_len a n)) ≡ total_units f (filter q (range_with_len a n))
total-below f g q a zero b below same = refl
total-below f g q a (suc n) b below same = by (q a) (total-below f g q (a + 1) n b (omega arith) same)
  where
    by : (v : Bool) → total_units g (filter q (range_with_len (a + 1) n)) ≡ total_units f (filter q (range_with_len (a + 1) n))
        → total_units g (cond v (a ∷ filter q (range_with_len (a + 1) n)) (filter q (range_with_len (a + 1) n))) ≡ total_units f (cond v (a ∷ filter q (range_with_len (a + 1) n)) (filter q (range_with_len (a + 1) n)))
    by true rest = (let s = same a (omega arith) in λ i. s i + rest i)
    by false rest = rest

total-range : (f g : ℕ → ℕ) (q : ℕ → Bool) (a n b v : ℕ) → a ≤ b → b < a + n → q b ≡ true → g b ≡ f b + v → ((j : ℕ) → j ≢ b → g j ≡ f j) → total_units g (filter q (range_with_len a n)) ≡ total_units f (filter q (range_with_len a n)) + v
total-range f g q a zero b v up below here more same = absurd (omega arith)
total-range f g q a (suc n) b v up below here more same =
    by (q a) refl (eq-or-lt_of_le up) (λ later. total-range f g q (a + 1) n b v (omega (arith, later)) (omega arith) here more same)
  where
    by : (t : Bool) → q a ≡ t → (a ≡ b) ⊎ (a < b) → (a < b → total_units g (filter q (range_with_len (a + 1) n)) ≡ total_units f (filter q (range_with_len (a + 1) n)) + v)
        → total_units g (cond t (a ∷ filter q (range_with_len (a + 1) n)) (filter q (range_with_len (a + 1) n))) ≡ total_units f (cond t (a ∷ filter q (range_with_len (a + 1) n)) (filter q (range_with_len (a + 1) n))) + v
    by false e (inl is) next = absurd (let k : false ≡ true = sym e ∙ ap q is ∙ here in cc)
    by false e (inr later) next = next later
    by true e (inl is) next =
        let rest = total-below f g q (a + 1) n b (omega arith) same in
        let first : g a ≡ f a + v = ap g is ∙ more ∙ ap (λ k. f k + v) (sym is) in
        omega (arith, rest, first)
    by true e (inr later) next =
        let rest = next later in
        let first = same a (omega (arith, later)) in
        omega (arith, rest, first)

-- one member has so much more, and the others the same
pub total-one : (c : ClockHistory) (f g : ℕ → ℕ) (b v : ℕ) → is_member c b ≡ true → g b ≡ f b + v → ((j : ℕ) → j ≢ b → g j ≡ f j) → total_units g (members_of c) ≡ total_units f (members_of c) + v
total-one c f g b v member more same =
    let h = both (nat_le 1 b) (nat_le b c.terms.bidders && not (nat_eq b c.number)) member in
    let k = both (nat_le b c.terms.bidders) (not (nat_eq b c.number)) h.1 in
    let low : 1 ≤ b = (let t = h.0 in grind (arith, nat_tests)) in
    let high : b ≤ c.terms.bidders = (let t = k.0 in grind (arith, nat_tests)) in
    total-range f g (λ j. not (nat_eq j c.number)) 1 c.terms.bidders b v low (omega arith) k.1 more same

pub total-none : (f : ℕ → ℕ) (ms : List ℕ) → ((j : ℕ) → f j ≡ 0) → total_units f ms ≡ 0
total-none f [] none = refl
total-none f (j ∷ ms) none = let a = none j in let b = total-none f ms none in omega (arith, a, b)

pub total-ones : (f : ℕ → ℕ) (ms : List ℕ) → ((j : ℕ) → f j ≡ 1) → total_units f ms ≡ length ms
total-ones f [] one = refl
total-ones f (j ∷ ms) one = let a = one j in let b = total-ones f ms one in omega (arith, a, b)

-- each member has at most so much, or is counted
pub total-most : (f g : ℕ → ℕ) (most : ℕ) (ms : List ℕ) → ((j : ℕ) → f j + most * g j ≤ most) → total_units f ms + most * total_units g ms ≤ most * length ms
total-most f g most [] each = omega arith
total-most f g most (j ∷ ms) each =
    let a = each j in
    let b = total-most f g most ms each in
    let d : most * (g j + total_units g ms) ≡ most * g j + most * total_units g ms = grind arith in
    let e : most * suc (length ms) ≡ most * length ms + most = grind arith in
    omega (arith, a, b, d, e)

-- the round is full where nobody is missing
pub full-count : (ms : List ℕ) (reports : List Report) (round : ℕ) → missing_count ms reports round ≡ 0 → is_full ms reports round ≡ true
full-count [] reports round e = refl
full-count (j ∷ ms) reports round e = by (is_some (demand_in reports round j)) (λ rest. full-count ms reports round rest) e
  where
    by : (t : Bool) → (missing_count ms reports round ≡ 0 → is_full ms reports round ≡ true) → cond t 0 1 + missing_count ms reports round ≡ 0 → (t && is_full ms reports round) ≡ true
    by true rest e = rest (omega (arith, e))
    by false rest e = absurd (omega (arith, e))

pub open-count : (ms : List ℕ) (reports : List Report) (round : ℕ) → missing_count ms reports round ≢ 0 → is_full ms reports round ≡ false
open-count [] reports round some = absurd (some refl)
open-count (j ∷ ms) reports round some = by (is_some (demand_in reports round j)) (λ rest. open-count ms reports round rest) some
  where
    by : (t : Bool) → (missing_count ms reports round ≢ 0 → is_full ms reports round ≡ false) → cond t 0 1 + missing_count ms reports round ≢ 0 → (t && is_full ms reports round) ≡ false
    by true rest some = rest (λ e. some (omega (arith, e)))
    by false rest some = refl

-- how many members there are
count-all : (c a n : ℕ) → c < a → length (filter (λ j. not (nat_eq j c)) (range_with_len a n)) ≡ n
count-all c a zero below = refl
count-all c a (suc n) below =
    let e : nat_eq a c ≡ false = grind (arith, nat_tests) in
    let rest = count-all c (a + 1) n (omega arith) in
    ap (λ t. length (cond (not t) (a ∷ filter (λ j. not (nat_eq j c)) (range_with_len (a + 1) n)) (filter (λ j. not (nat_eq j c)) (range_with_len (a + 1) n)))) e ∙ ap suc rest

count-but : (c a n : ℕ) → a ≤ c → c < a + n → length (filter (λ j. not (nat_eq j c)) (range_with_len a n)) + 1 ≡ n
count-but c a zero up below = absurd (omega arith)
count-but c a (suc n) up below = by (eq-or-lt_of_le up) (λ later. count-but c (a + 1) n (omega (arith, later)) (omega arith))
  where
    by : (a ≡ c) ⊎ (a < c) → (a < c → length (filter (λ j. not (nat_eq j c)) (range_with_len (a + 1) n)) + 1 ≡ n)
        → length (cond (not (nat_eq a c)) (a ∷ filter (λ j. not (nat_eq j c)) (range_with_len (a + 1) n)) (filter (λ j. not (nat_eq j c)) (range_with_len (a + 1) n))) + 1 ≡ suc n
    by (inl is) next =
        let e : nat_eq a c ≡ true = grind (arith, nat_tests) in
        let rest = count-all c (a + 1) n (omega arith) in
        ap (λ t. length (cond (not t) (a ∷ filter (λ j. not (nat_eq j c)) (range_with_len (a + 1) n)) (filter (λ j. not (nat_eq j c)) (range_with_len (a + 1) n))) + 1) e ∙ omega (arith, rest)
    by (inr later) next =
        let e : nat_eq a c ≡ false = (let l = later in grind (arith, nat_tests)) in
        let rest = next later in
        ap (λ t. length (cond (not t) (a ∷ filter (λ j. not (nat_eq j c)) (range_with_len (a + 1) n)) (filter (λ j. not (nat_eq j c)) (range_with_len (a + 1) n))) + 1) e ∙ omega (arith, rest)

pub member-count_all : (bidders clock : ℕ) → clock ≡ 0 → bidders ≡ length (members bidders clock)
member-count_all bidders clock e = sym (count-all clock 1 bidders (omega arith))

pub member-count_but : (bidders clock : ℕ) → clock ≢ 0 → clock ≤ bidders → length (members bidders clock) + 1 ≡ bidders
member-count_but bidders clock some up = count-but clock 1 bidders (omega arith) (omega arith)

count-few : (test : ℕ → Bool) (xs : List ℕ) → length (filter test xs) ≤ length xs
count-few test [] = omega arith
count-few test (x ∷ xs) = by (test x) (count-few test xs)
  where
    by : (t : Bool) → length (filter test xs) ≤ length xs → length (cond t (x ∷ filter test xs) (filter test xs)) ≤ suc (length xs)
    by true rest = omega (arith, rest)
    by false rest = omega (arith, rest)

length-range : (a n : ℕ) → length (range_with_len a n) ≡ n
length-range a zero = refl
length-range a (suc n) = ap suc (length-range (a + 1) n)

pub members-few : (bidders clock : ℕ) → length (members bidders clock) ≤ bidders
members-few bidders clock = let f = count-few (λ j. not (nat_eq j clock)) (range_with_len 1 bidders) in let l = length-range 1 bidders in omega (arith, f, l)
