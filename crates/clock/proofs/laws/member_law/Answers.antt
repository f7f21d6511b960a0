use Rattle.std.proofs.Common.{◌≡◌, ◌≢◌, ◌≤◌, ◌<◌, ◌⊎◌, inl, inr, ℕ, zero, suc, ◌+◌, Bool, true, false, not, nat_eq, cond, List, [], ◌∷◌, length, refl, sym, ◌∙◌, ap, arith}
use Rattle.std.proofs.lemmas.Bool.Decides.{nat_tests}
use Rattle.std.specs.Prelude.{filter, slice_index_or}
use Rattle.std.specs.List.{Contains, range_with_len}
use Rattle.clock.specs.Reports.{ClockHistory, members_of}
use Rattle.clock.specs.Judging.{IsMember}
use Rattle.clock.proofs.laws.member_law.Goals as goal

abbrev In : ℕ → List ℕ → Type 0
In x [] = ⊥
In x (y ∷ ys) = (y ≡ x) ⊎ In x ys

in-from : (xs : List ℕ) (x k : ℕ) → k < length xs → slice_index_or xs k x ≡ x → In x xs
in-from [] x k below e = absurd (omega arith)
in-from (y ∷ ys) x zero below e = inl e
in-from (y ∷ ys) x (suc k) below e = let b : k < length ys = omega arith in inr (in-from ys x k b e)

contains-from : (xs : List ℕ) (x : ℕ) → In x xs → Contains xs x
contains-from [] x h = absurd h
contains-from (y ∷ ys) x (inl e) = (0, omega arith, e)
contains-from (y ∷ ys) x (inr h) = let t = contains-from ys x h in let b = t.1 in (suc t.0, omega arith, t.2)

-- a number of the list that passes the test is in the filtered list, and no other is
record Passed (test : ℕ → Bool) (x : ℕ) (xs : List ℕ) : Type 0 where
  here : In x xs
  passes : test x ≡ true

passed : (test : ℕ → Bool) (xs : List ℕ) (x : ℕ) → In x (filter test xs) → Passed test x xs
passed test [] x h = absurd h
passed test (y ∷ ys) x h = by (test y) refl (passed test ys x) h
  where
    later : Passed test x ys → Passed test x (y ∷ ys)
    later p = record { here = inr p.here; passes = p.passes }

    by : (b : Bool) → test y ≡ b → (In x (filter test ys) → Passed test x ys) → In x (cond b (y ∷ filter test ys) (filter test ys)) → Passed test x (y ∷ ys)
    by true e rest (inl same) = record { here = inl same; passes = ap test (sym same) ∙ e }
    by true e rest (inr h) = later (rest h)
    by false e rest h = later (rest h)

kept : (test : ℕ → Bool) (xs : List ℕ) (x : ℕ) → In x xs → test x ≡ true → In x (filter test xs)
kept test [] x h e = absurd h
kept test (y ∷ ys) x h e = by (test y) refl h (λ g. kept test ys x g e)
  where
    by : (b : Bool) → test y ≡ b → (y ≡ x) ⊎ In x ys → (In x ys → In x (filter test ys)) → In x (cond b (y ∷ filter test ys) (filter test ys))
    by true t (inl same) rest = inl same
    by true t (inr g) rest = inr (rest g)
    by false t (inl same) rest = absurd (let f : true ≡ false = sym e ∙ ap test (sym same) ∙ t in cc)
    by false t (inr g) rest = rest g

-- the numbers from a on
ranged : (a n x : ℕ) → In x (range_with_len a n) → (a ≤ x) × (x < a + n)
ranged a zero x h = absurd h
ranged a (suc n) x (inl same) = (omega arith, omega arith)
ranged a (suc n) x (inr h) = let r = ranged (a + 1) n x h in let low = r.0 in let high = r.1 in (omega arith, omega arith)

in-range : (a n x : ℕ) → a ≤ x → x < a + n → In x (range_with_len a n)
in-range a zero x low high = absurd (omega arith)
in-range a (suc n) x low high = by (nat_eq a x) refl (λ above. in-range (a + 1) n x above (omega arith))
  where
    by : (b : Bool) → nat_eq a x ≡ b → (a + 1 ≤ x → In x (range_with_len (a + 1) n)) → (a ≡ x) ⊎ In x (range_with_len (a + 1) n)
    by true e rest = inl (grind (arith, nat_tests))
    by false e rest = let other : a ≢ x = grind (arith, nat_tests) in inr (rest (omega arith))

member : (c : ClockHistory) (bidder : ℕ) → Contains (members_of c) bidder → IsMember c bidder
member c bidder h =
    let p = passed (λ j. not (nat_eq j c.number)) (range_with_len 1 c.terms.bidders) bidder (in-from (members_of c) bidder h.0 h.1 h.2) in
    let r = ranged 1 c.terms.bidders bidder p.here in
    let low = r.0 in
    let high = r.1 in
    record {
      from_one = low;
      to_last = omega arith;
      other = λ same. let n : nat_eq bidder c.number ≡ true = grind (arith, nat_tests) in let f : false ≡ true = sym (ap not n) ∙ p.passes in cc;
    }

listed : (c : ClockHistory) (bidder : ℕ) → IsMember c bidder → Contains (members_of c) bidder
listed c bidder m =
    let low = m.from_one in
    let high = m.to_last in
    let other = m.other in
    let d : nat_eq bidder c.number ≡ false = grind (arith, nat_tests) in
    contains-from (members_of c) bidder (kept (λ j. not (nat_eq j c.number)) (range_with_len 1 c.terms.bidders) bidder (in-range 1 c.terms.bidders bidder low (omega arith)) (ap not d))

pub returns : goal.returns
returns c = λ history bidder. (member history bidder, listed history bidder)
