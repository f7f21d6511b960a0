-- What passes come to: labels that are sums of ways, no greater than the sum of any short way; and least where nothing falls.
use Rattle.std.proofs.Common.{◌≡◌, ◌≤◌, ◌+◌, ℕ, List, [], ◌∷◌, length, None, arith, ap, inl, inr, sym, subst, ◌∙◌}
use Rattle.std.specs.Prelude.{Bool, true, Option, ℤ, pos, ◌+ℤ◌, ◌≤ℤ◌}
use Rattle.std.proofs.lemmas.Int.{ints}
use Rattle.rationale.specs.Edges.{Edge}
use Rattle.rationale.specs.Walks.{sum_of, IsRise, IsLeastSum}
use Rattle.rationale.specs.Climbs.{IsClimb, IsSound, Lowers, AreSums, AreBelow, IsPassed}
use Rattle.rationale.proofs.Climbs.{climb_rises, climb_falls}

pub sums_after : (ok : Edge → Bool) (w : Edge → ℤ) (m : ℕ → ℤ) (ps : ℕ → Option Edge) (m' : ℕ → ℤ) (ps' : ℕ → Option Edge) (x : ℕ) →
    AreSums ok w m → Lowers ok w m ps m' ps' x → AreSums ok w m'
sums_after ok w m ps m' ps' x s l = record {
  low = λ y. elim (l.each y) [
    | inl k ↦ let i = s.low y in let j = k.label in omega (arith, ints)
    | inr k ↦ let i = s.low y in let j = k.falls in omega (arith, ints)
  ];
  reached = λ y. elim (l.each y) [
    | inl k ↦ let r = s.reached y in record { from = r.from; way = r.way; is_way = r.is_way; sum = r.sum ∙ sym k.label }
    | inr k ↦
        let r = s.reached x in
        let same : k.edge.x ≡ x = k.from in
        let rise : IsRise ok k.edge.x r.way r.from = subst (λ (z : ℕ). IsRise ok z r.way r.from) (sym same) r.is_way in
        let total : (w k.edge +ℤ sum_of w r.way) ≡ m' y = (let i = r.sum in let j = k.label in omega (arith, ints)) in
        record { from = r.from; way = k.edge ∷ r.way; is_way = (k.there, k.ends, rise); sum = total }
  ];
}

pub below_start : (ok : Edge → Bool) (w : Edge → ℤ) (m : ℕ → ℤ) → AreSums ok w m → AreBelow ok w 0 m
below_start ok w m s = record { bound = λ y es b r few. short y es b r few }
  where
    short : (y : ℕ) (es : List Edge) (b : ℕ) → IsRise ok y es b → length es ≤ 0 → m y ≤ℤ sum_of w es
    short y [] b r few = s.low y
    short y (e ∷ es) b r few = absurd (omega arith)

pub below_after : (ok : Edge → Bool) (w : Edge → ℤ) (k : ℕ) (m m' : ℕ → ℤ) → AreBelow ok w k m → IsPassed ok w m m' → AreBelow ok w (k + 1) m'
below_after ok w k m m' s p = record { bound = λ y es b r few. short y es b r few }
  where
    short : (y : ℕ) (es : List Edge) (b : ℕ) → IsRise ok y es b → length es ≤ k + 1 → m' y ≤ℤ sum_of w es
    short y [] b r few = let i = s.bound y [] b r (omega arith) in let j = p.falls y in omega (arith, ints)
    short y (e ∷ es) b r few =
        let i = s.bound e.x es b r.2 (omega arith) in
        let j = p.followed e r.0 in
        let same = ap m' r.1 in
        omega (arith, ints)

settled_below : (ok : Edge → Bool) (w : Edge → ℤ) (m : ℕ → ℤ) → AreSums ok w m → ((e : Edge) → ok e ≡ true → m e.y ≤ℤ (m e.x +ℤ w e)) →
    (y : ℕ) (es : List Edge) (b : ℕ) → IsRise ok y es b → m y ≤ℤ sum_of w es
settled_below ok w m s f y [] b r = s.low y
settled_below ok w m s f y (e ∷ es) b r =
    let i = settled_below ok w m s f e.x es b r.2 in
    let j = f e r.0 in
    let same = ap m r.1 in
    omega (arith, ints)

-- labels at which nothing falls are least
pub settled_least : (ok : Edge → Bool) (w : Edge → ℤ) (m : ℕ → ℤ) → AreSums ok w m → ((e : Edge) → ok e ≡ true → m e.y ≤ℤ (m e.x +ℤ w e)) →
    (y : ℕ) → IsLeastSum ok w y (m y)
settled_least ok w m s f y =
    let r = s.reached y in
    record { from = r.from; way = r.way; is_way = r.is_way; reached = r.sum; bound = λ b es rise. settled_below ok w m s f y es b rise }

-- where a label has fallen below that of a pass before, no climb of at most so many edges as there were passes ends at a root
pub no_short_climb : (ok : Edge → Bool) (w : Edge → ℤ) (k : ℕ) (m m' : ℕ → ℤ) (ps' : ℕ → Option Edge) → AreBelow ok w k m → IsSound ok w m' ps' →
    (y : ℕ) → (m' y +ℤ pos 1) ≤ℤ m y → (es : List Edge) (b : ℕ) → IsClimb ps' y es b → ps' b ≡ None → length es ≤ k → ⊥
no_short_climb ok w k m m' ps' below s y fell es b c none few =
    let i = below.bound y es b (climb_rises ok w m' ps' s y es b c) few in
    let j = climb_falls ok w m' ps' s y es b c in
    let z = s.root b none in
    omega (arith, ints)
