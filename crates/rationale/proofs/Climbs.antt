-- Where nodes are lowered, labels and parents stay sound.
use Rattle.std.proofs.Common.{◌≡◌, ℕ, List, [], ◌∷◌, Some, arith, ap, inl, inr, sym, subst, ◌∙◌}
use Rattle.std.specs.Prelude.{◌⊎◌, Bool, Option, ℤ, pos, ◌+ℤ◌, ◌≤ℤ◌}
use Rattle.std.proofs.lemmas.Int.{ints}
use Rattle.rationale.specs.Edges.{Edge}
use Rattle.rationale.specs.Walks.{sum_of, IsRise}
use Rattle.rationale.specs.Climbs.{IsClimb, IsSound, IsKept, IsLowered, Lowers}

-- a climb is a way, and its sum is no more than what the label falls on it
pub climb_rises : (ok : Edge → Bool) (w : Edge → ℤ) (m : ℕ → ℤ) (ps : ℕ → Option Edge) → IsSound ok w m ps →
    (y : ℕ) (es : List Edge) (b : ℕ) → IsClimb ps y es b → IsRise ok y es b
climb_rises ok w m ps s y [] b c = c
climb_rises ok w m ps s y (e ∷ es) b c = (s.there y e c.0, s.ends y e c.0, climb_rises ok w m ps s e.x es b c.1)

climb_above : (w : Edge → ℤ) (m : ℕ → ℤ) (ps : ℕ → Option Edge) → ((y : ℕ) (e : Edge) → ps y ≡ Some e → (m e.x +ℤ w e) ≤ℤ m y) →
    (y : ℕ) (es : List Edge) (b : ℕ) → IsClimb ps y es b → (m b +ℤ sum_of w es) ≤ℤ m y
climb_above w m ps above y [] b c = let i = ap m c in omega (arith, ints)
climb_above w m ps above y (e ∷ es) b c =
    let i = above y e c.0 in
    let j = climb_above w m ps above e.x es b c.1 in
    omega (arith, ints)

pub climb_falls : (ok : Edge → Bool) (w : Edge → ℤ) (m : ℕ → ℤ) (ps : ℕ → Option Edge) → IsSound ok w m ps →
    (y : ℕ) (es : List Edge) (b : ℕ) → IsClimb ps y es b → (m b +ℤ sum_of w es) ≤ℤ m y
climb_falls ok w m ps s y es b c = climb_above w m ps (λ z e p. s.above z e p) y es b c

label_falls : (ok : Edge → Bool) (w : Edge → ℤ) (m : ℕ → ℤ) (ps : ℕ → Option Edge) (m' : ℕ → ℤ) (ps' : ℕ → Option Edge) (x : ℕ) →
    Lowers ok w m ps m' ps' x → (y : ℕ) → m' y ≤ℤ m y
label_falls ok w m ps m' ps' x l y = elim (l.each y) [
  | inl k ↦ let i = k.label in omega (arith, ints)
  | inr k ↦ let i = k.falls in omega (arith, ints)
]

above_after : (ok : Edge → Bool) (w : Edge → ℤ) (m : ℕ → ℤ) (ps : ℕ → Option Edge) (m' : ℕ → ℤ) (ps' : ℕ → Option Edge) (x : ℕ) →
    IsSound ok w m ps → Lowers ok w m ps m' ps' x → (y : ℕ) (e : Edge) → ps' y ≡ Some e → (m' e.x +ℤ w e) ≤ℤ m' y
above_after ok w m ps m' ps' x s l y e p = elim (l.each y) [
  | inl k ↦ let i = s.above y e (sym k.parent ∙ p) in let j = label_falls ok w m ps m' ps' x l e.x in let h = k.label in omega (arith, ints)
  | inr k ↦
      let same : k.edge ≡ e = (let q = k.parent in cc) in
      let i = k.label in
      let from : e.x ≡ x = sym (ap (λ (z : Edge). z.x) same) ∙ k.from in
      let h = ap m' from in
      let j = l.source.label in
      let v = ap w same in
      omega (arith, ints)
]

-- a climb after: it falls by more than its sum, or it ends at a kept node and stood before
pub record Stood (m : ℕ → ℤ) (ps : ℕ → Option Edge) (m' : ℕ → ℤ) (ps' : ℕ → Option Edge) (y : ℕ) (es : List Edge) (b : ℕ) : Type 0 where
  pub end : IsKept m ps m' ps' b
  pub before : IsKept m ps m' ps' y → IsClimb ps y es b

-- one edge in front of a climb
climb_step : (ok : Edge → Bool) (w : Edge → ℤ) (m : ℕ → ℤ) (ps : ℕ → Option Edge) (m' : ℕ → ℤ) (ps' : ℕ → Option Edge) (x : ℕ) →
    IsSound ok w m ps → Lowers ok w m ps m' ps' x → (y : ℕ) (e : Edge) (es : List Edge) (b : ℕ) → ps' y ≡ Some e → IsClimb ps' e.x es b →
    IsLowered ok w m m' ps' x e.x → (m' b +ℤ (sum_of w (e ∷ es) +ℤ pos 1)) ≤ℤ m' y
climb_step ok w m ps m' ps' x s l y e es b p c low =
    let j = climb_above w m' ps' (λ z f q. above_after ok w m ps m' ps' x s l z f q) e.x es b c in
    let f = low.falls in
    elim (l.each y) [
      | inl k ↦ let i = s.above y e (sym k.parent ∙ p) in let h = k.label in omega (arith, ints)
      | inr k ↦
          let same : k.edge ≡ e = (let q = k.parent in cc) in
          let from : e.x ≡ x = sym (ap (λ (z : Edge). z.x) same) ∙ k.from in
          let u = ap m' from in
          let v = ap m from in
          let t = l.source.label in
          absurd (omega (arith, ints))
    ]

climb_after : (ok : Edge → Bool) (w : Edge → ℤ) (m : ℕ → ℤ) (ps : ℕ → Option Edge) (m' : ℕ → ℤ) (ps' : ℕ → Option Edge) (x : ℕ) →
    IsSound ok w m ps → Lowers ok w m ps m' ps' x → (y : ℕ) (e : Edge) (es : List Edge) (b : ℕ) → IsClimb ps' y (e ∷ es) b →
    ((m' b +ℤ (sum_of w (e ∷ es) +ℤ pos 1)) ≤ℤ m' y) ⊎ Stood m ps m' ps' y (e ∷ es) b
climb_after ok w m ps m' ps' x s l y e [] b c = elim (l.each e.x) [
  | inr low ↦ inl (climb_step ok w m ps m' ps' x s l y e [] b c.0 c.1 low)
  | inl kept ↦ inr (record { end = subst (IsKept m ps m' ps') c.1 kept; before = λ k. (sym k.parent ∙ c.0, c.1) })
]
climb_after ok w m ps m' ps' x s l y e (f ∷ fs) b c = elim (l.each e.x) [
  | inr low ↦ inl (climb_step ok w m ps m' ps' x s l y e (f ∷ fs) b c.0 c.1 low)
  | inl kept ↦ elim (climb_after ok w m ps m' ps' x s l e.x f fs b c.1) [
    | inl i ↦ inl (let a = above_after ok w m ps m' ps' x s l y e c.0 in omega (arith, ints))
    | inr t ↦ inr (record { end = t.end; before = λ k. (sym k.parent ∙ c.0, t.before kept) })
  ]
]

closed_after : (ok : Edge → Bool) (w : Edge → ℤ) (m : ℕ → ℤ) (ps : ℕ → Option Edge) (m' : ℕ → ℤ) (ps' : ℕ → Option Edge) (x : ℕ) →
    IsSound ok w m ps → Lowers ok w m ps m' ps' x → (y : ℕ) (e : Edge) (es : List Edge) → IsClimb ps' y (e ∷ es) y → (sum_of w (e ∷ es) +ℤ pos 1) ≤ℤ pos 0
closed_after ok w m ps m' ps' x s l y e es c = elim (climb_after ok w m ps m' ps' x s l y e es y c) [
  | inl i ↦ omega (arith, ints)
  | inr t ↦ s.closed y e es (t.before t.end)
]

pub sound_after : (ok : Edge → Bool) (w : Edge → ℤ) (m : ℕ → ℤ) (ps : ℕ → Option Edge) (m' : ℕ → ℤ) (ps' : ℕ → Option Edge) (x : ℕ) →
    IsSound ok w m ps → Lowers ok w m ps m' ps' x → IsSound ok w m' ps'
sound_after ok w m ps m' ps' x s l = record {
  root = λ y none. elim (l.each y) [
    | inl k ↦ k.label ∙ s.root y (sym k.parent ∙ none)
    | inr k ↦ absurd (let q = k.parent in cc)
  ];
  there = λ y e p. elim (l.each y) [
    | inl k ↦ s.there y e (sym k.parent ∙ p)
    | inr k ↦ let same : k.edge ≡ e = (let q = k.parent in cc) in sym (ap ok same) ∙ k.there
  ];
  ends = λ y e p. elim (l.each y) [
    | inl k ↦ s.ends y e (sym k.parent ∙ p)
    | inr k ↦ let same : k.edge ≡ e = (let q = k.parent in cc) in sym (ap (λ (z : Edge). z.y) same) ∙ k.ends
  ];
  above = λ y e p. above_after ok w m ps m' ps' x s l y e p;
  closed = λ y e es c. closed_after ok w m ps m' ps' x s l y e es c;
}
