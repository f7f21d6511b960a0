-- A climb of as many edges as there are nodes comes to a node twice.
use Rattle.std.proofs.Common.{◌≡◌, ◌≤◌, ◌<◌, ◌+◌, ℕ, suc, zero, List, [], ◌∷◌, length, Some, None, arith, refl, inl, inr, sym}
use Rattle.std.specs.Prelude.{◌⊎◌, true, false, Option, ◌||◌}
use Rattle.std.specs.List.{IsDistinct, AllByRecursion, list_any}
use Rattle.std.proofs.lemmas.Map.Steps.{length-le_from_distinct_below}
use Rattle.std.proofs.lemmas.Bool.{cases_Bool}
use Rattle.std.proofs.lemmas.Bool.Decides.{eqb_tells}
use lib.Dec.{eqb}
use Rattle.rationale.specs.Edges.{Edge}
use Rattle.rationale.specs.Climbs.{IsClimb, Rooted}

-- the nodes of a climb
abbrev pub nodes_of : ℕ → List Edge → List ℕ
nodes_of y [] = y ∷ []
nodes_of y (e ∷ es) = y ∷ nodes_of e.x es

length-nodes_of : (y : ℕ) (es : List Edge) → length (nodes_of y es) ≡ length es + 1
length-nodes_of y [] = refl
length-nodes_of y (e ∷ es) = omega (arith, length-nodes_of e.x es)

-- a climb from y to a, shorter than some number
pub record ClimbsTo (ps : ℕ → Option Edge) (y a n : ℕ) : Type 0 where
  pub way : List Edge
  pub climb : IsClimb ps y way a
  pub short : length way < n

climb_to : (ps : ℕ → Option Edge) (a y : ℕ) (es : List Edge) (b : ℕ) → IsClimb ps y es b → list_any (eqb a) (nodes_of y es) ≡ true →
    ClimbsTo ps y a (length (nodes_of y es))
climb_to ps a y [] b c h = elim (eqb_tells a y) [
  | inl t ↦ record { way = []; climb = sym t.1; short = omega arith }
  | inr f ↦ absurd (let i = f.0 in let j : (eqb a y || false) ≡ false = rw i refl in cc)
]
climb_to ps a y (e ∷ es) b c h = elim (eqb_tells a y) [
  | inl t ↦ record { way = []; climb = sym t.1; short = omega arith }
  | inr f ↦
      let t = climb_to ps a e.x es b c.1 (rw f.0 at h) in
      let s = t.short in
      record { way = e ∷ t.way; climb = (c.0, t.climb); short = omega arith }
]

none_all : (a : ℕ) (xs : List ℕ) → list_any (eqb a) xs ≡ false → AllByRecursion (λ y. eqb a y ≡ false) xs
none_all a [] h = tt
none_all a (x ∷ xs) h = elim (cases_Bool (eqb a x)) [
  | inl t ↦ absurd (let j : (eqb a x || list_any (eqb a) xs) ≡ true = rw t refl in cc)
  | inr f ↦ (f, none_all a xs (rw f at h))
]

nodes_below : (ps : ℕ → Option Edge) (n : ℕ) → ((z : ℕ) (e : Edge) → ps z ≡ Some e → e.x < n) →
    (y : ℕ) (es : List Edge) (b : ℕ) → y < n → IsClimb ps y es b → (q : ℕ) → list_any (eqb q) (nodes_of y es) ≡ true → q < n
nodes_below ps n ends y [] b small c q h = elim (eqb_tells q y) [
  | inl t ↦ let e = t.1 in omega arith
  | inr f ↦ absurd (let i = f.0 in let j : (eqb q y || false) ≡ false = rw i refl in cc)
]
nodes_below ps n ends y (e ∷ es) b small c q h = elim (eqb_tells q y) [
  | inl t ↦ let e = t.1 in omega arith
  | inr f ↦ nodes_below ps n ends e.x es b (ends y e c.0) c.1 q (rw f.0 at h)
]

-- a closed climb of at most n edges
pub record Loop (ps : ℕ → Option Edge) (n : ℕ) : Type 0 where
  pub node : ℕ
  pub edge : Edge
  pub way : List Edge
  pub climb : IsClimb ps node (edge ∷ way) node
  pub few : length (edge ∷ way) ≤ n

loop_or_distinct : (ps : ℕ → Option Edge) (n : ℕ) → ((z : ℕ) (e : Edge) → ps z ≡ Some e → e.x < n) →
    (y : ℕ) (es : List Edge) (b : ℕ) → y < n → IsClimb ps y es b → Loop ps n ⊎ IsDistinct eqb (nodes_of y es)
unfolding IsDistinct
loop_or_distinct ps n ends y [] b small c = inr (tt, tt)
loop_or_distinct ps n ends y (e ∷ es) b small c = elim (loop_or_distinct ps n ends e.x es b (ends y e c.0) c.1) [
  | inl l ↦ inl l
  | inr d ↦ elim (cases_Bool (list_any (eqb y) (nodes_of e.x es))) [
    | inl again ↦
        let t = climb_to ps y e.x es b c.1 again in
        let few = length-le_from_distinct_below (nodes_of e.x es) n d (λ q h. nodes_below ps n ends e.x es b (ends y e c.0) c.1 q h) in
        let s = t.short in
        inl (record { node = y; edge = e; way = t.way; climb = (c.0, t.climb); few = omega arith })
    | inr new ↦ inr (none_all y (nodes_of e.x es) new, d)
  ]
]

pub long_climb : (ps : ℕ → Option Edge) (n : ℕ) → ((z : ℕ) (e : Edge) → ps z ≡ Some e → e.x < n) →
    (y : ℕ) (es : List Edge) (b : ℕ) → y < n → IsClimb ps y es b → n ≤ length es → Loop ps n
long_climb ps n ends y es b small c long = elim (loop_or_distinct ps n ends y es b small c) [
  | inl l ↦ l
  | inr d ↦ absurd (
      let few = length-le_from_distinct_below (nodes_of y es) n d (λ q h. nodes_below ps n ends y es b small c q h) in
      let more = length-nodes_of y es in
      omega arith)
]

-- a climb of n edges
pub record Long (ps : ℕ → Option Edge) (y n : ℕ) : Type 0 where
  pub way : List Edge
  pub top : ℕ
  pub climb : IsClimb ps y way top
  pub long : n ≤ length way

pub record Given (o : Option Edge) : Type 0 where
  pub edge : Edge
  pub is : o ≡ Some edge

cases_parent : (o : Option Edge) → (o ≡ None) ⊎ Given o
cases_parent None = inl refl
cases_parent (Some e) = inr (record { edge = e; is = refl })

rooted_or_long : (ps : ℕ → Option Edge) (n y : ℕ) → Rooted ps y n ⊎ Long ps y n
rooted_or_long ps zero y = inr (record { way = []; top = y; climb = refl; long = omega arith })
rooted_or_long ps (suc n) y = elim (cases_parent (ps y)) [
  | inl none ↦ inl (record { way = []; root = y; climb = refl; none = none; short = omega arith })
  | inr g ↦ elim (rooted_or_long ps n g.edge.x) [
    | inl r ↦ let s = r.short in inl (record { way = g.edge ∷ r.way; root = r.root; climb = (g.is, r.climb); none = r.none; short = omega arith })
    | inr l ↦ let s = l.long in inr (record { way = g.edge ∷ l.way; top = l.top; climb = (g.is, l.climb); long = omega arith })
  ]
]

pub rooted_or_loop : (ps : ℕ → Option Edge) (n : ℕ) → ((z : ℕ) (e : Edge) → ps z ≡ Some e → e.x < n) → (y : ℕ) → y < n → Rooted ps y n ⊎ Loop ps n
rooted_or_loop ps n ends y small = elim (rooted_or_long ps n y) [
  | inl r ↦ inl r
  | inr l ↦ inr (long_climb ps n ends y l.way l.top small l.climb l.long)
]
