-- Passes over all edges of a graph: they reach least labels, or a negative cycle.
use Rattle.std.proofs.Common.{◌≡◌, ◌<◌, ◌+◌, ℕ, suc, zero, List, [], ◌∷◌, ◌++◌, Some, None, arith, ap, refl, inl, inr, sym, subst}
use Rattle.std.specs.Prelude.{◌⊎◌, Bool, true, false, Option, ℤ, pos, ◌+ℤ◌, ◌≤ℤ◌, if◌then◌else◌}
use Rattle.std.proofs.lemmas.Int.{ints, by_lt_z}
use Rattle.std.proofs.lemmas.Bool.{cases_Bool, cond-true, cond-false}
use Rattle.std.proofs.lemmas.Bool.Decides.{eqb_tells}
use lib.Dec.{eqb}
use Rattle.rationale.specs.Edges.{Edge}
use Rattle.rationale.specs.Walks.{IsGraph, HasLeast, NegativeCycle}
use Rattle.rationale.specs.Climbs.{IsSound, Lowers, AreSums, AreBelow, IsPassed}
use Rattle.rationale.proofs.Climbs.{sound_after, climb_rises}
use Rattle.rationale.proofs.Passes.{sums_after, below_start, below_after, settled_least, no_short_climb}
use Rattle.rationale.proofs.Loops.{rooted_or_loop}

-- labels and parents that are right so far
pub record Position (ok : Edge → Bool) (w : Edge → ℤ) : Type 0 where
  pub labels : ℕ → ℤ
  pub parents : ℕ → Option Edge
  pub sound : IsSound ok w labels parents
  pub sums : AreSums ok w labels

pub start : (ok : Edge → Bool) (w : Edge → ℤ) → Position ok w
start ok w = record {
  labels = λ y. pos 0;
  parents = λ y. None;
  sound = record {
    root = λ y none. refl;
    there = λ y e p. absurd (cc);
    ends = λ y e p. absurd (cc);
    above = λ y e p. absurd (cc);
    closed = λ y e es c. absurd (let p = c.0 in cc);
  };
  sums = record { low = λ y. omega (arith, ints); reached = λ y. record { from = y; way = []; is_way = refl; sum = refl } };
}

-- the labels and parents with one node lowered
abbrev set_label : (ℕ → ℤ) → ℕ → ℤ → ℕ → ℤ
set_label m y n z = if eqb z y then n else m z

abbrev set_parent : (ℕ → Option Edge) → Edge → ℕ → Option Edge
set_parent ps e z = if eqb z e.y then Some e else ps z

lowers_one : (ok : Edge → Bool) (w : Edge → ℤ) (m : ℕ → ℤ) (ps : ℕ → Option Edge) (e : Edge) → ok e ≡ true → (e.x ≡ e.y → ⊥) →
    ((m e.x +ℤ w e) +ℤ pos 1) ≤ℤ m e.y → Lowers ok w m ps (set_label m e.y (m e.x +ℤ w e)) (set_parent ps e) e.x
lowers_one ok w m ps e there apart less = record {
  each = λ y. elim (eqb_tells y e.y) [
    | inl t ↦ inr (record {
      edge = e;
      there = there;
      from = refl;
      ends = sym t.1;
      parent = cond-true (eqb y e.y) (Some e) (ps y) t.0;
      label = cond-true (eqb y e.y) (m e.x +ℤ w e) (m y) t.0;
      falls = (let i = cond-true (eqb y e.y) (m e.x +ℤ w e) (m y) t.0 in let j = ap m t.1 in omega (arith, ints));
    })
    | inr f ↦ inl (record { label = cond-false (eqb y e.y) (m e.x +ℤ w e) (m y) f.0; parent = cond-false (eqb y e.y) (Some e) (ps y) f.0 })
  ];
  source = elim (eqb_tells e.x e.y) [
    | inl t ↦ absurd (apart t.1)
    | inr f ↦ record { label = cond-false (eqb e.x e.y) (m e.x +ℤ w e) (m e.x) f.0; parent = cond-false (eqb e.x e.y) (Some e) (ps e.x) f.0 }
  ];
}

-- a later position, where the edge is followed
pub record Followed (ok : Edge → Bool) (w : Edge → ℤ) (p : Position ok w) (e : Edge) : Type 0 where
  pub next : Position ok w
  pub falls : (y : ℕ) → next.labels y ≤ℤ p.labels y
  pub followed : next.labels e.y ≤ℤ (p.labels e.x +ℤ w e)

lower : (ok : Edge → Bool) (w : Edge → ℤ) (p : Position ok w) (e : Edge) → ok e ≡ true → (e.x ≡ e.y → ⊥) →
    ((p.labels e.x +ℤ w e) +ℤ pos 1) ≤ℤ p.labels e.y → Followed ok w p e
lower ok w p e there apart less =
    let l = lowers_one ok w p.labels p.parents e there apart less in
    let m' = set_label p.labels e.y (p.labels e.x +ℤ w e) in
    let ps' = set_parent p.parents e in
    record {
      next = record {
        labels = m';
        parents = ps';
        sound = sound_after ok w p.labels p.parents m' ps' e.x p.sound l;
        sums = sums_after ok w p.labels p.parents m' ps' e.x p.sums l;
      };
      falls = λ y. elim (l.each y) [
        | inl k ↦ let i = k.label in omega (arith, ints)
        | inr k ↦ let i = k.falls in omega (arith, ints)
      ];
      followed = elim (eqb_tells e.y e.y) [
        | inl t ↦ (let i : m' e.y ≡ p.labels e.x +ℤ w e = cond-true (eqb e.y e.y) (p.labels e.x +ℤ w e) (p.labels e.y) t.0 in omega (arith, ints))
        | inr f ↦ absurd (f.1 refl)
      ];
    }

follow : (ok : Edge → Bool) (w : Edge → ℤ) (p : Position ok w) (e : Edge) → ok e ≡ true → (e.x ≡ e.y → ⊥) → Followed ok w p e
follow ok w p e there apart = by_lt_z (p.labels e.x +ℤ w e) (p.labels e.y)
    (λ lt. lower ok w p e there apart (omega (arith, ints)))
    (λ le. record { next = p; falls = λ y. omega (arith, ints); followed = omega (arith, ints) })

abbrev pub IsAmong : Edge → List Edge → Type 0
IsAmong e [] = ⊥
IsAmong e (f ∷ es) = (e ≡ f) ⊎ IsAmong e es

-- a later position, where each edge of the list is followed
pub record Run (ok : Edge → Bool) (w : Edge → ℤ) (p : Position ok w) (es : List Edge) : Type 0 where
  pub next : Position ok w
  pub falls : (y : ℕ) → next.labels y ≤ℤ p.labels y
  pub followed : (e : Edge) → IsAmong e es → ok e ≡ true → next.labels e.y ≤ℤ (p.labels e.x +ℤ w e)

run_more : (ok : Edge → Bool) (w : Edge → ℤ) (p : Position ok w) (e : Edge) (es : List Edge) (f : Followed ok w p e) → Run ok w f.next es → Run ok w p (e ∷ es)
run_more ok w p e es f r = record {
  next = r.next;
  falls = λ y. (let i = r.falls y in let j = f.falls y in omega (arith, ints));
  followed = λ g m there. elim m [
    | inl same ↦ (let i = r.falls e.y in let j = f.followed in
        let P : Edge → Type 0 = λ h. r.next.labels h.y ≤ℤ (p.labels h.x +ℤ w h) in
        let k : P e = omega (arith, ints) in subst P (sym same) k)
    | inr more ↦ (let i = r.followed g more there in let j = f.falls g.x in omega (arith, ints))
  ];
}

run_on : (ok : Edge → Bool) (w : Edge → ℤ) (p : Position ok w) (e : Edge) (es : List Edge) → ok e ≡ false → Run ok w p es → Run ok w p (e ∷ es)
run_on ok w p e es away r = record {
  next = r.next;
  falls = r.falls;
  followed = λ g m there. elim m [
    | inl same ↦ absurd (let i = ap ok same in cc)
    | inr more ↦ r.followed g more there
  ];
}

run : (ok : Edge → Bool) (w : Edge → ℤ) → ((e : Edge) → ok e ≡ true → e.x ≡ e.y → ⊥) → (p : Position ok w) (es : List Edge) → Run ok w p es
run ok w apart p [] = record { next = p; falls = λ y. omega (arith, ints); followed = λ e m there. absurd m }
run ok w apart p (e ∷ es) = elim (cases_Bool (ok e)) [
  | inl there ↦ let f = follow ok w p e there (apart e there) in run_more ok w p e es f (run ok w apart f.next es)
  | inr away ↦ run_on ok w p e es away (run ok w apart p es)
]

-- all edges of observations below k between nodes below n
edges_to : ℕ → ℕ → ℕ → List Edge
edges_to i x zero = []
edges_to i x (suc n) = record { observation = i; x = x; y = n } ∷ edges_to i x n

edges_from : ℕ → ℕ → ℕ → List Edge
edges_from i zero n = []
edges_from i (suc x) n = edges_to i x n ++ edges_from i x n

all_edges : ℕ → ℕ → List Edge
all_edges zero n = []
all_edges (suc k) n = edges_from k n n ++ all_edges k n

among_left : (e : Edge) (es fs : List Edge) → IsAmong e es → IsAmong e (es ++ fs)
among_left e [] fs m = absurd m
among_left e (f ∷ es) fs (inl same) = inl same
among_left e (f ∷ es) fs (inr m) = inr (among_left e es fs m)

among_right : (e : Edge) (es fs : List Edge) → IsAmong e fs → IsAmong e (es ++ fs)
among_right e [] fs m = m
among_right e (f ∷ es) fs m = inr (among_right e es fs m)

last_or_below : (a n : ℕ) → a < suc n → (a ≡ n) ⊎ (a < n)
last_or_below a n h = elim (eqb_tells a n) [
  | inl t ↦ inl t.1
  | inr f ↦ inr (let g = f.1 in omega arith)
]

in_to : (i x y n : ℕ) → y < n → IsAmong (record { observation = i; x = x; y = y }) (edges_to i x n)
unfolding edges_to
in_to i x y zero h = absurd (omega arith)
in_to i x y (suc n) h = elim (last_or_below y n h) [
  | inl same ↦ inl (let F : ℕ → Edge = λ z. record { observation = i; x = x; y = z } in ap F same)
  | inr less ↦ inr (in_to i x y n less)
]

in_from : (i x y k n : ℕ) → x < k → y < n → IsAmong (record { observation = i; x = x; y = y }) (edges_from i k n)
unfolding edges_from
in_from i x y zero n h b = absurd (omega arith)
in_from i x y (suc k) n h b = elim (last_or_below x k h) [
  | inl same ↦ (let P : ℕ → Type 0 = λ z. IsAmong (record { observation = i; x = z; y = y }) (edges_to i k n ++ edges_from i k n) in
      subst P (sym same) (among_left (record { observation = i; x = k; y = y }) (edges_to i k n) (edges_from i k n) (in_to i k y n b)))
  | inr less ↦ among_right (record { observation = i; x = x; y = y }) (edges_to i k n) (edges_from i k n) (in_from i x y k n less b)
]

in_all : (i x y k n : ℕ) → i < k → x < n → y < n → IsAmong (record { observation = i; x = x; y = y }) (all_edges k n)
unfolding all_edges
in_all i x y zero n h a b = absurd (omega arith)
in_all i x y (suc k) n h a b = elim (last_or_below i k h) [
  | inl same ↦ (let P : ℕ → Type 0 = λ z. IsAmong (record { observation = z; x = x; y = y }) (edges_from k n n ++ all_edges k n) in
      subst P (sym same) (among_left (record { observation = k; x = x; y = y }) (edges_from k n n) (all_edges k n) (in_from k x y n n a b)))
  | inr less ↦ among_right (record { observation = i; x = x; y = y }) (edges_from k n n) (all_edges k n) (in_all i x y k n less a b)
]

-- the position after some passes
record Reached (ok : Edge → Bool) (w : Edge → ℤ) (j : ℕ) : Type 0 where
  place : Position ok w
  below : AreBelow ok w j place.labels

pass : (ok : Edge → Bool) (w : Edge → ℤ) (k n : ℕ) → IsGraph ok k n → (j : ℕ) → Reached ok w j → Reached ok w (j + 1)
pass ok w k n g j r =
    let next = run ok w g.apart r.place (all_edges k n) in
    let passed : IsPassed ok w r.place.labels next.next.labels = record {
      falls = next.falls;
      followed = λ e there. next.followed e (in_all e.observation e.x e.y k n (g.told e there) (g.from e there) (g.to e there)) there;
    } in
    record { place = next.next; below = below_after ok w j r.place.labels next.next.labels r.below passed }

passes : (ok : Edge → Bool) (w : Edge → ℤ) (k n : ℕ) → IsGraph ok k n → (j : ℕ) → Reached ok w j
passes ok w k n g zero = record { place = start ok w; below = below_start ok w (start ok w).labels (start ok w).sums }
passes ok w k n g (suc j) =
    let e : j + 1 ≡ suc j = omega arith in
    subst (Reached ok w) e (pass ok w k n g j (passes ok w k n g j))

-- an edge that would still lower a label
record Broken (ok : Edge → Bool) (w : Edge → ℤ) (m : ℕ → ℤ) : Type 0 where
  edge : Edge
  there : ok edge ≡ true
  less : ((m edge.x +ℤ w edge) +ℤ pos 1) ≤ℤ m edge.y

broken_or_settled : (ok : Edge → Bool) (w : Edge → ℤ) (m : ℕ → ℤ) (es : List Edge) →
    Broken ok w m ⊎ ((e : Edge) → IsAmong e es → ok e ≡ true → m e.y ≤ℤ (m e.x +ℤ w e))
broken_or_settled ok w m [] = inr (λ e a there. absurd a)
broken_or_settled ok w m (e ∷ es) = elim (broken_or_settled ok w m es) [
  | inl b ↦ inl b
  | inr s ↦ elim (cases_Bool (ok e)) [
    | inr away ↦ inr (λ g a there. elim a [ inl same ↦ absurd (let i = ap ok same in cc) | inr more ↦ s g more there ])
    | inl is ↦ by_lt_z (m e.x +ℤ w e) (m e.y)
        (λ lt. inl (record { edge = e; there = is; less = omega (arith, ints) }))
        (λ le. inr (λ g a there. elim a [
          | inl same ↦ (let P : Edge → Type 0 = λ h. m h.y ≤ℤ (m h.x +ℤ w h) in let k : P e = omega (arith, ints) in subst P (sym same) k)
          | inr more ↦ s g more there
        ]))
  ]
]

cycle_at : (ok : Edge → Bool) (w : Edge → ℤ) (k n : ℕ) → IsGraph ok k n → (r : Reached ok w n) → Broken ok w r.place.labels → NegativeCycle ok w n
cycle_at ok w k n g r b =
    let f = lower ok w r.place b.edge b.there (g.apart b.edge b.there) b.less in
    let q = f.next in
    elim (rooted_or_loop q.parents n (λ z e p. g.from e (q.sound.there z e p)) b.edge.y (g.to b.edge b.there)) [
      | inl t ↦ absurd (
          let i = f.followed in let j = b.less in let s = t.short in
          no_short_climb ok w n r.place.labels q.labels q.parents r.below q.sound b.edge.y (omega (arith, ints)) t.way t.root t.climb t.none (omega arith))
      | inr l ↦ record {
        node = l.node;
        way = l.edge ∷ l.way;
        closed = climb_rises ok w q.labels q.parents q.sound l.node (l.edge ∷ l.way) l.node l.climb;
        few = l.few;
        negative = q.sound.closed l.node l.edge l.way l.climb;
      }
    ]

pub least_or_cycle : (ok : Edge → Bool) (w : Edge → ℤ) (k n : ℕ) → IsGraph ok k n → HasLeast ok w ⊎ NegativeCycle ok w n
least_or_cycle ok w k n g =
    let r = passes ok w k n g n in
    elim (broken_or_settled ok w r.place.labels (all_edges k n)) [
      | inl b ↦ inr (cycle_at ok w k n g r b)
      | inr s ↦ inl (
        r.place.labels,
        λ y. settled_least ok w r.place.labels r.place.sums
            (λ e there. s e (in_all e.observation e.x e.y k n (g.told e there) (g.from e there) (g.to e there)) there) y,
      )
    ]
