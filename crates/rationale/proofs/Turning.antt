-- A path that is turned, and the links along it.
use Rattle.std.proofs.Common.{◌≡◌, ◌≤◌, ◌<◌, ◌+◌, ◌-◌, ℕ, suc, zero, List, [], ◌∷◌, ◌++◌, length, drop, take, slice_index, Some, None, arith, ap, refl, inl, inr, sym, subst, ◌∙◌, length-append, take-append-drop, length-take, length-drop, Ok, Err, Vec, Global}
use Rattle.std.specs.Prelude.{◌⊎◌, Bool, true, Option, Result, IfOk, ℤ, pos, ◌+ℤ◌, ◌≤ℤ◌}
use Rattle.std.proofs.lemmas.Int.{ints}
use Rattle.std.specs.List.{list_any}
use Rattle.std.proofs.lemmas.Bool.{cases_Bool}
use Rattle.std.proofs.lemmas.Bool.Decides.{eqb_tells}
use lib.Dec.{eqb}
use Rattle.std.proofs.lemmas.List.{append_assoc, append-nil, drop_all}
use Rattle.std.proofs.Math.Seq.{drop-cons}
use Rattle.lot_base.specs.Box.{bundle_at}
use Rattle.rationale.specs.Edges.{Edge}
use Rattle.rationale.specs.Walks.{sum_of}
use Rattle.rationale.specs.Climbs.{IsClimb, IsTrail, IsSound}
use Rattle.rationale.specs.Observations.{Observation}
use Rattle.rationale.specs.Links.{IsNegativeCycle}
use Rattle.rationale.specs.Places.{link_at, links_of, is_edge, edge_weight}
use Rattle.rationale.specs.Turned.{edge_list, link_list, edges_of}
use Rattle.rationale.specs.declared.links.Link.{Link}
use Rattle.rationale.proofs.Climbs.{climb_rises}
use Rattle.rationale.proofs.Bundles.{rise-chain, total-links_of, length-links_of}

pub record Between (ps : ℕ → Option Edge) (a : ℕ) (xs ys : List ℕ) (c : ℕ) : Type 0 where
  pub middle : ℕ
  pub first : IsTrail ps a xs middle
  pub second : IsTrail ps middle ys c

pub trail-split : (ps : ℕ → Option Edge) (a : ℕ) (xs ys : List ℕ) (c : ℕ) → IsTrail ps a (xs ++ ys) c → Between ps a xs ys c
trail-split ps a [] ys c t = record { middle = a; first = refl; second = t }
trail-split ps a (x ∷ xs) ys c t = let s = trail-split ps t.1.0.x xs ys c t.1.2 in record { middle = s.middle; first = (t.0, (t.1.0, t.1.1, s.first)); second = s.second }

pub trail-join : (ps : ℕ → Option Edge) (a : ℕ) (xs ys : List ℕ) (b c : ℕ) → IsTrail ps a xs b → IsTrail ps b ys c → IsTrail ps a (xs ++ ys) c
trail-join ps a [] ys b c t s = subst (λ (z : ℕ). IsTrail ps z ys c) (sym t) s
trail-join ps a (x ∷ xs) ys b c t s = (t.0, (t.1.0, t.1.1, trail-join ps t.1.0.x xs ys b c t.1.2 s))

pub edges-climb : (ps : ℕ → Option Edge) (a : ℕ) (xs : List ℕ) (b : ℕ) → IsTrail ps a xs b → IsClimb ps a (edges_of ps xs) b
edges-climb ps a [] b t = t
edges-climb ps a (x ∷ xs) b t =
    let p : ps x ≡ Some t.1.0 = ap ps t.0 ∙ t.1.1 in
    let e : edges_of ps (x ∷ xs) ≡ t.1.0 ∷ edges_of ps xs = ap (λ (o : Option Edge). edge_list o ++ edges_of ps xs) p in
    subst (λ (es : List Edge). IsClimb ps a es b) (sym e) (t.1.1, edges-climb ps t.1.0.x xs b t.1.2)

pub edges-long : (ps : ℕ → Option Edge) (a : ℕ) (xs : List ℕ) (b : ℕ) → IsTrail ps a xs b → length (edges_of ps xs) ≡ length xs
edges-long ps a [] b t = refl
edges-long ps a (x ∷ xs) b t =
    let p : ps x ≡ Some t.1.0 = ap ps t.0 ∙ t.1.1 in
    let e : edges_of ps (x ∷ xs) ≡ t.1.0 ∷ edges_of ps xs = ap (λ (o : Option Edge). edge_list o ++ edges_of ps xs) p in
    ap length e ∙ ap suc (edges-long ps t.1.0.x xs b t.1.2)

-- links are written one after another
links-behind : (supply : List ℕ) (es : List Edge) (behind : List Link) → links_of supply es behind ≡ links_of supply es [] ++ behind
unfolding links_of
links-behind supply [] behind = refl
links-behind supply (e ∷ es) behind =
    links-behind supply es (link_at supply e ∷ behind) ∙ sym (append_assoc (links_of supply es []) (link_at supply e ∷ []) behind)
    ∙ ap (λ (ls : List Link). ls ++ behind) (sym (links-behind supply es (link_at supply e ∷ [])))

by_parent : (supply : List ℕ) (es : List Edge) (o : Option Edge) → links_of supply (edge_list o ++ es) [] ≡ links_of supply es [] ++ link_list supply o
unfolding links_of
by_parent supply es None = sym (append-nil (links_of supply es []))
by_parent supply es (Some e) = links-behind supply es (link_at supply e ∷ [])

pub links-more : (supply : List ℕ) (ps : ℕ → Option Edge) (x : ℕ) (xs : List ℕ) → links_of supply (edges_of ps (x ∷ xs)) [] ≡ links_of supply (edges_of ps xs) [] ++ link_list supply (ps x)
links-more supply ps x xs = by_parent supply (edges_of ps xs) (ps x)

pub links-start : (supply : List ℕ) (ps : ℕ → Option Edge) (places : List ℕ) (k : ℕ) → length places ≤ k → links_of supply (edges_of ps (drop k places)) [] ≡ []
unfolding links_of
links-start supply ps places k past = ap (λ (xs : List ℕ). links_of supply (edges_of ps xs) []) (drop_all k places past)

pub links-next : (supply : List ℕ) (ps : ℕ → Option Edge) (places : List ℕ) (k next : ℕ) → next ≡ k + 1 → k < length places →
    links_of supply (edges_of ps (drop k places)) [] ≡ links_of supply (edges_of ps (drop next places)) [] ++ link_list supply (ps (slice_index places k))
links-next supply ps places k next is inside =
    let e : suc k ≡ next = omega arith in
    ap (λ (xs : List ℕ). links_of supply (edges_of ps xs) []) (drop-cons places k 0 inside)
    ∙ links-more supply ps (slice_index places k) (drop (suc k) places)
    ∙ ap (λ (n : ℕ). links_of supply (edges_of ps (drop n places)) [] ++ link_list supply (ps (slice_index places k))) e

closed_sum : (ok : Edge → Bool) (w : Edge → ℤ) (m : ℕ → ℤ) (ps : ℕ → Option Edge) → IsSound ok w m ps → (y : ℕ) (es : List Edge) → 1 ≤ length es → IsClimb ps y es y → (sum_of w es +ℤ pos 1) ≤ℤ pos 0
closed_sum ok w m ps s y [] some c = absurd (omega arith)
closed_sum ok w m ps s y (e ∷ es) some c = s.closed y e es c

-- a closed path that is turned gives a negative cycle of as many links
pub turned_cycle : (supply : List ℕ) (os : List Observation) (m : ℕ → ℤ) (ps : ℕ → Option Edge) → IsSound (is_edge supply os) (edge_weight supply os) m ps →
    (a : ℕ) (xs ys : List ℕ) → 1 ≤ length xs → IsTrail ps a (xs ++ ys) a → IsNegativeCycle supply os (links_of supply (edges_of ps (ys ++ xs)) [])
turned_cycle supply os m ps s a xs ys some trail =
    let t = trail-split ps a xs ys a trail in
    let turned = trail-join ps t.middle ys xs a t.middle t.second t.first in
    let climb = edges-climb ps t.middle (ys ++ xs) t.middle turned in
    let es = edges_of ps (ys ++ xs) in
    let long : length es ≡ length ys + length xs = edges-long ps t.middle (ys ++ xs) t.middle turned ∙ length-append ys xs in
    let rise = climb_rises (is_edge supply os) (edge_weight supply os) m ps s t.middle es t.middle climb in
    let negative = closed_sum (is_edge supply os) (edge_weight supply os) m ps s t.middle es (omega arith) climb in
    record {
      start = bundle_at supply t.middle;
      closed = rise-chain supply os t.middle es t.middle [] (bundle_at supply t.middle) rise refl;
      negative = (let i = total-links_of supply os es [] in omega (arith, ints));
    }

pub turned_long : (supply : List ℕ) (ps : ℕ → Option Edge) (a : ℕ) (xs ys : List ℕ) → IsTrail ps a (xs ++ ys) a → length (links_of supply (edges_of ps (ys ++ xs)) []) ≡ length xs + length ys
turned_long supply ps a xs ys trail =
    let t = trail-split ps a xs ys a trail in
    let turned = trail-join ps t.middle ys xs a t.middle t.second t.first in
    let long = edges-long ps t.middle (ys ++ xs) t.middle turned ∙ length-append ys xs in
    let i = length-links_of supply (edges_of ps (ys ++ xs)) [] in
    omega arith

-- places of a part of a path are places of the path
any-drop : (q : ℕ) (xs : List ℕ) (k : ℕ) → list_any (eqb q) (drop k xs) ≡ true → list_any (eqb q) xs ≡ true
any-drop q [] k h = absurd (any-none q k h)
  where
    any-none : (q k : ℕ) → list_any (eqb q) (drop k []) ≡ true → ⊥
    any-none q zero h = cc
    any-none q (suc k) h = cc
any-drop q (x ∷ xs) zero h = h
any-drop q (x ∷ xs) (suc k) h = elim (cases_Bool (eqb q x)) [
  | inl t ↦ rw t refl
  | inr f ↦ rw f (any-drop q xs k h)
]

any-take : (q : ℕ) (xs : List ℕ) (k : ℕ) → list_any (eqb q) (take k xs) ≡ true → list_any (eqb q) xs ≡ true
any-take q xs zero h = absurd (cc)
any-take q [] (suc k) h = absurd (cc)
any-take q (x ∷ xs) (suc k) h = elim (cases_Bool (eqb q x)) [
  | inl t ↦ rw t refl
  | inr f ↦ rw f (any-take q xs k (rw f at h))
]

any-append : (q : ℕ) (xs ys : List ℕ) → list_any (eqb q) (xs ++ ys) ≡ true → (list_any (eqb q) xs ≡ true) ⊎ (list_any (eqb q) ys ≡ true)
any-append q [] ys h = inr h
any-append q (x ∷ xs) ys h = elim (cases_Bool (eqb q x)) [
  | inl t ↦ inl (rw t refl)
  | inr f ↦ elim (any-append q xs ys (rw f at h)) [ inl i ↦ inl (rw f i) | inr i ↦ inr i ]
]

pub any-at : (xs : List ℕ) (k : ℕ) → k < length xs → list_any (eqb (slice_index xs k)) xs ≡ true
any-at [] k h = absurd (omega arith)
any-at (x ∷ xs) zero h = elim (eqb_tells x x) [ inl t ↦ rw t.0 refl | inr f ↦ absurd (f.1 refl) ]
any-at (x ∷ xs) (suc k) h = elim (cases_Bool (eqb (slice_index xs k) x)) [
  | inl t ↦ rw t refl
  | inr f ↦ rw f (any-at xs k (omega arith))
]

pub turned_small : (n : ℕ) (path places : List ℕ) (first turn : ℕ) → ((q : ℕ) → list_any (eqb q) path ≡ true → q < n) → places ≡ drop turn path ++ take (turn - first) (drop first path) →
    (k : ℕ) → k < length places → slice_index places k < n
turned_small n path places first turn small is k inside =
    let m : list_any (eqb (slice_index places k)) (drop turn path ++ take (turn - first) (drop first path)) ≡ true = subst (λ (xs : List ℕ). list_any (eqb (slice_index places k)) xs ≡ true) is (any-at places k inside) in
    elim (any-append (slice_index places k) (drop turn path) (take (turn - first) (drop first path)) m) [
      | inl i ↦ small (slice_index places k) (any-drop (slice_index places k) path turn i)
      | inr i ↦ small (slice_index places k) (any-drop (slice_index places k) path first (any-take (slice_index places k) (drop first path) (turn - first) i))
    ]

drop-drop : (xs : List ℕ) (i j : ℕ) → drop j (drop i xs) ≡ drop (i + j) xs
drop-drop xs zero j = (let e : j ≡ 0 + j = omega arith in ap (λ (k : ℕ). drop k xs) e)
drop-drop [] (suc i) zero = (let e : suc i + 0 ≡ suc i = omega arith in ap (λ (k : ℕ). drop k []) (sym e))
drop-drop [] (suc i) (suc j) = (let e : suc i + suc j ≡ suc (i + suc j) = omega arith in ap (λ (k : ℕ). drop {A = ℕ} k []) (sym e))
drop-drop (x ∷ xs) (suc i) j = drop-drop xs i j ∙ (let e : suc i + j ≡ suc (i + j) = omega arith in ap (λ (k : ℕ). drop k (x ∷ xs)) (sym e))

-- a path from a place on is its part before the turn, and the part after it
pub parted : (path : List ℕ) (first turn : ℕ) → first ≤ turn → take (turn - first) (drop first path) ++ drop turn path ≡ drop first path
parted path first turn low =
    let e : first + (turn - first) ≡ turn = omega arith in
    ap (λ (ys : List ℕ). take (turn - first) (drop first path) ++ ys) (ap (λ (k : ℕ). drop k path) (sym e) ∙ sym (drop-drop path first (turn - first)))
    ∙ take-append-drop (turn - first) (drop first path)

pub before_some : (path : List ℕ) (first turn : ℕ) → first < turn → first < length path → 1 ≤ length (take (turn - first) (drop first path))
before_some path first turn low inside = simp (length-take, length-drop) (omega arith)

pub before_long : (path : List ℕ) (first turn : ℕ) → first ≤ turn → turn ≤ length path → length (take (turn - first) (drop first path)) + length (drop turn path) ≤ length path
before_long path first turn low inside = let i = length-take (turn - first) (drop first path) in let j = length-drop turn path in omega arith

-- what is written is a cycle
pub written_cycle : {E : Type 0} (r : Result (Vec Link Global) E) (now places : List ℕ) (supply : List ℕ) (os : List Observation) (ps : ℕ → Option Edge) → now ≡ places →
    IfOk r (λ v. v.items ≡ links_of supply (edges_of ps now) []) → IsNegativeCycle supply os (links_of supply (edges_of ps places) []) → IfOk r (λ v. IsNegativeCycle supply os v.items)
written_cycle (Err e) now places supply os ps is written cycle = tt
written_cycle (Ok v) now places supply os ps is written cycle =
    subst (λ (ls : List Link). IsNegativeCycle supply os ls) (sym (written ∙ ap (λ (xs : List ℕ). links_of supply (edges_of ps xs) []) is)) cycle

pub written_few : {E : Type 0} (r : Result (Vec Link Global) E) (now places : List ℕ) (supply : List ℕ) (ps : ℕ → Option Edge) (n : ℕ) → now ≡ places →
    IfOk r (λ v. v.items ≡ links_of supply (edges_of ps now) []) → length (links_of supply (edges_of ps places) []) ≤ n → IfOk r (λ v. length v.items ≤ n)
written_few (Err e) now places supply ps n is written few = tt
written_few (Ok v) now places supply ps n is written few =
    subst (λ (ls : List Link). length ls ≤ n) (sym (written ∙ ap (λ (xs : List ℕ). links_of supply (edges_of ps xs) []) is)) few
