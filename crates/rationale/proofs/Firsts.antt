-- A cycle that is written from its least link.
use Rattle.std.proofs.Common.{◌≡◌, ◌≤◌, ◌<◌, ◌+◌, ◌-◌, ℕ, suc, zero, List, [], ◌∷◌, ◌++◌, length, drop, take, slice_index, Some, None, arith, ap, refl, inl, inr, sym, subst, ◌∙◌, Ok, Err, Vec, Global, length-drop, get_or-drop, get_or-take, length-take-le}
use Rattle.std.specs.Prelude.{Option, Result, IfOk, IfSome, slice_index_or}
use Rattle.std.specs.List.{AllByRecursion}
use Rattle.std.proofs.lemmas.List.{append_assoc, take_more}
use Rattle.lot_base.specs.Goods.{box_size}
use Rattle.lot_base.proofs.Index.{index_of-bundle_at}
use Rattle.rationale.specs.Edges.{Edge}
use Rattle.rationale.specs.Climbs.{IsTrail}
use Rattle.rationale.specs.Decisions.{Precedes, IsFromLeast}
use Rattle.rationale.specs.Places.{link_at, links_of}
use Rattle.rationale.specs.Shown.{edge_to, parent_of}
use Rattle.rationale.specs.Turned.{AreParents, edge_list, edges_of, EdgePrecedes, ComesBefore, IsLeastOf}
use Rattle.rationale.specs.declared.labels.Parent.{Parent}
use Rattle.rationale.specs.declared.links.Link.{Link}
use Rattle.rationale.proofs.Growing.{all_append}

-- an edge between places of the box that does not come before another one
pub record IsLater (supply : List ℕ) (least e : Edge) : Type 0 where
  pub x_small : e.x < box_size supply
  pub y_small : e.y < box_size supply
  pub later : EdgePrecedes e least → ⊥

-- so is its link
link_later : (supply : List ℕ) (least e : Edge) → least.x < box_size supply → least.y < box_size supply → IsLater supply least e → Precedes supply (link_at supply e) (link_at supply least) → ⊥
link_later supply least e x y is before =
    let ex = index_of-bundle_at supply e.x is.x_small in
    let ey = index_of-bundle_at supply e.y is.y_small in
    let lx = index_of-bundle_at supply least.x x in
    let ly = index_of-bundle_at supply least.y y in
    is.later (elim before [
      | inl less ↦ inl (omega arith)
      | inr rest ↦ (let same = rest.0 in inr (
        omega arith,
        elim rest.1 [
          | inl less ↦ inl (omega arith)
          | inr end ↦ (let a = end.0 in let b = end.1 in inr (omega arith, omega arith))
        ],
      ))
    ])

links_later : (supply : List ℕ) (least : Edge) (es : List Edge) (behind : List Link) → least.x < box_size supply → least.y < box_size supply → AllByRecursion (IsLater supply least) es →
    AllByRecursion (λ link. Precedes supply link (link_at supply least) → ⊥) behind → AllByRecursion (λ link. Precedes supply link (link_at supply least) → ⊥) (links_of supply es behind)
unfolding links_of
links_later supply least [] behind x y are rest = rest
links_later supply least (e ∷ es) behind x y are rest = links_later supply least es (link_at supply e ∷ behind) x y are.1 (link_later supply least e x y are.0, rest)

-- the last edge's link is the first
links_end : (supply : List ℕ) (es : List Edge) (last : Edge) (behind : List Link) → links_of supply (es ++ last ∷ []) behind ≡ link_at supply last ∷ links_of supply es behind
unfolding links_of
links_end supply [] last behind = refl
links_end supply (e ∷ es) last behind = links_end supply es last (link_at supply e ∷ behind)

edges-append : (ps : ℕ → Option Edge) (xs ys : List ℕ) → edges_of ps (xs ++ ys) ≡ edges_of ps xs ++ edges_of ps ys
edges-append ps [] ys = refl
edges-append ps (x ∷ xs) ys = ap (λ (es : List Edge). edge_list (ps x) ++ es) (edges-append ps xs ys) ∙ sym (append_assoc (edge_list (ps x)) (edges_of ps xs) (edges_of ps ys))

-- places whose edges do not come before that of another place
abbrev pub AreLater : ℕ → (ℕ → Option Edge) → Option Edge → List ℕ → Type 0
AreLater n ps least xs = AllByRecursion (λ x. (x < n) × (ComesBefore (ps x) least → ⊥)) xs

pub all_places : (P : ℕ → Type 0) (xs : List ℕ) → ((i : ℕ) → i < length xs → P (slice_index xs i)) → AllByRecursion P xs
all_places P [] each = tt
all_places P (x ∷ xs) each = (each 0 (omega arith), all_places P xs (λ i inside. each (suc i) (omega arith)))

edges_later : (supply : List ℕ) (parents : List (Option Parent)) (least : Edge) (xs : List ℕ) → AreParents (box_size supply) parents → AreLater (box_size supply) (parent_of parents) (Some least) xs →
    AllByRecursion (IsLater supply least) (edges_of (parent_of parents) xs)
edges_later supply parents least [] known are = tt
edges_later supply parents least (x ∷ xs) known are =
    all_append (IsLater supply least) (edge_list (parent_of parents x)) (edges_of (parent_of parents) xs) (one (slice_index_or parents x None) refl) (edges_later supply parents least xs known are.1)
  where
    one : (p : Option Parent) → slice_index_or parents x None ≡ p → AllByRecursion (IsLater supply least) (edge_list (parent_of parents x))
    one None e = subst (λ (q : Option Parent). AllByRecursion (IsLater supply least) (edge_list (edge_to q x))) (sym e) tt
    one (Some p) e =
        let small : (p.x < box_size supply) × (p.observation < 1000000) = subst (λ (q : Option Parent). IfSome q (λ r. (r.x < box_size supply) × (r.observation < 1000000))) e (known x) in
        let later = subst (λ (q : Option Parent). ComesBefore (edge_to q x) (Some least) → ⊥) e are.0.1 in
        let here : AllByRecursion (IsLater supply least) (edge_list (edge_to (Some p) x)) = (record { x_small = small.0; y_small = are.0.0; later = later }, tt) in
        subst (λ (q : Option Parent). AllByRecursion (IsLater supply least) (edge_list (edge_to q x))) (sym e) here

-- the places after the turn and before it, the last of which is that of the least link
pub turned_later : (n : ℕ) (ps : ℕ → Option Edge) (path : List ℕ) (first least : ℕ) → first ≤ least → least < length path → ((k : ℕ) → k < length path → slice_index path k < n) →
    IsLeastOf ps path first (length path) least → AreLater n ps (ps (slice_index path least)) (drop (least + 1) path ++ take (least - first) (drop first path))
turned_later n ps path first least low inside small is =
    all_append P (drop (least + 1) path) (take (least - first) (drop first path))
    (all_places P (drop (least + 1) path) (λ i within. (
    let l = length-drop (least + 1) path in
    subst P (sym (get_or-drop (least + 1) path i 0)) (small (least + 1 + i) (omega arith), is (least + 1 + i) (omega arith) (omega arith)))))
    (all_places P (take (least - first) (drop first path)) (λ i within. (
    let l = length-take-le (least - first) (drop first path) (let d = length-drop first path in omega arith) in
    let h : i < least - first = omega arith in
    subst P (sym (get_or-take (least - first) (drop first path) i 0 h ∙ get_or-drop first path i 0)) (small (first + i) (omega arith), is (first + i) (omega arith) (omega arith)))))
  where
    P : ℕ → Type 0
    P x = (x < n) × (ComesBefore (ps x) (ps (slice_index path least)) → ⊥)

pub turned_last : (path : List ℕ) (first least turn : ℕ) → turn ≡ least + 1 → first ≤ least → least < length path →
    drop turn path ++ take (turn - first) (drop first path) ≡ (drop (least + 1) path ++ take (least - first) (drop first path)) ++ slice_index path least ∷ []
turned_last path first least turn is low inside =
    let d = length-drop first path in
    let e : turn - first ≡ least - first + 1 = omega arith in
    let k : first + (least - first) ≡ least = omega arith in
    (λ j. drop (is j) path ++ take (e j) (drop first path))
    ∙ ap (λ (xs : List ℕ). drop (least + 1) path ++ xs) (take_more (drop first path) (least - first) 0 (omega arith))
    ∙ ap (λ (x : ℕ). drop (least + 1) path ++ (take (least - first) (drop first path) ++ x ∷ [])) (get_or-drop first path (least - first) 0 ∙ ap (slice_index path) k)
    ∙ sym (append_assoc (drop (least + 1) path) (take (least - first) (drop first path)) (slice_index path least ∷ []))

from_least : (supply : List ℕ) (parents : List (Option Parent)) (xs : List ℕ) (q : ℕ) (least : Edge) → AreParents (box_size supply) parents → parent_of parents q ≡ Some least →
    least.x < box_size supply → least.y < box_size supply → AreLater (box_size supply) (parent_of parents) (Some least) xs → IsFromLeast supply (links_of supply (edges_of (parent_of parents) (xs ++ q ∷ [])) [])
from_least supply parents xs q least known is x y are =
    let ps = parent_of parents in
    let e : edges_of ps (xs ++ q ∷ []) ≡ edges_of ps xs ++ least ∷ [] = edges-append ps xs (q ∷ []) ∙ ap (λ (o : Option Edge). edges_of ps xs ++ (edge_list o ++ [])) is in
    let f = ap (λ (es : List Edge). links_of supply es []) e ∙ links_end supply (edges_of ps xs) least [] in
    subst (IsFromLeast supply) (sym f) (links_later supply least (edges_of ps xs) [] x y (edges_later supply parents least xs known are) tt)

-- each place of a trail has a parent
trail_parent : (ps : ℕ → Option Edge) (a : ℕ) (xs : List ℕ) (b i : ℕ) → IsTrail ps a xs b → i < length xs → (e : Edge) × (ps (slice_index xs i) ≡ Some e)
trail_parent ps a [] b i t inside = absurd (omega arith)
trail_parent ps a (x ∷ xs) b zero t inside = (t.1.0, ap ps t.0 ∙ t.1.1)
trail_parent ps a (x ∷ xs) b (suc i) t inside = trail_parent ps t.1.0.x xs b i t.1.2 (omega arith)

edge_small : (supply : List ℕ) (parents : List (Option Parent)) (y : ℕ) (e : Edge) → AreParents (box_size supply) parents → parent_of parents y ≡ Some e → (e.x < box_size supply) × (e.y ≡ y)
edge_small supply parents y e known is = by_parent (slice_index_or parents y None) refl
  where
    by_parent : (p : Option Parent) → slice_index_or parents y None ≡ p → (e.x < box_size supply) × (e.y ≡ y)
    by_parent None q = absurd (let n : parent_of parents y ≡ None = ap (λ (z : Option Parent). edge_to z y) q in cc)
    by_parent (Some p) q =
        let s : Some (record { observation = p.observation; x = p.x; y = y }) ≡ Some e = sym (ap (λ (z : Option Parent). edge_to z y) q) ∙ is in
        let same : record { observation = p.observation; x = p.x; y = y } ≡ e = cc in
        let small : (p.x < box_size supply) × (p.observation < 1000000) = subst (λ (z : Option Parent). IfSome z (λ r. (r.x < box_size supply) × (r.observation < 1000000))) q (known y) in
        (subst (λ (z : Edge). z.x < box_size supply) same small.0, sym (ap (λ (z : Edge). z.y) same))

pub cycle_from_least : (supply : List ℕ) (parents : List (Option Parent)) (path : List ℕ) (first turn b : ℕ) → AreParents (box_size supply) parents → first < turn → turn ≤ length path →
    ((k : ℕ) → k < length path → slice_index path k < box_size supply) → IsTrail (parent_of parents) (slice_index path first) (drop first path) b →
    IsLeastOf (parent_of parents) path first (length path) (turn - 1) → IsFromLeast supply (links_of supply (edges_of (parent_of parents) (drop turn path ++ take (turn - first) (drop first path))) [])
cycle_from_least supply parents path first turn b known low high small trail is =
    let ps = parent_of parents in
    let least = turn - 1 in
    let one : turn ≡ least + 1 = omega arith in
    let d = length-drop first path in
    let k : first + (least - first) ≡ least = omega arith in
    let t = trail_parent ps (slice_index path first) (drop first path) b (least - first) trail (omega arith) in
    let here : ps (slice_index path least) ≡ Some t.0 = ap ps (sym (get_or-drop first path (least - first) 0 ∙ ap (slice_index path) k)) ∙ t.1 in
    let e = edge_small supply parents (slice_index path least) t.0 known here in
    let y = small least (omega arith) in
    let ends = e.1 in
    let are = turned_later (box_size supply) ps path first least (omega arith) (omega arith) small is in
    let later = subst (λ (o : Option Edge). AreLater (box_size supply) ps o (drop (least + 1) path ++ take (least - first) (drop first path))) here are in
    subst (λ (xs : List ℕ). IsFromLeast supply (links_of supply (edges_of ps xs) [])) (sym (turned_last path first least turn one (omega arith) (omega arith)))
    (from_least supply parents (drop (least + 1) path ++ take (least - first) (drop first path)) (slice_index path least) t.0 known here e.0 (omega arith) later)

pub written_from_least : {E : Type 0} (r : Result (Vec Link Global) E) (now places : List ℕ) (supply : List ℕ) (ps : ℕ → Option Edge) → now ≡ places →
    IfOk r (λ v. v.items ≡ links_of supply (edges_of ps now) []) → IsFromLeast supply (links_of supply (edges_of ps places) []) → IfOk r (λ v. IsFromLeast supply v.items)
written_from_least (Err e) now places supply ps is written first = tt
written_from_least (Ok v) now places supply ps is written first =
    subst (IsFromLeast supply) (sym (written ∙ ap (λ (xs : List ℕ). links_of supply (edges_of ps xs) []) is)) first
