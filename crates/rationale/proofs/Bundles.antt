-- Links between bundles are edges between places.
use Rattle.std.proofs.Common.{◌≡◌, ◌≤◌, ◌<◌, ◌+◌, ◌-◌, ℕ, suc, zero, List, [], ◌∷◌, length, Some, None, arith, ap, refl, inl, inr, sym, subst, ◌∙◌}
use Rattle.std.specs.Prelude.{Bool, true, false, not, ◌&&◌, ◌==◌, nat_lt, Option, slice_get, ℤ, pos, ◌+ℤ◌, ◌≤ℤ◌}
use Rattle.std.specs.List.{AllByRecursion}
use Rattle.std.specs.Cmp.Lexicographic.{slice_cmp}
use Rattle.std.specs.Ordering.{nat_cmp, is_eq}
use Rattle.std.proofs.lemmas.Int.{ints}
use Rattle.std.proofs.lemmas.Bool.{cases_Bool}
use Rattle.std.proofs.lemmas.Bool.Decides.{nat_tests, eqb_tells}
use Rattle.std.proofs.lemmas.Option.{slice_get_within}
use Rattle.std.proofs.lemmas.Slice.Eq.{bytes_eq-Decides}
use Rattle.std.proofs.lemmas.Map.Text.{is_eq-slice_cmp}
use Rattle.lot_base.specs.Goods.{box_size, AtMost}
use Rattle.lot_base.specs.Box.{IsIn, index_of, bundle_at}
use Rattle.lot_base.proofs.Within.{both}
use Rattle.lot_base.proofs.Index.{index_of-small, bundle_at-index_of, bundle_at-within, index_of-bundle_at}
use Rattle.rationale.specs.Edges.{Edge}
use Rattle.rationale.specs.Walks.{sum_of, IsRise, IsGraph, IsLeastSum, NegativeCycle}
use Rattle.rationale.specs.Observations.{Observation}
use Rattle.rationale.specs.Links.{is_in, weight, IsLink, IsChain, total, IsNegativeCycle, AreLeastWeights}
use Rattle.rationale.specs.declared.links.Link.{Link}
use Rattle.rationale.specs.Places.{allowed, is_edge, link_at, edge_at, edge_weight, links_of, AreBoxed}

same-from_is_eq : (x y : List ℕ) → is_eq (slice_cmp nat_cmp x y) ≡ true → x ≡ y
same-from_is_eq x y e = (bytes_eq-Decides x y).0 (sym (is_eq-slice_cmp x y) ∙ e)

is_eq-same : (x y : List ℕ) → x ≡ y → is_eq (slice_cmp nat_cmp x y) ≡ true
is_eq-same x y e = is_eq-slice_cmp x y ∙ (bytes_eq-Decides x y).1 e

pub is_in-IsIn : (y : List ℕ) (xs : List (List ℕ)) → is_in y xs ≡ true → IsIn y xs
is_in-IsIn y [] h = absurd (cc)
is_in-IsIn y (x ∷ xs) h = elim (cases_Bool (is_eq (slice_cmp nat_cmp x y))) [
  | inl t ↦ inl (sym (same-from_is_eq x y t))
  | inr f ↦ inr (is_in-IsIn y xs (rw f at h))
]

pub IsIn-is_in : (y : List ℕ) (xs : List (List ℕ)) → IsIn y xs → is_in y xs ≡ true
IsIn-is_in y [] h = absurd h
IsIn-is_in y (x ∷ xs) (inl e) = rw (is_eq-same x y (sym e)) refl
IsIn-is_in y (x ∷ xs) (inr m) = elim (cases_Bool (is_eq (slice_cmp nat_cmp x y))) [
  | inl t ↦ rw t refl
  | inr f ↦ rw f (IsIn-is_in y xs m)
]

lt-from : (a b : ℕ) → nat_lt a b ≡ true → a < b
lt-from a b h = grind (arith, nat_tests)

lt-to : (a b : ℕ) → a < b → nat_lt a b ≡ true
lt-to a b h = grind (arith, nat_tests)

apart-from : (a b : ℕ) → not (a == b) ≡ true → a ≡ b → ⊥
apart-from a b h e = grind (arith, nat_tests)

apart-to : (a b : ℕ) → (a ≡ b → ⊥) → not (a == b) ≡ true
apart-to a b h = elim (eqb_tells a b) [
  | inl t ↦ absurd (h t.1)
  | inr f ↦ (let e : (a == b) ≡ false = f.0 in rw e refl)
]

four : (a b c d : Bool) → a ≡ true → b ≡ true → c ≡ true → d ≡ true → (a && (b && (c && d))) ≡ true
four a b c d p q r s = rw (p, q, r, s) refl

pub record Allowed (supply : List ℕ) (found : Option Observation) (e : Edge) : Type 0 where
  pub seen : Observation
  pub is : found ≡ Some seen
  pub from : e.x < box_size supply
  pub to : e.y < box_size supply
  pub apart : e.x ≡ e.y → ⊥
  pub demanded : is_in (bundle_at supply e.x) seen.bundles ≡ true

allowed-facts : (supply : List ℕ) (found : Option Observation) (e : Edge) → allowed supply found e ≡ true → Allowed supply found e
unfolding allowed
allowed-facts supply None e h = absurd (cc)
allowed-facts supply (Some o) e h =
    let size = box_size supply in
    let a = both (nat_lt e.x size) (nat_lt e.y size && (not (e.x == e.y) && is_in (bundle_at supply e.x) o.bundles)) h in
    let b = both (nat_lt e.y size) (not (e.x == e.y) && is_in (bundle_at supply e.x) o.bundles) a.1 in
    let c = both (not (e.x == e.y)) (is_in (bundle_at supply e.x) o.bundles) b.1 in
    record { seen = o; is = refl; from = lt-from e.x size a.0; to = lt-from e.y size b.0; apart = apart-from e.x e.y c.0; demanded = c.1 }

pub edge_facts_at : (supply : List ℕ) (os : List Observation) (e : Edge) → is_edge supply os e ≡ true → Allowed supply (slice_get os e.observation) e
unfolding is_edge
edge_facts_at supply os e h = allowed-facts supply (slice_get os e.observation) e h

pub edge_there : (supply : List ℕ) (os : List Observation) (o : Observation) (e : Edge) → slice_get os e.observation ≡ Some o → e.x < box_size supply → e.y < box_size supply →
    (e.x ≡ e.y → ⊥) → is_in (bundle_at supply e.x) o.bundles ≡ true → is_edge supply os e ≡ true
unfolding is_edge allowed
edge_there supply os o e found from to apart demanded =
    let P : Option Observation → Type 0 = λ f. allowed supply f e ≡ true in
    subst P (sym found) (four (nat_lt e.x (box_size supply)) (nat_lt e.y (box_size supply)) (not (e.x == e.y)) (is_in (bundle_at supply e.x) o.bundles)
    (lt-to e.x (box_size supply) from) (lt-to e.y (box_size supply) to) (apart-to e.x e.y apart) demanded)

pub edge-IsLink : (supply : List ℕ) (os : List Observation) (e : Edge) → is_edge supply os e ≡ true → IsLink supply os (link_at supply e)
edge-IsLink supply os e h =
    let a = edge_facts_at supply os e h in
    let n : e.observation + 1 - 1 ≡ e.observation = omega arith in
    record {
      seen = a.seen;
      numbered = omega arith;
      found = ap (slice_get os) n ∙ a.is;
      demanded = is_in-IsIn (bundle_at supply e.x) a.seen.bundles a.demanded;
      in_box = bundle_at-within supply e.y a.to;
      other = λ same. a.apart (sym (index_of-bundle_at supply e.x a.from) ∙ ap (index_of supply) same ∙ index_of-bundle_at supply e.y a.to);
    }

pub graph : (supply : List ℕ) (os : List Observation) → IsGraph (is_edge supply os) (length os) (box_size supply)
graph supply os = record {
  told = λ e h. (let a = edge_facts_at supply os e h in slice_get_within os e.observation a.seen a.is);
  from = λ e h. (edge_facts_at supply os e h).from;
  to = λ e h. (edge_facts_at supply os e h).to;
  apart = λ e h. (edge_facts_at supply os e h).apart;
}

pub all_at : (P : Observation → Type 0) (os : List Observation) (i : ℕ) (o : Observation) → AllByRecursion P os → slice_get os i ≡ Some o → P o
all_at P [] i o all is = absurd (cc)
all_at P (q ∷ os) zero o all is = (let e : q ≡ o = cc in subst P e all.0)
all_at P (q ∷ os) (suc i) o all is = all_at P os i o all.1 is

pub all_from : (P : Observation → Type 0) (os : List Observation) → ((i : ℕ) (o : Observation) → slice_get os i ≡ Some o → P o) → AllByRecursion P os
all_from P [] each = tt
all_from P (q ∷ os) each = (each 0 q refl, all_from P os (λ i o is. each (suc i) o is))

within : (supply : List ℕ) (x : List ℕ) (xs : List (List ℕ)) → AllByRecursion (λ z. AtMost z supply) xs → IsIn x xs → AtMost x supply
within supply x [] all m = absurd m
within supply x (z ∷ xs) all (inl e) = subst (λ (b : List ℕ). AtMost b supply) (sym e) all.0
within supply x (z ∷ xs) all (inr m) = within supply x xs all.1 m

-- the bundle that a link starts from is in the box
pub link-within : (supply : List ℕ) (os : List Observation) (l : Link) → AreBoxed supply os → IsLink supply os l → AtMost l.x supply
link-within supply os l good link =
    within supply l.x link.seen.bundles (all_at (λ o. AllByRecursion (λ x. AtMost x supply) o.bundles) os (l.observation - 1) link.seen good link.found) link.demanded

pub link-edge : (supply : List ℕ) (os : List Observation) (l : Link) → AreBoxed supply os → IsLink supply os l → is_edge supply os (edge_at supply l) ≡ true
unfolding is_edge allowed
link-edge supply os l good link =
    let start = link-within supply os l good link in
    let size = box_size supply in
    let x = index_of supply l.x in
    let y = index_of supply l.y in
    let P : Option Observation → Type 0 = λ o. allowed supply o (edge_at supply l) ≡ true in
    let back = bundle_at-index_of supply l.x start in
    let seen : is_in (bundle_at supply x) link.seen.bundles ≡ true = ap (λ (b : List ℕ). is_in b link.seen.bundles) back ∙ IsIn-is_in l.x link.seen.bundles link.demanded in
    let apart : x ≡ y → ⊥ = λ same. link.other (sym back ∙ ap (bundle_at supply) same ∙ bundle_at-index_of supply l.y link.in_box) in
    subst P (sym link.found) (four (nat_lt x size) (nat_lt y size) (not (x == y)) (is_in (bundle_at supply x) link.seen.bundles)
    (lt-to x size (index_of-small supply l.x start)) (lt-to y size (index_of-small supply l.y link.in_box)) (apart-to x y apart) seen)

pub link_at-edge_at : (supply : List ℕ) (os : List Observation) (l : Link) → AreBoxed supply os → IsLink supply os l → link_at supply (edge_at supply l) ≡ l
link_at-edge_at supply os l good link =
    let n : l.observation - 1 + 1 ≡ l.observation = (let i = link.numbered in omega arith) in
    let p = bundle_at-index_of supply l.x (link-within supply os l good link) in
    let q = bundle_at-index_of supply l.y link.in_box in
    λ i. record { observation = n i; x = p i; y = q i }

-- what a potential of the links bounds
pub chain_potential : (supply : List ℕ) (os : List Observation) (v : List ℕ → ℤ) → ((l : Link) → IsLink supply os l → v l.y ≤ℤ (v l.x +ℤ weight os l)) →
    (a : List ℕ) (ls : List Link) (b : List ℕ) → IsChain supply os a ls b → v b ≤ℤ (v a +ℤ total os ls)
chain_potential supply os v each a [] b c = let i = ap v c in omega (arith, ints)
chain_potential supply os v each a (l ∷ ls) b c =
    let i = each l c.0 in
    let j = chain_potential supply os v each l.y ls b c.2 in
    let k = ap v c.1 in
    omega (arith, ints)

-- a way between places is a chain of links
pub rise-chain : (supply : List ℕ) (os : List Observation) (y : ℕ) (es : List Edge) (b : ℕ) (behind : List Link) (c : List ℕ) →
    IsRise (is_edge supply os) y es b → IsChain supply os (bundle_at supply y) behind c → IsChain supply os (bundle_at supply b) (links_of supply es behind) c
unfolding links_of
rise-chain supply os y [] b behind c rise chain = subst (λ (z : ℕ). IsChain supply os (bundle_at supply z) behind c) rise chain
rise-chain supply os y (e ∷ es) b behind c rise chain =
    let more : IsChain supply os (bundle_at supply e.y) behind c = subst (λ (z : ℕ). IsChain supply os (bundle_at supply z) behind c) (sym rise.1) chain in
    rise-chain supply os e.x es b (link_at supply e ∷ behind) c rise.2 (edge-IsLink supply os e rise.0, refl, more)

pub total-links_of : (supply : List ℕ) (os : List Observation) (es : List Edge) (behind : List Link) →
    total os (links_of supply es behind) ≡ sum_of (edge_weight supply os) es +ℤ total os behind
unfolding links_of
total-links_of supply os [] behind = omega (arith, ints)
total-links_of supply os (e ∷ es) behind = let i = total-links_of supply os es (link_at supply e ∷ behind) in omega (arith, ints)

pub length-links_of : (supply : List ℕ) (es : List Edge) (behind : List Link) → length (links_of supply es behind) ≡ length es + length behind
unfolding links_of
length-links_of supply [] behind = omega arith
length-links_of supply (e ∷ es) behind = let i = length-links_of supply es (link_at supply e ∷ behind) in omega arith

-- least sums between places are least weights
least_followed : (ok : Edge → Bool) (w : Edge → ℤ) (m : ℕ → ℤ) → ((y : ℕ) → IsLeastSum ok w y (m y)) → (e : Edge) → ok e ≡ true → m e.y ≤ℤ (m e.x +ℤ w e)
least_followed ok w m least e there =
    let l = least e.x in
    let i = (least e.y).bound l.from (e ∷ l.way) (there, refl, l.is_way) in
    let j = l.reached in
    omega (arith, ints)

least_low : (ok : Edge → Bool) (w : Edge → ℤ) (m : ℕ → ℤ) → ((y : ℕ) → IsLeastSum ok w y (m y)) → (y : ℕ) → m y ≤ℤ pos 0
least_low ok w m least y = (least y).bound y [] refl

pub least_weights : (supply : List ℕ) (os : List Observation) → AreBoxed supply os → (m : ℕ → ℤ) →
    ((y : ℕ) → IsLeastSum (is_edge supply os) (edge_weight supply os) y (m y)) → AreLeastWeights supply os (λ y. m (index_of supply y))
least_weights supply os good m least y in_box =
    let l = least (index_of supply y) in
    let back = bundle_at-index_of supply y in_box in
    let chain : IsChain supply os (bundle_at supply l.from) (links_of supply l.way []) y = rise-chain supply os (index_of supply y) l.way l.from [] y l.is_way back in
    let potential : (k : Link) → IsLink supply os k → m (index_of supply k.y) ≤ℤ (m (index_of supply k.x) +ℤ weight os k) = λ k link.
    (let i = least_followed (is_edge supply os) (edge_weight supply os) m least (edge_at supply k) (link-edge supply os k good link) in
    let j = ap (weight os) (link_at-edge_at supply os k good link) in
    omega (arith, ints)) in
    record {
      from = bundle_at supply l.from;
      links = links_of supply l.way [];
      chain = chain;
      reached = (let i = total-links_of supply os l.way [] in let j = l.reached in omega (arith, ints));
      bound = λ a others c.
          (let i = chain_potential supply os (λ z. m (index_of supply z)) potential a others y c in
          let j = least_low (is_edge supply os) (edge_weight supply os) m least (index_of supply a) in
          omega (arith, ints));
    }

-- a negative cycle between places is one of links
pub record FewLinks (supply : List ℕ) (os : List Observation) : Type 0 where
  pub links : List Link
  pub cycle : IsNegativeCycle supply os links
  pub few : length links ≤ box_size supply

pub cycle_links : (supply : List ℕ) (os : List Observation) → NegativeCycle (is_edge supply os) (edge_weight supply os) (box_size supply) → FewLinks supply os
cycle_links supply os n = record {
  links = links_of supply n.way [];
  cycle = record {
    start = bundle_at supply n.node;
    closed = rise-chain supply os n.node n.way n.node [] (bundle_at supply n.node) n.closed refl;
    negative = (let i = total-links_of supply os n.way [] in let j = n.negative in omega (arith, ints));
  };
  few = (let i = length-links_of supply n.way [] in let j = n.few in omega arith);
}
