-- Where bundles stand in the box after a unit moved between them, the marks of a list, and what a scan of the list has seen.
use Rattle.std.proofs.Common.{◌≡◌, ◌⊎◌, inl, inr, ℕ, zero, suc, ◌+◌, ◌-◌, ◌≤◌, ◌<◌, ◌≢◌, Bool, true, false, List, [], ◌∷◌, length, Some, take, set, replicate, arith, ap, refl, sym, subst, ◌∙◌, get_or-set_same, get_or-set_other, length-set}
use Rattle.std.specs.Prelude.{◌↔◌, slice_get, slice_index_or}
use Rattle.std.proofs.lemmas.Bool.{cases_eq}
use Rattle.lot_base.specs.Goods.{at, one_more, one_less, box_size, AtMost}
use Rattle.lot_base.specs.Box.{IsIn, index_of, bundle_at}
use Rattle.lot_base.proofs.Vec.{length-below, length-one_more, at-up_other}
use Rattle.lot_base.proofs.Exchange.{moved_one, moved_two}
use Rattle.lot_base.proofs.Index.{index_of-small, bundle_at-index_of}
use Rattle.lyapunov.proofs.Units.{length-one_less}
use Rattle.lot_base.specs.Strides.{stride}
use Rattle.overshoot.specs.Listed.{AreMarks}
use Rattle.overshoot.specs.Exchange.{IsExchanged, HasExchange, IsFirstBroken}
use Rattle.overshoot.specs.Scanned.{IsExchangedFor, IsFirstGood, IsFirstPartner, AllBefore, WithBefore}
use Rattle.lot_base.proofs.Strides.{index-up, index-down}

-- where the bundles stand after a unit of k went from x to y
pub record Alone (s x y : List ℕ) (k : ℕ) : Type 0 where
  pub room : stride s k ≤ index_of s x
  pub less : index_of s (one_less x k) ≡ index_of s x - stride s k
  pub more : index_of s (one_more y k) ≡ index_of s y + stride s k
  pub less_in : index_of s (one_less x k) < box_size s
  pub more_in : index_of s (one_more y k) < box_size s
  pub in_x : AtMost (one_less x k) s
  pub in_y : AtMost (one_more y k) s

pub alone : (s x y : List ℕ) (k : ℕ) → AtMost x s → AtMost y s → k < length s → at y k < at x k → Alone s x y k
alone s x y k bx by hk h =
    let m = moved_one s x y k bx by h in
    let d = index-down s x k (length-below x s bx) (omega arith) in
    let e = index-up s y k (length-below y s by) hk in
    record { room = omega arith; less = omega arith; more = omega arith; less_in = index_of-small s (one_less x k) m.in_x; more_in = index_of-small s (one_more y k) m.in_y; in_x = m.in_x; in_y = m.in_y }

-- and after one of l came back for it
pub record ForOther (s x y : List ℕ) (k l : ℕ) : Type 0 where
  pub room : stride s l ≤ index_of s (one_more y k)
  pub less : index_of s (one_more (one_less x k) l) ≡ index_of s (one_less x k) + stride s l
  pub more : index_of s (one_less (one_more y k) l) ≡ index_of s (one_more y k) - stride s l
  pub less_in : index_of s (one_more (one_less x k) l) < box_size s
  pub more_in : index_of s (one_less (one_more y k) l) < box_size s
  pub in_x : AtMost (one_more (one_less x k) l) s
  pub in_y : AtMost (one_less (one_more y k) l) s

pub for_other : (s x y : List ℕ) (k l : ℕ) → AtMost x s → AtMost y s → l < length s → at y k < at x k → at x l < at y l → ForOther s x y k l
for_other s x y k l bx by hl h i =
    let m = moved_two s x y k l bx by h i in
    let n = other k l h i in
    let c = at-up_other y k l n in
    let d = index-up s (one_less x k) l (length-one_less x k ∙ length-below x s bx) hl in
    let e = index-down s (one_more y k) l (length-one_more y k ∙ length-below y s by) (omega arith) in
    record { room = omega arith; less = omega arith; more = omega arith; less_in = index_of-small s (one_more (one_less x k) l) m.in_x; more_in = index_of-small s (one_less (one_more y k) l) m.in_y; in_x = m.in_x; in_y = m.in_y }
  where
    other : (k l : ℕ) → at y k < at x k → at x l < at y l → l ≢ k
    other k l h i e = absurd (omega (arith, ap (at x) e, ap (at y) e))

-- two places are marked where the bundles there are in the list
pub marked-both : (s : List ℕ) (xs : List (List ℕ)) (marks : List Bool) (x y : List ℕ) (m n : ℕ) → AreMarks s xs marks → AtMost x s → AtMost y s → index_of s x ≡ m → index_of s y ≡ n
    → ((slice_index_or marks m false ≡ true) × (slice_index_or marks n false ≡ true)) ↔ (IsIn x xs × IsIn y xs)
marked-both s xs marks x y m n h bx by ex ey =
    let a = h.each x bx in
    let b = h.each y by in
    let P : ℕ → Type 0 = λ k. slice_index_or marks k false ≡ true in
    ((λ t. (a.0 (subst P (sym ex) t.0), b.0 (subst P (sym ey) t.1))), (λ t. (subst P ex (a.1 t.0), subst P ey (b.1 t.1))))

-- the marks of the first so many bundles of a list
pub record AreMarksTo (s : List ℕ) (xs : List (List ℕ)) (n : ℕ) (marks : List Bool) : Type 0 where
  pub size : length marks ≡ box_size s
  pub each : (x : List ℕ) → AtMost x s → (slice_index_or marks (index_of s x) false ≡ true) ↔ IsIn x (take n xs)

blank : (n k : ℕ) → slice_index_or (replicate n false) k false ≡ false
blank zero k = refl
blank (suc n) zero = refl
blank (suc n) (suc k) = blank n k

pub marks-start : (s : List ℕ) (xs : List (List ℕ)) (marks : List Bool) → length marks ≡ box_size s → marks ≡ replicate (box_size s) false → AreMarksTo s xs 0 marks
marks-start s xs marks size is = record {
  size = size;
  each = λ x b. ((λ e. let f : false ≡ true = sym (blank (box_size s) (index_of s x)) ∙ ap (λ m. slice_index_or m (index_of s x) false) (sym is) ∙ e in cc), (λ h. absurd h));
}

in-more : (xs : List (List ℕ)) (n : ℕ) (b x : List ℕ) → slice_get xs n ≡ Some b → IsIn x (take (suc n) xs) → IsIn x (take n xs) ⊎ (x ≡ b)
in-more [] n b x e h = absurd h
in-more (a ∷ xs) zero b x e (inl i) = inr (i ∙ (let f : a ≡ b = cc in f))
in-more (a ∷ xs) zero b x e (inr h) = absurd h
in-more (a ∷ xs) (suc n) b x e (inl i) = inl (inl i)
in-more (a ∷ xs) (suc n) b x e (inr h) = elim (in-more xs n b x e h) [ inl i ↦ inl (inr i) | inr i ↦ inr i ]

in-last : (xs : List (List ℕ)) (n : ℕ) (b : List ℕ) → slice_get xs n ≡ Some b → IsIn b (take (suc n) xs)
in-last [] n b e = absurd (cc)
in-last (a ∷ xs) zero b e = inl (let f : b ≡ a = cc in f)
in-last (a ∷ xs) (suc n) b e = inr (in-last xs n b e)

in-before : (xs : List (List ℕ)) (n : ℕ) (x : List ℕ) → IsIn x (take n xs) → IsIn x (take (suc n) xs)
in-before [] zero x h = absurd h
in-before [] (suc n) x h = absurd h
in-before (a ∷ xs) zero x h = absurd h
in-before (a ∷ xs) (suc n) x (inl i) = inl i
in-before (a ∷ xs) (suc n) x (inr h) = inr (in-before xs n x h)

same-bundle : (s x b : List ℕ) → AtMost x s → AtMost b s → index_of s x ≡ index_of s b → x ≡ b
same-bundle s x b bx bb e = sym (bundle_at-index_of s x bx) ∙ ap (bundle_at s) e ∙ bundle_at-index_of s b bb

pub marks-more : (s : List ℕ) (xs : List (List ℕ)) (n : ℕ) (b : List ℕ) (before after : List Bool) → AtMost b s → slice_get xs n ≡ Some b
    → after ≡ set before (index_of s b) true → AreMarksTo s xs n before → AreMarksTo s xs (n + 1) after
marks-more s xs n b before after bb is written h =
    let e : n + 1 ≡ suc n = omega arith in
    let P : ℕ → Type 0 = λ k. AreMarksTo s xs k after in
    let Q : List Bool → Type 0 = λ m. AreMarksTo s xs (suc n) m in
    let size = h.size in
    let small = index_of-small s b bb in
    subst P (sym e) (subst Q (sym written) (record {
      size = length-set before (index_of s b) true ∙ size;
      each = λ x bx. elim (cases_eq (index_of s x) (index_of s b)) [
        | inl same ↦
            let f = same-bundle s x b bx bb same in
            let X : List ℕ → Type 0 = λ z. IsIn z (take (suc n) xs) in
            ((λ t. subst X (sym f) (in-last xs n b is)), (λ i. ap (λ k. slice_index_or (set before (index_of s b) true) k false) same ∙ get_or-set_same before (index_of s b) true false (omega arith)))
        | inr other ↦
            let f = get_or-set_other before (index_of s b) (index_of s x) true false other in
            let t = h.each x bx in (
              (λ m. in-before xs n x (t.0 (sym f ∙ m))),
              (λ i. elim (in-more xs n b x is i) [ inl j ↦ f ∙ t.1 j | inr j ↦ absurd (other (ap (index_of s) j)) ]),
            )
      ];
    }))

take-whole : (xs : List (List ℕ)) → take (length xs) xs ≡ xs
take-whole [] = refl
take-whole (x ∷ xs) = ap (λ ys. x ∷ ys) (take-whole xs)

pub marks-end : (s : List ℕ) (xs : List (List ℕ)) (n : ℕ) (marks : List Bool) → n ≡ length xs → AreMarksTo s xs n marks → AreMarks s xs marks
marks-end s xs n marks e h =
    let whole : take n xs ≡ xs = ap (λ k. take k xs) e ∙ take-whole xs in
    let P : List (List ℕ) → Type 0 = λ ys. (x : List ℕ) → AtMost x s → (slice_index_or marks (index_of s x) false ≡ true) ↔ IsIn x ys in
    record { size = h.size; each = subst P whole h.each }

-- the place of a bundle of a list
pub place-in : (xs : List (List ℕ)) (x : List ℕ) → IsIn x xs → (i : ℕ) × (slice_get xs i ≡ Some x)
place-in [] x h = absurd h
place-in (a ∷ xs) x (inl e) = (0, ap Some (sym e))
place-in (a ∷ xs) x (inr h) = let t = place-in xs x h in (suc t.0, t.1)

pub get-inside : (xs : List (List ℕ)) (i : ℕ) (x : List ℕ) → slice_get xs i ≡ Some x → i < length xs
get-inside [] i x e = absurd (cc)
get-inside (a ∷ xs) zero x e = omega arith
get-inside (a ∷ xs) (suc i) x e = let t = get-inside xs i x e in omega arith

pub get-in : (xs : List (List ℕ)) (i : ℕ) (x : List ℕ) → slice_get xs i ≡ Some x → IsIn x xs
get-in [] i x e = absurd (cc)
get-in (a ∷ xs) zero x e = inl (let f : x ≡ a = cc in f)
get-in (a ∷ xs) (suc i) x e = inr (get-in xs i x e)

pub get-same : (xs : List (List ℕ)) (i j : ℕ) (x a : List ℕ) → slice_get xs i ≡ Some x → j ≡ i → slice_get xs j ≡ Some a → x ≡ a
get-same xs i j x a e same f = let g : Some x ≡ Some a = sym e ∙ ap (slice_get xs) (sym same) ∙ f in cc

-- one bundle more
pub with-more : (xs : List (List ℕ)) (x y : List ℕ) (n : ℕ) → slice_get xs n ≡ Some y → ((l : ℕ) → IsExchanged xs x y l) → WithBefore xs x n → WithBefore xs x (n + 1)
with-more xs x y n is here before i l b h e = elim (cases_eq i n) [
  | inl same ↦ let P : List ℕ → Type 0 = λ z. IsExchanged xs x z l in subst P (get-same xs n i y b is same e) (here l)
  | inr other ↦ before i l b (omega arith) e
]

pub all-more : (xs : List (List ℕ)) (x : List ℕ) (n : ℕ) → slice_get xs n ≡ Some x → WithBefore xs x (length xs) → AllBefore xs n → AllBefore xs (n + 1)
all-more xs x n is here before i j l a b h ea eb = elim (cases_eq i n) [
  | inl same ↦ let P : List ℕ → Type 0 = λ z. IsExchanged xs z b l in subst P (get-same xs n i x a is same ea) (here j l b (get-inside xs j b eb) eb)
  | inr other ↦ before i j l a b (omega arith) ea eb
]

pub has-exchange : (xs : List (List ℕ)) (n : ℕ) → length xs ≤ n → AllBefore xs n → HasExchange xs
has-exchange xs n end all x y k hx hy =
    let i = place-in xs x hx in
    let j = place-in xs y hy in
    let inside = get-inside xs i.0 x i.1 in
    all i.0 j.0 k x y (omega arith) i.1 j.1

pub first-broken : (xs : List (List ℕ)) (place y_place k : ℕ) (x y : List ℕ) → slice_get xs place ≡ Some x → slice_get xs y_place ≡ Some y
    → AllBefore xs place → IsFirstPartner xs x y_place k → IsFirstBroken xs x y k
first-broken xs place y_place k x y ex ey before h =
    let same : h.bundle ≡ y = get-same xs y_place y_place h.bundle y h.is refl ey in
    let F : List ℕ → Type 0 = λ z. IsFirstGood xs x z k in
    let first = subst F same h.first in
    record { place_x = place; place_y = y_place; x_is = ex; y_is = ey; broken = first.broken; goods = first.goods; bundles = h.before; pairs = before }

-- one good more against which a unit does not go
pub for-more : (xs : List (List ℕ)) (x y : List ℕ) (k n : ℕ) → ((m : ℕ) → m < n → IsExchangedFor xs x y k m → ⊥) → (IsExchangedFor xs x y k n → ⊥)
    → (m : ℕ) → m < n + 1 → IsExchangedFor xs x y k m → ⊥
for-more xs x y k n before here m h t = elim (cases_eq m n) [
  | inl same ↦ let P : ℕ → Type 0 = λ j. IsExchangedFor xs x y k j in here (subst P same t)
  | inr other ↦ before m (omega arith) t
]
