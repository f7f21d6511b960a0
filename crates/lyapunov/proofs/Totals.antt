-- The sums of a listed bundle of each bidder and of what may stay unsold: they give and take, and on each set of goods one of them
-- has the least and one the greatest that the lists allow.
use Rattle.std.proofs.Common.{◌≡◌, ℕ, ◌+◌, ◌*◌, ◌-◌, ◌≤◌, ◌<◌, List, [], ◌∷◌, length, map, arith, ap, refl, inl, inr, subst, sym, ◌∙◌}
use Rattle.std.specs.Prelude.{◌⊎◌, pos, ◌≤ℤ◌}
use Rattle.std.proofs.lemmas.Bool.{cases_lt, cases_eq}
use Prim.Native.Nat.{suc, zero, min}
use Rattle.lot_base.proofs.Demand.{AtMost-zeros, greatest_found, least_found}
use Rattle.lot_base.proofs.Vec.{cost-plus_right, length-below}
use Rattle.lot_base.proofs.Vectors.{Bits, above, inside}
use Rattle.lot_base.specs.Box.{IsIn}
use Rattle.lot_base.specs.Choices.{Clears, IsChoice, sum_of}
use Rattle.lot_base.specs.Demands.{greatest_of, least_of}
use Rattle.lot_base.specs.Economy.{total_units}
use Rattle.lot_base.specs.Goods.{AtMost, at, cost, one_less, one_more, plus, zeros}
use Rattle.lyapunov.proofs.Convex.{length-plus, plus_assoc}
use Rattle.lyapunov.proofs.Chosen.{IsSet}
use Rattle.lyapunov.proofs.Descent.{excess_on}
use Rattle.lyapunov.proofs.Duality.{cost-zeros}
use Rattle.lyapunov.proofs.Units.{CanGive, CanTake}
use Rattle.lyapunov.proofs.Sums.{SumOf, sum_gives, sum_takes, AtMost-plus}

-- a list of bundles with the exchange property
abbrev pub HasExchange : List (List ℕ) → Type 0
HasExchange xs =
    (x y : List ℕ) (k : ℕ) → IsIn x xs → IsIn y xs → at y k < at x k →
    (IsIn (one_less x k) xs × IsIn (one_more y k) xs)
    ⊎ ((l : ℕ) × (at x l < at y l) × IsIn (one_more (one_less x k) l) xs × IsIn (one_less (one_more y k) l) xs)

-- some bundle, all in the box, with the exchange property
abbrev pub IsDemandList : List ℕ → List (List ℕ) → Type 0
IsDemandList s xs = ((x : List ℕ) × IsIn x xs) × ((x : List ℕ) → IsIn x xs → AtMost x s) × HasExchange xs

abbrev pub AreDemands : List ℕ → (ℕ → List (List ℕ)) → List ℕ → Type 0
AreDemands s d [] = Unit {0}
AreDemands s d (j ∷ js) = IsDemandList s (d j) × AreDemands s d js

-- the set has only goods whose prices rose: its digits are at most the rises
abbrev pub IsPriced : List ℕ → List ℕ → Type 0
IsPriced [] ps = Unit {0}
IsPriced (e ∷ es) [] = Unit {0}
IsPriced (e ∷ es) (p ∷ ps) = (e ≤ p) × IsPriced es ps

-- no set is in excess demand, and none of risen goods is short of demand
abbrev pub HasNoExcess : List ℕ → (ℕ → List (List ℕ)) → List ℕ → Type 0
HasNoExcess s d js = (f : List ℕ) → IsSet s f → excess_on s d js f ≤ℤ pos 0

abbrev pub HasNoOvershoot : List ℕ → (ℕ → List (List ℕ)) → List ℕ → List ℕ → Type 0
HasNoOvershoot s d js p = (e : List ℕ) → IsSet s e → IsPriced e p → cost e s ≤ total_units (λ j. greatest_of (cost e) (d j)) js

-- what may stay unsold, where p says how far each price rose: any part of the supply of a good that did not rise
abbrev pub IsUnsold : List ℕ → List ℕ → List ℕ → Type 0
IsUnsold [] [] [] = Unit {0}
IsUnsold (p ∷ ps) (s ∷ ss) (z ∷ zs) = (z ≤ s) × (0 < p → z ≡ 0) × IsUnsold ps ss zs
IsUnsold _ _ _ = ⊥

unsold-one_less : (p s x : List ℕ) (k : ℕ) → IsUnsold p s x → IsUnsold p s (one_less x k)
unsold-one_less [] [] [] k h = h
unsold-one_less [] [] (a ∷ x) k h = absurd h
unsold-one_less [] (m ∷ s) x k h = absurd h
unsold-one_less (b ∷ p) [] x k h = absurd h
unsold-one_less (b ∷ p) (m ∷ s) [] k h = absurd h
unsold-one_less (b ∷ p) (m ∷ s) (a ∷ x) zero h = (let i = h.0 in omega arith, (λ z. let i = h.1 z in omega arith), h.2)
unsold-one_less (b ∷ p) (m ∷ s) (a ∷ x) (suc k) h = (h.0, h.1, unsold-one_less p s x k h.2)

unsold-one_more : (p s x y : List ℕ) (k : ℕ) → IsUnsold p s x → IsUnsold p s y → at y k < at x k → IsUnsold p s (one_more y k)
unsold-one_more [] [] x [] k h i l = i
unsold-one_more [] [] x (c ∷ y) k h i l = absurd i
unsold-one_more [] (m ∷ s) x y k h i l = absurd i
unsold-one_more (b ∷ p) [] x y k h i l = absurd i
unsold-one_more (b ∷ p) (m ∷ s) [] y k h i l = absurd h
unsold-one_more (b ∷ p) (m ∷ s) (a ∷ x) [] k h i l = absurd i
unsold-one_more (b ∷ p) (m ∷ s) (a ∷ x) (c ∷ y) zero h i l = (let j = h.0 in omega arith, (λ z. absurd (let j = h.1 z in omega arith)), i.2)
unsold-one_more (b ∷ p) (m ∷ s) (a ∷ x) (c ∷ y) (suc k) h i l = (i.0, i.1, unsold-one_more p s x y k h.2 i.2 l)

unsold-below : (p s x : List ℕ) → IsUnsold p s x → AtMost x s
unsold-below [] [] [] h = tt
unsold-below [] [] (a ∷ x) h = absurd h
unsold-below [] (m ∷ s) x h = absurd h
unsold-below (b ∷ p) [] x h = absurd h
unsold-below (b ∷ p) (m ∷ s) [] h = absurd h
unsold-below (b ∷ p) (m ∷ s) (a ∷ x) h = (h.0, unsold-below p s x h.2)

unsold-dec : (p s x : List ℕ) → IsUnsold p s x ⊎ (IsUnsold p s x → ⊥)
unsold-dec [] [] [] = inl tt
unsold-dec [] [] (a ∷ x) = inr (λ h. h)
unsold-dec [] (m ∷ s) x = inr (λ h. h)
unsold-dec (b ∷ p) [] x = inr (λ h. h)
unsold-dec (b ∷ p) (m ∷ s) [] = inr (λ h. h)
unsold-dec (b ∷ p) (m ∷ s) (a ∷ x) = elim (unsold-dec p s x) [
  | inr f ↦ inr (λ h. f h.2)
  | inl r ↦ elim (cases_lt m a) [
    | inl i ↦ inr (λ h. let j = h.0 in omega arith)
    | inr i ↦ elim (cases_eq a 0) [
      | inl e ↦ inl (i, (λ z. e), r)
      | inr e ↦ elim (cases_lt 0 b) [
        | inl j ↦ inr (λ h. e (h.1 j))
        | inr j ↦ inl (i, (λ z. absurd (omega arith)), r)
      ]
    ]
  ]
]

abbrev pub Listed : (ℕ → List (List ℕ)) → ℕ → List ℕ → Type 0
Listed d j x = IsIn x (d j)

-- the sums of a listed bundle per member and of what may stay unsold
pub IsTotal : List ℕ → List ℕ → (ℕ → List (List ℕ)) → List ℕ → List ℕ → Type 0
IsTotal p s d [] = IsUnsold p s
IsTotal p s d (j ∷ js) = SumOf (Listed d j) (IsTotal p s d js)

pub cap : List ℕ → List ℕ → List ℕ
cap s [] = s
cap s (j ∷ js) = plus s (cap s js)

pub length-cap : (s js : List ℕ) → length (cap s js) ≡ length s
unfolding cap
length-cap s [] = refl
length-cap s (j ∷ js) = let i = length-cap s js in omega (arith, length-plus s (cap s js))

listed_gives : (s : List ℕ) (d : ℕ → List (List ℕ)) (j : ℕ) → IsDemandList s (d j) → CanGive (Listed d j)
listed_gives s d j h x y k ax ay l = elim (h.2 x y k ax ay l) [ inl t ↦ inl t.0 | inr t ↦ inr (t.0, t.1, t.2) ]

listed_takes : (s : List ℕ) (d : ℕ → List (List ℕ)) (j : ℕ) → IsDemandList s (d j) → CanTake (Listed d j)
listed_takes s d j h x y k ax ay l = elim (h.2 x y k ax ay l) [ inl t ↦ inl t.1 | inr t ↦ inr (t.0, t.1, t.3) ]

pub total-below : (p s : List ℕ) (d : ℕ → List (List ℕ)) (js : List ℕ) → AreDemands s d js → (x : List ℕ) → IsTotal p s d js x
    → AtMost x (cap s js)
unfolding IsTotal cap
total-below p s d [] h x t = unsold-below p s x t
total-below p s d (j ∷ js) h x t = let P : List ℕ → Type 0 = λ w. AtMost w (plus s (cap s js)) in
    subst P (sym t.is) (AtMost-plus t.left s t.right (cap s js) (h.0.1 t.left t.in_left) (total-below p s d js h.1 t.right t.in_right) (sym (length-cap s js)))

total-length : (p s : List ℕ) (d : ℕ → List (List ℕ)) (js : List ℕ) → AreDemands s d js → (x : List ℕ) → IsTotal p s d js x
    → length x ≡ length s
total-length p s d js h x t = length-below x (cap s js) (total-below p s d js h x t) ∙ length-cap s js

pub total_gives : (p s : List ℕ) (d : ℕ → List (List ℕ)) (js : List ℕ) → AreDemands s d js → CanGive (IsTotal p s d js)
unfolding IsTotal
total_gives p s d [] h = λ x y k ax ay l. inl (unsold-one_less p s x k ax)
total_gives p s d (j ∷ js) h = sum_gives (Listed d j) (IsTotal p s d js) (listed_gives s d j h.0) (total_gives p s d js h.1) (length s) (λ x a. length-below x s (h.0.1 x a)) (λ x a. total-length p s d js h.1 x a)

pub total_takes : (p s : List ℕ) (d : ℕ → List (List ℕ)) (js : List ℕ) → AreDemands s d js → CanTake (IsTotal p s d js)
unfolding IsTotal
total_takes p s d [] h = λ x y k ax ay l. inl (unsold-one_more p s x y k ax ay l)
total_takes p s d (j ∷ js) h = sum_takes (Listed d j) (IsTotal p s d js) (listed_takes s d j h.0) (total_takes p s d js h.1) s (cap s js) (sym (length-cap s js)) (λ x a. h.0.1 x a) (λ x a. total-below p s d js h.1 x a)

same_list : (x y : List ℕ) → (x ≡ y) ⊎ (x ≡ y → ⊥)
same_list [] [] = inl refl
same_list [] (b ∷ y) = inr (λ e. cc)
same_list (a ∷ x) [] = inr (λ e. cc)
same_list (a ∷ x) (b ∷ y) = elim (cases_eq a b) [
  | inr f ↦ inr (λ e. f (cc))
  | inl e ↦ elim (same_list x y) [ inl f ↦ inl (cc) | inr f ↦ inr (λ g. f (cc)) ]
]

search_in : (Q : List ℕ → Type 0) → ((x : List ℕ) → Q x ⊎ (Q x → ⊥)) → (xs : List (List ℕ))
    → ((x : List ℕ) × IsIn x xs × Q x) ⊎ ((x : List ℕ) → IsIn x xs → Q x → ⊥)
search_in Q dec [] = inr (λ x m q. m)
search_in Q dec (a ∷ xs) = elim (dec a) [
  | inl q ↦ inl (a, inl refl, q)
  | inr f ↦ elim (search_in Q dec xs) [
    | inl t ↦ inl (t.0, inr t.1, t.2)
    | inr g ↦ inr (λ x m. elim m [ inl e ↦ (λ q. f (subst Q e q)) | inr i ↦ (λ q. g x i q) ])
  ]
]

above-plus_same : (a b : List ℕ) → length a ≡ length b → above (plus a b) a ≡ b
above-plus_same [] [] l = refl
above-plus_same [] (v ∷ b) l = refl
above-plus_same (c ∷ a) [] l = absurd (omega arith)
above-plus_same (c ∷ a) (v ∷ b) l = let e : (c + v) - c ≡ v = omega arith in let l' : length a ≡ length b = omega arith in let i = above-plus_same a b l' in cc

pub total-dec : (p s : List ℕ) (d : ℕ → List (List ℕ)) (js : List ℕ) → AreDemands s d js → (x : List ℕ)
    → IsTotal p s d js x ⊎ (IsTotal p s d js x → ⊥)
unfolding IsTotal
total-dec p s d [] h x = unsold-dec p s x
total-dec p s d (j ∷ js) h x = elim (search_in (λ a. (x ≡ plus a (above x a)) × IsTotal p s d js (above x a)) (λ a. both a (same_list x (plus a (above x a))) (total-dec p s d js h.1 (above x a))) (d j)) [
  | inl t ↦ inl (record { left = t.0; right = above x t.0; in_left = t.1; in_right = t.2.1; is = t.2.0 })
  | inr f ↦ inr (λ t. against f t)
]
  where
    both : (a : List ℕ) → (x ≡ plus a (above x a)) ⊎ (x ≡ plus a (above x a) → ⊥)
        → IsTotal p s d js (above x a) ⊎ (IsTotal p s d js (above x a) → ⊥)
        → ((x ≡ plus a (above x a)) × IsTotal p s d js (above x a)) ⊎ ((x ≡ plus a (above x a)) × IsTotal p s d js (above x a) → ⊥)
    both a (inl e) (inl t) = inl (e, t)
    both a (inl e) (inr f) = inr (λ t. f t.1)
    both a (inr f) t = inr (λ t. f t.0)

    against : ((a : List ℕ) → IsIn a (d j) → (x ≡ plus a (above x a)) × IsTotal p s d js (above x a) → ⊥)
        → SumOf (Listed d j) (IsTotal p s d js) x → ⊥
    against f t =
        let la = length-below t.left s (h.0.1 t.left t.in_left) in
        let lb = total-length p s d js h.1 t.right t.in_right in
        let e = ap (λ z. above z t.left) t.is ∙ above-plus_same t.left t.right (la ∙ sym lb) in
        let P : List ℕ → Type 0 = IsTotal p s d js in
        f t.left t.in_left (t.is ∙ ap (plus t.left) (sym e), subst P (sym e) t.in_right)

unsold-zeros : (p s : List ℕ) → length p ≡ length s → IsUnsold p s (zeros s)
unsold-zeros [] [] l = tt
unsold-zeros [] (m ∷ s) l = absurd (omega arith)
unsold-zeros (b ∷ p) [] l = absurd (omega arith)
unsold-zeros (b ∷ p) (m ∷ s) l = let l' : length p ≡ length s = omega arith in (omega arith, (λ z. refl), unsold-zeros p s l')

-- all units of the goods at price 0
pub free_of : List ℕ → List ℕ → List ℕ
free_of [] s = []
free_of (p ∷ ps) [] = []
free_of (zero ∷ ps) (s ∷ ss) = s ∷ free_of ps ss
free_of (suc p ∷ ps) (s ∷ ss) = 0 ∷ free_of ps ss

pub unsold-free : (p s : List ℕ) → length p ≡ length s → IsUnsold p s (free_of p s)
unfolding free_of
unsold-free [] [] l = tt
unsold-free [] (m ∷ s) l = absurd (omega arith)
unsold-free (b ∷ p) [] l = absurd (omega arith)
unsold-free (zero ∷ p) (m ∷ s) l = let l' : length p ≡ length s = omega arith in (omega arith, (λ z. absurd (omega arith)), unsold-free p s l')
unsold-free (suc b ∷ p) (m ∷ s) l = let l' : length p ≡ length s = omega arith in (omega arith, (λ z. refl), unsold-free p s l')

-- the priced goods of a set, and the others
pub cost-priced : (e p s : List ℕ) → Bits e → length e ≡ length s → length p ≡ length s
    → cost e s ≡ cost (inside e p) s + cost e (free_of p s)
unfolding free_of
cost-priced [] p s b k l = omega arith
cost-priced (c ∷ e) p [] b k l = absurd (omega arith)
cost-priced (c ∷ e) [] (m ∷ s) b k l = absurd (omega arith)
cost-priced (c ∷ e) (zero ∷ p) (m ∷ s) b k l =
    let k' : length e ≡ length s = omega arith in let l' : length p ≡ length s = omega arith in let i = cost-priced e p s b.1 k' l' in
    let z : min c 0 ≡ 0 = omega arith in let w = ap (λ t. t * m) z in omega arith
cost-priced (c ∷ e) (suc v ∷ p) (m ∷ s) b k l =
    let k' : length e ≡ length s = omega arith in let l' : length p ≡ length s = omega arith in let i = cost-priced e p s b.1 k' l' in
    let c1 = b.0 in let z : min c (suc v) ≡ c = omega arith in let w = ap (λ t. t * m) z in omega arith

pub cost-inside : (e p x : List ℕ) → cost (inside e p) x ≤ cost e x
cost-inside [] p x = omega arith
cost-inside (c ∷ e) [] x = omega arith
cost-inside (c ∷ e) (v ∷ p) [] = omega arith
cost-inside (c ∷ e) (v ∷ p) (m ∷ x) = let i = cost-inside e p x in let j = product (min c v) c m (omega arith) in omega arith
  where
    product : (a b m : ℕ) → a ≤ b → a * m ≤ b * m
    product a b m h = grind arith

pub priced-inside : (e p : List ℕ) → IsPriced (inside e p) p
priced-inside [] p = tt
priced-inside (c ∷ e) [] = tt
priced-inside (c ∷ e) (v ∷ p) = (omega arith, priced-inside e p)

pub low_total : (p s : List ℕ) (d : ℕ → List (List ℕ)) (js : List ℕ) → AreDemands s d js → length p ≡ length s → (e : List ℕ)
    → (y : List ℕ) × IsTotal p s d js y × (cost e y ≡ total_units (λ j. least_of (cost e) (d j)) js)
unfolding IsTotal
low_total p s d [] h l e = (zeros s, unsold-zeros p s l, cost-zeros e s)
low_total p s d (j ∷ js) h l e =
    let t = low_total p s d js h.1 l e in
    let m = least_found (cost e) h.0.0.0 (d j) h.0.0.1 in
    let i = m.is in
    let k = t.2 in
    (plus m.bundle t.0, record { left = m.bundle; right = t.0; in_left = m.«in»; in_right = t.1; is = refl }, omega (arith, cost-plus_right e m.bundle t.0))

pub high_total : (p s : List ℕ) (d : ℕ → List (List ℕ)) (js : List ℕ) → AreDemands s d js → length p ≡ length s → (e : List ℕ)
    → (y : List ℕ) × IsTotal p s d js y × (total_units (λ j. greatest_of (cost (inside e p)) (d j)) js + cost e (free_of p s) ≤ cost e y)
unfolding IsTotal
high_total p s d [] h l e = (free_of p s, unsold-free p s l, omega arith)
high_total p s d (j ∷ js) h l e =
    let t = high_total p s d js h.1 l e in
    let m = greatest_found (cost (inside e p)) h.0.0.0 (d j) h.0.0.1 in
    let i = m.is in
    let k = t.2 in
    let o = cost-inside e p m.bundle in
    (plus m.bundle t.0, record { left = m.bundle; right = t.0; in_left = m.«in»; in_right = t.1; is = refl }, omega (arith, cost-plus_right e m.bundle t.0))

pub AtMost-cap : (s js : List ℕ) → AtMost s (cap s js)
unfolding cap
AtMost-cap s [] = same s
  where
    same : (s : List ℕ) → AtMost s s
    same [] = tt
    same (m ∷ s) = (omega arith, same s)
AtMost-cap s (j ∷ js) = more s (cap s js) (length-cap s js)
  where
    more : (s w : List ℕ) → length w ≡ length s → AtMost s (plus s w)
    more [] [] l = tt
    more [] (b ∷ w) l = absurd (omega arith)
    more (m ∷ s) [] l = absurd (omega arith)
    more (m ∷ s) (b ∷ w) l = let l' : length w ≡ length s = omega arith in (omega arith, more s w l')

pub record Parts (p s : List ℕ) (d : ℕ → List (List ℕ)) (js : List ℕ) (z : List ℕ) : Type 0 where
  pub choice : List (List ℕ)
  pub unsold : List ℕ
  pub listed : IsChoice (map d js) choice
  pub free : IsUnsold p s unsold
  pub is : z ≡ plus (sum_of s choice) unsold

pub parts_of : (p s : List ℕ) (d : ℕ → List (List ℕ)) (js : List ℕ) (z : List ℕ) → IsTotal p s d js z → Parts p s d js z
unfolding IsTotal
parts_of p s d [] z t = record { choice = []; unsold = z; listed = tt; free = t; is = plain p s z t }
  where
    plain : (p s z : List ℕ) → IsUnsold p s z → z ≡ plus (zeros s) z
    plain [] [] [] h = refl
    plain [] [] (a ∷ z) h = absurd h
    plain [] (m ∷ s) z h = absurd h
    plain (b ∷ p) [] z h = absurd h
    plain (b ∷ p) (m ∷ s) [] h = absurd h
    plain (b ∷ p) (m ∷ s) (a ∷ z) h = let i : a ≡ 0 + a = omega arith in let j = plain p s z h.2 in cc
parts_of p s d (j ∷ js) z t =
    let r = parts_of p s d js t.right t.in_right in
    record {
      choice = t.left ∷ r.choice;
      unsold = r.unsold;
      listed = (t.in_left, r.listed);
      free = r.free;
      is = t.is ∙ ap (plus t.left) r.is ∙ sym (plus_assoc t.left (sum_of s r.choice) r.unsold);
    }

pub clears_from : (o p s t f : List ℕ) → AtMost o p → IsUnsold (above p o) s f → length t ≡ length s → s ≡ plus t f → Clears o p t s
clears_from [] [] [] [] f op h l e = tt
clears_from [] [] [] (a ∷ t) f op h l e = absurd (omega arith)
clears_from [] [] (m ∷ s) t f op h l e = absurd h
clears_from [] (b ∷ p) s t f op h l e = absurd op
clears_from (q ∷ o) [] s t f op h l e = absurd op
clears_from (q ∷ o) (b ∷ p) [] t f op h l e = absurd h
clears_from (q ∷ o) (b ∷ p) (m ∷ s) [] f op h l e = absurd (omega arith)
clears_from (q ∷ o) (b ∷ p) (m ∷ s) (a ∷ t) [] op h l e = absurd h
clears_from (q ∷ o) (b ∷ p) (m ∷ s) (a ∷ t) (c ∷ f) op h l e =
    let i : m ≡ a + c = cc in
    let j : s ≡ plus t f = cc in
    let l' : length t ≡ length s = omega arith in
    (omega arith, (λ z. let k = h.1 (omega arith) in omega arith), clears_from o p s t f op.1 h.2 l' j)

pub length-sum : (s : List ℕ) (d : ℕ → List (List ℕ)) (js : List ℕ) (xs : List (List ℕ)) → AreDemands s d js → IsChoice (map d js) xs
    → length (sum_of s xs) ≡ length s
length-sum s d [] [] h c = length-below (zeros s) s (AtMost-zeros s)
length-sum s d [] (x ∷ xs) h c = absurd c
length-sum s d (j ∷ js) [] h c = absurd c
length-sum s d (j ∷ js) (x ∷ xs) h c = let i = length-sum s d js xs h.1 c.1 in let k = length-below x s (h.0.1 x c.0) in omega (arith, length-plus x (sum_of s xs))
