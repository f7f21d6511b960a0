-- What f gives for each bundle of the box, in order.
use Rattle.std.proofs.Common.{◌≡◌, ◌<◌, ◌≤◌, ℕ, zero, suc, ◌+◌, List, [], ◌∷◌, ◌++◌, length, map, take, slice_index, arith, ap, refl, sym, ◌∙◌}
use Rattle.std.specs.Prelude.{slice_get, Some}
use Rattle.std.proofs.lemmas.List.{take_all}
use Rattle.lot_base.specs.Goods.{box_size}
use Rattle.lot_base.specs.Box.{box, bundle_at}
use Rattle.lot_base.proofs.Index.{box-bundle_at, length-box}

map-suc : (f : List ℕ → ℕ) (xs : List (List ℕ)) (i : ℕ) (x : List ℕ) → slice_get xs i ≡ Some x → map f (take (suc i) xs) ≡ map f (take i xs) ++ f x ∷ []
map-suc f [] i x is = absurd (cc)
map-suc f (y ∷ ys) zero x is = (let e : y ≡ x = cc in ap (λ z. f z ∷ []) e)
map-suc f (y ∷ ys) (suc i) x is = ap (λ rest. f y ∷ rest) (map-suc f ys i x is)

pub map-next : (f : List ℕ → ℕ) (s : List ℕ) (i value : ℕ) (old new : List ℕ) (x : List ℕ) → slice_get (box s) i ≡ Some x → value ≡ f x →
    old ≡ map f (take i (box s)) → new ≡ old ++ value ∷ [] → new ≡ map f (take (i + 1) (box s))
map-next f s i value old new x at is so_far more =
    more ∙ (λ j. so_far j ++ is j ∷ []) ∙ sym (map-suc f (box s) i x at) ∙ (let e : suc i ≡ i + 1 = omega arith in ap (λ n. map f (take n (box s))) e)

pub map-all : (f : List ℕ → ℕ) (s : List ℕ) (i : ℕ) (values : List ℕ) → box_size s ≤ i → values ≡ map f (take i (box s)) → values ≡ map f (box s)
map-all f s i values all is = is ∙ ap (map f) (take_all i (box s) (let e = length-box s in omega (arith, e, all)))

at-map : (f : List ℕ → ℕ) (xs : List (List ℕ)) (n i : ℕ) (x : List ℕ) → i < n → slice_get xs i ≡ Some x → slice_index (map f (take n xs)) i ≡ f x
at-map f xs zero i x below is = absurd (omega arith)
at-map f [] (suc n) i x below is = absurd (cc)
at-map f (y ∷ ys) (suc n) zero x below is = (let e : y ≡ x = cc in ap f e)
at-map f (y ∷ ys) (suc n) (suc i) x below is = at-map f ys n i x (omega arith) is

-- the value at a place
pub map-at : (f : List ℕ → ℕ) (s : List ℕ) (n i : ℕ) → i < n → i < box_size s → slice_index (map f (take n (box s))) i ≡ f (bundle_at s i)
map-at f s n i below inside = at-map f (box s) n i (bundle_at s i) below (box-bundle_at s i inside)

pub map-length : (f : List ℕ → ℕ) (s : List ℕ) (i : ℕ) → i < box_size s → length (map f (take i (box s))) ≡ i
map-length f s i inside = counted (box s) i (let e = length-box s in omega (arith, e, inside))
  where
    counted : (xs : List (List ℕ)) (n : ℕ) → n ≤ length xs → length (map f (take n xs)) ≡ n
    counted xs zero h = refl
    counted [] (suc n) h = absurd (omega arith)
    counted (x ∷ xs) (suc n) h = ap suc (counted xs n (omega arith))
