-- The place of a bundle and the bundle at a place are inverse on the box, and they are the places of the list of all bundles.
use Rattle.std.proofs.Common.{◌≡◌, ◌≤◌, ◌<◌, ℕ, suc, zero, ◌+◌, ◌*◌, ◌/◌, ◌%◌, List, [], ◌∷◌, ◌++◌, length, length-append, Some, refl, sym, ap, ◌∙◌, arith}
use Rattle.std.specs.Prelude.{map, flat_map, slice_get}
use Rattle.std.specs.List.{range_with_len}
use Rattle.std.proofs.Math.Nat.{mul-le-mul_right, div-lt_iff_lt-mul}
use Rattle.std.proofs.lemmas.Nat.{div-mul-add, mod-mul-add}
use Rattle.std.proofs.lemmas.List.{length-map}
use Rattle.lot_base.specs.Goods.{box_size, AtMost}
use Rattle.lot_base.specs.Box.{box, index_of, bundle_at}

pub box_size-above_0 : (supply : List ℕ) → 1 ≤ box_size supply
box_size-above_0 [] = omega arith
box_size-above_0 (s ∷ supply) =
    let more : 1 * box_size supply ≤ (s + 1) * box_size supply = (let u : 1 ≤ s + 1 = omega arith in mul-le-mul_right (box_size supply) u) in
    omega (arith, box_size-above_0 supply, more)

pub index_of-small : (supply bundle : List ℕ) → AtMost bundle supply → index_of supply bundle < box_size supply
index_of-small [] bundle within = omega arith
index_of-small (s ∷ supply) [] within = absurd within
index_of-small (s ∷ supply) (x ∷ bundle) within =
    let behind = index_of-small supply bundle within.1 in
    let row : (x + 1) * box_size supply ≤ (s + 1) * box_size supply = (let u : x + 1 ≤ s + 1 = omega (arith, within.0) in mul-le-mul_right (box_size supply) u) in
    omega (arith, behind, row)

pub bundle_at-index_of : (supply bundle : List ℕ) → AtMost bundle supply → bundle_at supply (index_of supply bundle) ≡ bundle
bundle_at-index_of [] [] within = refl
bundle_at-index_of [] (x ∷ bundle) within = absurd within
bundle_at-index_of (s ∷ supply) [] within = absurd within
bundle_at-index_of (s ∷ supply) (x ∷ bundle) within =
    let size = box_size supply in
    let behind = index_of supply bundle in
    let small = index_of-small supply bundle within.1 in
    let first : (x * size + behind) / size ≡ x = div-mul-add x size behind small in
    let second : (x * size + behind) % size ≡ behind = mod-mul-add x size behind small in
    (λ i. first i ∷ bundle_at supply (second i)) ∙ ap (λ rest. x ∷ rest) (bundle_at-index_of supply bundle within.1)

pub bundle_at-within : (supply : List ℕ) (place : ℕ) → place < box_size supply → AtMost (bundle_at supply place) supply
bundle_at-within [] place below = tt
bundle_at-within (s ∷ supply) place below =
    let some = box_size-above_0 supply in
    let digit : place / box_size supply < s + 1 = (div-lt_iff_lt-mul some).1 below in
    (omega arith, bundle_at-within supply (place % box_size supply) (omega arith))

pub length-bundle_at : (supply : List ℕ) (place : ℕ) → length (bundle_at supply place) ≡ length supply
length-bundle_at [] place = refl
length-bundle_at (s ∷ supply) place = ap suc (length-bundle_at supply (place % box_size supply))

pub index_of-bundle_at : (supply : List ℕ) (place : ℕ) → place < box_size supply → index_of supply (bundle_at supply place) ≡ place
index_of-bundle_at [] place below = omega arith
index_of-bundle_at (s ∷ supply) place below =
    let some = box_size-above_0 supply in
    let rest : index_of supply (bundle_at supply (place % box_size supply)) ≡ place % box_size supply = index_of-bundle_at supply (place % box_size supply) (omega arith) in
    omega (arith, rest)

-- the rows of a box: each of n numbers from a on in front of each bundle of the goods after
abbrev rows : ℕ → ℕ → List (List ℕ) → List (List ℕ)
rows a n bundles = flat_map (λ q. map (λ xs. q ∷ xs) bundles) (range_with_len a n)

length-rows : (a n : ℕ) (bundles : List (List ℕ)) → length (rows a n bundles) ≡ n * length bundles
length-rows a zero bundles = omega arith
length-rows a (suc n) bundles =
    length-append (map (λ xs. a ∷ xs) bundles) (rows (a + 1) n bundles)
    ∙ (let first = length-map bundles (λ (xs : List ℕ). a ∷ xs) in let others = length-rows (a + 1) n bundles in omega arith)

pub length-box : (supply : List ℕ) → length (box supply) ≡ box_size supply
length-box [] = refl
length-box (s ∷ supply) = length-rows 0 (s + 1) (box supply) ∙ ap (λ n. (s + 1) * n) (length-box supply)

get-left : (xs ys : List (List ℕ)) (i : ℕ) (x : List ℕ) → slice_get xs i ≡ Some x → slice_get (xs ++ ys) i ≡ Some x
get-left [] ys i x is = absurd (cc)
get-left (y ∷ xs) ys zero x is = is
get-left (y ∷ xs) ys (suc i) x is = get-left xs ys i x is

get-right : (xs ys : List (List ℕ)) (i : ℕ) → slice_get (xs ++ ys) (length xs + i) ≡ slice_get ys i
get-right [] ys i = (let e : 0 + i ≡ i = omega arith in ap (slice_get ys) e)
get-right (x ∷ xs) ys i = (let e : suc (length xs) + i ≡ suc (length xs + i) = omega arith in ap (slice_get (x ∷ (xs ++ ys))) e) ∙ get-right xs ys i

get-row : (q i : ℕ) (x : List ℕ) (bundles : List (List ℕ)) → slice_get bundles i ≡ Some x → slice_get (map (λ xs. q ∷ xs) bundles) i ≡ Some (q ∷ x)
get-row q i x [] is = absurd (cc)
get-row q zero x (y ∷ bundles) is = (let e : y ≡ x = cc in ap (λ z. Some (q ∷ z)) e)
get-row q (suc i) x (y ∷ bundles) is = get-row q i x bundles is

get-rows : (a n j i : ℕ) (x : List ℕ) (bundles : List (List ℕ)) → j < n → slice_get bundles i ≡ Some x →
    slice_get (rows a n bundles) (j * length bundles + i) ≡ Some ((a + j) ∷ x)
get-rows a zero j i x bundles below is = absurd (omega arith)
get-rows a (suc n) zero i x bundles below is =
    (let e : 0 * length bundles + i ≡ i = omega arith in ap (slice_get (rows a (suc n) bundles)) e)
    ∙ get-left (map (λ xs. a ∷ xs) bundles) (rows (a + 1) n bundles) i (a ∷ x) (get-row a i x bundles is)
    ∙ (let e : a ≡ a + 0 = omega arith in ap (λ q. Some (q ∷ x)) e)
get-rows a (suc n) (suc j) i x bundles below is =
    let row = map (λ xs. a ∷ xs) bundles in
    let wide = length-map bundles (λ (xs : List ℕ). a ∷ xs) in
    let e : suc j * length bundles + i ≡ length row + (j * length bundles + i) = omega arith in
    ap (slice_get (rows a (suc n) bundles)) e
    ∙ get-right row (rows (a + 1) n bundles) (j * length bundles + i)
    ∙ get-rows (a + 1) n j i x bundles (omega arith) is
    ∙ (let f : a + 1 + j ≡ a + suc j = omega arith in ap (λ q. Some (q ∷ x)) f)

-- the bundle is in the box at its place
pub box-index_of : (supply bundle : List ℕ) → AtMost bundle supply → slice_get (box supply) (index_of supply bundle) ≡ Some bundle
box-index_of [] [] within = refl
box-index_of [] (x ∷ bundle) within = absurd within
box-index_of (s ∷ supply) [] within = absurd within
box-index_of (s ∷ supply) (x ∷ bundle) within =
    ap (λ size. slice_get (box (s ∷ supply)) (x * size + index_of supply bundle)) (sym (length-box supply))
    ∙ get-rows 0 (s + 1) x (index_of supply bundle) bundle (box supply) (let t = within.0 in omega arith) (box-index_of supply bundle within.1)
    ∙ (let e : 0 + x ≡ x = omega arith in ap (λ q. Some (q ∷ bundle)) e)

pub box-bundle_at : (supply : List ℕ) (place : ℕ) → place < box_size supply → slice_get (box supply) place ≡ Some (bundle_at supply place)
box-bundle_at supply place below = ap (slice_get (box supply)) (sym (index_of-bundle_at supply place below)) ∙ box-index_of supply (bundle_at supply place) (bundle_at-within supply place below)
