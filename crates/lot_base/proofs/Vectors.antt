-- Lists with a number per good: distances, sets of goods as zeros and ones, halves, meets and joins.
use Rattle.std.specs.Prelude.{◌≡◌, ℕ, ◌+◌, ◌-◌, ◌/◌, ◌%◌, ◌≤◌, min, max, List, [], ◌∷◌}
use Prim.Native.Nat.{suc, zero}

-- the distance: the sum of the goodwise differences
abbrev pub distance : List ℕ → List ℕ → ℕ
distance [] ys = 0
distance (x ∷ xs) [] = 0
distance (x ∷ xs) (y ∷ ys) = ((x - y) + (y - x)) + distance xs ys

-- each entry is 0 or 1: the indicator of a set of goods
abbrev pub Bits : List ℕ → Type 0
Bits [] = Unit {0}
Bits (e ∷ es) = (e ≤ 1) × Bits es

-- each entry is at most n
abbrev pub Within : ℕ → List ℕ → Type 0
Within n [] = Unit {0}
Within n (a ∷ az) = (a ≤ n) × Within n az

-- half of each entry, rounded down, and what is left of it
abbrev pub halves : List ℕ → List ℕ
halves [] = []
halves (a ∷ az) = (a / 2) ∷ halves az

abbrev pub odds : List ℕ → List ℕ
odds [] = []
odds (a ∷ az) = (a % 2) ∷ odds az

-- 1 where the entry is above 0
abbrev pub support : List ℕ → List ℕ
support [] = []
support (a ∷ az) = min a 1 ∷ support az

-- one less where the entry is above 0
abbrev pub reduced : List ℕ → List ℕ
reduced [] = []
reduced (a ∷ az) = (a - 1) ∷ reduced az

-- no good has an entry above 0 in both
abbrev pub Apart : List ℕ → List ℕ → Type 0
Apart [] ys = Unit {0}
Apart (x ∷ xs) [] = Unit {0}
Apart (x ∷ xs) (y ∷ ys) = (min x y ≡ 0) × Apart xs ys

-- the goodwise greater, and how far the first is above the second
abbrev pub join : List ℕ → List ℕ → List ℕ
join [] ys = ys
join (x ∷ xs) [] = x ∷ xs
join (x ∷ xs) (y ∷ ys) = max x y ∷ join xs ys

abbrev pub above : List ℕ → List ℕ → List ℕ
above [] ys = []
above (x ∷ xs) [] = x ∷ xs
above (x ∷ xs) (y ∷ ys) = (x - y) ∷ above xs ys

-- the goods of e that have an entry above 0 in b, and those that have not
abbrev pub inside : List ℕ → List ℕ → List ℕ
inside [] b = []
inside (e ∷ es) [] = []
inside (e ∷ es) (b ∷ bs) = min e b ∷ inside es bs

abbrev pub outside : List ℕ → List ℕ → List ℕ
outside [] b = []
outside (e ∷ es) [] = e ∷ es
outside (e ∷ es) (b ∷ bs) = (e - b) ∷ outside es bs

abbrev pub total : List ℕ → ℕ
total [] = 0
total (x ∷ xs) = x + total xs

-- the indicator of the set whose bit k is good k, over n goods
unfoldable pub set_of : ℕ → ℕ → List ℕ
set_of zero e = []
set_of (suc n) e = (e % 2) ∷ set_of n (e / 2)

-- the goodwise lesser
abbrev pub lower : List ℕ → List ℕ → List ℕ
lower [] ys = []
lower (x ∷ xs) [] = []
lower (x ∷ xs) (y ∷ ys) = min x y ∷ lower xs ys
