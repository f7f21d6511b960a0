-- The last is taken out of each row, and one more is put after each row.
use Rattle.std.proofs.Common.{◌≡◌, ℕ, zero, suc, ◌+◌, ◌<◌, ◌≤◌, List, [], ◌∷◌, ◌++◌, length, get_or, set, take, drop, refl, sym, ap, subst, ◌∙◌, arith, length-append, append_assoc, append-nil}
use Rattle.std.specs.List.{AllByRecursion}
use Rattle.std.proofs.Math.Seq.{drop-append_seam, take-length}
use Rattle.std.proofs.lemmas.List.{length-take}
use Rattle.clock_family.specs.Houses.{HousePassOf, column}
use Rattle.clock_family.specs.Rows.{cells, fronts, dealt, rows_of}

module _ {A : Type 0} where
  take-front : (xs ys : List A) → take (length xs) (xs ++ ys) ≡ xs
  take-front [] ys = refl
  take-front (x ∷ xs) ys = ap (λ z. x ∷ z) (take-front xs ys)

  -- a row is its front and its last
  row-is : (c : ℕ) (r r' : List A) (x : A) → length r ≡ c + 1 → r ≡ r' ++ x ∷ [] → (take c r ≡ r') × (take 1 (drop c r) ≡ x ∷ [])
  row-is c r r' x long is =
      let n : length r' ≡ c = (let a = ap length is in let b = length-append r' (x ∷ []) in omega arith) in (
        ap (take c) is ∙ subst (λ (z : ℕ). take z (r' ++ x ∷ []) ≡ r') n (take-front r' (x ∷ [])),
        ap (λ z. take 1 (drop c z)) is ∙ ap (take 1) (subst (λ (z : ℕ). drop z (r' ++ x ∷ []) ≡ x ∷ []) n (drop-append_seam r' (x ∷ []))),
      )

  pub row-at : (c k : ℕ) (rows : List (List A)) (r : List A) → AllByRecursion (λ (q : List A). length q ≡ c + 1) rows → k < length rows → r ≡ get_or (fronts c (take k rows) ++ drop k rows) k r → length r ≡ c + 1
  row-at c k [] r all lt is = absurd (omega arith)
  row-at c zero (q ∷ qs) r all lt is = ap length is ∙ all.0
  row-at c (suc k) (q ∷ qs) r all lt is = row-at c k qs r all.1 (omega arith) is

  pub rows-step : (c k : ℕ) (rows : List (List A)) (r r' : List A) (x : A) → AllByRecursion (λ (q : List A). length q ≡ c + 1) rows → k < length rows → r ≡ get_or (fronts c (take k rows) ++ drop k rows) k r → r ≡ r' ++ x ∷ []
      → (set (fronts c (take k rows) ++ drop k rows) k r' ≡ fronts c (take (suc k) rows) ++ drop (suc k) rows) × (cells c (take k rows) ++ x ∷ [] ≡ cells c (take (suc k) rows))
  rows-step c k [] r r' x all lt here is = absurd (omega arith)
  rows-step c zero (q ∷ qs) r r' x all lt here is =
      let e = row-is c q r' x all.0 (sym here ∙ is) in (
        ap (λ z. z ∷ qs) (sym e.0),
        sym (e.1) ∙ sym (append-nil (take 1 (drop c q))),
      )
  rows-step c (suc k) (q ∷ qs) r r' x all lt here is =
      let e = rows-step c k qs r r' x all.1 (omega arith) here is in (
        ap (λ z. take c q ∷ z) e.0,
        append_assoc (take 1 (drop c q)) (cells c (take k qs)) (x ∷ []) ∙ ap (λ z. take 1 (drop c q) ++ z) e.1,
      )

  take-less : (c m : ℕ) (r : List A) → c ≤ m → take c (take m r) ≡ take c r
  take-less zero m r le = refl
  take-less (suc c) zero r le = absurd (omega arith)
  take-less (suc c) (suc m) [] le = refl
  take-less (suc c) (suc m) (x ∷ xs) le = ap (λ z. x ∷ z) (take-less c m xs (omega arith))

  pub long-front : (m : ℕ) (r : List A) → m ≤ length r → length (take m r) ≡ m
  long-front m r le = simp length-take (omega arith)

  cell-front : (c m : ℕ) (r : List A) → c < m → take 1 (drop c (take m r)) ≡ take 1 (drop c r)
  cell-front c zero r lt = absurd (omega arith)
  cell-front zero (suc m) [] lt = refl
  cell-front zero (suc m) (x ∷ xs) lt = refl
  cell-front (suc c) (suc m) [] lt = refl
  cell-front (suc c) (suc m) (x ∷ xs) lt = cell-front c m xs (omega arith)

  pub fronts-all : (n : ℕ) (rows : List (List A)) → AllByRecursion (λ (r : List A). length r ≡ n) rows → fronts n rows ≡ rows
  fronts-all n [] all = refl
  fronts-all n (r ∷ rs) all = (λ i. subst (λ (z : ℕ). take z r ≡ r) all.0 (take-length r) i ∷ fronts-all n rs all.1 i)

  pub fronts-fronts : (c m : ℕ) (rows : List (List A)) → c ≤ m → fronts c (fronts m rows) ≡ fronts c rows
  fronts-fronts c m [] le = refl
  fronts-fronts c m (r ∷ rs) le = (λ i. take-less c m r le i ∷ fronts-fronts c m rs le i)

  pub each-front : (m n : ℕ) (rows : List (List A)) → m ≤ n → AllByRecursion (λ (r : List A). length r ≡ n) rows → AllByRecursion (λ (r : List A). length r ≡ m) (fronts m rows)
  each-front m n [] le all = tt
  each-front m n (r ∷ rs) le all = (long-front m r (omega (arith, all.0)), each-front m n rs le all.1)

  pub cells-fronts : (c m : ℕ) (rows : List (List A)) → c < m → cells c (fronts m rows) ≡ cells c rows
  cells-fronts c m [] lt = refl
  cells-fronts c m (r ∷ rs) lt = (λ i. cell-front c m r lt i ++ cells-fronts c m rs lt i)

  -- one more is put after a row, where those from the next row on have one more
  pub deal-step : (rows : List (List A)) (j : ℕ) (done : List A) (r : List A) (x : A) → j < length rows → r ≡ get_or (take (suc j) rows ++ dealt (drop (suc j) rows) done) j r
      → set (take (suc j) rows ++ dealt (drop (suc j) rows) done) j (r ++ x ∷ []) ≡ take j rows ++ dealt (drop j rows) (x ∷ done)
  deal-step [] j done r x lt is = absurd (omega arith)
  deal-step (q ∷ qs) zero done r x lt is = ap (λ z. (z ++ x ∷ []) ∷ dealt qs done) is
  deal-step (q ∷ qs) (suc j) done r x lt is = ap (λ z. q ∷ z) (deal-step qs j done r x (omega arith) is)

  pub undealt-row : (c : ℕ) (rows : List (List A)) (j : ℕ) (done : List A) (r : List A) → AllByRecursion (λ (q : List A). length q ≡ c) rows → j < length rows → r ≡ get_or (take (suc j) rows ++ dealt (drop (suc j) rows) done) j r → length r ≡ c
  undealt-row c [] j done r all lt is = absurd (omega arith)
  undealt-row c (q ∷ qs) zero done r all lt is = ap length is ∙ all.0
  undealt-row c (q ∷ qs) (suc j) done r all lt is = undealt-row c qs j done r all.1 (omega arith) is

  cell-put : (c k : ℕ) (r : List A) (x : A) → length r ≡ c → k < c → take 1 (drop k (r ++ x ∷ [])) ≡ take 1 (drop k r)
  cell-put c k [] x long lt = absurd (omega arith)
  cell-put c zero (y ∷ ys) x long lt = refl
  cell-put zero (suc k) (y ∷ ys) x long lt = absurd (omega arith)
  cell-put (suc c) (suc k) (y ∷ ys) x long lt = cell-put c k ys x (omega arith) (omega arith)

  pub length-dealt : (rows : List (List A)) (xs : List A) → length (dealt rows xs) ≡ length rows
  length-dealt [] xs = refl
  length-dealt (r ∷ rs) [] = refl
  length-dealt (r ∷ rs) (x ∷ xs) = ap suc (length-dealt rs xs)

  pub dealt-long : (c : ℕ) (rows : List (List A)) (xs : List A) → length rows ≡ length xs → AllByRecursion (λ (q : List A). length q ≡ c) rows → AllByRecursion (λ (q : List A). length q ≡ c + 1) (dealt rows xs)
  dealt-long c [] xs same all = tt
  dealt-long c (r ∷ rs) [] same all = absurd (omega arith)
  dealt-long c (r ∷ rs) (x ∷ xs) same all = (length-append r (x ∷ []) ∙ ap (λ (n : ℕ). n + 1) all.0, dealt-long c rs xs (omega arith) all.1)

  pub cells-before : (c k : ℕ) (rows : List (List A)) (xs : List A) → AllByRecursion (λ (q : List A). length q ≡ c) rows → k < c → cells k (dealt rows xs) ≡ cells k rows
  cells-before c k [] xs all lt = refl
  cells-before c k (r ∷ rs) [] all lt = refl
  cells-before c k (r ∷ rs) (x ∷ xs) all lt = (λ i. cell-put c k r x all.0 lt i ++ cells-before c k rs xs all.1 lt i)

  pub cells-last : (c : ℕ) (rows : List (List A)) (xs : List A) → length rows ≡ length xs → AllByRecursion (λ (q : List A). length q ≡ c) rows → cells c (dealt rows xs) ≡ xs
  cells-last c [] [] same all = refl
  cells-last c [] (x ∷ xs) same all = absurd (omega arith)
  cells-last c (r ∷ rs) [] same all = absurd (omega arith)
  cells-last c (r ∷ rs) (x ∷ xs) same all =
      let here : take 1 (drop c (r ++ x ∷ [])) ≡ x ∷ [] = ap (take 1) (subst (λ (z : ℕ). drop z (r ++ x ∷ []) ≡ x ∷ []) all.0 (drop-append_seam r (x ∷ []))) in
      (λ i. here i ++ cells-last c rs xs (omega arith) all.1 i)

module _ {A : Type 0} (P : A → Type 0) where
  pub all-set : (xs : List A) (i : ℕ) (y : A) → AllByRecursion P xs → P y → AllByRecursion P (set xs i y)
  all-set [] i y all here = tt
  all-set (x ∷ xs) zero y all here = (here, all.1)
  all-set (x ∷ xs) (suc i) y all here = (all.0, all-set xs i y all.1 here)

  pub all-at : (xs : List A) (i : ℕ) (d : A) → i < length xs → AllByRecursion P xs → P (get_or xs i d)
  all-at [] i d lt all = absurd (omega arith)
  all-at (x ∷ xs) zero d lt all = all.0
  all-at (x ∷ xs) (suc i) d lt all = all-at xs i d (omega arith) all.1

  pub all-but-last : (xs : List A) (x : A) → AllByRecursion P (xs ++ x ∷ []) → AllByRecursion P xs × P x
  all-but-last [] x h = (tt, h.0)
  all-but-last (y ∷ ys) x h = let r = all-but-last ys x h.1 in ((h.0, r.0), r.1)

  pub all-and-one : (xs : List A) (x : A) → AllByRecursion P xs → P x → AllByRecursion P (xs ++ x ∷ [])
  all-and-one [] x all here = (here, tt)
  all-and-one (y ∷ ys) x all here = (all.0, all-and-one ys x all.1 here)

pub all-popped : {A : Type 0} (P : A → Type 0) (all xs : List A) (x : A) → all ≡ xs ++ x ∷ [] → AllByRecursion P all → AllByRecursion P xs × P x
all-popped P all xs x is h = all-but-last P xs x (subst (AllByRecursion P) is h)

pub column-cells : (k : ℕ) (passes : List HousePassOf) → column k passes ≡ cells k (rows_of passes)
column-cells k [] = refl
column-cells k (p ∷ ps) = ap (λ z. take 1 (drop k p.passes) ++ z) (column-cells k ps)

pub all-rows : (n : ℕ) (passes : List HousePassOf) → AllByRecursion (λ (p : HousePassOf). length p.passes ≡ n) passes → AllByRecursion (λ (r : _). length r ≡ n) (rows_of passes)
all-rows n [] all = tt
all-rows n (p ∷ ps) all = (all.0, all-rows n ps all.1)

pub all-passes : (n : ℕ) (passes : List HousePassOf) → AllByRecursion (λ (r : _). length r ≡ n) (rows_of passes) → AllByRecursion (λ (p : HousePassOf). length p.passes ≡ n) passes
all-passes n [] all = tt
all-passes n (p ∷ ps) all = (all.0, all-passes n ps all.1)
