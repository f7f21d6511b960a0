-- Places in lists of disks, books and clocks.
use Rattle.std.proofs.Common.{◌≡◌, ◌<◌, ℕ, zero, suc, ◌+◌, List, [], ◌∷◌, ◌++◌, length, take, drop, get_or, slice_get, Some, refl, sym, ◌∙◌, ap, arith, length-drop}
use Rattle.std.specs.List.{AllByRecursion}
use Rattle.std.proofs.lemmas.List.{get_or-map, get_or-drop, drop-drop, take-append-drop, take_more, drop_more, append-nil}
use Rattle.std.proofs.lemmas.Option.{slice_get_within, get_or_from_slice_get}
use Rattle.clock.specs.Reports.{ClockHistory, ClockOf, histories}
use Rattle.clock_book.specs.Books.{BookOf}
use Rattle.migration.specs.Targets.{disks_of}

module _ {A : Type 0} where
  pub some-of : (xs : List A) (k : ℕ) → k < length xs → A
  some-of [] k below = absurd (omega (arith, below))
  some-of (x ∷ xs) k below = x

  -- a place within the list, whatever stands past its end
  pub any-default : (xs : List A) (k : ℕ) (d e : A) → k < length xs → get_or xs k d ≡ get_or xs k e
  any-default [] k d e below = absurd (omega (arith, below))
  any-default (x ∷ xs) zero d e below = refl
  any-default (x ∷ xs) (suc k) d e below = any-default xs k d e (omega (arith, below))

  pub all-at : (P : A → Type 0) (xs : List A) (k : ℕ) (d : A) → k < length xs → AllByRecursion P xs → P (get_or xs k d)
  all-at P [] k d below all = absurd (omega (arith, below))
  all-at P (x ∷ xs) zero d below all = all.0
  all-at P (x ∷ xs) (suc k) d below all = all-at P xs k d (omega (arith, below)) all.1

  pub get-front : (xs ys : List A) (k : ℕ) (d : A) → k < length xs → get_or (xs ++ ys) k d ≡ get_or xs k d
  get-front [] ys k d below = absurd (omega (arith, below))
  get-front (x ∷ xs) ys zero d below = refl
  get-front (x ∷ xs) ys (suc k) d below = get-front xs ys k d (omega (arith, below))

  pub get-past : (front : List A) (y : A) (ds : List A) (k : ℕ) (d : A) → length front < k → get_or (front ++ y ∷ drop (suc (length front)) ds) k d ≡ get_or ds k d
  get-past [] y ds zero d past = absurd (omega (arith, past))
  get-past [] y [] (suc k) d past = refl
  get-past [] y (x ∷ ds) (suc k) d past = refl
  get-past (z ∷ front) y ds zero d past = absurd (omega (arith, past))
  get-past (z ∷ front) y [] (suc k) d past = get-past front y [] k d (omega (arith, past))
  get-past (z ∷ front) y (x ∷ ds) (suc k) d past = get-past front y ds k d (omega (arith, past))

  pub no-more : (xs ys : List A) → length ys ≡ 0 → xs ++ ys ≡ xs
  no-more xs [] none = append-nil xs
  no-more xs (y ∷ ys) none = absurd (omega (arith, none))

  -- a list at one of its places
  pub split-at : (xs : List A) (n : ℕ) (x : A) → slice_get xs n ≡ Some x → xs ≡ take n xs ++ x ∷ drop (n + 1) xs
  split-at xs n x at =
      let within = slice_get_within xs n x at in
      sym (take-append-drop n xs) ∙ ap (λ l. take n xs ++ l) (drop_more xs n x within ∙ ap (λ y. y ∷ drop (n + 1) xs) (get_or_from_slice_get xs n x x at))

  pub take-next : (xs : List A) (n : ℕ) (x : A) → slice_get xs n ≡ Some x → take n xs ++ x ∷ [] ≡ take (n + 1) xs
  take-next xs n x at =
      let within = slice_get_within xs n x at in
      sym (take_more xs n x within ∙ ap (λ y. take n xs ++ y ∷ []) (get_or_from_slice_get xs n x x at))

  -- the next of a list of which so many were taken
  pub record IsTaken (whole left : List A) (n : ℕ) (x : A) : Type 0 where
    pub within : n < length whole
    pub here : (d : A) → x ≡ get_or whole n d
    pub rest : left ≡ drop (n + 1) whole

  pub taken-next : (whole left : List A) (n : ℕ) (x : A) → x ∷ left ≡ drop n whole → IsTaken whole left n x
  taken-next whole left n x is =
      let at : n + 0 ≡ n = omega arith in
      record {
        within = omega (arith, ap length is, length-drop n whole);
        here = λ d. ap (λ l. get_or l 0 d) is ∙ get_or-drop n whole 0 d ∙ ap (λ (k : ℕ). get_or whole k d) at;
        rest = ap (λ l. drop 1 l) is ∙ drop-drop 1 n whole;
      }

-- the history of a clock in a list of clocks
pub history-at : (clocks : List ClockOf) (n : ℕ) (k : ClockOf) (c : ClockHistory) → n < length clocks → k ≡ get_or clocks n k → get_or (histories clocks) n c ≡ k.history
history-at clocks n k c below is = get_or-map (λ (x : ClockOf). x.history) clocks n k c below ∙ ap (λ (x : ClockOf). x.history) (sym is)

module _ {D : Type 0} where
  pub disk-at : (books : List (BookOf D)) (k : ℕ) (b : BookOf D) (d : D) → k < length books → get_or (disks_of books) k d ≡ (get_or books k b).disk
  disk-at books k b d below = get_or-map (λ (x : BookOf D). x.disk) books k b d below
