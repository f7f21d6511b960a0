-- Places in lists of disks and desks.
use Rattle.std.proofs.Common.{◌≡◌, inl, inr, ◌<◌, ℕ, zero, suc, ◌+◌, List, [], ◌∷◌, ◌++◌, length, drop, get_or, refl, sym, ◌∙◌, ap, subst, arith, length-append, length-drop}
use Rattle.house_io.specs.Disks.{DiskShown}
use Rattle.std.proofs.lemmas.List.{get_or_at, get_or-drop, drop-drop}
use Rattle.std.proofs.lemmas.Bool.{cases_lt}
use Rattle.lot_base.specs.declared.auction_terms.Terms.{Terms}
use Rattle.recovery.specs.Journaled.{owner_of}
use Rattle.clock_book.specs.Opened.{IsUnopened}
use Rattle.clock_book.specs.declared.faults.OpenFault.{OpenFault}
use Rattle.clock_family.specs.Opening.{LaidOf, IsLaidFor, AreLaid, AreGivenBack, WasOpened, IsNotOpen}
use Rattle.clock_family.proofs.Unused.{given-count, given-at, was-opened}

module _ {A : Type 0} where
  pub get-front : (xs ys : List A) (k : ℕ) (d : A) → k < length xs → get_or (xs ++ ys) k d ≡ get_or xs k d
  get-front [] ys k d below = absurd (omega (arith, below))
  get-front (x ∷ xs) ys zero d below = refl
  get-front (x ∷ xs) ys (suc k) d below = get-front xs ys k d (omega (arith, below))

  get-past : (front : List A) (y : A) (ds : List A) (k : ℕ) (d : A) → length front < k → get_or (front ++ y ∷ drop (suc (length front)) ds) k d ≡ get_or ds k d
  get-past [] y ds zero d past = absurd (omega (arith, past))
  get-past [] y [] (suc k) d past = refl
  get-past [] y (x ∷ ds) (suc k) d past = refl
  get-past (z ∷ front) y ds zero d past = absurd (omega (arith, past))
  get-past (z ∷ front) y [] (suc k) d past = get-past front y [] k d (omega (arith, past))
  get-past (z ∷ front) y (x ∷ ds) (suc k) d past = get-past front y ds k d (omega (arith, past))

  pub some-of : (xs : List A) (k : ℕ) → k < length xs → A
  some-of [] k below = absurd (omega (arith, below))
  some-of (x ∷ xs) k below = x

  -- the next of a list of which so many were taken
  pub record IsTaken (whole left : List A) (n : ℕ) (x : A) : Type 0 where
    pub within : n < length whole
    pub here : (d : A) → x ≡ get_or whole n d
    pub rest : left ≡ drop (n + 1) whole

  pub taken-next : (whole left : List A) (n : ℕ) (x : A) → x ∷ left ≡ drop n whole → IsTaken whole left n x
  taken-next whole left n x is =
      let at : n + 0 ≡ n = omega arith in
      record {
        within = omega (arith, ap length is, length-drop n whole);
        here = λ d. ap (λ l. get_or l 0 d) is ∙ get_or-drop n whole 0 d ∙ ap (λ (k : ℕ). get_or whole k d) at;
        rest = ap (λ l. drop 1 l) is ∙ drop-drop 1 n whole;
      }

module _ {D : Type 0} (shown : D → DiskShown) (terms : Terms) (digest : List ℕ) (count : ℕ) where
  -- one desk more
  pub laid-more : (disks left : List D) (laid : List (LaidOf D)) (n : ℕ) (disk : D) (l : LaidOf D) → AreLaid shown terms digest count disks laid → length laid ≡ n → IsTaken disks left n disk
      → IsLaidFor shown terms digest count n disk l.desk l.passes → AreLaid shown terms digest count disks (laid ++ l ∷ [])
  laid-more disks left laid n disk l are size next fits =
      let longer : length (laid ++ l ∷ []) ≡ n + 1 = omega (arith, length-append laid (l ∷ []), size) in
      let For : ℕ → D → LaidOf D → Type 0 = λ k x m. IsLaidFor shown terms digest count k x m.desk m.passes in
      record {
        within = omega (arith, longer, next.within);
        each = λ k x m below. elim (cases_lt k (length laid)) [
          | inl less ↦ subst (λ z. For k (get_or disks k x) z) (sym (get-front laid (l ∷ []) k m less)) (are.each k x m less)
          | inr beyond ↦
              let here : n ≡ k = omega (arith, beyond, below, longer, size) in
              let last : get_or (laid ++ l ∷ []) k m ≡ l = get_or_at laid l [] m k (size ∙ here) in
              subst (λ z. For k (get_or disks k x) z) (sym last) (subst (λ (i : ℕ). For i (get_or disks i x) l) here (subst (λ z. For n z l) (next.here x) fits))
        ];
      }

  -- the disks are given back where one was not opened
  pub not-open : (disks left front new : List D) (laid : List (LaidOf D)) (n : ℕ) (disk back : D) (fault : OpenFault) → AreLaid shown terms digest count disks laid → length laid ≡ n → IsTaken disks left n disk
      → IsUnopened shown (owner_of terms n digest) disk back fault → AreGivenBack shown laid front → new ≡ front ++ back ∷ left → IsNotOpen shown terms digest disks new n fault
  not-open disks left front new laid n disk back fault are size next unopened given is =
      let long : length front ≡ length laid = given-count shown laid front given in
      let suc-n : suc (length front) ≡ n + 1 = omega (arith, long, size) in
      let all : new ≡ front ++ back ∷ drop (suc (length front)) disks =
      is ∙ ap (λ l. front ++ back ∷ l) (next.rest ∙ ap (λ (k : ℕ). drop k disks) (sym suc-n)) in
      record {
        within = next.within;
        count = omega (arith, ap length all, length-append front (back ∷ drop (suc (length front)) disks), length-drop (suc (length front)) disks, suc-n, next.within);
        before = λ k x less.
            let below : k < length laid = omega (arith, less, size) in
            let l = some-of laid k below in
            let here : get_or new k x ≡ get_or front k x = ap (λ z. get_or z k x) all ∙ get-front front (back ∷ drop (suc (length front)) disks) k x (omega (arith, below, long)) in
            subst (λ z. WasOpened shown (owner_of terms k digest) (get_or disks k x) z) (sym here)
            (was-opened shown (owner_of terms k digest) (get_or disks k x) (get_or laid k l).desk.book (get_or front k x) (are.each k x l below).opens (given-at shown laid front k l x given below));
        refused = λ x.
            let here : get_or new n x ≡ back = ap (λ l. get_or l n x) all ∙ get_or_at front back (drop (suc (length front)) disks) x n (long ∙ size) in
            subst (λ z. IsUnopened shown (owner_of terms n digest) z (get_or new n x) fault) (next.here x) (subst (λ z. IsUnopened shown (owner_of terms n digest) disk z fault) (sym here) unopened);
        after = λ k x more. ap (λ l. get_or l k x) all ∙ get-past front back disks k x (omega (arith, more, long, size));
      }
