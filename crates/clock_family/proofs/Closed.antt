-- Desks that are closed from the last one on.
use Rattle.std.proofs.Common.{◌≡◌, inl, inr, ◌<◌, ◌≤◌, ℕ, zero, suc, ◌+◌, ◌-◌, List, [], ◌∷◌, ◌++◌, length, get_or, set, reverse, sym, ◌∙◌, ap, subst, arith, append_assoc}
use Rattle.std.proofs.lemmas.List.{get_or_at, length-reverse}
use Rattle.std.proofs.lemmas.Bool.{cases_lt}
use Rattle.std.proofs.Math.Seq.{map-set_same}
use Rattle.clock_book.specs.Books.{BookOf}
use Rattle.clock_book.specs.declared.entries.Entry.{Entry}
use Rattle.clock_book.specs.declared.origins.Origin.{Origin}
use Rattle.turn_desk.specs.Passes.{Opened, Known, Closes}
use Rattle.clock_family.specs.Houses.{HousePassOf, AreAllOf, AreClosed, column}
use Rattle.clock_family.specs.Rows.{cells, fronts, rows_of}
use Rattle.clock_family.proofs.Rows.{column-cells, cells-fronts}

module _ {D : Type 0} where
  -- the desks from the n-th on were closed, and these are their books
  pub record AreClosedFrom (n : ℕ) (desks : List (Opened (BookOf D))) (passes : List HousePassOf) (books : List (BookOf D)) : Type 0 where
    pub count : n + length books ≡ length desks
    pub each : (k : ℕ) (d : Opened (BookOf D)) (b : BookOf D) → n ≤ k → k < length desks
        → Closes (λ (book : BookOf D). book.state.history) (λ (book : BookOf D). book.origin) (get_or desks k d).book (column k passes) (get_or books (k - n) b)

module _ {D : Type 0} (desks : List (Opened (BookOf D))) (passes : List HousePassOf) where
  pub none-closed : (books : List (BookOf D)) → length books ≡ 0 → AreClosedFrom (length desks) desks passes (reverse books)
  none-closed books none = record {
    count = (let a = length-reverse books in omega (arith, none));
    each = λ k d b from below. absurd (omega (arith, from, below));
  }

  -- one desk more is closed
  pub closed-more : (m : ℕ) (desk : Opened (BookOf D)) (book : BookOf D) (books : List (BookOf D)) → AreClosedFrom (m + 1) desks passes books → ((d : Opened (BookOf D)) → get_or desks m d ≡ desk)
      → Closes (λ (b : BookOf D). b.state.history) (λ (b : BookOf D). b.origin) desk.book (column m passes) book → AreClosedFrom m desks passes (book ∷ books)
  closed-more m desk book books are here closes =
      let Closed : Opened (BookOf D) → ℕ → BookOf D → Type 0 = λ d k b. Closes (λ (x : BookOf D). x.state.history) (λ (x : BookOf D). x.origin) d.book (column k passes) b in
      record {
        count = (let a = are.count in omega (arith, a));
        each = λ k d b from below. elim (cases_lt m k) [
          | inl more ↦
              let back : suc (k - (m + 1)) ≡ k - m = omega (arith, more) in
              subst (λ z. Closed (get_or desks k d) k z) (ap (λ (n : ℕ). get_or (book ∷ books) n b) back) (are.each k d b (omega (arith, more)) below)
          | inr last ↦
              let same : m ≡ k = omega (arith, last, from) in
              let none : zero ≡ k - m = omega (arith, same) in
              subst (λ z. Closed (get_or desks k d) k z) (ap (λ (n : ℕ). get_or (book ∷ books) n b) none) (subst (λ (n : ℕ). Closed (get_or desks n d) n book) same (subst (λ z. Closed z m book) (sym (here d)) closes))
        ];
      }

  pub all-closed : (n : ℕ) (books : List (BookOf D)) → n ≡ 0 → AreClosedFrom n desks passes books → AreClosed desks passes books
  all-closed n books none are =
      let Closed : ℕ → Opened (BookOf D) → BookOf D → Type 0 = λ k d b. Closes (λ (x : BookOf D). x.state.history) (λ (x : BookOf D). x.origin) d.book (column k passes) b in
      record {
        count = (let a = are.count in omega (arith, a, none));
        each = λ k d b below.
            let same : k - n ≡ k = omega (arith, none) in
            subst (λ z. Closed k (get_or desks k d) z) (ap (λ (m : ℕ). get_or books m b) same) (are.each k d b (omega (arith, none)) below);
      }

  -- the last of the desks that are left
  pub last-desk : (left done : List (Opened (BookOf D))) (desk : Opened (BookOf D)) (m : ℕ) → desks ≡ (left ++ desk ∷ []) ++ done → m ≡ length left → (d : Opened (BookOf D)) → get_or desks m d ≡ desk
  last-desk left done desk m is at d = ap (λ l. get_or l m d) (is ∙ append_assoc left (desk ∷ []) done) ∙ get_or_at left desk done d m (sym at)

-- the column of rows that were cut after it
pub column-left : (now passes : List HousePassOf) (m n : ℕ) → rows_of now ≡ fronts n (rows_of passes) → m < n → column m now ≡ column m passes
column-left now passes m n is less = column-cells m now ∙ ap (cells m) is ∙ cells-fronts m n (rows_of passes) less ∙ sym (column-cells m passes)

-- a house has some pass
pub some-pass : {B : Type 0} (desks : List (Opened B)) (passes : List HousePassOf) → 0 < length desks → AreAllOf desks passes → 0 < length passes
some-pass [] passes some all = absurd (omega (arith, some))
some-pass (d ∷ ds) [] some all = let none = (all.columns 0 d (omega arith)).some_pass in absurd (omega (arith, none))
some-pass (d ∷ ds) (p ∷ ps) some all = omega arith

-- the first pass has room for all
pub first-room : {B : Type 0} (desks : List (Opened B)) (passes : List HousePassOf) (p : HousePassOf) → p ≡ get_or passes 0 p → 0 < length passes → AreAllOf desks passes → p.room ≡ length passes
first-room desks [] p here some all = absurd (omega (arith, some))
first-room desks (q ∷ qs) p here some all = ap (λ (x : HousePassOf). x.room) here ∙ all.room

pub first-long : {B : Type 0} (desks : List (Opened B)) (passes : List HousePassOf) (p : HousePassOf) → p ≡ get_or passes 0 p → 0 < length passes → AreAllOf desks passes → length p.passes ≡ length desks
first-long desks [] p here some all = absurd (omega (arith, some))
first-long desks (q ∷ qs) p here some all = ap (λ (x : HousePassOf). length x.passes) here ∙ all.rows.0

-- the rows stay where a pass is replaced by one of the same passes
pub same-rows : (passes : List HousePassOf) (p new : HousePassOf) → p ≡ get_or passes 0 p → new.passes ≡ p.passes → rows_of (set passes 0 new) ≡ rows_of passes
same-rows passes p new here same = map-set_same (λ (x : HousePassOf). x.passes) passes 0 new p (same ∙ ap (λ (x : HousePassOf). x.passes) here)

pub same-column : (now passes : List HousePassOf) (k : ℕ) → rows_of now ≡ rows_of passes → column k now ≡ column k passes
same-column now passes k same = column-cells k now ∙ ap (cells k) same ∙ sym (column-cells k passes)

pub closed-alike : {D : Type 0} (desks : List (Opened (BookOf D))) (now passes : List HousePassOf) (books : List (BookOf D)) → rows_of now ≡ rows_of passes → AreClosed desks now books → AreClosed desks passes books
closed-alike {D} desks now passes books same are = record {
  count = are.count;
  each = λ k d b below.
      let Closed : List (Known Entry Origin) → Type 0 = λ ps. Closes (λ (x : BookOf D). x.state.history) (λ (x : BookOf D). x.origin) (get_or desks k d).book ps (get_or books k b) in
      subst Closed (same-column now passes k same) (are.each k d b below);
}
