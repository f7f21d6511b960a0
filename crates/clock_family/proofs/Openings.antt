-- A house of desks that were laid, and of passes that were dealt out.
use Rattle.std.proofs.Common.{◌≡◌, ◌<◌, ℕ, zero, suc, ◌+◌, Bool, List, [], ◌∷◌, ◌++◌, length, map, get_or, take, drop, Some, None, refl, sym, ◌∙◌, ap, subst, arith}
use Rattle.house_io.specs.Disks.{DiskShown}
use Rattle.std.specs.List.{AllByRecursion}
use Rattle.std.proofs.lemmas.List.{get_or-map, length-map}
use Rattle.lot_base.specs.declared.auction_terms.Terms.{Terms}
use Rattle.house_io.specs.Moments.{Moments}
use Rattle.recovery.specs.Journaled.{owner_of}
use Rattle.clock_book.specs.Opened.{Opens}
use Rattle.clock_book.specs.declared.entries.Entry.{Entry}
use Rattle.clock_book.specs.declared.origins.Origin.{Origin}
use Rattle.turn_desk.specs.Passes.{Opened, Known, AreNew, AreLater, AreAll}
use Rattle.clock_book.specs.Books.{BookOf}
use Rattle.clock_family.specs.Opening.{LaidOf, AreLaid, IsUnused}
use Rattle.clock_family.specs.Houses.{HousePassOf, IsNewPass, IsOpened, room_in}
use Rattle.clock_family.specs.Rows.{cells, rows_of, AreDealt}
use Rattle.clock_family.proofs.Places.{some-of}
use Rattle.clock_family.proofs.Rows.{all-at, all-passes, column-cells}

pub all-from : {A : Type 0} (P : A → Type 0) (xs : List A) → ((i : ℕ) (d : A) → i < length xs → P (get_or xs i d)) → AllByRecursion P xs
all-from P [] each = tt
all-from P (x ∷ xs) each = (each 0 x (omega arith), all-from P xs (λ i d less. each (suc i) d (omega (arith, less))))

module _ {A : Type 0} where
  one-cell : (k : ℕ) (r : List A) (q : A) → k < length r → take 1 (drop k r) ≡ get_or r k q ∷ []
  one-cell k [] q less = absurd (omega (arith, less))
  one-cell zero (x ∷ xs) q less = refl
  one-cell (suc k) (x ∷ xs) q less = one-cell k xs q (omega (arith, less))

  pub cell-at : (n k : ℕ) (rows : List (List A)) (i : ℕ) (r : List A) (q : A) → AllByRecursion (λ (x : List A). length x ≡ n) rows → k < n → i < length rows → get_or (cells k rows) i q ≡ get_or (get_or rows i r) k q
  cell-at n k [] i r q all less below = absurd (omega (arith, below))
  cell-at n k (x ∷ xs) zero r q all less below = ap (λ l. get_or (l ++ cells k xs) 0 q) (one-cell k x q (omega (arith, less, all.0)))
  cell-at n k (x ∷ xs) (suc i) r q all less below = ap (λ l. get_or (l ++ cells k xs) (suc i) q) (one-cell k x q (omega (arith, less, all.0))) ∙ cell-at n k xs i r q all.1 less (omega (arith, below))

-- a new pass of a desk
record IsFresh {B : Type 0} (desk : Opened B) (history : List Entry) (origin : Origin) (p : Known Entry Origin) : Type 0 where
  desk_is : p.desk ≡ desk.id
  origin_is : p.origin ≡ Some origin
  seen : p.seen ≡ history
  own : p.own ≡ []
  rests : p.turn ≡ None

later-fresh : {B : Type 0} (desk : Opened B) (history : List Entry) (origin : Origin) (k : ℕ) (ps : List (Known Entry Origin)) → AreLater desk.id history origin k ps → AllByRecursion (IsFresh desk history origin) ps
later-fresh desk history origin k [] are = tt
later-fresh desk history origin k (p ∷ ps) are = (
  record {
    desk_is = ap (λ (x : Known Entry Origin). x.desk) are.0;
    origin_is = ap (λ (x : Known Entry Origin). x.origin) are.0;
    seen = ap (λ (x : Known Entry Origin). x.seen) are.0;
    own = ap (λ (x : Known Entry Origin). x.own) are.0;
    rests = ap (λ (x : Known Entry Origin). x.turn) are.0;
  },
  later-fresh desk history origin (k + 1) ps are.1,
)

new-fresh : {B : Type 0} (n : ℕ) (desk : Opened B) (history : List Entry) (origin : Origin) (ps : List (Known Entry Origin)) → AreNew n desk.id history origin ps → AllByRecursion (IsFresh desk history origin) ps
new-fresh n desk history origin [] are = tt
new-fresh n desk history origin (p ∷ ps) are = (
  record {
    desk_is = ap (λ (x : Known Entry Origin). x.desk) are.1;
    origin_is = ap (λ (x : Known Entry Origin). x.origin) are.1;
    seen = ap (λ (x : Known Entry Origin). x.seen) are.1;
    own = ap (λ (x : Known Entry Origin). x.own) are.1;
    rests = ap (λ (x : Known Entry Origin). x.turn) are.1;
  },
  later-fresh desk history origin 1 ps are.2,
)

pub new-count : {B : Type 0} (n : ℕ) (desk : Opened B) (history : List Entry) (origin : Origin) (ps : List (Known Entry Origin)) → AreNew n desk.id history origin ps → length ps ≡ n
new-count n desk history origin [] are = sym are
new-count n desk history origin (p ∷ ps) are = sym are.0

module _ {D : Type 0} (shown : D → DiskShown) (terms : Terms) (digest : List ℕ) (count : ℕ) (disks : List D) (laid : List (LaidOf D)) (passes : List HousePassOf)
    (are : AreLaid shown terms digest count disks laid) (many : length laid ≡ length disks) (clocks : length disks ≡ terms.bidders + 1)
    (dealt : AreDealt laid (rows_of passes)) (count_is : length passes ≡ count) (room : room_in passes ≡ count) where
  desk-at : (k : ℕ) (d : Opened (BookOf D)) (l : LaidOf D) → k < length laid → get_or (map (λ (x : LaidOf D). x.desk) laid) k d ≡ (get_or laid k l).desk
  desk-at k d l below = get_or-map (λ (x : LaidOf D). x.desk) laid k l d below

  pass-at : (i k : ℕ) (p : HousePassOf) (q : Known Entry Origin) (l : LaidOf D) → i < length passes → k < length laid → get_or (get_or laid k l).passes i q ≡ get_or (get_or passes i p).passes k q
  pass-at i k p q l low below =
      let wide : length (rows_of passes) ≡ length passes = length-map passes (λ (x : HousePassOf). x.passes) in
      ap (λ ps. get_or ps i q) (sym (dealt.columns k l below)) ∙ cell-at (length laid) k (rows_of passes) i p.passes q dealt.long below (omega (arith, low, wide)) ∙ ap (λ (r : List (Known Entry Origin)). get_or r k q) (get_or-map (λ (x : HousePassOf). x.passes) passes i p p.passes low)

  fresh-at : (x : D) (i k : ℕ) (p : HousePassOf) (q : Known Entry Origin) (l : LaidOf D) → i < length passes → k < length laid
      → IsFresh (get_or laid k l).desk (get_or laid k l).desk.book.state.history (get_or laid k l).desk.book.origin (get_or (get_or passes i p).passes k q)
  fresh-at x i k p q l low below =
      let here = are.each k x l below in
      let m = get_or laid k l in
      let long = new-count count m.desk m.desk.book.state.history m.desk.book.origin m.passes here.new in
      let Fresh : Known Entry Origin → Type 0 = IsFresh m.desk m.desk.book.state.history m.desk.book.origin in
      subst Fresh (pass-at i k p q l low below) (all-at Fresh m.passes i q (omega (arith, low, count_is, long)) (new-fresh count m.desk m.desk.book.state.history m.desk.book.origin m.passes here.new))

  pub house-opened : IsOpened shown terms digest count disks (record { terms = terms; digest = digest; desks = map (λ (x : LaidOf D). x.desk) laid }) passes
  house-opened =
      let x = some-of disks 0 (omega (arith, clocks)) in
      let l = some-of laid 0 (omega (arith, clocks, many)) in
      let desks = map (λ (y : LaidOf D). y.desk) laid in
      let wide : length desks ≡ length laid = length-map laid (λ (y : LaidOf D). y.desk) in
      let rows : AllByRecursion (λ (p : HousePassOf). length p.passes ≡ length laid) passes = all-passes (length laid) passes dealt.long in
      record {
        terms_are = refl;
        digest_is = refl;
        clocks = wide ∙ many;
        books = λ k y d below.
            let Is : Opened (BookOf D) → Type 0 = λ z. Opens shown (owner_of terms k digest) (get_or disks k y) z.book in
            subst Is (sym (desk-at k d l (omega (arith, below, many)))) (are.each k y l (omega (arith, below, many))).opens;
        count_is = count_is;
        new = all-from (IsNewPass (record { terms = terms; digest = digest; desks = desks })) passes (λ i p low.
            let row = get_or passes i p in
            let long : length row.passes ≡ length laid = all-at (λ (z : HousePassOf). length z.passes ≡ length laid) passes i p low rows in
            record {
              of_house = record {
                clocks = wide ∙ many ∙ clocks;
                count = long ∙ sym wide;
                desk = λ k d q below. (fresh-at x i k p q l low (omega (arith, below, long))).desk_is ∙ ap (λ (z : Opened (BookOf D)). z.id) (sym (desk-at k d l (omega (arith, below, long))));
                rest = λ k q below. (fresh-at x i k p q l low (omega (arith, below, long))).rests;
                book = λ k q below.
                    let less : k < length laid = omega (arith, below, long) in
                    let of = (are.each k x l less).opens.origin in
                    ((get_or laid k l).desk.book.origin, (fresh-at x i k p q l low less).origin_is, (λ j. owner_of (of.terms_are j) (of.clock_is j) (of.digest_is j)));
              };
              origin = λ k d q below.
                  let less : k < length laid = omega (arith, below, wide) in
                  (fresh-at x i k p q l low less).origin_is ∙ ap (λ (z : Opened (BookOf D)). Some z.book.origin) (sym (desk-at k d l less));
              seen = λ k d q below.
                  let less : k < length laid = omega (arith, below, wide) in
                  (fresh-at x i k p q l low less).seen ∙ ap (λ (z : Opened (BookOf D)). z.book.state.history) (sym (desk-at k d l less));
              own = λ k q below. (fresh-at x i k p q l low (omega (arith, below, long))).own;
            });
        all = record {
          rows = (let Long : ℕ → Type 0 = λ n. AllByRecursion (λ (p : HousePassOf). length p.passes ≡ n) passes in subst Long (sym wide) rows);
          columns = λ k d below.
              let less : k < length laid = omega (arith, below, wide) in
              let All : Opened (BookOf D) → List (Known Entry Origin) → Type 0 = λ z ps. AreAll z.id ps in
              let m = get_or laid k l in
              subst (All (get_or desks k d)) (sym (column-cells k passes ∙ dealt.columns k l less)) (subst (λ (z : Opened (BookOf D)). All z m.passes) (sym (desk-at k d l less)) (are.each k x l less).all);
          room = room ∙ sym count_is;
        };
      }

pub laid-all : {D : Type 0} (shown : D → DiskShown) (terms : Terms) (digest : List ℕ) (count : ℕ) (disks : List D) (laid : List (LaidOf D)) (n : ℕ)
    → AreLaid shown terms digest count disks laid → 0 < length disks → n ≡ count → AllByRecursion (λ (l : LaidOf D). length l.passes ≡ n) laid
laid-all {D} shown terms digest count disks laid n are some same = all-from (λ (l : LaidOf D). length l.passes ≡ n) laid (λ k l below.
    let m = get_or laid k l in
    new-count count m.desk m.desk.book.state.history m.desk.book.origin m.passes (are.each k (some-of disks 0 some) l below).new ∙ sym same)

fresh-unused : {B : Type 0} (desk : Opened B) (history : List Entry) (origin : Origin) (ps : List (Known Entry Origin)) → AllByRecursion (IsFresh desk history origin) ps → AllByRecursion (λ (p : Known Entry Origin). p.own ≡ []) ps
fresh-unused desk history origin [] all = tt
fresh-unused desk history origin (p ∷ ps) all = (all.0.own, fresh-unused desk history origin ps all.1)

pub laid-unused : {D : Type 0} (shown : D → DiskShown) (terms : Terms) (digest : List ℕ) (count : ℕ) (disks : List D) (laid : List (LaidOf D))
    → AreLaid shown terms digest count disks laid → 0 < length disks → AllByRecursion (IsUnused {D = D}) laid
laid-unused {D} shown terms digest count disks laid are some = all-from (IsUnused {D = D}) laid (λ k l below.
    let m = get_or laid k l in
    let b = m.desk.book in
    record { made_nothing = fresh-unused m.desk b.state.history b.origin m.passes (new-fresh count m.desk b.state.history b.origin m.passes (are.each k (some-of disks 0 some) l below).new) })
