-- What stays of the passes of a house, but for what they have seen and made, is enough for them to be all of its passes.
use Rattle.std.proofs.Common.{◌≡◌, ℕ, zero, suc, ◌+◌, ◌<◌, List, [], ◌∷◌, ◌++◌, length, map, take, drop, get_or, set, None, refl, sym, ◌∙◌, ap, subst, arith}
use Rattle.std.specs.List.{AllByRecursion, AllZip}
use Rattle.std.proofs.lemmas.List.{map-append, length-map}
use Rattle.clock_book.specs.declared.entries.Entry.{Entry}
use Rattle.clock_book.specs.declared.origins.Origin.{Origin}
use Rattle.turn_desk.specs.Histories.{total}
use Rattle.turn_desk.specs.Passes.{Known, Opened, AreAll}
use Rattle.clock_family.specs.Houses.{HousePassOf, AreAllOf, still, all_still, column, room_in}

map_one : {A B : Type 0} (f : A → B) (xs : List A) (k : ℕ) → map f (take 1 (drop k xs)) ≡ take 1 (drop k (map f xs))
map_one f [] zero = refl
map_one f [] (suc k) = refl
map_one f (x ∷ xs) zero = refl
map_one f (x ∷ xs) (suc k) = map_one f xs k

-- the passes stay, one by one
abbrev pub AreStill : List HousePassOf → List HousePassOf → Type 0
AreStill olds news = AllZip (λ (o n : HousePassOf). all_still n ≡ all_still o) olds news

row_still : (o n : HousePassOf) → all_still n ≡ all_still o → map still n.passes ≡ map still o.passes
row_still o n e = ap (λ (p : HousePassOf). p.passes) e

same_row : (o n : HousePassOf) → all_still n ≡ all_still o → length n.passes ≡ length o.passes
same_row o n e = sym (length-map n.passes still) ∙ ap length (row_still o n e) ∙ length-map o.passes still

one_still : (k : ℕ) (o n : HousePassOf) → all_still n ≡ all_still o → map still (take 1 (drop k n.passes)) ≡ map still (take 1 (drop k o.passes))
one_still k o n e = map_one still n.passes k ∙ ap (λ (l : List (Known Entry Origin)). take 1 (drop k l)) (row_still o n e) ∙ sym (map_one still o.passes k)

column_still : (k : ℕ) (olds news : List HousePassOf) → AreStill olds news → map still (column k news) ≡ map still (column k olds)
column_still k [] [] h = refl
column_still k [] (n ∷ ns) h = absurd h
column_still k (o ∷ os) [] h = absurd h
column_still k (o ∷ os) (n ∷ ns) h =
    map-append still (take 1 (drop k n.passes)) (column k ns) ∙ (λ i. one_still k o n h.0 i ++ column_still k os ns h.1 i) ∙ sym (map-append still (take 1 (drop k o.passes)) (column k os))

-- what a list of passes is, by what stays of each
same_made : (xs : List (Known Entry Origin)) → total (λ (p : Known Entry Origin). p.made) (map still xs) ≡ total (λ (p : Known Entry Origin). p.made) xs
same_made [] = refl
same_made (x ∷ xs) = ap (λ (n : ℕ). x.made + n) (same_made xs)

desks_of : {B : Type 0} (first : Opened B) (xs : List (Known Entry Origin)) → AllByRecursion (λ (p : Known Entry Origin). p.desk ≡ first.id) (map still xs) → AllByRecursion (λ (p : Known Entry Origin). p.desk ≡ first.id) xs
desks_of first [] h = tt
desks_of first (x ∷ xs) h = (h.0, desks_of first xs h.1)

desks_to : {B : Type 0} (first : Opened B) (xs : List (Known Entry Origin)) → AllByRecursion (λ (p : Known Entry Origin). p.desk ≡ first.id) xs → AllByRecursion (λ (p : Known Entry Origin). p.desk ≡ first.id) (map still xs)
desks_to first [] h = tt
desks_to first (x ∷ xs) h = (h.0, desks_to first xs h.1)

rest_of : (xs : List (Known Entry Origin)) → AllByRecursion (λ (p : Known Entry Origin). p.turn ≡ None) (map still xs) → AllByRecursion (λ (p : Known Entry Origin). p.turn ≡ None) xs
rest_of [] h = tt
rest_of (x ∷ xs) h = (h.0, rest_of xs h.1)

rest_to : (xs : List (Known Entry Origin)) → AllByRecursion (λ (p : Known Entry Origin). p.turn ≡ None) xs → AllByRecursion (λ (p : Known Entry Origin). p.turn ≡ None) (map still xs)
rest_to [] h = tt
rest_to (x ∷ xs) h = (h.0, rest_to xs h.1)

all_of : {B : Type 0} (first : Opened B) (xs ys : List (Known Entry Origin)) → map still ys ≡ map still xs → AreAll first.id xs → AreAll first.id ys
all_of first xs ys e h =
    let size : length ys ≡ length xs = sym (length-map ys still) ∙ ap length e ∙ length-map xs still in
    let some = h.some_pass in
    record {
      desks = desks_of first ys (subst (AllByRecursion (λ (p : Known Entry Origin). p.desk ≡ first.id)) (sym e) (desks_to first xs h.desks));
      rest = rest_of ys (subst (AllByRecursion (λ (p : Known Entry Origin). p.turn ≡ None)) (sym e) (rest_to xs h.rest));
      some_pass = omega (arith, size, some);
      all = sym (same_made ys) ∙ ap (total (λ (p : Known Entry Origin). p.made)) e ∙ same_made xs ∙ h.all ∙ sym size;
    }

rows_still : {B : Type 0} (desks : List (Opened B)) (olds news : List HousePassOf) → AreStill olds news → AllByRecursion (λ (p : HousePassOf). length p.passes ≡ length desks) olds → AllByRecursion (λ (p : HousePassOf). length p.passes ≡ length desks) news
rows_still desks [] [] h rows = tt
rows_still desks [] (n ∷ ns) h rows = absurd h
rows_still desks (o ∷ os) [] h rows = absurd h
rows_still desks (o ∷ os) (n ∷ ns) h rows = (same_row o n h.0 ∙ rows.0, rows_still desks os ns h.1 rows.1)

count_still : (olds news : List HousePassOf) → AreStill olds news → length news ≡ length olds
count_still [] [] h = refl
count_still [] (n ∷ ns) h = absurd h
count_still (o ∷ os) [] h = absurd h
count_still (o ∷ os) (n ∷ ns) h = ap suc (count_still os ns h.1)

room_still : (olds news : List HousePassOf) → AreStill olds news → room_in news ≡ room_in olds
room_still [] [] h = refl
room_still [] (n ∷ ns) h = absurd h
room_still (o ∷ os) [] h = absurd h
room_still (o ∷ os) (n ∷ ns) h = ap (λ (p : HousePassOf). p.room) h.0

pub all_still_of : {B : Type 0} (desks : List (Opened B)) (olds news : List HousePassOf) → AreStill olds news → AreAllOf desks olds → AreAllOf desks news
all_still_of desks olds news h all = record {
  rows = rows_still desks olds news h all.rows;
  columns = λ k d below. all_of (get_or desks k d) (column k olds) (column k news) (column_still k olds news h) (all.columns k d below);
  room = room_still olds news h ∙ all.room ∙ sym (count_still olds news h);
}

same_all : (ps : List HousePassOf) → AreStill ps ps
same_all [] = tt
same_all (p ∷ ps) = (refl, same_all ps)

-- one pass of a list is replaced by what became of it
pub set_still : (ps : List HousePassOf) (k : ℕ) (old new : HousePassOf) → old ≡ get_or ps k old → k < length ps → all_still new ≡ all_still old → AreStill ps (set ps k new)
set_still [] k old new here below e = absurd (omega (arith, below))
set_still (p ∷ ps) zero old new here below e = (e ∙ ap all_still here, same_all ps)
set_still (p ∷ ps) (suc k) old new here below e = (refl, set_still ps k old new here (omega (arith, below)) e)
