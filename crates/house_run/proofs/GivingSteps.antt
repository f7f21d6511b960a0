-- Doors and books are given back one after another.
use Rattle.std.proofs.Common.{◌≡◌, ◌∙◌, ◌≤◌, ◌-◌, ◌++◌, ℕ, List, [], ◌∷◌, length, map, Option, Some, None, arith, refl, sym, ap, subst, append_assoc, length-append}
use Rattle.house_io.specs.Disks.{DiskShown}
use Rattle.std.specs.List.{AllByRecursion}
use Rattle.std.proofs.lemmas.List.{append-nil, map-append}
use Rattle.house_io.specs.Faults.{raised_by}
use Rattle.house_io.specs.Nets.{NetLists, TakesDoor}
use Rattle.house_io.specs.Told.{IfTold}
use Rattle.clock.specs.Reports.{ClockOf, histories}
use Rattle.clock_book.specs.Books.{BookOf, IsKept}
use Rattle.house_run.specs.GivingBack.{TakesAll, raised_by_all}
use Rattle.house_run.proofs.JournalSteps.{all-more}

pub told-then : {A : Type 0} (P Q R : A → A → Type 0) (a b c : Option A) → ((x y z : A) → P x y → Q y z → R x z) → IfTold a b P → IfTold b c Q → IfTold a c R
told-then P Q R a b None of first second = tt
told-then P Q R a None (Some z) of first second = absurd second
told-then P Q R None (Some y) (Some z) of first second = absurd first
told-then P Q R (Some x) (Some y) (Some z) of first second = of x y z first second

pub told-same : {A : Type 0} (P : A → A → Type 0) (a : Option A) → ((x : A) → P x x) → IfTold a a P
told-same P None of = tt
told-same P (Some x) of = of x

-- counts

raised-push : (before more : ℕ) (counts : List ℕ) → raised_by_all before (counts ++ more ∷ []) ≡ raised_by (raised_by_all before counts) more
raised-push before more [] = refl
raised-push before more (n ∷ counts) = raised-push (raised_by before n) more counts

pub raised-none : (before : ℕ) (counts : List ℕ) → AllByRecursion (λ n. n ≡ 0) counts → raised_by_all before counts ≡ before
raised-none before [] none = refl
raised-none before (n ∷ counts) none =
    let e : raised_by before n ≡ before = (let z = none.0 in omega arith) in
    ap (λ b. raised_by_all b counts) e ∙ raised-none before counts none.1

pub raised-later : (before : ℕ) (counts : List ℕ) → before ≤ raised_by_all before counts
raised-later before [] = omega arith
raised-later before (n ∷ counts) = let l = raised-later (raised_by before n) counts in omega arith

-- doors

none-taken : {D L : Type 0} (lists : NetLists D L) → TakesAll [] lists lists
none-taken lists few = λ i. record {
  doors = lists.doors;
  links = lists.links;
  closed = sym (append-nil lists.closed) i;
  hung_up = lists.hung_up;
  door_places = (let e : lists.door_places ≡ lists.door_places - 0 = omega arith in e) i;
  link_places = lists.link_places;
  asked = lists.asked;
  dialled = lists.dialled;
}

one-taken : {D L : Type 0} (front : List D) (door : D) (a b c : NetLists D L) → TakesAll front a b → TakesDoor door b c → TakesAll (front ++ door ∷ []) a c
one-taken front door a b c first takes few =
    let more = length-append front (door ∷ []) in
    let e = first (omega arith) in
    let places : b.door_places ≡ a.door_places - length front = ap (λ l. l.door_places) e in
    let closed : c.closed ≡ a.closed ++ (front ++ door ∷ []) = takes.placed (omega arith) ∙ ap (λ l. l.closed ++ door ∷ []) e ∙ append_assoc a.closed front (door ∷ []) in
    let left : b.door_places - 1 ≡ a.door_places - length (front ++ door ∷ []) = omega arith in
    takes.rest ∙ (λ i. record { doors = (e i).doors; links = (e i).links; closed = closed i; hung_up = (e i).hung_up; door_places = left i; link_places = (e i).link_places; asked = (e i).asked; dialled = (e i).dialled })

-- before a door is given back
pub record DoorsBack {D L : Type 0} (faults : D → ℕ) (doors rest : List D) (told_before told : Option (NetLists D L)) (counted_before counted : ℕ) : Type 0 where
  pub front : List D
  pub are : doors ≡ front ++ rest
  pub lists : IfTold told_before told (TakesAll front)
  pub counts : counted ≡ raised_by_all counted_before (map faults front)

one-further : {A : Type 0} (all front rest left : List A) (one : A) → rest ≡ one ∷ left → all ≡ front ++ rest → all ≡ (front ++ one ∷ []) ++ left
one-further all front rest left one is are = are ∙ ap (λ l. front ++ l) is ∙ sym (append_assoc front (one ∷ []) left)

pub doors-begun : {D L : Type 0} (faults : D → ℕ) (doors rest : List D) (told : Option (NetLists D L)) (counted : ℕ) → doors ≡ rest → DoorsBack faults doors rest told told counted counted
doors-begun faults doors rest told counted are = record { front = []; are = are; lists = told-same (TakesAll []) told none-taken; counts = refl }

pub doors-more : {D L : Type 0} (faults : D → ℕ) (doors rest left : List D) (door : D) (before between after : Option (NetLists D L)) (counted_before counted counted_after : ℕ)
    → rest ≡ door ∷ left → DoorsBack faults doors rest before between counted_before counted → IfTold between after (TakesDoor door) → counted_after ≡ raised_by counted (faults door)
    → DoorsBack faults doors left before after counted_before counted_after
doors-more faults doors rest left door before between after counted_before counted counted_after is back takes raised = record {
  front = back.front ++ door ∷ [];
  are = one-further doors back.front rest left door is back.are;
  lists = told-then (TakesAll back.front) (TakesDoor door) (TakesAll (back.front ++ door ∷ [])) before between after (one-taken back.front door) back.lists takes;
  counts =
      raised ∙ ap (λ n. raised_by n (faults door)) back.counts ∙ sym (raised-push counted_before (faults door) (map faults back.front))
      ∙ ap (raised_by_all counted_before) (sym (map-append faults back.front (door ∷ [])));
}

whole : {A : Type 0} (all front : List A) → all ≡ front ++ [] → front ≡ all
whole all front are = sym (are ∙ append-nil front)

pub doors-lists : {D L : Type 0} (faults : D → ℕ) (doors rest : List D) (before after : Option (NetLists D L)) (counted_before counted : ℕ) → rest ≡ [] → DoorsBack faults doors rest before after counted_before counted → IfTold before after (TakesAll doors)
doors-lists faults doors rest before after counted_before counted none back =
    subst (λ ds. IfTold before after (TakesAll ds)) (whole doors back.front (back.are ∙ ap (λ l. back.front ++ l) none)) back.lists

pub doors-counts : {D L : Type 0} (faults : D → ℕ) (doors rest : List D) (before after : Option (NetLists D L)) (counted_before counted : ℕ) → rest ≡ [] → DoorsBack faults doors rest before after counted_before counted
    → counted ≡ raised_by_all counted_before (map faults doors)
doors-counts faults doors rest before after counted_before counted none back =
    back.counts ∙ ap (λ ds. raised_by_all counted_before (map faults ds)) (whole doors back.front (back.are ∙ ap (λ l. back.front ++ l) none))

-- books

-- before a book is taken apart
pub record BooksApart {D : Type 0} (shown : D → DiskShown) (books rest : List (BookOf D)) (clocks : List ClockOf) (disks : List D) : Type 0 where
  pub front : List (BookOf D)
  pub are : books ≡ front ++ rest
  pub clocks_are : histories clocks ≡ map (λ (b : BookOf D). b.state.clock) front
  pub disks_are : disks ≡ map (λ (b : BookOf D). b.disk) front
  pub kept : AllByRecursion (λ (b : BookOf D). IsKept shown b) front

module _ {D : Type 0} (shown : D → DiskShown) where
  pub books-begun : (books rest : List (BookOf D)) (clocks : List ClockOf) (disks : List D) → books ≡ rest → clocks ≡ [] → disks ≡ [] → BooksApart shown books rest clocks disks
  books-begun books rest clocks disks are none empty = record { front = []; are = are; clocks_are = ap histories none; disks_are = empty; kept = tt }

  pub books-more : (books rest left : List (BookOf D)) (book : BookOf D) (clocks clocks_then : List ClockOf) (clock : ClockOf) (disks disks_then : List D) (disk : D) → rest ≡ book ∷ left → BooksApart shown books rest clocks disks
      → IsKept shown book → clock.history ≡ book.state.clock → disk ≡ book.disk → clocks_then ≡ clocks ++ clock ∷ [] → disks_then ≡ disks ++ disk ∷ []
      → BooksApart shown books left clocks_then disks_then
  books-more books rest left book clocks clocks_then clock disks disks_then disk is apart kept history same clocks_more disks_more = record {
    front = apart.front ++ book ∷ [];
    are = one-further books apart.front rest left book is apart.are;
    clocks_are =
        ap histories clocks_more ∙ map-append (λ (c : ClockOf). c.history) clocks (clock ∷ []) ∙ (λ i. apart.clocks_are i ++ history i ∷ []) ∙ sym (map-append (λ (b : BookOf D). b.state.clock) apart.front (book ∷ []));
    disks_are = disks_more ∙ (λ i. apart.disks_are i ++ same i ∷ []) ∙ sym (map-append (λ (b : BookOf D). b.disk) apart.front (book ∷ []));
    kept = all-more (λ (b : BookOf D). IsKept shown b) apart.front book apart.kept kept;
  }

  -- no book is left
  pub books-apart : (books rest : List (BookOf D)) (clocks : List ClockOf) (disks : List D) → rest ≡ [] → BooksApart shown books rest clocks disks → record {
    clocks : histories clocks ≡ map (λ (b : BookOf D). b.state.clock) books;
    disks : disks ≡ map (λ (b : BookOf D). b.disk) books;
    kept : AllByRecursion (λ (b : BookOf D). IsKept shown b) books;
  }
  books-apart books rest clocks disks none apart =
      let e = whole books apart.front (apart.are ∙ ap (λ l. apart.front ++ l) none) in
      record {
        clocks = apart.clocks_are ∙ ap (map (λ (b : BookOf D). b.state.clock)) e;
        disks = apart.disks_are ∙ ap (map (λ (b : BookOf D). b.disk)) e;
        kept = subst (AllByRecursion (λ (b : BookOf D). IsKept shown b)) e apart.kept;
      }

-- lists

pub length-none : {A : Type 0} (xs : List A) → length xs ≡ 0 → xs ≡ []
length-none [] none = refl
length-none (x ∷ xs) none = absurd (omega arith)

pub map-map : {A B C : Type 0} (f : B → C) (h : A → B) (xs : List A) → map f (map h xs) ≡ map (λ x. f (h x)) xs
map-map f h [] = refl
map-map f h (x ∷ xs) = ap (λ l. f (h x) ∷ l) (map-map f h xs)

-- one more of a list is kept
pub kept-more : {A B V : Type 0} (f : V → B) (h : A → B) (kept kept_then : List V) (v : V) (all rest left : List A) (one : A) → kept_then ≡ kept ++ v ∷ [] → f v ≡ h one → rest ≡ one ∷ left
    → map f kept ++ map h rest ≡ map h all → map f kept_then ++ map h left ≡ map h all
kept-more f h kept kept_then v all rest left one more same is are =
    ap (λ l. map f l ++ map h left) more ∙ ap (λ l. l ++ map h left) (map-append f kept (v ∷ [])) ∙ append_assoc (map f kept) (f v ∷ []) (map h left)
    ∙ ap (λ b. map f kept ++ b ∷ map h left) same ∙ sym (ap (λ l. map f kept ++ map h l) is) ∙ are
