-- The visit at a door from which the bytes of a link come.
use Rattle.std.proofs.Common.{◌≡◌, ◌<◌, inl, inr, ℕ, zero, suc, ◌+◌, List, [], ◌∷◌, ◌++◌, length, map, take, Option, Some, None, slice_get, arith, refl, sym, ◌∙◌, ap, subst}
use Rattle.std.specs.Prelude.{option_map}
use Rattle.std.specs.List.{AllByRecursion}
use Rattle.std.proofs.lemmas.Option.{slice_get-map, slice_get_past}
use Rattle.house_io.specs.Doors.{DoorLinks}
use Rattle.house_io.specs.Links.{LinkBytes}
use Rattle.house_io.specs.NetsShown.{DoorShown, LinkShown, NetView}
use Rattle.house_io.specs.Told.{IfTold}
use Rattle.auction_file.specs.declared.listing.Auction.{Auction}
use Rattle.clock_family.specs.Houses.{HousePassOf}
use Rattle.house_serve.specs.Doors.{Come, DoorTells, Visit}
use Rattle.house_serve.specs.Houses.{DoorRun, IsRun, PassAllows}
use Rattle.house_run.specs.Serving.{LeavesNetAt, ServesAt}
use Rattle.house_lives.specs.Bytes.{IsLinkAt, bytes_at}
use Rattle.house_lives.proofs.Members.{In, all-in}
use Rattle.house_lives.proofs.Places.{get-right}

-- where both tell
pub told-both : {A : Type 0} (P : A → A → Type 0) (o p : Option A) (before after : A) → o ≡ Some before → p ≡ Some after → IfTold o p P → P before after
told-both P o p before after e f told = subst (λ x. IfTold x (Some after) P) e (subst (λ x. IfTold o x P) f told)

-- places in lists

in-get : {A : Type 0} (xs : List A) (k : ℕ) (x : A) → slice_get xs k ≡ Some x → In x xs
in-get [] k x e = absurd (let f : None ≡ Some x = e in (let no : ⊥ = cc in no))
in-get (y ∷ xs) zero x e = let f : Some y ≡ Some x = e in inl cc
in-get (y ∷ xs) (suc k) x e = inr (in-get xs k x e)

get-front : {A : Type 0} (n : ℕ) (xs ys : List A) (k : ℕ) (x : A) → k < n → slice_get xs k ≡ Some x → slice_get (take n xs ++ ys) k ≡ Some x
get-front zero xs ys k x less e = absurd (omega (arith, less))
get-front (suc n) [] ys k x less e = absurd (let f : None ≡ Some x = e in (let no : ⊥ = cc in no))
get-front (suc n) (y ∷ xs) ys zero x less e = e
get-front (suc n) (y ∷ xs) ys (suc k) x less e = get-front n xs ys k x (omega (arith, less)) e

get-taken : {A : Type 0} (n : ℕ) (xs : List A) (k : ℕ) (x : A) → slice_get (take n xs) k ≡ Some x → slice_get xs k ≡ Some x
get-taken zero xs k x e = absurd (let f : None ≡ Some x = e in (let no : ⊥ = cc in no))
get-taken (suc n) [] k x e = e
get-taken (suc n) (y ∷ xs) zero x e = e
get-taken (suc n) (y ∷ xs) (suc k) x e = get-taken n xs k x e

-- what was mapped
record IsImageOf {A B : Type 0} (f : A → B) (o : Option A) (y : B) : Type 0 where
  one : A
  there : o ≡ Some one
  is : f one ≡ y

from-option : {A B : Type 0} (f : A → B) (o : Option A) (y : B) → option_map f o ≡ Some y → IsImageOf f o y
from-option f None y e = absurd (let g : None ≡ Some y = e in (let no : ⊥ = cc in no))
from-option f (Some x) y e = record { one = x; there = refl; is = (let g : Some (f x) ≡ Some y = e in cc) }

from-map : {A B : Type 0} (f : A → B) (xs : List A) (k : ℕ) (y : B) → slice_get (map f xs) k ≡ Some y → IsImageOf f (slice_get xs k) y
from-map f xs k y e = from-option f (slice_get xs k) y (sym (slice_get-map f xs k) ∙ e)

none-past : {A : Type 0} (xs : List A) (k : ℕ) (x : A) → slice_get xs (length xs + k) ≡ Some x → ⊥
none-past xs k x e = let f : None ≡ Some x = sym (slice_get_past xs (length xs + k) (omega arith)) ∙ e in (let no : ⊥ = cc in no)

-- one door

abbrev pub Runs : Auction → ℕ → DoorRun DoorShown LinkShown → Type 0
Runs value sessions run = IsRun (λ (d : DoorShown). d.told) (λ (d : DoorShown). d.faults) (λ (l : LinkShown). l.told) (λ (l : LinkShown). l.faults) value sessions run

abbrev pub Tells : Auction → List (Visit HousePassOf LinkShown) → DoorLinks LinkShown → DoorLinks LinkShown → Type 0
Tells value visits before after = DoorTells PassAllows (λ (l : LinkShown). l.told) (λ (l : LinkShown). l.faults) value visits before after

came-at : (value : Auction) (cs before after : List LinkShown) (k : ℕ) (c l : LinkShown) → Come PassAllows (λ (l : LinkShown). l.told) (λ (l : LinkShown). l.faults) value cs before after → slice_get cs k ≡ Some c → slice_get before k ≡ Some l → l ≡ c
came-at value [] before after k c l come e f = absurd (let g : None ≡ Some c = e in (let no : ⊥ = cc in no))
came-at value (x ∷ cs) [] after k c l come e f = absurd (let g : None ≡ Some l = f in (let no : ⊥ = cc in no))
came-at value (x ∷ cs) (y ∷ before) after zero c l come e f = let g : Some x ≡ Some c = e in let h : Some y ≡ Some l = f in let same : y ≡ x = come.0 in cc
came-at value (x ∷ cs) (y ∷ before) after (suc k) c l come e f = came-at value cs before after k c l come.1 e f

-- the visit of a link that came in so and was hung up so
pub record IsVisitOf (visits : List (Visit HousePassOf LinkShown)) (came went : LinkBytes) : Type 0 where
  pub visit : Visit HousePassOf LinkShown
  pub in_list : In visit visits
  pub came_is : visit.came.told ≡ Some came
  pub went_is : visit.went.told ≡ Some went

visit-of : (value : Auction) (visits : List (Visit HousePassOf LinkShown)) (door closed : DoorLinks LinkShown) (number : ℕ) (came went : LinkBytes)
    → Tells value visits door closed → bytes_at door.to_come number ≡ Some (Some came) → bytes_at closed.hung_up (length door.hung_up + number) ≡ Some (Some went) → IsVisitOf visits came went
visit-of value visits door closed number came went tells to_come hung_up =
    let first = from-option (λ (l : LinkShown). l.told) (slice_get door.to_come number) (Some came) to_come in
    let last = from-option (λ (l : LinkShown). l.told) (slice_get closed.hung_up (length door.hung_up + number)) (Some went) hung_up in
    let ends = map (λ (v : Visit HousePassOf LinkShown). v.went) visits in
    let there : slice_get (take door.free ends) number ≡ Some last.one =
    sym (get-right door.hung_up (take door.free ends) number) ∙ ap (λ l. slice_get l (length door.hung_up + number)) (sym tells.hung_up) ∙ last.there in
    let v = from-map (λ (v : Visit HousePassOf LinkShown). v.went) visits number last.one (get-taken door.free ends number last.one there) in
    let starts : slice_get (map (λ (v : Visit HousePassOf LinkShown). v.came) visits) number ≡ Some v.one.came =
    slice_get-map (λ (v : Visit HousePassOf LinkShown). v.came) visits number ∙ ap (option_map (λ (v : Visit HousePassOf LinkShown). v.came)) v.there in
    let same = came-at value (map (λ (v : Visit HousePassOf LinkShown). v.came) visits) door.to_come closed.to_come number v.one.came first.one tells.come starts first.there in
    record {
      visit = v.one;
      in_list = in-get visits number v.one v.there;
      came_is = ap (λ (l : LinkShown). l.told) (sym same) ∙ first.is;
      went_is = ap (λ (l : LinkShown). l.told) v.is ∙ last.is;
    }

-- all doors

pub record IsVisitAt (doors : List (DoorRun DoorShown LinkShown)) (came went : LinkBytes) : Type 0 where
  pub door : DoorRun DoorShown LinkShown
  pub at_door : In door doors
  pub at : IsVisitOf door.visits came went

module _ (address : List ℕ) (count : ℕ) (before after : NetView) (came went : LinkBytes) (link : IsLinkAt count before after came went) where
  -- the door that was given back there
  back-there : (given back : List DoorShown) → ServesAt address count given back before after → slice_get (map (λ (d : DoorShown). d.told) back) link.place ≡ Some (Some link.closed)
  back-there given back serves =
      sym (get-right before.closed (map (λ (d : DoorShown). d.told) back) link.place)
      ∙ ap (λ (v : NetView). slice_get v.closed (length before.closed + link.place)) (sym serves.after_is) ∙ link.closed_is

  given-there : (given back : List DoorShown) → ServesAt address count given back before after → slice_get (map (λ (d : DoorShown). d.told) given) link.place ≡ Some (Some link.door)
  given-there given back serves = ap (λ l. slice_get l link.place) serves.given_are ∙ get-front count before.doors serves.empty link.place (Some link.door) link.few link.door_is

  pub served-there : (value : Auction) (sessions : ℕ) (doors : List (DoorRun DoorShown LinkShown)) → AllByRecursion (Runs value sessions) doors
      → ServesAt address count (map (λ (d : DoorRun DoorShown LinkShown). d.door) doors) (map (λ (d : DoorRun DoorShown LinkShown). d.log.door) doors) before after → IsVisitAt doors came went
  served-there value sessions doors runs serves =
      let given = map (λ (d : DoorRun DoorShown LinkShown). d.door) doors in
      let back = map (λ (d : DoorRun DoorShown LinkShown). d.log.door) doors in
      let shown = from-map (λ (d : DoorShown). d.told) back link.place (Some link.closed) (back-there given back serves) in
      let run = from-map (λ (d : DoorRun DoorShown LinkShown). d.log.door) doors link.place shown.one shown.there in
      let last : run.one.log.door.told ≡ Some link.closed = ap (λ (d : DoorShown). d.told) run.is ∙ shown.is in
      let told = from-map (λ (d : DoorShown). d.told) given link.place (Some link.door) (given-there given back serves) in
      let mine : slice_get given link.place ≡ Some run.one.door = slice_get-map (λ (d : DoorRun DoorShown LinkShown). d.door) doors link.place ∙ ap (option_map (λ (d : DoorRun DoorShown LinkShown). d.door)) run.there in
      let same : told.one ≡ run.one.door = (let f : Some told.one ≡ Some run.one.door = sym told.there ∙ mine in cc) in
      let first : run.one.door.told ≡ Some link.door = ap (λ (d : DoorShown). d.told) (sym same) ∙ told.is in
      let at = in-get doors link.place run.one run.there in
      let was = all-in (Runs value sessions) doors run.one runs at in
      let tells = told-both (Tells value run.one.visits) run.one.door.told run.one.log.door.told link.door link.closed first last was.links in
      record { door = run.one; at_door = at; at = visit-of value run.one.visits link.door link.closed link.number came went tells link.came_is link.went_is }

  pub none-there : LeavesNetAt address count before after → ⊥
  none-there (inl same) = none-past before.closed link.place (Some link.closed) (ap (λ (v : NetView). slice_get v.closed (length before.closed + link.place)) (sym same) ∙ link.closed_is)
  none-there (inr (inl refused)) = none-past before.closed link.place (Some link.closed) (ap (λ (v : NetView). slice_get v.closed (length before.closed + link.place)) (sym refused) ∙ link.closed_is)
  none-there (inr (inr (given, serves))) =
      let f : Some (Some link.closed) ≡ Some (Some link.door) = sym (back-there given given serves) ∙ given-there given given serves in
      let same : link.closed ≡ link.door = cc in
      let hung = from-option (λ (l : LinkShown). l.told) (slice_get link.closed.hung_up (length link.door.hung_up + link.number)) (Some went) link.went_is in
      none-past link.door.hung_up link.number hung.one (ap (λ (d : DoorLinks LinkShown). slice_get d.hung_up (length link.door.hung_up + link.number)) (sym same) ∙ hung.there)
