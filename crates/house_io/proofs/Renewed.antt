-- Doors and links that are made ready for a net or a door.
use Rattle.std.proofs.Common.{◌≡◌, ◌≤◌, ◌∙◌, ◌++◌, refl, sym, ap, subst, take, zero, suc, ℕ, List, [], ◌∷◌, length, map, max, Some, arith}
use Rattle.std.specs.List.{AllByRecursion}
use Rattle.house_io.specs.Doors.{DoorLinks, HasPlaces, fresh_door}
use Rattle.house_io.specs.LinkForms.{SuredLink, ListedLink, ListedDoor, IsReady, with_places, ready_door, unfailed_link}

pub unfailed-all : (links : List ListedLink) → AllByRecursion (λ (link : ListedLink). link.faults ≡ 0) (map unfailed_link links)
unfailed-all [] = tt
unfailed-all (link ∷ links) = (refl, unfailed-all links)

within : (free n : ℕ) → n ≤ max free n
within free n = omega arith

pub ready-all : (doors : List ListedDoor) → AllByRecursion IsReady (map ready_door doors)
ready-all [] = tt
ready-all (door ∷ doors) = ((within door.links.free (length door.links.to_come), refl), ready-all doors)

pub placed-all : (doors : List (DoorLinks SuredLink)) → AllByRecursion (λ (door : DoorLinks SuredLink). HasPlaces (Some door)) (map with_places doors)
placed-all [] = tt
placed-all (door ∷ doors) = (within door.free (length door.to_come), placed-all doors)

-- of what tells nothing, anything may be asked
pub nothing-all : {X : Type 0} (xs : List X) → AllByRecursion (λ (x : X). Unit {0}) xs
nothing-all [] = tt
nothing-all (x ∷ xs) = (tt, nothing-all xs)

pub zero-all : {X : Type 0} (xs : List X) → AllByRecursion (λ (x : X). ◌≡◌ {A = ℕ} 0 0) xs
zero-all [] = tt
zero-all (x ∷ xs) = (refl, zero-all xs)

all-take : {X : Type 0} (P : X → Type 0) (n : ℕ) (xs : List X) → AllByRecursion P xs → AllByRecursion P (take n xs)
all-take P zero xs all = tt
all-take P (suc n) [] all = tt
all-take P (suc n) (x ∷ xs) all = (all.0, all-take P n xs all.1)

all-append : {X : Type 0} (P : X → Type 0) (xs ys : List X) → AllByRecursion P xs → AllByRecursion P ys → AllByRecursion P (xs ++ ys)
all-append P [] ys front back = back
all-append P (x ∷ xs) ys front back = (front.0, all-append P xs ys front.1 back)

abbrev pub HasAll : List (DoorLinks SuredLink) → Type 0
HasAll doors = AllByRecursion (λ (door : DoorLinks SuredLink). HasPlaces (Some door)) doors

empty-places : (doors : List (DoorLinks SuredLink)) → AllByRecursion (λ (door : DoorLinks SuredLink). door ≡ fresh_door []) doors → HasAll doors
empty-places [] all = tt
empty-places (door ∷ doors) all =
    let P : DoorLinks SuredLink → Type 0 = λ d. HasPlaces (Some d) in
    let none : 0 ≤ 0 = omega arith in
    (subst P (sym all.0) none, empty-places doors all.1)

-- doors that were given, and doors without links after them, have their places
pub given-places : (count : ℕ) (doors before given after : List (DoorLinks SuredLink)) → HasAll doors → before ≡ [] → given ≡ before ++ take count doors
    → ((empty : List (DoorLinks SuredLink)) × (after ≡ given ++ empty) × AllByRecursion (λ (door : DoorLinks SuredLink). door ≡ fresh_door []) empty) → HasAll after
given-places count doors before given after all none first filled =
    let P : DoorLinks SuredLink → Type 0 = λ d. HasPlaces (Some d) in
    let e : after ≡ take count doors ++ filled.0 = filled.1 ∙ ap (λ xs. xs ++ filled.0) (first ∙ ap (λ xs. xs ++ take count doors) none) in
    subst HasAll (sym e) (all-append P (take count doors) filled.0 (all-take P count doors all) (empty-places filled.0 filled.2))
