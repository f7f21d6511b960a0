-- What building makes of positional arguments, and how they are looked up.
use Rattle.std.proofs.Common.{◌≡◌, ◌≤◌, ◌+◌, ◌++◌, ℕ, suc, Bool, true, false, not, ◌||◌, cond, nat_eq, List, [], ◌∷◌, length, map, min, Some, None, refl, ap, ◌∙◌, arith, append-nil, append_assoc, subst}
use Rattle.std.specs.Prelude.{find}
use Rattle.std.specs.List.{list_any}
use Rattle.std.specs.Option.{option_map_or, option_or}
use Rattle.std.specs.Str.{bytes_eq}
use Rattle.std.proofs.lemmas.Bool.Decides.{nat_tests}
use Rattle.std.proofs.lemmas.List.Folds.{find-append}
use Rattle.std.proofs.lemmas.Slice.Eq.{bytes_eq-Decides}
use Rattle.lot_base.proofs.Within.{both}
use Rattle.clap.specs.Lexer.{usize_max}
use Rattle.clap.specs.Walk.{Rule, Text, arg_by_id, arg_by_index}
use Rattle.clap.specs.Simple.{filled, filled_from, with_index}
use Rattle.command_line.specs.Positionals.{positional, are_distinct}

-- a positional argument of a built command
abbrev pub slot : ℕ → Text → Rule
slot i id = with_index i (filled (positional id))

abbrev pub slots : ℕ → List Text → List Rule
slots i [] = []
slots i (id ∷ ids) = slot i id ∷ slots (suc i) ids

pub filled-slots : (i : ℕ) (ids : List Text) → i + length ids ≤ usize_max → filled_from i (map positional ids) ≡ slots i ids
filled-slots i [] few = refl
filled-slots i (id ∷ ids) few =
    let next : min (i + 1) usize_max ≡ suc i = omega arith in
    ap (λ k. slot i id ∷ filled_from k (map positional ids)) next ∙ ap (λ rest. slot i id ∷ rest) (filled-slots (suc i) ids (omega arith))

pub not-true : (b : Bool) → not b ≡ true → b ≡ false
not-true true e = absurd (let f : false ≡ true = e in cc)
not-true false e = refl

pub neither : (a b : Bool) → (a || b) ≡ false → (a ≡ false) × (b ≡ false)
neither true b e = absurd (let f : true ≡ false = e in cc)
neither false b e = (refl, e)

-- the argument of number k is the first id's, and so on, and there are no more
abbrev pub Serves : List Rule → ℕ → List Text → Type 0
Serves c k [] = arg_by_index c k ≡ None
Serves c k (id ∷ ids) = (arg_by_index c k ≡ Some (slot k id)) × (arg_by_id c id ≡ Some (slot k id)) × Serves c (suc k) ids

-- no argument in front has one of the ids
abbrev HasNone : List Rule → List Text → Type 0
HasNone front [] = Unit {0}
HasNone front (id ∷ ids) = (arg_by_id front id ≡ None) × HasNone front ids

-- no argument in front has a number from k on
abbrev IsBelow : List Rule → ℕ → Type 0
IsBelow front k = (j : ℕ) → k ≤ j → arg_by_index front j ≡ None

abbrev with_number : ℕ → Rule → Bool
with_number j a = option_map_or (λ n. nat_eq n j) a.index false

abbrev with_id : Text → Rule → Bool
with_id id a = bytes_eq a.id id

behind : (p : Rule → Bool) (front : List Rule) (a : Rule) (rest : List Rule) → find p front ≡ None → p a ≡ true → find p (front ++ a ∷ rest) ≡ Some a
behind p front a rest none e = find-append p front (a ∷ rest) ∙ ap (λ o. option_or o (find p (a ∷ rest))) none ∙ ap (λ b. cond b (Some a) (find p rest)) e

past : (p : Rule → Bool) (front : List Rule) (a : Rule) → find p front ≡ None → p a ≡ false → find p (front ++ a ∷ []) ≡ None
past p front a none e = find-append p front (a ∷ []) ∙ ap (λ o. option_or o (find p (a ∷ []))) none ∙ ap (λ b. cond b (Some a) None) e

pub same-id : (id : Text) → bytes_eq id id ≡ true
same-id id = (bytes_eq-Decides id id).1 refl

below-more : (front : List Rule) (k : ℕ) (id : Text) → IsBelow front k → IsBelow (front ++ slot k id ∷ []) (suc k)
below-more front k id below j le = past (with_number j) front (slot k id) (below j (omega arith)) (let ne : nat_eq k j ≡ false = grind (arith, nat_tests) in ne)

none-more : (front : List Rule) (k : ℕ) (id : Text) (ids : List Text) → list_any (bytes_eq id) ids ≡ false → HasNone front ids → HasNone (front ++ slot k id ∷ []) ids
none-more front k id [] other none = tt
none-more front k id (next ∷ ids) other none =
    let e = neither _ _ other in
    (past (with_id next) front (slot k id) none.0 e.0, none-more front k id ids e.1 none.1)

pub serves-behind : (front : List Rule) (k : ℕ) (ids : List Text) → IsBelow front k → HasNone front ids → are_distinct ids ≡ true → Serves (front ++ slots k ids) k ids
serves-behind front k [] below none distinct = ap (λ c. arg_by_index c k) (append-nil front) ∙ below k (omega arith)
serves-behind front k (id ∷ ids) below none distinct =
    let d = both (not (list_any (bytes_eq id) ids)) (are_distinct ids) distinct in
    let same : nat_eq k k ≡ true = grind (arith, nat_tests) in
    let rest = serves-behind (front ++ slot k id ∷ []) (suc k) ids (below-more front k id below) (none-more front k id ids (not-true _ d.0) none.1) d.1 in (
      behind (with_number k) front (slot k id) (slots (suc k) ids) (below k (omega arith)) same,
      behind (with_id id) front (slot k id) (slots (suc k) ids) none.0 (same-id id),
      subst (λ c. Serves c (suc k) ids) (append_assoc front (slot k id ∷ []) (slots (suc k) ids)) rest,
    )

none-at-all : (ids : List Text) → HasNone [] ids
none-at-all [] = tt
none-at-all (id ∷ ids) = (refl, none-at-all ids)

pub serves : (ids : List Text) → are_distinct ids ≡ true → Serves (slots 1 ids) 1 ids
serves ids distinct = serves-behind [] 1 ids (λ j le. refl) (none-at-all ids) distinct
