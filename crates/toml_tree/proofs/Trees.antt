-- The tree of a table beside the map and the vectors that hold it.
use Rattle.std.proofs.Common.{◌≡◌, ℕ, Bool, not, List, [], ◌∷◌, map, Option, Some, None, option_map, find, Less, String, Global, string_bytes, refl, ap, ◌∙◌, sym, Bor, Vec, inl, inr}
use Rattle.std.specs.List.{list_any, AllByRecursion}
use Rattle.std.specs.Map.{keys_of}
use Rattle.std.specs.Option.{ok_or}
use Rattle.std.specs.Str.{bytes_eq}
use Rattle.std.specs.String.{string_cmp}
use Rattle.std.specs.List.Sorted.{IsStrictlySortedBy}
use Rattle.std.proofs.lemmas.Bool.{cases_Bool}
use Rattle.toml.specs.Data.{array}
use Rattle.toml.specs.View.{view, items_view, members_view}
use Rattle.toml.specs.declared.value.Value.{Value, Array}
use Rattle.toml_tree.specs.Tree.{elements, elements_of, least_unknown, lesser}
use Rattle.toml_tree.specs.Seen.{Gives}
use Rattle.toml.proofs.Views.{view-Array}

elements-items_view : (vs : List Value) → elements (items_view vs) ≡ map view vs
elements-items_view [] = refl
elements-items_view (v ∷ vs) = ap (λ ds. view v ∷ ds) (elements-items_view vs)

pub elements_of-Array : (v : Value) (vs : Vec Value Global) (items : List Value) → v ≡ Array vs → items ≡ vs.items → elements_of (view v) ≡ Some (map view items)
elements_of-Array v vs items is same =
    let seen : view v ≡ array (items_view vs.items) = ap view is ∙ view-Array vs in
    rw (seen, same, elements-items_view vs.items)

-- a test of what the elements are seen as
pub list_any-map : {A B : Type 0} (f : B → Bool) (g : A → B) (xs : List A) → list_any (λ x. f (g x)) xs ≡ list_any f (map g xs)
list_any-map f g [] = refl
list_any-map f g (x ∷ xs) = rw (list_any-map f g xs)

-- the test of a key
abbrev pub is_unknown : List (Bor (List ℕ)) → String Global → Bool
is_unknown known key = not (list_any (λ k. bytes_eq (string_bytes key) k.now) known)

-- a key is the lesser of itself and of one found among keys above it
lesser-found : (p : String Global → Bool) (k : String Global) (ks : List (String Global)) → AllByRecursion (λ y. string_cmp k y ≡ Less) ks
    → lesser (string_bytes k) (option_map string_bytes (find p ks)) ≡ string_bytes k
lesser-found p k [] h = refl
lesser-found p k (x ∷ ks) h =
    elim (cases_Bool (p x)) [
      | inl found ↦ rw (found, h.0)
      | inr other ↦ rw other (lesser-found p k ks h.1)
    ]

-- the first key that is unknown, among keys that ascend, is the least one
find-least_unknown : (known : List (Bor (List ℕ))) (es : List (String Global × Value)) → IsStrictlySortedBy string_cmp (keys_of es)
    → option_map string_bytes (find (is_unknown known) (keys_of es)) ≡ least_unknown (map (λ k. k.now) known) (members_view es)
unfolding IsStrictlySortedBy
find-least_unknown known [] h = refl
find-least_unknown known (e ∷ es) h =
    let same = list_any-map (bytes_eq (string_bytes e.0)) (λ k. k.now) known in
    elim (cases_Bool (list_any (λ k. bytes_eq (string_bytes e.0) k.now) known)) [
      | inl is_known ↦ rw (← same, is_known) (find-least_unknown known es h.1)
      | inr unknown ↦ rw (← same, unknown, ← find-least_unknown known es h.1) (ap Some (sym (lesser-found (is_unknown known) e.0 (keys_of es) h.0)))
    ]

text_of_ref : (r : Option (Bor (String Global))) → option_map (λ k. string_bytes k.now) r ≡ option_map string_bytes (option_map (λ k. k.now) r)
text_of_ref None = refl
text_of_ref (Some k) = refl

pub least_unknown-found : (r : Option (Bor (String Global))) (known : List (Bor (List ℕ))) (es : List (String Global × Value)) → IsStrictlySortedBy string_cmp (keys_of es)
    → option_map (λ k. k.now) r ≡ find (is_unknown known) (keys_of es)
    → option_map (λ k. string_bytes k.now) r ≡ least_unknown (map (λ k. k.now) known) (members_view es)
least_unknown-found r known es ordered found = text_of_ref r ∙ ap (option_map string_bytes) found ∙ find-least_unknown known es ordered

-- what has to be there, as it is seen
pub gives-ok_or : {X Y F : Type 0} (seen : X → Y) (r : Option X) (found : Option Y) (refusal : F) → option_map seen r ≡ found → Gives seen (ok_or r refusal) (ok_or found refusal)
gives-ok_or seen None found refusal h = rw (← h)
gives-ok_or seen (Some x) found refusal h = rw (← h)
