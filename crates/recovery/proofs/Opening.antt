-- The first place at which two lists of prices differ.
use Rattle.std.proofs.Common.{◌≡◌, ◌≢◌, ◌<◌, ◌≤◌, ℕ, zero, suc, List, [], ◌∷◌, length, get_or, take, Some, None, refl, sym, ◌∙◌, arith}
use Rattle.std.specs.List.{slice_get}
use Rattle.recovery.specs.Causes.{IsFirstOther}

-- what stands at a place within the list
get-within : (xs : List ℕ) (place : ℕ) → place < length xs → slice_get xs place ≡ Some (get_or xs place 0)
get-within [] place within = absurd (omega arith)
get-within (x ∷ xs) zero within = refl
get-within (x ∷ xs) (suc place) within = get-within xs place (omega arith)

get-past : (xs : List ℕ) (place : ℕ) → length xs ≤ place → slice_get xs place ≡ None
get-past [] place past = refl
get-past (x ∷ xs) zero past = absurd (omega arith)
get-past (x ∷ xs) (suc place) past = get-past xs place (omega arith)

pub differs-at : (xs ys : List ℕ) (place : ℕ) → take place xs ≡ take place ys → place < length xs → place < length ys → get_or xs place 0 ≢ get_or ys place 0 → IsFirstOther xs ys place
differs-at xs ys place before within within' differ = record {
  before = before;
  here = λ same. differ (let e : Some (get_or xs place 0) ≡ Some (get_or ys place 0) = sym (get-within xs place within) ∙ same ∙ get-within ys place within' in cc);
}
