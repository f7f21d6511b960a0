-- Whether two lists of bundles are the same, as a test.
use Rattle.std.specs.Prelude.{ℕ, Bool, ◌==◌, ◌&&◌, List, length, zip}
use Rattle.std.specs.List.{list_all}
use Rattle.std.specs.Cmp.Lexicographic.{slice_cmp}
use Rattle.std.specs.Ordering.{nat_cmp, is_eq}

abbrev pub same_pairs : List (List ℕ) → List (List ℕ) → Bool
same_pairs xs ys = list_all (λ p. is_eq (slice_cmp nat_cmp p.0 p.1)) (zip xs ys)

abbrev pub same_demand : List (List ℕ) → List (List ℕ) → Bool
same_demand xs ys = (length xs == length ys) && same_pairs xs ys
