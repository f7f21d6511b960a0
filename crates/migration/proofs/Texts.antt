-- Texts that are the same.
use Rattle.std.proofs.Common.{◌≡◌, ◌<◌, ℕ, ◌+◌, Bool, false, not, List, [], length, get_or, take, sym, ◌∙◌, rules, arith}
use Rattle.std.specs.Str.{bytes_eq}
use Rattle.std.proofs.lemmas.List.{take_more_same}
use Rattle.std.proofs.lemmas.Slice.Eq.{bytes_eq-Decides}
use Rattle.migration.proofs.Lists.{any-default}

pub same-text : (xs ys : List ℕ) (differ : Bool) → differ ≡ not (bytes_eq xs ys) → differ ≡ false → xs ≡ ys
same-text xs ys differ is same = search (rules, bytes_eq-Decides)

-- one text more is the same in both lists
pub same-texts : (xs ys : List (List ℕ)) (n : ℕ) (differ : Bool) → n < length xs → length xs ≡ length ys → take n xs ≡ take n ys → differ ≡ not (bytes_eq (get_or xs n []) (get_or ys n [])) → differ ≡ false → take (n + 1) xs ≡ take (n + 1) ys
same-texts xs ys n differ below long same is alike = take_more_same xs ys n [] below (omega (arith, below, long)) same (same-text (get_or xs n []) (get_or ys n []) differ is alike)

-- the same of two texts that were read from their places
pub same-names : (xs ys : List (List ℕ)) (n : ℕ) (x y a b : List ℕ) (differ : Bool) → n < length xs → length xs ≡ length ys → take n xs ≡ take n ys → a ≡ x → x ≡ get_or xs n x → b ≡ y → y ≡ get_or ys n y → differ ≡ not (bytes_eq a b) → differ ≡ false → take (n + 1) xs ≡ take (n + 1) ys
same-names xs ys n x y a b differ below long same first here second there is alike =
    let also : n < length ys = omega (arith, below, long) in
    take_more_same xs ys n x below also same (sym here ∙ sym first ∙ same-text a b differ is alike ∙ second ∙ there ∙ any-default ys n y x also)
