-- Thirty-two cells that hold a short list.
use Rattle.std.proofs.Common.{◌≡◌, ◌≤◌, ℕ, ◌-◌, true, List, ◌++◌, length, take, replicate, ap, sym, ◌∙◌, drop}
use Rattle.std.proofs.Math.Seq.{take-append_seam}
use Rattle.std.proofs.lemmas.List.{drop-replicate}
use Rattle.auction_file.specs.Names.{is_name, padded, IsNameIn}

pub take-padded : (xs : List ℕ) → take (length xs) (padded xs) ≡ xs
take-padded xs = take-append_seam xs (replicate (32 - length xs) 0)

-- a list that was copied over zeros
pub padded-copied : (xs copied : List ℕ) → copied ≡ xs → copied ++ drop (length xs) (replicate 32 0) ≡ padded xs
padded-copied xs copied e = ap (λ ys. ys ++ drop (length xs) (replicate 32 0)) e ∙ ap (λ ys. xs ++ ys) (drop-replicate (length xs) 32 0)

pub name-in : (xs cells : List ℕ) → cells ≡ padded xs → length xs ≤ 32 → is_name xs ≡ true → IsNameIn cells (length xs)
name-in xs cells e few name =
    let front : take (length xs) cells ≡ xs = ap (take (length xs)) e ∙ take-padded xs in
    record { few = few; count_is = ap length front; zeros = ap padded front ∙ sym e; name = ap is_name front ∙ name }
