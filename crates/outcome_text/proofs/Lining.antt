-- A line as its first word and the others after blanks.
use Rattle.std.proofs.Common.{◌≡◌, ◌++◌, ℕ, List, [], ◌∷◌, refl, sym, ap, ◌∙◌, append_assoc, append-nil}
use Rattle.std.specs.Prelude.{codes}
use Rattle.std.specs.List.{join_with_byte}
use Rattle.outcome_text.specs.Lines.{line}
use Rattle.outcome_text.specs.Spaced.{spaced}

pub join-spaced : (word : List ℕ) (words : List (List ℕ)) → join_with_byte 32 (word ∷ words) ≡ word ++ spaced words
join-spaced word [] = sym (append-nil word)
join-spaced word (next ∷ words) = ap (λ rest. word ++ 32 ∷ rest) (join-spaced next words)

pub line-spaced : (word : List ℕ) (words : List (List ℕ)) → line (word ∷ words) ≡ (word ++ spaced words) ++ codes "\n"
line-spaced word words = ap (λ text. text ++ codes "\n") (join-spaced word words)

pub spaced-append : (words others : List (List ℕ)) → spaced (words ++ others) ≡ spaced words ++ spaced others
spaced-append [] others = refl
spaced-append (word ∷ words) others = ap (λ rest. (codes " " ++ word) ++ rest) (spaced-append words others) ∙ sym (append_assoc (codes " " ++ word) (spaced words) (spaced others))
