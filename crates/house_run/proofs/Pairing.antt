-- Lines with two bundles, as they are written.
use Rattle.std.proofs.Common.{◌≡◌, ◌∙◌, ◌++◌, ℕ, List, [], ◌∷◌, sym, ap, append_assoc, append-nil}
use Rattle.std.specs.Prelude.{codes, decimal}
use Rattle.outcome_text.specs.Lines.{line, numerals}
use Rattle.outcome_text.specs.Spaced.{spaced}
use Rattle.outcome_text.proofs.Lining.{line-spaced, spaced-append}

parts : (first front xs ys rest l : List ℕ) → ((((first ++ (front ++ codes " x")) ++ xs) ++ codes " y") ++ ys) ++ (rest ++ l) ≡ (first ++ (front ++ (codes " x" ++ (xs ++ (codes " y" ++ (ys ++ rest)))))) ++ l
parts first front xs ys rest l = simp append_assoc

-- words up to the first bundle, the two bundles, each after its name, and the words after them
pub two-bundles : (first : List ℕ) (words : List (List ℕ)) (x y : List ℕ) (others : List (List ℕ)) (a b c d new : List ℕ) → a ≡ first ++ (spaced words ++ codes " x") → b ≡ a ++ spaced (numerals x) → c ≡ b ++ codes " y" → d ≡ c ++ spaced (numerals y)
    → new ≡ d ++ (spaced others ++ codes "\n") → new ≡ line (first ∷ words ++ (codes "x" ∷ numerals x ++ (codes "y" ∷ numerals y ++ others)))
two-bundles first words x y others a b c d new is-a is-b is-c is-d is-new =
    let behind = codes "y" ∷ numerals y ++ others in
    let tail : spaced (numerals x ++ behind) ≡ spaced (numerals x) ++ (codes " y" ++ (spaced (numerals y) ++ spaced others)) =
    spaced-append (numerals x) behind ∙ ap (λ t. spaced (numerals x) ++ (codes " y" ++ t)) (spaced-append (numerals y) others) in
    let whole : spaced (words ++ (codes "x" ∷ numerals x ++ behind)) ≡ spaced words ++ (codes " x" ++ (spaced (numerals x) ++ (codes " y" ++ (spaced (numerals y) ++ spaced others)))) =
    spaced-append words (codes "x" ∷ numerals x ++ behind) ∙ ap (λ t. spaced words ++ (codes " x" ++ t)) tail in
    is-new ∙ ap (λ t. t ++ (spaced others ++ codes "\n")) (is-d ∙ ap (λ t. t ++ spaced (numerals y)) (is-c ∙ ap (λ t. t ++ codes " y") (is-b ∙ ap (λ t. t ++ spaced (numerals x)) is-a)))
    ∙ parts first (spaced words) (spaced (numerals x)) (spaced (numerals y)) (spaced others) (codes "\n")
    ∙ ap (λ t. (first ++ t) ++ codes "\n") (sym whole)
    ∙ sym (line-spaced first (words ++ (codes "x" ∷ numerals x ++ behind)))

broken-front : (clock bidder : List ℕ) → codes "clock " ++ (clock ++ (codes " ended broken " ++ (bidder ++ codes " x"))) ≡ codes "clock" ++ (spaced (clock ∷ codes "ended" ∷ codes "broken" ∷ bidder ∷ []) ++ codes " x")
broken-front clock bidder =
    let x = codes " x" in
    let rest = codes " ended broken " ++ (bidder ++ []) in
    ap (λ t. codes "clock " ++ t) (ap (λ t. clock ++ (codes " ended broken " ++ (t ++ x))) (sym (append-nil bidder)) ∙ sym (append_assoc clock rest x))

good-behind : (good : List ℕ) → codes " good " ++ (good ++ codes "\n") ≡ spaced (codes "good" ∷ good ∷ []) ++ codes "\n"
good-behind good = simp append_assoc

-- the line of a clock without an award since a demand lacks the exchange property
pub broken-line : (clock bidder good : ℕ) (x y a b c d new : List ℕ) → a ≡ codes "clock " ++ (decimal clock ++ (codes " ended broken " ++ (decimal bidder ++ codes " x"))) → b ≡ a ++ spaced (numerals x) → c ≡ b ++ codes " y" → d ≡ c ++ spaced (numerals y)
    → new ≡ d ++ (codes " good " ++ (decimal good ++ codes "\n"))
    → new ≡ line (codes "clock" ∷ decimal clock ∷ codes "ended" ∷ codes "broken" ∷ decimal bidder ∷ codes "x" ∷ numerals x ++ (codes "y" ∷ numerals y ++ (codes "good" ∷ decimal good ∷ [])))
broken-line clock bidder good x y a b c d new is-a is-b is-c is-d is-new =
    two-bundles (codes "clock") (decimal clock ∷ codes "ended" ∷ codes "broken" ∷ decimal bidder ∷ []) x y (codes "good" ∷ decimal good ∷ []) a b c d new (is-a ∙ broken-front (decimal clock) (decimal bidder)) is-b is-c is-d (is-new ∙ ap (λ t. d ++ t) (good-behind (decimal good)))
