-- A standing line as it is written, one part after another.
use Rattle.std.proofs.Common.{◌≡◌, ◌++◌, ℕ, List, ◌∷◌, sym, ap, ◌∙◌, append_assoc}
use Rattle.std.specs.Prelude.{codes, decimal}
use Rattle.outcome_text.specs.Lines.{numerals}
use Rattle.outcome_text.specs.Spaced.{spaced}
use Rattle.outcome_text.specs.Standing.{standing_line, phase_words, missing_words}
use Rattle.lot_base.specs.declared.phases.Phase.{Phase}
use Rattle.outcome_text.proofs.Lining.{line-spaced, spaced-append}

-- the parts of a standing line, in the order in which they are written
regroup : (clock blank c round r phase prices ps missing newline : List ℕ) →
    ((clock ++ blank) ++ (c ++ ((round ++ blank) ++ r))) ++ phase ++ prices ++ ps ++ missing ++ newline
    ≡ (clock ++ ((blank ++ c) ++ (round ++ ((blank ++ r) ++ (phase ++ (prices ++ (ps ++ missing))))))) ++ newline
regroup clock blank c round r phase prices ps missing newline = simp append_assoc

standing-spaced : (clock round : ℕ) (phase : Phase) (prices : List ℕ) (missing : ℕ) →
    (codes "clock " ++ (decimal clock ++ (codes " round " ++ decimal round))) ++ spaced (phase_words phase) ++ codes " prices" ++ spaced (numerals prices) ++ spaced (missing_words phase missing) ++ codes "\n"
    ≡ standing_line clock round phase prices missing
standing-spaced clock round phase prices missing =
    let after-prices = numerals prices ++ missing_words phase missing in
    let after-phase = phase_words phase ++ (codes "prices" ∷ after-prices) in
    let split : spaced after-phase ≡ spaced (phase_words phase) ++ (codes " prices" ++ (spaced (numerals prices) ++ spaced (missing_words phase missing))) =
    spaced-append (phase_words phase) (codes "prices" ∷ after-prices) ∙ ap (λ t. spaced (phase_words phase) ++ (codes " prices" ++ t)) (spaced-append (numerals prices) (missing_words phase missing)) in
    regroup (codes "clock") (codes " ") (decimal clock) (codes " round") (decimal round) (spaced (phase_words phase)) (codes " prices") (spaced (numerals prices)) (spaced (missing_words phase missing)) (codes "\n")
    ∙ ap (λ t. (codes "clock" ++ ((codes " " ++ decimal clock) ++ (codes " round" ++ ((codes " " ++ decimal round) ++ t)))) ++ codes "\n") (sym split)
    ∙ sym (line-spaced (codes "clock") (decimal clock ∷ codes "round" ∷ decimal round ∷ after-phase))

-- the text after each write of a standing line
pub standing-written : (clock round : ℕ) (phase : Phase) (prices : List ℕ) (missing : ℕ) (a b c d e f : List ℕ) →
    a ≡ codes "clock " ++ (decimal clock ++ (codes " round " ++ decimal round)) → b ≡ a ++ spaced (phase_words phase) → c ≡ b ++ codes " prices" → d ≡ c ++ spaced (numerals prices) →
    e ≡ d ++ spaced (missing_words phase missing) → f ≡ e ++ codes "\n" → f ≡ standing_line clock round phase prices missing
standing-written clock round phase prices missing a b c d e f is-a is-b is-c is-d is-e is-f =
    is-f ∙ ap (λ t. t ++ codes "\n") (is-e ∙ ap (λ t. t ++ spaced (missing_words phase missing)) (is-d ∙ ap (λ t. t ++ spaced (numerals prices)) (is-c ∙ ap (λ t. t ++ codes " prices") (is-b ∙ ap (λ t. t ++ spaced (phase_words phase)) is-a))))
    ∙ standing-spaced clock round phase prices missing
