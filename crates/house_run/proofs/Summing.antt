-- Sums over the rows of an outcome, and the lines that have them.
use Rattle.std.proofs.Common.{◌≡◌, ◌<◌, ◌+◌, ◌++◌, ℕ, zero, suc, List, [], ◌∷◌, length, get_or, drop, refl, sym, ap, ◌∙◌, arith, append_assoc, append-nil}
use Rattle.std.specs.Prelude.{ℤ, ◌+ℤ◌, codes, decimal}
use Rattle.std.specs.Fmt.{signed_decimal}
use Rattle.std.proofs.lemmas.Int.{ints}
use Rattle.settlement.specs.declared.outcome.AwardRow.{AwardRow}
use Rattle.settlement.specs.declared.outcome.ClockRow.{ClockRow}
use Rattle.outcome_text.specs.Lines.{line, numerals}
use Rattle.outcome_text.specs.Spaced.{spaced}
use Rattle.outcome_text.proofs.Lining.{line-spaced, spaced-append}
use Rattle.house_run.specs.Causes.{line_of}
use Rattle.house_run.specs.MakeCommand.{revenue_of, steps_in, summary_line}
use Rattle.house_run.specs.declared.ends.Ended.TheVariants as how

next-row : {X : Type 0} (rows : List X) (i : ℕ) (row : X) → i < length rows → row ≡ get_or rows i row → drop i rows ≡ row ∷ drop (i + 1) rows
next-row [] i row below is = absurd (omega arith)
next-row (x ∷ rows) zero row below is = ap (λ r. r ∷ rows) (sym is)
next-row (x ∷ rows) (suc i) row below is = (let e : suc i + 1 ≡ suc (i + 1) = omega arith in next-row rows i row (omega arith) is ∙ ap (λ k. row ∷ drop k (x ∷ rows)) (sym e))

all-dropped : {X : Type 0} (rows : List X) (i : ℕ) → i ≡ length rows → drop i rows ≡ []
all-dropped [] zero e = refl
all-dropped [] (suc i) e = absurd (omega arith)
all-dropped (x ∷ rows) zero e = absurd (omega arith)
all-dropped (x ∷ rows) (suc i) e = all-dropped rows i (omega arith)

pub steps-next : (rows : List ClockRow) (i : ℕ) (row : ClockRow) (old add : ℕ) → i < length rows → row ≡ get_or rows i row → add ≡ row.steps → old + steps_in (drop i rows) ≡ steps_in rows → old + add + steps_in (drop (i + 1) rows) ≡ steps_in rows
steps-next rows i row old add below is adds sum = (let e = ap steps_in (next-row rows i row below is) in omega (arith, e, adds, sum))

pub steps-all : (rows : List ClockRow) (i sum : ℕ) → i ≡ length rows → sum + steps_in (drop i rows) ≡ steps_in rows → sum ≡ steps_in rows
steps-all rows i sum end is = (let e = ap steps_in (all-dropped rows i end) in omega (arith, e, is))

pub pays-next : (rows : List AwardRow) (i : ℕ) (row : AwardRow) (old add : ℤ) → i < length rows → row ≡ get_or rows i row → add ≡ row.pays → (old +ℤ revenue_of (drop i rows)) ≡ revenue_of rows → ((old +ℤ add) +ℤ revenue_of (drop (i + 1) rows)) ≡ revenue_of rows
pays-next rows i row old add below is adds sum = (let e = ap revenue_of (next-row rows i row below is) in omega (arith, ints, e, adds, sum))

pub pays-all : (rows : List AwardRow) (i : ℕ) (sum : ℤ) → i ≡ length rows → (sum +ℤ revenue_of (drop i rows)) ≡ revenue_of rows → sum ≡ revenue_of rows
pays-all rows i sum end is = (let e = ap revenue_of (all-dropped rows i end) in omega (arith, ints, e, is))

regroup : (number steps revenue digest : List ℕ)
    → codes "make " ++ (number ++ (codes " goods 3 bidders 12 clocks 13 steps " ++ (steps ++ (codes " revenue " ++ (revenue ++ (codes " outcome " ++ (digest ++ codes "\n")))))))
    ≡ line (codes "make" ∷ number ∷ codes "goods" ∷ codes "3" ∷ codes "bidders" ∷ codes "12" ∷ codes "clocks" ∷ codes "13" ∷ codes "steps" ∷ steps ∷ codes "revenue" ∷ revenue ∷ codes "outcome" ∷ digest ∷ [])
regroup number steps revenue digest = simp append_assoc

pub made-line : (number steps : ℕ) (revenue : ℤ) (digest text : List ℕ)
    → text ≡ codes "make " ++ (decimal number ++ (codes " goods 3 bidders 12 clocks 13 steps " ++ (decimal steps ++ (codes " revenue " ++ (signed_decimal revenue ++ (codes " outcome " ++ (digest ++ codes "\n")))))))
    → text ≡ summary_line number steps revenue digest
unfolding summary_line
made-line number steps revenue digest text e = e ∙ regroup (decimal number) (decimal steps) (signed_decimal revenue) digest

refusal-parts : (n s b sp bidder x xs y ys g good l : List ℕ)
    → ((((n ++ (s ++ (b ++ sp))) ++ (bidder ++ x)) ++ xs) ++ y) ++ ys ++ ((g ++ sp) ++ (good ++ l))
    ≡ (n ++ (s ++ (b ++ ((sp ++ bidder) ++ (x ++ (xs ++ (y ++ (ys ++ (g ++ ((sp ++ good) ++ [])))))))))) ++ l
refusal-parts n s b sp bidder x xs y ys g good l = simp (append_assoc, append-nil)

pub refusal-line : (bidder good : ℕ) (x y a b c d new : List ℕ) → a ≡ codes "not substitutes bidder " ++ (decimal bidder ++ codes " x") → b ≡ a ++ spaced (numerals x) → c ≡ b ++ codes " y" → d ≡ c ++ spaced (numerals y)
    → new ≡ d ++ (codes " good " ++ (decimal good ++ codes "\n")) → new ≡ line_of (how.NotSubstitutes bidder x y good)
refusal-line bidder good x y a b c d new is-a is-b is-c is-d is-new =
    let others = codes "good" ∷ decimal good ∷ [] in
    let tail : spaced (numerals x ++ (codes "y" ∷ numerals y ++ others)) ≡ spaced (numerals x) ++ (codes " y" ++ (spaced (numerals y) ++ spaced others)) =
    spaced-append (numerals x) (codes "y" ∷ numerals y ++ others) ∙ ap (λ t. spaced (numerals x) ++ (codes " y" ++ t)) (spaced-append (numerals y) others) in
    is-new ∙ ap (λ t. t ++ (codes " good " ++ (decimal good ++ codes "\n"))) (is-d ∙ ap (λ t. t ++ spaced (numerals y)) (is-c ∙ ap (λ t. t ++ codes " y") (is-b ∙ ap (λ t. t ++ spaced (numerals x)) is-a)))
    ∙ refusal-parts (codes "not") (codes " substitutes") (codes " bidder") (codes " ") (decimal bidder) (codes " x") (spaced (numerals x)) (codes " y") (spaced (numerals y)) (codes " good") (decimal good) (codes "\n")
    ∙ ap (λ t. (codes "not" ++ ((codes " " ++ codes "substitutes") ++ ((codes " " ++ codes "bidder") ++ ((codes " " ++ decimal bidder) ++ ((codes " " ++ codes "x") ++ t))))) ++ codes "\n") (sym tail)
    ∙ sym (line-spaced (codes "not") (codes "substitutes" ∷ codes "bidder" ∷ decimal bidder ∷ codes "x" ∷ numerals x ++ (codes "y" ∷ numerals y ++ others)))
