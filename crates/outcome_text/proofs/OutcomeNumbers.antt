-- The numbers of a plain text are those of its outcome.
use Rattle.std.proofs.Common.{◌≡◌, ◌+◌, ◌++◌, ℕ, List, length, ap, ◌∙◌, arith}
use Rattle.std.specs.List.{AllByRecursion}
use Rattle.settlement.specs.Shapes.{IsRowOfClock}
use Rattle.settlement.specs.declared.outcome.Outcome.{Outcome}
use Rattle.outcome_text.specs.Plain.{opening_lines, bidder_lines, clock_lines, outcome_lines, plain_text}
use Rattle.outcome_text.specs.Numbers.{numbers_in}
use Rattle.outcome_text.specs.Listed.{outcome_numbers}
use Rattle.outcome_text.specs.Parts.{IsReadable}
use Rattle.outcome_text.specs.Reading.{IsTextOf}
use Rattle.outcome_text.proofs.TextNumbers.{IsClean, AreClean, among_lines, among_lines-append, numbers-text}
use Rattle.outcome_text.proofs.ClockRows.{zip-length}
use Rattle.outcome_text.proofs.LineNumbers.{all-append, among-head, head-clean, among-prices, prices-clean, among-opening, opening-clean, among-bidders, bidders-clean, among-clocks, clocks-clean}

outcome-clean : (o : Outcome) → IsReadable o → AreClean (outcome_lines o)
outcome-clean o h =
    let w = h.whole in
    let clocks = zip-length (IsRowOfClock (length o.prices) (length o.rows)) 0 (length o.rows + 1) o.clocks w.shape.clocks_fit in (
      head-clean (length o.prices) (length o.rows) (omega (arith, w.few_goods)) (omega (arith, w.few_bidders)),
      (
        prices-clean o.prices h.in_range.prices,
        all-append (λ words. AllByRecursion IsClean words) (opening_lines o.opening) (bidder_lines 1 o.rows ++ clock_lines (length o.rows) 0 o.clocks)
            (opening-clean o.opening h.in_range.opening)
            (all-append (λ words. AllByRecursion IsClean words) (bidder_lines 1 o.rows) (clock_lines (length o.rows) 0 o.clocks)
            (bidders-clean 1 o.rows (omega (arith, w.few_bidders)) h.in_range.rows)
            (clocks-clean (length o.rows) 0 o.clocks (omega (arith, w.few_bidders)) (omega (arith, w.few_bidders, clocks)) h.in_range.clocks)),
      ),
    )

among-outcome : (o : Outcome) → IsReadable o → among_lines (outcome_lines o) ≡ outcome_numbers o
unfolding among_lines outcome_numbers
among-outcome o h =
    let w = h.whole in
    let clocks = zip-length (IsRowOfClock (length o.prices) (length o.rows)) 0 (length o.rows + 1) o.clocks w.shape.clocks_fit in
    λ i. among-head (length o.prices) (length o.rows) (omega (arith, w.few_goods)) (omega (arith, w.few_bidders)) i
    ++ (among-prices o.prices h.in_range.prices i
    ++ (among_lines-append (opening_lines o.opening) (bidder_lines 1 o.rows ++ clock_lines (length o.rows) 0 o.clocks)
    ∙ (λ k. among-opening o.opening h.in_range.opening k
    ++ (among_lines-append (bidder_lines 1 o.rows) (clock_lines (length o.rows) 0 o.clocks)
    ∙ (λ j. among-bidders 1 o.rows (omega (arith, w.few_bidders)) h.in_range.rows j
    ++ among-clocks (length o.rows) 0 o.clocks (omega (arith, w.few_bidders)) (omega (arith, w.few_bidders, clocks)) h.in_range.clocks j)) k)) i)

numbers-plain_text : (o : Outcome) → IsReadable o → numbers_in (plain_text o) ≡ outcome_numbers o
unfolding plain_text
numbers-plain_text o h = numbers-text (outcome_lines o) (outcome-clean o h) ∙ among-outcome o h

pub readable : (bytes : List ℕ) (o : Outcome) → IsTextOf bytes o → IsReadable o
readable bytes o is = record { whole = is.whole; in_range = is.in_range }

-- the numbers of a text of an outcome are those of the outcome
pub numbers-of : (bytes : List ℕ) (o : Outcome) → IsTextOf bytes o → numbers_in bytes ≡ outcome_numbers o
numbers-of bytes o is = ap numbers_in is.spelled ∙ numbers-plain_text o (readable bytes o is)
