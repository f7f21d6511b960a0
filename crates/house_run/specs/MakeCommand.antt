-- The command `make NUMBER [--workers N]`: a trial of the market that a number makes, in one line:
--
--     make NUMBER goods 3 bidders 12 clocks 13 steps T revenue M outcome H
--
-- T is the sum of the steps of all clocks, M the sum of all payments, and H the SHA-256 (FIPS 180-4) of the outcome's plain text in
-- lowercase hexadecimal digits.
use Rattle.std.specs.Prelude.{◌≡◌, ◌+◌, ℕ, ℤ, pos, ◌+ℤ◌, List, [], ◌∷◌, codes, decimal}
use Rattle.std.specs.Fmt.{signed_decimal}
use Rattle.sha2.specs.Sha256.{sha256}
use Rattle.hex.specs.Hex.{encode_lower}
use Rattle.lot_base.specs.declared.auction_terms.Terms.{Terms}
use Rattle.settlement.specs.declared.outcome.AwardRow.{AwardRow}
use Rattle.settlement.specs.declared.outcome.ClockRow.{ClockRow}
use Rattle.settlement.specs.declared.outcome.Outcome.{Outcome}
use Rattle.outcome_text.specs.Lines.{line}
use Rattle.outcome_text.specs.Plain.{plain_text}
use Rattle.trial.specs.Making.{IsMade}
use Rattle.house_run.specs.Markets.{TriesAs}
use Rattle.house_run.specs.Needs.{Needs, nothing_needed}

-- no file is read
abbrev pub make_needs : Needs
make_needs = nothing_needed

-- the steps of all clocks, and the payments of all bidders
abbrev pub steps_in : List ClockRow → ℕ
steps_in [] = 0
steps_in (row ∷ rows) = row.steps + steps_in rows

abbrev pub revenue_of : List AwardRow → ℤ
revenue_of [] = pos 0
revenue_of (row ∷ rows) = row.pays +ℤ revenue_of rows

unfoldable pub summary_line : ℕ → ℕ → ℤ → List ℕ → List ℕ
summary_line number steps revenue digest =
    line (codes "make" ∷ decimal number ∷ codes "goods" ∷ codes "3" ∷ codes "bidders" ∷ codes "12" ∷ codes "clocks" ∷ codes "13"
    ∷ codes "steps" ∷ decimal steps ∷ codes "revenue" ∷ signed_decimal revenue ∷ codes "outcome" ∷ digest ∷ [])

abbrev pub make_line : ℕ → Outcome → List ℕ
make_line number outcome = summary_line number (steps_in outcome.clocks) (revenue_of outcome.rows) (encode_lower (sha256 (plain_text outcome)))

-- the line of the outcome of the trial of the market that the number makes
pub record MakeDone (number : ℕ) (text : List ℕ) : Type 0 where
  pub terms : Terms
  pub valuations : List (List ℕ)
  pub made : IsMade number terms valuations
  pub outcome : Outcome
  pub tries : TriesAs terms valuations outcome
  pub text_is : text ≡ make_line number outcome
