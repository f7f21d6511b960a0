-- A numeral that parses is the decimal digits of its number; a word that is refused is that of no number in range.
use Rattle.std.proofs.Common.{◌∙◌, sym, ap, arith}
use Rattle.command_line.specs.Numerals.{is_numeral}
use Rattle.command_line.proofs.Decimals.{number-is, no-numeral, parsed, not-parsed}
use Rattle.command_line.proofs.digits.read_number.Goals as goal

pub returns-then-not-is_numeral-clause-none : goal.returns-then-not-is_numeral-clause-none
returns-then-not-is_numeral-clause-none c = λ number low high is.
    no-numeral c.args.word.now number (omega arith) is (ap is_numeral (sym c.as_bytes.ensures.value) ∙ sym c.is_numeral.ensures ∙ c.if-not-is_numeral.true)

pub returns-in-Ok-clause-some : goal.returns-in-Ok-clause-some
returns-in-Ok-clause-some c = (
  number-is c.args.word.now c.parse.result c.in-Ok.number (ap is_numeral (sym c.as_bytes.ensures.value) ∙ sym c.is_numeral.ensures ∙ c.if-not-is_numeral.false) c.parse.ensures.value.0 c.in-Ok.is,
  c.if-low-number.true,
  c.if-number-high.true,
)

pub returns-in_default-clause-none : goal.returns-in_default-clause-none
returns-in_default-clause-none c = λ number low high is. let same = parsed c.args.word.now c.parse.result number c.in-Ok.number (omega arith) is c.parse.ensures.value.0 c.in-Ok.is in omega (arith, same, c.if-number-high.false)

pub returns-in_default-2-clause-none : goal.returns-in_default-2-clause-none
returns-in_default-2-clause-none c = λ number low high is. let same = parsed c.args.word.now c.parse.result number c.in-Ok.number (omega arith) is c.parse.ensures.value.0 c.in-Ok.is in omega (arith, same, c.if-low-number.false)

pub returns-in_default-3-clause-none : goal.returns-in_default-3-clause-none
returns-in_default-3-clause-none c = λ number low high is. not-parsed c.args.word.now c.parse.result number _ (omega arith) is c.parse.ensures.value.0 c.in_default.is
