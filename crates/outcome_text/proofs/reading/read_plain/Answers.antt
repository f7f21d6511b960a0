-- Of what is read no other outcome has the text.
use Rattle.std.proofs.Common.{Some, ap, subst, Option}
use Rattle.std.specs.Prelude.{IfSome}
use Rattle.settlement.specs.declared.outcome.Outcome.{Outcome}
use Rattle.outcome_text.specs.Reading.{IsTextOf}
use Rattle.outcome_text.proofs.OneOutcome.{one-outcome}
use Rattle.outcome_text.proofs.reading.read_plain.Goals as goal

pub returns-in-Some-clause-back : goal.returns-in-Some-clause-back
returns-in-Some-clause-back c = λ o is.
    let P : Option Outcome → Type 0 = λ r. IfSome r (IsTextOf c.args.bytes.now) in
    ap (λ p. Some p) (one-outcome c.args.bytes.now c.in-Some.outcome o (subst P c.in-Some.is c.in_ok-outcome.ensures.read) is)
