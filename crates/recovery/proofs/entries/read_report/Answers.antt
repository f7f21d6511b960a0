use Rattle.std.proofs.Common.{◌≡◌, ◌∙◌, ℕ, List, true, false, sym, subst}
use Rattle.std.specs.Prelude.{IfOk, IfSome, IfNone}
use Rattle.recovery.specs.Entries.{Spells, SpellsNone}
use Rattle.recovery.proofs.Spelling.{spelled-formed}
use Rattle.recovery.proofs.entries.read_report.Goals as goal

pub returns-in-None-clause-none : goal.returns-in-None-clause-none
returns-in-None-clause-none c r spells =
    let e : false ≡ true = sym c.in-None.ensures ∙ spelled-formed c.args.terms.now c.args.payload.now r spells in cc

pub returns-in-Some-clause-some : goal.returns-in-Some-clause-some
returns-in-Some-clause-some c =
    subst (λ (payload : List ℕ). IfOk c.report_of.result (λ o. IfSome o (Spells c.args.terms.now payload))) c.in-Some.ensures.1 c.report_of.ensures.some

pub returns-in-Some-clause-none : goal.returns-in-Some-clause-none
returns-in-Some-clause-none c =
    subst (λ (payload : List ℕ). IfOk c.report_of.result (λ o. IfNone o (SpellsNone c.args.terms.now payload))) c.in-Some.ensures.1 c.report_of.ensures.none

pub report_of-requires : goal.report_of-requires
report_of-requires c = c.in-Some.ensures.2
