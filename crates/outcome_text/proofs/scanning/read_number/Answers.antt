use Rattle.std.proofs.Common.{◌∙◌, ap, sym}
use Rattle.outcome_text.specs.Numbers.{number_in}
use Rattle.outcome_text.proofs.NumberWords.{number_in-parsed, number_in-no_text}
use Rattle.outcome_text.proofs.scanning.read_number.Goals as goal

pub returns-in-Ok : goal.returns-in-Ok
returns-in-Ok c =
    c.ok.ensures.value ∙ number_in-parsed c.in-Ok.word.now c.parse.result c.parse.ensures.value.0 ∙ ap number_in c.in-Ok.ensures.cases.0

pub returns-in-Err : goal.returns-in-Err
returns-in-Err c = sym (number_in-no_text c.args.word.now c.in-Err.ensures.cases.0)
