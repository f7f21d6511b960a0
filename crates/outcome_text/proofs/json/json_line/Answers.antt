use Rattle.std.proofs.Common.{◌∙◌, ap, ◌++◌, codes}
use Rattle.serde_json.specs.Written.{has_float, compact_text}
use Rattle.outcome_text.specs.Json.{json_text}
use Rattle.outcome_text.proofs.JsonText.{no-float}
use Rattle.outcome_text.proofs.json.json_line.Goals as goal

pub returns : goal.returns
unfolding json_text
returns c =
    let seen = c.in_ok-value.ensures in
    let text = c.in_ok-text.ensures.text (ap has_float seen ∙ no-float c.args.outcome.now) in
    c.in_ok-push_str.ensures.bytes ∙ ap (λ t. t ++ codes "\n") (text ∙ ap compact_text seen)
