use Rattle.std.proofs.Common.{rules}
use Rattle.serde_json.specs.declared.value.Value.{the_lemmas}
use Rattle.outcome_text.specs.Json.{outcome_object}
use Rattle.outcome_text.proofs.json.outcome_value.Goals as goal

pub returns-in-Ok-json-18 : goal.returns-in-Ok-json-18
unfolding outcome_object
returns-in-Ok-json-18 c = search (rules, the_lemmas)

pub returns-in-Ok-json-8 : goal.returns-in-Ok-json-8
unfolding outcome_object
returns-in-Ok-json-8 c = search (rules, the_lemmas)
