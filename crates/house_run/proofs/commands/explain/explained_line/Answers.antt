use Rattle.std.proofs.Common.{◌∙◌, ◌∷◌, ap}
use Rattle.std.specs.Prelude.{codes, decimal}
use Rattle.outcome_text.specs.Lines.{line}
use Rattle.house_run.specs.ExplainCommand.{end_words}
use Rattle.house_run.proofs.commands.explain.explained_line.Goals as goal

pub returns : goal.returns
returns c = record {
  end = c.in_ok-end.end;
  explained = c.in_ok-end.ensures.explained;
  truthful = c.in_ok-end.ensures.truthful;
  text_is = ap (λ v. v.items) c.into_bytes.ensures.value ∙ c.in_ok-text.ensures ∙ ap (λ n. line (codes "clock" ∷ decimal n ∷ end_words c.in_ok-end.end)) c.number.ensures.value;
}
