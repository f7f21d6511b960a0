use Rattle.std.proofs.Common.{[], ◌∷◌, length, ap, sym, ◌∙◌}
use Rattle.std.proofs.lemmas.List.{length-replicate}
use Rattle.rationale.specs.Observations.{Observation}
use Rattle.rationale.proofs.Extending.{one_line, one_seen}
use Rattle.rationale.proofs.lines.Line.new.Goals as goal

pub returns-clause-line : goal.returns-clause-line
returns-clause-line c =
    one_line c.args.goods.now c.args.prices.now c.zero.result c.requires.goods (ap length c.zero.ensures ∙ length-replicate (length c.args.goods.now) 0) c.requires.low

pub returns-clause-seen : goal.returns-clause-seen
returns-clause-seen c = λ bundles.
    ap (λ (o : Observation). o ∷ []) (one_seen bundles c.args.prices.now c.args.prices.now c.zero.result
    (c.requires.goods ∙ sym (ap length c.zero.ensures ∙ length-replicate (length c.args.goods.now) 0)))
