use Rattle.std.proofs.Common.{◌∙◌, length, arith, ap}
use Rattle.std.specs.Prelude.{slice_index, ◌==◌, filter}
use Rattle.std.specs.List.{concat}
use Rattle.std.proofs.lemmas.List.{take_all}
use Rattle.lot_base.specs.Box.{box, index_of}
use Rattle.lot_base.proofs.Index.{length-box}
use Rattle.valuation.proofs.collecting.collect.Goals as goal

pub returns : goal.returns
returns c =
    c.in_ok-collect_within.ensures ∙ ap (λ xs. concat (filter (λ x. slice_index c.args.worth.now (index_of c.args.goods.now x) == c.args.best) xs))
    (take_all (length c.args.worth.now) (box c.args.goods.now) (let e = length-box c.args.goods.now in let w = c.requires in omega (arith, e, w)))
