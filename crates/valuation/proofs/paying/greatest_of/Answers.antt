use Rattle.std.proofs.Common.{◌∙◌, sym, arith, ap, max}
use Rattle.std.specs.Prelude.{slice_index}
use Rattle.std.proofs.lemmas.List.{take_all}
use Rattle.valuation.specs.Carried.{greatest}
use Rattle.valuation.proofs.Greatest.{greatest-more}
use Rattle.valuation.proofs.paying.greatest_of.Goals as goal

pub loop-place-preserved : goal.loop-place-preserved
loop-place-preserved c =
    c.max-best.ensures ∙ ap (λ n. max n (slice_index c.args.worth.now c.loop-place.place)) c.loop-place.invariant ∙ sym (greatest-more c.args.worth.now c.loop-place.place c.loop-place-test.true)

pub returns : goal.returns
returns c = c.loop-place.invariant ∙ ap greatest (take_all c.loop-place.place c.args.worth.now (omega arith))
