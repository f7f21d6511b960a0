use Rattle.trial.specs.Bidding.{bidders_of}
use Rattle.trial.proofs.Bidders.{known}
use Rattle.two_way.proofs.Bidders.{float-whole, floated-as}
use Rattle.two_way.proofs.floating.float_all.Goals as goal

pub returns : goal.returns
returns c =
    let terms = c.args.terms.now in
    let clocks = c.in_ok-clocks.clocks.items in
    float-whole (bidders_of terms.goods c.args.valuations.now) terms c.args.start.now clocks _ _ c.from_vec.result (known terms c.args.valuations.now c.requires.valuations c.requires.substitutes) c.requires.substitutes c.requires.start c.in_ok-clocks.ensures
    (floated-as clocks c.as_slice-2.result.now c.in_ok-choices.choices.items c.as_slice-3.result.now c.from_vec.result _ _ c.as_slice-2.ensures.value c.as_slice-3.ensures.value c.from_vec.ensures c.in_ok-awarded.ensures)
