use Rattle.std.proofs.Common.{◌≢◌, ◌<◌, ◌∙◌, refl, arith, length, length-set, get_or-set_other, get_or-set_same, below_more}
use Rattle.demand_set.proofs.quantities.copy_sets.Goals as goal

pub loop-set-preserved : goal.loop-set-preserved
loop-set-preserved c =
    let here : c.loop-set.set < length c.loop-set.into = (let n = c.loop-set.invariant.places in let few = c.sets_of-set-end.ensures.few in let t = c.loop-set-test.true in omega arith) in
    record {
      kept = below_more _ _
          (λ k below. let ne : k ≢ c.loop-set.set = omega arith in rw get_or-set_other (c.loop-set.invariant.kept k below))
          (rw get_or-set_same refl);
      places = length-set c.loop-set.into c.loop-set.set _ ∙ c.loop-set.invariant.places;
      others = λ k above. let ne : k ≢ c.loop-set.set = omega arith in rw get_or-set_other (c.loop-set.invariant.others k (omega arith));
    }

pub returns : goal.returns
returns c = record {
  entries = λ set below. c.loop-set.invariant.kept set (omega (arith, below, c.sets_of-set-end.ensures.sets, c.loop-set-test.false));
  others = λ set above. c.loop-set.invariant.others set (omega (arith, above, c.sets_of-set-end.ensures.sets, c.loop-set.auto.set-end));
}
