use Rattle.std.proofs.Common.{◌≡◌, ◌+◌, ◌*◌, ℕ, length, subst, arith}
use Rattle.valuation.specs.Carried.{AreSteady}
use Rattle.valuation.proofs.Steady.{steady-both, fits-fewer}
use Rattle.valuation.proofs.steadiness.lasts.Goals as goal

pub loop-group-preserved : goal.loop-group-preserved
loop-group-preserved c =
    let first = c.loop-group.group * 32 in
    let S : ℕ → Type 0 = λ last. AreSteady c.args.worth.now c.args.units.now c.args.best c.args.least first last c.lasts_in-limit.result in
    let one : first + 32 ≡ (c.loop-group.group + 1) * 32 = omega arith in
    record {
      fits = fits-fewer c.args.least c.loop-group.limit c.lasts_in-limit.result c.lasts_in-limit.ensures.fewer c.loop-group.invariant.fits;
      steady = steady-both c.args.worth.now c.args.units.now c.args.best c.args.least 0 first ((c.loop-group.group + 1) * 32) c.loop-group.limit c.lasts_in-limit.result c.lasts_in-limit.ensures.fewer c.loop-group.invariant.steady (subst S one c.lasts_in-limit.ensures.steady);
    }

pub returns : goal.returns
returns c =
    let S : ℕ → Type 0 = λ last. AreSteady c.args.worth.now c.args.units.now c.args.best c.args.least 0 last c.loop-group.limit in
    steady-both c.args.worth.now c.args.units.now c.args.best c.args.least 0 _ (length c.args.worth.now) c.loop-group.limit c.lasts_within.result c.lasts_within.ensures.fewer (subst S (omega arith) c.loop-group.invariant.steady) c.lasts_within.ensures.steady
