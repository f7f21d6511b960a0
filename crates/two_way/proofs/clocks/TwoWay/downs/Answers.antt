use Rattle.std.proofs.Common.{ℕ, ◌+◌, sym, subst, ◌∙◌}
use Rattle.std.specs.Prelude.{pos, ◌≤ℤ◌}
use Rattle.two_way.specs.Standing.{steps_of, ups_after}
use Rattle.two_way.specs.Explained.{lyapunov_of}
use Rattle.two_way.proofs.Keeping.{kept-start, kept-downs}
use Rattle.two_way.proofs.Truthful.{from-start, few-steps}
use Rattle.two_way.proofs.clocks.TwoWay.downs.Goals as goal

pub returns-clause-value : goal.returns-clause-value
returns-clause-value c = c.steps.ensures ∙ kept-downs _ c.args.self.now c.self.inside.begin c.self.inside.standing c.self.invariant.0 c.self.view_is

pub returns-clause-bound : goal.returns-clause-bound
returns-clause-bound c = λ u explains.
    let h = c.args.self.now in
    let P : ℕ → Type 0 = λ n. pos (ups_after h (steps_of h) + n) ≤ℤ lyapunov_of u h h.start in
    let value = c.steps.ensures ∙ kept-downs _ h c.self.inside.begin c.self.inside.standing c.self.invariant.0 c.self.view_is in
    subst P (sym value) (few-steps u h (from-start u h (kept-start _ h c.self.inside.begin c.self.inside.standing c.self.invariant.0 c.self.view_is) explains))
