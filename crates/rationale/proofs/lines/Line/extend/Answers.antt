use Rattle.std.proofs.Common.{◌≡◌, refl, inl, inr, arith}
use Rattle.std.specs.Prelude.{Bool, true, false, not}
use lib.Dec.{eqb}
use lib.Pointwise.{pointwise}
use Rattle.std.proofs.lemmas.Bool.{cases_Bool}
use Rattle.demand_set.proofs.Same.{same_slices}
use Rattle.rationale.proofs.Extending.{extended}
use Rattle.rationale.proofs.lines.Line.extend.Goals.{else-self-gt1-via-then-self-gt1+else-ne, else-self-gt1-via-else-self-gt1}
use Rattle.rationale.proofs.lines.Line.extend.Goals as goal

negated : (a b : Bool) → a ≡ not b → a ≡ false → b ≡ true
negated a b e f = elim (cases_Bool b) [ inl t ↦ t | inr n ↦ absurd (let i : not b ≡ true = rw n refl in cc) ]

pub returns-clause-taken : goal.returns-clause-taken
returns-clause-taken c = λ _ supply is low.
    extended supply c.args.self.now c.in-Some.step c.args.prices.now is low c.in-Some.ensures.goods c.requires.goods c.in-Some.ensures.sum
    (λ more. elim c.else-self-gt1.branch [
      | else-self-gt1-via-then-self-gt1+else-ne w ↦
          (same_slices w.as_slice.result.now w.as_slice-then-self-gt1.result.now c.in-Some.step c.args.self.now.step (pointwise eqb w.as_slice.result.now w.as_slice-then-self-gt1.result.now)
          w.as_slice.ensures.value w.as_slice-then-self-gt1.ensures.value refl).0 (negated w.ne.result _ w.ne.ensures w.if-ne.false)
      | else-self-gt1-via-else-self-gt1 w ↦ absurd (let t = w.if-self-gt1.false in omega arith)
    ])
