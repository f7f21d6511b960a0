use Rattle.std.proofs.Common.{◌≤◌, ◌<◌, ◌+◌, length, Option, subst, sym, arith}
use Rattle.std.specs.Prelude.{IfSome}
use Rattle.lot_base.specs.Economy.{IsStrongSubstitutes}
use Rattle.exchange_check.specs.Verdicts.{IsRight}
use Rattle.exchange_check.specs.declared.verdict.Verdict.{Verdict}
use Rattle.trial.specs.Bidding.{bidders_of}
use Rattle.trial.proofs.Sharing.{substitutes-next}
use Rattle.trial.proofs.Whole.{each-bidder}
use Rattle.trial.proofs.workers.judge.Goals as goal
use Rattle.trial.proofs.workers.judge.Goals.{in-Some, in-None}

pub loop-place-preserved : goal.loop-place-preserved
loop-place-preserved c =
    let u = bidders_of c.args.terms.now.goods c.args.valuations.now in
    let goods = c.args.terms.now.goods in
    let v = u (c.loop-place.place + 1) in
    let P : Option Verdict → Type 0 = λ o. IfSome o (IsRight goods v) in
    let within : c.loop-place.place < length c.args.verdicts.now = omega (arith, c.loop-place-test.true, c.requires.verdicts.count) in
    let right : IsRight goods v c.match-verdicts-place.verdict = elim c.match-verdicts-place.branch [
      | in-Some w ↦ subst (IsRight goods v) (sym w.verdict-is) (subst P w.in-Some.is (c.requires.verdicts.each c.loop-place.place _ within))
      | in-None w ↦ subst (IsRight goods v) (sym w.verdict-is) w.verdict_of-verdict.ensures
    ] in
    substitutes-next c.args.terms.now u c.loop-place.place c.loop-place.invariant (subst (IsRight goods v) c.in_default.is right)

pub returns-clause-substitutes : goal.returns-clause-substitutes
returns-clause-substitutes c =
    let terms = c.args.terms.now in
    let end : terms.bidders ≤ c.loop-place.place = omega (arith, c.loop-place-test.false) in
    each-bidder (λ j. IsStrongSubstitutes terms.goods (bidders_of terms.goods c.args.valuations.now j)) terms.bidders (λ j low high. c.loop-place.invariant j low (omega (arith, high, end)))
