use Rattle.std.proofs.Common.{◌≡◌, ◌+◌, ◌∙◌, sym, subst, arith, length, length-append, ap, [], ◌∷◌}
use Rattle.session.specs.Lists.{AreOpened}
use Rattle.session.proofs.Opened.{opened_on, are_clocks}
use Rattle.session.proofs.list_hall.ListHall.open.Goals as goal

pub loop-number-preserved : goal.loop-number-preserved
loop-number-preserved c =
    let i = c.loop-number.invariant in
    let items = c.in-Ok.ensures.items in
    let size = length-append c.loop-number.clocks.items (c.in_ok-clock.clock ∷ []) in
    let n = ap length items in
    let count = i.count in
    record {
      opened = subst (AreOpened c.args.terms.now 0) (sym items) (opened_on c.args.terms.now 0 c.loop-number.clocks.items c.in_ok-clock.clock i.opened
          (c.in_ok-clock.ensures ∙ (let z : c.loop-number.number ≡ 0 + length c.loop-number.clocks.items = omega (arith, count) in λ j. record { terms = c.args.terms.now; number = z j; reports = [] })));
      count = omega (arith, size, n, count);
    }

pub returns-clause-order : goal.returns-clause-order
returns-clause-order c =
    let count = c.loop-number.invariant.count in
    let done = c.loop-number-test.false in
    let last = c.loop-number.auto.number-end in
    (are_clocks c.args.terms.now c.loop-number.clocks.items c.loop-number.invariant.opened (omega (arith, count, done, last))).0

pub returns-clause-supply : goal.returns-clause-supply
returns-clause-supply c =
    let count = c.loop-number.invariant.count in
    let done = c.loop-number-test.false in
    let last = c.loop-number.auto.number-end in
    (are_clocks c.args.terms.now c.loop-number.clocks.items c.loop-number.invariant.opened (omega (arith, count, done, last))).1
