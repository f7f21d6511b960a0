use Rattle.std.proofs.Common.{drop, ◌<◌, ◌^◌, ◌+◌, ℕ, length, inl, refl, sym, ◌∙◌, ap, subst}
use Rattle.clock.specs.Standing.{good_from}
use Rattle.lot_base.specs.Goods.{raised}
use Rattle.clock.specs.Reports.{members, demands_in}
use Rattle.clock.proofs.Path.{step-below}
use Rattle.two_way.proofs.Adding.{adds-up}
use Rattle.two_way.proofs.next_step.Standing.turn_up.Goals as goal

pub add-requires-clause-set : goal.add-requires-clause-set
add-requires-clause-set c =
    let t = c.args.terms.now in
    let S : ℕ → Type 0 = λ set. set < 2 ^ length t.goods in
    subst S (sym c.requires.set) (step-below t.goods (members t.bidders c.args.clock) (demands_in (drop c.args.from c.args.reports.now.reports) (c.args.self.now.steps + 1)))

pub add-requires-clause-room : goal.add-requires-clause-room
add-requires-clause-room c =
    c.requires.room.up c.requires.up (λ none. c.requires.some (c.requires.set ∙ none)) (ap (λ set. good_from 0 c.args.terms.now.ceiling c.args.self.now.prices set) (sym c.requires.set) ∙ sym c.in-None.ensures)

pub returns-in-None : goal.returns-in-None
returns-in-None c =
    let t = c.args.terms.now in
    let s = c.args.self.now in
    let d = demands_in (drop c.args.from c.args.reports.now.reports) (s.steps + 1) in
    let js = members t.bidders c.args.clock in
    let is = c.requires.set in
    inl (record {
      up = c.requires.up;
      some = λ none. c.requires.some (is ∙ none);
      free = ap (λ set. good_from 0 t.ceiling s.prices set) (sym is) ∙ sym c.in-None.ensures;
      steps = refl;
      was_down = c.requires.up;
      phase = refl;
      prices = c.raise-self.ensures ∙ ap (raised s.prices) is;
      ups = c.add.ensures.steps;
      added = adds-up t.goods d t.bidders c.args.clock c.args.set.0 c.args.least.now s.up c.add.new.self t.bidders_in_range.at_most c.requires.set c.requires.least c.add.ensures.sums;
      down = refl;
    })
