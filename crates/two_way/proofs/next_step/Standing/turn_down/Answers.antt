use Rattle.std.proofs.Common.{drop, ◌+◌, inl, inr, refl, sym, ◌∙◌, ap}
use Rattle.lot_base.specs.Goods.{lowered}
use Rattle.clock.specs.Reports.{members, demands_in}
use Rattle.two_way.proofs.Adding.{are-most, adds-down}
use Rattle.two_way.proofs.FallSets.{greatest-is, priced-risen}
use Rattle.two_way.proofs.next_step.Standing.turn_down.Goals as goal

pub most_short-requires-clause-most : goal.most_short-requires-clause-most
most_short-requires-clause-most c =
    let t = c.args.terms.now in
    let d = demands_in (drop c.args.from c.args.reports.now.reports) (c.args.self.now.steps + 1) in
    record { demands = d; members = members t.bidders c.args.clock; are = are-most t.goods d t.bidders c.args.clock c.demanded-greatest.result c.demanded-greatest.ensures }

pub add-requires-clause-room : goal.add-requires-clause-room
add-requires-clause-room c =
    let t = c.args.terms.now in
    let s = c.args.self.now in
    let d = demands_in (drop c.args.from c.args.reports.now.reports) (s.steps + 1) in
    let js = members t.bidders c.args.clock in
    let g = c.most_short.ensures d js (are-most t.goods d t.bidders c.args.clock c.demanded-greatest.result c.demanded-greatest.ensures) in
    c.requires.room.down c.requires.down (λ none. c.if-set-eq0.false (greatest-is t.goods t.opening s.prices d js _ _ g ∙ none))

pub add-requires-clause-set : goal.add-requires-clause-set
add-requires-clause-set c =
    let t = c.args.terms.now in
    let d = demands_in (drop c.args.from c.args.reports.now.reports) (c.args.self.now.steps + 1) in
    (c.most_short.ensures d (members t.bidders c.args.clock) (are-most t.goods d t.bidders c.args.clock c.demanded-greatest.result c.demanded-greatest.ensures)).is_set

pub lower-self-requires : goal.lower-self-requires
lower-self-requires c =
    let t = c.args.terms.now in
    let s = c.args.self.now in
    let d = demands_in (drop c.args.from c.args.reports.now.reports) (s.steps + 1) in
    let g = c.most_short.ensures d (members t.bidders c.args.clock) (are-most t.goods d t.bidders c.args.clock c.demanded-greatest.result c.demanded-greatest.ensures) in
    priced-risen t.opening s.prices c.most_short.result.0.0 (t.opens.goods ∙ sym c.requires.room.goods) g.risen

pub returns-then-set-eq0 : goal.returns-then-set-eq0
returns-then-set-eq0 c =
    let t = c.args.terms.now in
    let s = c.args.self.now in
    let d = demands_in (drop c.args.from c.args.reports.now.reports) (s.steps + 1) in
    let js = members t.bidders c.args.clock in
    let g = c.most_short.ensures d js (are-most t.goods d t.bidders c.args.clock c.demanded-greatest.result c.demanded-greatest.ensures) in
    inr (record { goes_down = c.requires.down; none = sym (greatest-is t.goods t.opening s.prices d js _ _ g) ∙ c.if-set-eq0.true; stays = refl })

pub returns : goal.returns
returns c =
    let t = c.args.terms.now in
    let s = c.args.self.now in
    let d = demands_in (drop c.args.from c.args.reports.now.reports) (s.steps + 1) in
    let js = members t.bidders c.args.clock in
    let g = c.most_short.ensures d js (are-most t.goods d t.bidders c.args.clock c.demanded-greatest.result c.demanded-greatest.ensures) in
    let is = greatest-is t.goods t.opening s.prices d js _ _ g in
    inl (record {
      goes_down = c.requires.down;
      some = λ none. c.if-set-eq0.false (is ∙ none);
      steps = refl;
      was_down = refl;
      phase = refl;
      prices = c.lower-self.ensures ∙ ap (lowered s.prices) is;
      up = refl;
      downs = c.add.ensures.steps;
      added = adds-down t.goods d t.bidders c.args.clock c.most_short.result.0.0 _ c.demanded-greatest.result s.down c.add.new.self t.bidders_in_range.at_most g.is_set is c.demanded-greatest.ensures c.add.ensures.sums;
    })
