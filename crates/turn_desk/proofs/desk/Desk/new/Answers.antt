use Rattle.std.proofs.Common.{rules, ◌≡◌, ◌∷◌, [], ◌++◌, ◌+◌, sym, subst, set}
use Rattle.turn_desk.specs.Passes.{AreNew}
use Rattle.turn_desk.proofs.Gathering.{more_new, all_new}
use Rattle.turn_desk.proofs.desk.Desk.new.Goals as goal

pub loop-number-preserved : goal.loop-number-preserved
loop-number-preserved g c =
    let i = c.loop-number.invariant in let s = c.split-next.ensures in
    let is : c.push_reserved-in-loop-number.new.self.items ≡ set c.loop-number.list.items 0 c.split-next.new.first ++ c.split-next.result ∷ [] = search rules in
    record {
      len = search rules;
      room = search rules;
      passes = subst (AreNew (c.loop-number.number + 1) _ (g.B.Book.history c.args.book) (g.B.Book.origin c.args.book)) (sym is)
          (more_new _ (g.B.Book.history c.args.book) (g.B.Book.origin c.args.book) c.loop-number.number c.loop-number.list.items _ c.split-next.new.first c.split-next.result i.passes (search rules) c.index_mut.ensures.value s.first s.new);
    }

pub returns-after-loop-number-clause-all : goal.returns-after-loop-number-clause-all
returns-after-loop-number-clause-all g c = let i = c.loop-number.invariant in
    all_new _ (g.B.Book.history c.args.book) (g.B.Book.origin c.args.book) c.loop-number.number c.loop-number.list.items (search rules) i.passes
