use Rattle.std.proofs.Common.{Some, arith}
use Rattle.trial.specs.Bidding.{bidders_of}
use Rattle.trial.proofs.Sharing.{clock-last, bidder-last, those-before, told-set, verdict-set}
use Rattle.trial.proofs.workers.place_part.Goals as goal

pub index_mut-requires : goal.index_mut-requires
index_mut-requires c =
    let i = c.loop-piece.invariant in
    let own = clock-last c.args.terms.now (bidders_of c.args.terms.now.goods c.args.valuations.now) c.pop.new.self.items c.loop-piece.part.items c.in-Some.piece c.in-Some.ensures.items i.left c.in-Clock.number c.in-Clock.told c.in-Clock.is in
    let count = i.placed.told.count in
    omega (arith, own.0, count)

pub loop-piece-preserved-in-Clock-3 : goal.loop-piece-preserved-in-Clock-3
loop-piece-preserved-in-Clock-3 c =
    let i = c.loop-piece.invariant in
    let u = bidders_of c.args.terms.now.goods c.args.valuations.now in
    let own = clock-last c.args.terms.now u c.pop.new.self.items c.loop-piece.part.items c.in-Some.piece c.in-Some.ensures.items i.left c.in-Clock.number c.in-Clock.told c.in-Clock.is in
    record {
      left = those-before c.args.terms.now u c.pop.new.self.items c.loop-piece.part.items c.in-Some.piece c.in-Some.ensures.items i.left;
      placed = record { told = told-set c.args.terms.now u c.loop-piece.placed.told.items c.in-Clock.number (Some c.in-Clock.told) own.0 own.1 i.placed.told; verdicts = i.placed.verdicts };
    }

pub loop-piece-preserved-in-Clock-2 : goal.loop-piece-preserved-in-Clock-2
loop-piece-preserved-in-Clock-2 c =
    let i = c.loop-piece.invariant in
    let u = bidders_of c.args.terms.now.goods c.args.valuations.now in
    let own = clock-last c.args.terms.now u c.pop.new.self.items c.loop-piece.part.items c.in-Some.piece c.in-Some.ensures.items i.left c.in-Clock.number c.in-Clock.told c.in-Clock.is in
    record {
      left = those-before c.args.terms.now u c.pop.new.self.items c.loop-piece.part.items c.in-Some.piece c.in-Some.ensures.items i.left;
      placed = record { told = told-set c.args.terms.now u c.loop-piece.placed.told.items c.in-Clock.number (Some c.in-Clock.told) own.0 own.1 i.placed.told; verdicts = i.placed.verdicts };
    }

pub loop-piece-preserved-in-Clock : goal.loop-piece-preserved-in-Clock
loop-piece-preserved-in-Clock c =
    let i = c.loop-piece.invariant in
    let u = bidders_of c.args.terms.now.goods c.args.valuations.now in
    let own = clock-last c.args.terms.now u c.pop.new.self.items c.loop-piece.part.items c.in-Some.piece c.in-Some.ensures.items i.left c.in-Clock.number c.in-Clock.told c.in-Clock.is in
    record {
      left = those-before c.args.terms.now u c.pop.new.self.items c.loop-piece.part.items c.in-Some.piece c.in-Some.ensures.items i.left;
      placed = record { told = told-set c.args.terms.now u c.loop-piece.placed.told.items c.in-Clock.number (Some c.in-Clock.told) own.0 own.1 i.placed.told; verdicts = i.placed.verdicts };
    }

pub overflow_sub-number : goal.overflow_sub-number
overflow_sub-number c =
    let i = c.loop-piece.invariant in
    (bidder-last c.args.terms.now (bidders_of c.args.terms.now.goods c.args.valuations.now) c.pop.new.self.items c.loop-piece.part.items c.in-Some.piece c.in-Some.ensures.items i.left c.in-Bidder.number c.in-Bidder.verdict c.in-Bidder.is).from_one

pub index_mut-requires-in-Bidder : goal.index_mut-requires-in-Bidder
index_mut-requires-in-Bidder c =
    let i = c.loop-piece.invariant in
    let own = bidder-last c.args.terms.now (bidders_of c.args.terms.now.goods c.args.valuations.now) c.pop.new.self.items c.loop-piece.part.items c.in-Some.piece c.in-Some.ensures.items i.left c.in-Bidder.number c.in-Bidder.verdict c.in-Bidder.is in
    let count = i.placed.verdicts.count in
    let first = own.from_one in
    let end = own.to_last in
    omega (arith, first, end, count)

pub loop-piece-preserved : goal.loop-piece-preserved
loop-piece-preserved c =
    let i = c.loop-piece.invariant in
    let u = bidders_of c.args.terms.now.goods c.args.valuations.now in
    let own = bidder-last c.args.terms.now u c.pop.new.self.items c.loop-piece.part.items c.in-Some.piece c.in-Some.ensures.items i.left c.in-Bidder.number c.in-Bidder.verdict c.in-Bidder.is in
    record {
      left = those-before c.args.terms.now u c.pop.new.self.items c.loop-piece.part.items c.in-Some.piece c.in-Some.ensures.items i.left;
      placed = record { told = i.placed.told; verdicts = verdict-set c.args.terms.now u c.loop-piece.placed.verdicts.items c.in-Bidder.number c.in-Bidder.verdict own i.placed.verdicts };
    }
