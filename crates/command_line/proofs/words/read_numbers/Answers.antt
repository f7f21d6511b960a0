-- Each piece between two commas is a number, read in order; a piece that is refused is no part of such a list.
use Rattle.std.proofs.Common.{rules, [], ◌++◌, ◌∙◌, ap, sym, arith, map, decimal}
use Rattle.command_line.proofs.Commas.{comma_list-parts, cut, grows, made-numbers, no-cut, refused, whole}
use Rattle.command_line.proofs.words.read_numbers.Goals as goal

pub returns-then-not-branch-clause-none : goal.returns-then-not-branch-clause-none
returns-then-not-branch-clause-none c = λ numbers are e.
    let at = c.in-Some.ensures.byte (omega arith) (λ w o f. f) in
    let split = cut c.loop-piece.rest.now c.in-Some.piece.now c.in-Some.behind.now at.0 at.1 at.2 in
    refused c.args.low c.args.high c.loop-piece.numbers.items c.in-Some.piece.now c.args.word.now numbers _ (omega arith) (c.in_ok-read_piece.ensures.refused c.if-not-branch.true) (ap (λ ps. map decimal c.loop-piece.numbers.items ++ ps) (sym split) ∙ c.loop-piece.invariant.read) are e

pub loop-piece-preserved : goal.loop-piece-preserved
loop-piece-preserved c =
    let at = c.in-Some.ensures.byte (omega arith) (λ w o f. f) in
    let split = cut c.loop-piece.rest.now c.in-Some.piece.now c.in-Some.behind.now at.0 at.1 at.2 in
    let r = c.in_ok-read_piece.ensures.read c.if-not-branch.false in
    record {
      read = grows c.loop-piece.numbers.items c.read_piece.new.numbers.items r.0 c.in-Some.piece.now _ _ r.2 r.1 (ap (λ ps. map decimal c.loop-piece.numbers.items ++ ps) (sym split) ∙ c.loop-piece.invariant.read);
      text = search rules;
      few = c.in_ok-read_piece.ensures.few;
      within = c.in_ok-read_piece.ensures.within;
    }

pub returns-then-not-branch-2-clause-none : goal.returns-then-not-branch-2-clause-none
returns-then-not-branch-2-clause-none c = λ numbers are e.
    let at = c.in_default.ensures.byte (omega arith) (λ w o f. f) in
    let split = no-cut c.loop-piece.rest.now at in
    refused c.args.low c.args.high c.loop-piece.numbers.items c.loop-piece.rest.now c.args.word.now numbers [] (omega arith) (c.in_ok-read_piece-2.ensures.refused c.if-not-branch-2.true) (ap (λ ps. map decimal c.loop-piece.numbers.items ++ ps) (sym split) ∙ c.loop-piece.invariant.read) are e

pub returns-clause-some : goal.returns-clause-some
returns-clause-some c =
    let at = c.in_default.ensures.byte (omega arith) (λ w o f. f) in
    let split = no-cut c.loop-piece.rest.now at in
    let r = c.in_ok-read_piece-2.ensures.read c.if-not-branch-2.false in
    comma_list-parts c.args.word.now c.read_piece-2.new.numbers.items (whole c.read_piece-2.new.numbers.items _ (grows c.loop-piece.numbers.items c.read_piece-2.new.numbers.items r.0 c.loop-piece.rest.now [] _ r.2 r.1 (ap (λ ps. map decimal c.loop-piece.numbers.items ++ ps) (sym split) ∙ c.loop-piece.invariant.read)))

pub returns-clause-numbers : goal.returns-clause-numbers
returns-clause-numbers c =
    let r = c.in_ok-read_piece-2.ensures.read c.if-not-branch-2.false in
    made-numbers c.args.low c.args.high c.loop-piece.numbers.items c.read_piece-2.new.numbers.items r.0 r.2 c.in_ok-read_piece-2.ensures.few c.in_ok-read_piece-2.ensures.within
