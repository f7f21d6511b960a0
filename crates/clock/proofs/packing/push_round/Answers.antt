use Rattle.std.proofs.Common.{◌≡◌, ◌∙◌, ◌+◌, ◌∷◌, ◌&&◌, not, [], List, true, false, nat_eq, sym, ap, subst, arith, length, length-append, take, drop}
use Rattle.std.specs.Prelude.{map, find, is_some, nat_le}
use Rattle.std.proofs.lemmas.Bool.Decides.{nat_tests}
use Rattle.std.proofs.lemmas.List.{length-map}
use Rattle.demand_set.specs.declared.reports.Report.{Report}
use Rattle.clock.specs.Past.{PastOf, again_among, with_again}
use Rattle.clock.specs.Reports.{members}
use Rattle.clock.specs.Tables.{is_member_of}
use Rattle.clock.proofs.FirstMembers.{members-with, members-without, members-up}
use Rattle.clock.proofs.Stored.{slice-front, round-next}
use Rattle.clock.proofs.packing.push_round.Goals as goal
use Rattle.clock.proofs.packing.push_round.Goals.{then-bidder-clock, else-bidder-clock}

pub push_again-requires-clause-room : goal.push_again-requires-clause-room
push_again-requires-clause-room c =
    let old = c.args.past.now in
    let step = c.loop-step.step in
    let l = ap (λ (p : PastOf). p.spare_reports) c.loop-step.invariant in
    let m = length-map (members step c.args.clock) (again_among (take c.args.reports (drop c.args.from old.reports)) c.args.round) in
    let w = ap length (members-with step c.args.clock c.if-bidder-clock.true) ∙ length-append (members step c.args.clock) ((step + 1) ∷ []) in
    let test = c.loop-step-test.true in
    let up = members-up (step + 1) c.args.bidders c.args.clock (omega arith) in
    let room = c.requires.room in
    omega (arith, l, m, w, up, room)

pub push_again-requires-clause-inside : goal.push_again-requires-clause-inside
push_again-requires-clause-inside c =
    let old = c.args.past.now in
    let l = ap (λ (p : PastOf). length p.reports) c.loop-step.invariant ∙ length-append old.reports (map (again_among (take c.args.reports (drop c.args.from old.reports)) c.args.round) (members c.loop-step.step c.args.clock)) in
    let inside = c.requires.inside in
    omega (arith, l, inside)

pub push_again-requires-clause-there : goal.push_again-requires-clause-there
push_again-requires-clause-there c =
    let old = c.args.past.now in
    let j = c.loop-step.step + 1 in
    let test = c.loop-step-test.true in
    let other = c.if-bidder-clock.true in
    let a : nat_le 1 j ≡ true = grind (arith, nat_tests) in
    let b : nat_le j c.args.bidders ≡ true = grind (arith, nat_tests) in
    let d : nat_eq j c.args.clock ≡ false = grind (arith, nat_tests) in
    let member : is_member_of c.args.bidders c.args.clock j ≡ true = λ i. a i && (b i && not (d i)) in
    let slice : take c.args.reports (drop c.args.from c.loop-step.past.reports) ≡ take c.args.reports (drop c.args.from old.reports) =
    ap (λ (p : PastOf). take c.args.reports (drop c.args.from p.reports)) c.loop-step.invariant ∙ slice-front c.args.from c.args.reports old.reports _ c.requires.inside in
    let S : List Report → Type 0 = λ rs. is_some (find (λ (r : Report). nat_eq r.bidder j) rs) ≡ true in
    subst S (sym slice) (c.requires.there j member)

pub loop-step-preserved : goal.loop-step-preserved
loop-step-preserved c =
    let old = c.args.past.now in
    let step = c.loop-step.step in
    let among = again_among (take c.args.reports (drop c.args.from old.reports)) c.args.round in
    elim c.if-bidder-clock.branch [
      | then-bidder-clock w ↦ w.past-is
          ∙ round-next old c.loop-step.past w.push_again.new.self c.args.from c.args.reports c.args.round (step + 1) (members step c.args.clock) c.requires.inside c.loop-step.invariant w.push_again.ensures
          ∙ ap (λ ms. with_again old (map among ms)) (sym (members-with step c.args.clock w.if-bidder-clock.true))
      | else-bidder-clock w ↦ w.past-is ∙ c.loop-step.invariant ∙ ap (λ ms. with_again old (map among ms)) (sym (members-without step c.args.clock w.if-bidder-clock.false))
    ]
