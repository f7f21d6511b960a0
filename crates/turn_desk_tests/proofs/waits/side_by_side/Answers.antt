use Rattle.std.proofs.Common.{rules}
use Rattle.turn_desk_tests.proofs.Crowds.{after_all}
use Rattle.turn_desk_tests.proofs.waits.side_by_side.Goals as goal

pub returns : goal.returns
returns g c = record {
  all = after_all c.args.desk.now.id c.args.passes.now.items c.deref_mut.result.now c.for_each_mut.new.s c.args.passes.now.len (search rules) (search rules) c.requires.all (search rules) (λ i d lt. let k = (c.for_each_mut.ensures i d lt).1 in record { desk = search rules; rests = search rules; made = search rules });
}
