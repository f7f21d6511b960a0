use Rattle.std.proofs.Common.{rules}
use Rattle.turn_desk.proofs.Rounds.{after_one}
use Rattle.turn_desk_tests.proofs.tests.write_numbers.Goals as goal

pub loop-place-preserved : goal.loop-place-preserved
loop-place-preserved g c =
    let w = c.write-before.ensures in record {
      all = after_one c.args.desk.now.id c.loop-place.passes.items c.loop-place.place _ c.write-before.new.pass c.loop-place.invariant.all (search rules) c.index_mut.ensures.value w.desk w.rests w.made;
      len = search rules;
    }
