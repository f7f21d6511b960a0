use Rattle.std.proofs.Common.{Option, List, ℕ, subst}
use Rattle.std.specs.Prelude.{IfSome}
use Rattle.lot_base.specs.Demands.{IsDemand}
use Rattle.clock.proofs.Excesses.{small-table}
use Rattle.clock.proofs.clocks.count_demand.Goals as goal

pub add_table-requires-clause-small : goal.add_table-requires-clause-small
add_table-requires-clause-small c =
    let F : Option (List (List ℕ)) → Type 0 = λ told. IfSome told (IsDemand c.args.goods.now) in
    small-table c.args.goods.now c.in-Some.demand c.least_table-table.result.0 c.requires.supply (subst F c.in-Some.is c.requires.fits) c.least_table-table.ensures.table

pub replace_table-requires-clause-small_new : goal.replace_table-requires-clause-small_new
replace_table-requires-clause-small_new c =
    let F : Option (List (List ℕ)) → Type 0 = λ told. IfSome told (IsDemand c.args.goods.now) in
    small-table c.args.goods.now c.in-Some.demand c.least_table-table.result.0 c.requires.supply (subst F c.in-Some.is c.requires.fits) c.least_table-table.ensures.table
