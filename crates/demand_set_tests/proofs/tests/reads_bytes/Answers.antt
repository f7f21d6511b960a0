use Rattle.std.proofs.Common.{lit≤, refl}
use Rattle.demand_set_tests.proofs.tests.reads_bytes.Goals as goal

pub read_bytes-requires : goal.read_bytes-requires
read_bytes-requires g c = record { some_good = lit≤ tt; few_goods = lit≤ tt; count = 2; whole = refl }
