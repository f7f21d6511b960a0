use Rattle.std.proofs.Common.{refl}
use Rattle.recovery.specs.Entries.{payload_of}
use Rattle.report_log.proofs.laws.entry_examples.Goals as goal

pub returns-clause-one_good : goal.returns-clause-one_good
unfolding payload_of
returns-clause-one_good c = refl

pub returns-clause-two_goods : goal.returns-clause-two_goods
unfolding payload_of
returns-clause-two_goods c = refl
