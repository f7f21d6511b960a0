use Rattle.report_wire.specs.Messages.{to_bidder}
use Rattle.report_wire.specs.Forms.{bidder_is}
use Rattle.report_wire.proofs.Streams.{no_prefix, one_reading}
use Rattle.report_wire.proofs.laws.to_bidder_is_read_in_one_way.Goals as goal

pub returns-clause-prefix : goal.returns-clause-prefix
returns-clause-prefix c m n x y is_m is_n same = no_prefix to_bidder bidder_is m n x y is_m is_n same

pub returns-clause-one : goal.returns-clause-one
returns-clause-one c ms ns stream r t f g one two = one_reading to_bidder bidder_is ms ns stream r t f g one two
