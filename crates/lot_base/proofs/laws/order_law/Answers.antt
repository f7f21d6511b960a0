use Rattle.lot_base.proofs.Ascending.{IsAscending-box}
use Rattle.lot_base.proofs.Index.{length-box, box-index_of}
use Rattle.lot_base.proofs.laws.order_law.Goals as goal

pub returns-clause-ascending : goal.returns-clause-ascending
returns-clause-ascending c = λ supply. IsAscending-box supply

pub returns-clause-size : goal.returns-clause-size
returns-clause-size c = λ supply. length-box supply

pub returns-clause-place : goal.returns-clause-place
returns-clause-place c = λ supply x within. box-index_of supply x within
