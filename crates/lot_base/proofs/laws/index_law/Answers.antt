use Rattle.lot_base.proofs.Index.{bundle_at-index_of, bundle_at-within, index_of-bundle_at}
use Rattle.lot_base.proofs.laws.index_law.Goals as goal

pub returns-clause-bundle : goal.returns-clause-bundle
returns-clause-bundle c = λ supply x within. bundle_at-index_of supply x within

pub returns-clause-place : goal.returns-clause-place
returns-clause-place c = λ supply place below. (bundle_at-within supply place below, index_of-bundle_at supply place below)
