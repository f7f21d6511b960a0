use Rattle.house_lives.proofs.Again.{joined}
use Rattle.house_lives.proofs.living.live.Goals as goal

pub returns-clause-joins : goal.returns-clause-joins
returns-clause-joins g c = joined _ _ _ _ _ c.run.ensures.ends
