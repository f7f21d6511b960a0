use Rattle.house_lives.proofs.Moving.{moved-lives, moved-settle, moved-standing}
use Rattle.house_lives.proofs.laws.moved_law.Goals as goal

pub returns-clause-lives : goal.returns-clause-lives
returns-clause-lives c = moved-lives

pub returns-clause-settled : goal.returns-clause-settled
returns-clause-settled c = moved-settle

pub returns-clause-standing : goal.returns-clause-standing
returns-clause-standing c = moved-standing
