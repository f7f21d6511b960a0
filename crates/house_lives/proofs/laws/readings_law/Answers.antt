use Rattle.house_lives.proofs.Readings.{explain-law, judge-law, settle-law, standing-law}
use Rattle.house_lives.proofs.laws.readings_law.Goals as goal

pub returns-clause-settle : goal.returns-clause-settle
returns-clause-settle c = settle-law

pub returns-clause-standing : goal.returns-clause-standing
returns-clause-standing c = standing-law

pub returns-clause-explain : goal.returns-clause-explain
returns-clause-explain c = explain-law

pub returns-clause-judge : goal.returns-clause-judge
returns-clause-judge c = judge-law
