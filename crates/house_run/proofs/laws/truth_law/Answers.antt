use Rattle.settlement.proofs.TruthPays.{gain-best}
use Rattle.house_run.proofs.Among.{among}
use Rattle.house_run.proofs.laws.truth_law.Goals as goal

pub returns-clause-among : goal.returns-clause-among
returns-clause-among c = among

pub returns-clause-best : goal.returns-clause-best
returns-clause-best c i u shelf other auction journals file folder terms histories told o s from last are settles others truth lied ends liars =
    gain-best i u terms histories told o s (among i u shelf auction journals terms histories from last are others) truth settles.outcome (among i u other file folder terms told from last lied liars) ends.outcome
