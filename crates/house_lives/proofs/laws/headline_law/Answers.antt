use Rattle.house_lives.proofs.Readings.{explain-law, judge-law, settle-law, standing-law}
use Rattle.house_lives.proofs.Through.{lives-law}
use Rattle.house_lives.proofs.laws.headline_law.Goals as goal

pub returns-clause-settled : goal.returns-clause-settled
returns-clause-settled c = λ value auction journals json first lives last after words seen net sink are settling.
    let settles = settle-law value auction journals json last after words seen net sink settling in
    record { settles = settles; keeps = λ k d few. lives-law value auction journals first lives last settles.histories are settles.from_journals k d few }

pub returns-clause-standing : goal.returns-clause-standing
returns-clause-standing c = λ value auction journals first lives last after words seen net sink are standing.
    let tells = standing-law value auction journals last after words seen net sink standing in
    record { tells = tells; keeps = λ k d few. lives-law value auction journals first lives last tells.histories are tells.from_journals k d few }

pub returns-clause-explained : goal.returns-clause-explained
returns-clause-explained c = λ value auction journals first lives last after words seen net sink are explaining.
    let explains = explain-law value auction journals last after words seen net sink explaining in
    record { explains = explains; keeps = λ k d few. lives-law value auction journals first lives last explains.histories are explains.from_journals k d few }

pub returns-clause-judged : goal.returns-clause-judged
returns-clause-judged c = λ value auction journals bidder first lives last after words seen net sink are judging.
    let judges = judge-law value auction journals bidder last after words seen net sink judging in
    record { judges = judges; keeps = λ k d few. lives-law value auction journals first lives last judges.histories are judges.from_journals k d few }
