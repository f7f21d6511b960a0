use Rattle.std.proofs.Common.{inr, refl}
use Rattle.command_line.proofs.PlainWords.{joined-parted, may-be}
use Rattle.house_run.proofs.runs.run_joined.Goals as goal

pub run_parted-requires-clause-some : goal.run_parted-requires-clause-some
run_parted-requires-clause-some g c = λ places outlive.
    (c.requires.joined.0, joined-parted c.requires.joined.0 c.args.joined.now.name.now _ _ _ _ c.requires.joined.1 c.in-Ok.ensures.name c.in-Ok.ensures.words c.in-Ok.ensures.options)

pub returns-in-Ok : goal.returns-in-Ok
returns-in-Ok g c = λ words is. c.run_parted.ensures words (joined-parted words c.args.joined.now.name.now _ _ _ _ is c.in-Ok.ensures.name c.in-Ok.ensures.words c.in-Ok.ensures.options)

pub returns-in-Err : goal.returns-in-Err
returns-in-Err g c = λ words is. inr (inr (record {
  named = may-be words c.args.joined.now.name.now _ is;
  untouched = record { files_same = refl; faults_same = λ name. refl; opened_same = refl };
  net_untouched = (refl, refl);
  wrote = c.deliver.ensures;
}))
