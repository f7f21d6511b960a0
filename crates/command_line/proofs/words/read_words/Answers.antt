-- The command of each name, whose words were parted.
use Rattle.std.proofs.Common.{ap, refl, subst, sym}
use Rattle.std.specs.Prelude.{codes}
use Rattle.command_line.specs.CommandView.{command_as}
use Rattle.command_line.specs.Commands.{Spells}
use Rattle.command_line.specs.Positionals.{texts}
use Rattle.command_line.proofs.PlainWords.{parted-words, same-parted, some-then}
use Rattle.command_line.proofs.words.read_words.Goals as goal

pub returns-in-fold-clause-some : goal.returns-in-fold-clause-some
returns-in-fold-clause-some c =
    some-then c.read_fold.result _ _ (λ command spelled words is. subst (λ ws. Spells (command_as command) ws) (sym (parted-words words (codes "fold") _ _ _ _ c.in-fold.is (ap texts c.as_slice-plain.ensures.value) refl refl is)) spelled) c.read_fold.ensures.some

pub returns-in-check-clause-some : goal.returns-in-check-clause-some
returns-in-check-clause-some c =
    some-then c.read_check.result _ _ (λ command spelled words is. subst (λ ws. Spells (command_as command) ws) (sym (parted-words words (codes "check") _ _ _ _ c.in-check.is (ap texts c.as_slice-plain.ensures.value) refl refl is)) spelled) c.read_check.ensures.some

pub returns-in-standing-clause-some : goal.returns-in-standing-clause-some
returns-in-standing-clause-some c =
    some-then c.read_standing.result _ _ (λ command spelled words is. subst (λ ws. Spells (command_as command) ws) (sym (parted-words words (codes "standing") _ _ _ _ c.in-standing.is (ap texts c.as_slice-plain.ensures.value) refl refl is)) spelled) c.read_standing.ensures.some

pub returns-in-explain-clause-some : goal.returns-in-explain-clause-some
returns-in-explain-clause-some c =
    some-then c.read_explain.result _ _ (λ command spelled words is. subst (λ ws. Spells (command_as command) ws) (sym (parted-words words (codes "explain") _ _ _ _ c.in-explain.is (ap texts c.as_slice-plain.ensures.value) refl refl is)) spelled) c.read_explain.ensures.some

pub returns-in-judge-clause-some : goal.returns-in-judge-clause-some
returns-in-judge-clause-some c =
    some-then c.read_judge.result _ _ (λ command spelled words is. subst (λ ws. Spells (command_as command) ws) (sym (parted-words words (codes "judge") _ _ _ _ c.in-judge.is (ap texts c.as_slice-plain.ensures.value) refl refl is)) spelled) c.read_judge.ensures.some

pub returns-in-settle-clause-some : goal.returns-in-settle-clause-some
returns-in-settle-clause-some c =
    some-then c.read_settle.result _ _ (λ command spelled words is. spelled words (same-parted words (codes "settle") _ _ _ _ _ c.in-settle.is (ap texts c.as_slice-plain.ensures.value) (ap texts c.as_slice-options.ensures.value) is)) c.read_settle.ensures.some

pub returns-in-trial-clause-some : goal.returns-in-trial-clause-some
returns-in-trial-clause-some c =
    some-then c.read_trial.result _ _ (λ command spelled words is. spelled words (same-parted words (codes "trial") _ _ _ _ _ c.in-trial.is (ap texts c.as_slice-plain.ensures.value) (ap texts c.as_slice-options.ensures.value) is)) c.read_trial.ensures.some

pub returns-in-float-clause-some : goal.returns-in-float-clause-some
returns-in-float-clause-some c =
    some-then c.read_float.result _ _ (λ command spelled words is. subst (λ ws. Spells (command_as command) ws) (sym (parted-words words (codes "float") _ _ _ _ c.in-float.is (ap texts c.as_slice-plain.ensures.value) refl refl is)) spelled) c.read_float.ensures.some

pub returns-in-make-clause-some : goal.returns-in-make-clause-some
returns-in-make-clause-some c =
    some-then c.read_make.result _ _ (λ command spelled words is. spelled words (same-parted words (codes "make") _ _ _ _ _ c.in-make.is (ap texts c.as_slice-plain.ensures.value) (ap texts c.as_slice-options.ensures.value) is)) c.read_make.ensures.some

pub returns-in-serve-clause-some : goal.returns-in-serve-clause-some
returns-in-serve-clause-some c =
    some-then c.read_serve.result _ _ (λ command spelled words is. spelled words (same-parted words (codes "serve") _ _ _ _ _ c.in-serve.is (ap texts c.as_slice-plain.ensures.value) (ap texts c.as_slice-options.ensures.value) is)) c.read_serve.ensures.some

pub returns-in-bid-clause-some : goal.returns-in-bid-clause-some
returns-in-bid-clause-some c =
    some-then c.read_bid.result _ _ (λ command spelled words is. spelled words (same-parted words (codes "bid") _ _ _ _ _ c.in-bid.is (ap texts c.as_slice-plain.ensures.value) (ap texts c.as_slice-options.ensures.value) is)) c.read_bid.ensures.some

pub returns-in-migrate-clause-some : goal.returns-in-migrate-clause-some
returns-in-migrate-clause-some c =
    some-then c.read_migrate.result _ _ (λ command spelled words is. subst (λ ws. Spells (command_as command) ws) (sym (parted-words words (codes "migrate") _ _ _ _ c.in-migrate.is (ap texts c.as_slice-plain.ensures.value) refl refl is)) spelled) c.read_migrate.ensures.some
