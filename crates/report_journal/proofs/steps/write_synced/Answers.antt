use Rattle.report_journal.proofs.Writes.{after_torn, after_failed_sync, after_sync}
use Rattle.report_journal.proofs.steps.write_synced.Goals as goal

pub returns-in_err-write_at-clause-moments : goal.returns-in_err-write_at-clause-moments
returns-in_err-write_at-clause-moments g c told =
    after_torn _ _ _ (c.requires.file (c.write_at.ensures.later.told told)).settled _ (c.in_err-write_at.ensures.torn told)

pub returns-in_err-sync-clause-moments : goal.returns-in_err-sync-clause-moments
returns-in_err-sync-clause-moments g c told =
    let told_mid = c.sync.ensures.later.told told in
    let told_old = c.write_at.ensures.later.told told_mid in
    after_failed_sync _ _ _ (c.requires.file told_old).settled (c.requires.file told_old).within _ (c.in_ok-write_at.ensures.written told_mid) _ (c.in_err-sync.ensures.failed told)

pub returns-clause-moments : goal.returns-clause-moments
returns-clause-moments g c told =
    let told_mid = c.sync.ensures.later.told told in
    let told_old = c.write_at.ensures.later.told told_mid in
    after_sync _ _ _ (c.requires.file told_old).settled (c.requires.file told_old).within _ (c.in_ok-write_at.ensures.written told_mid) _ (c.in_ok-sync.ensures.synced told)
