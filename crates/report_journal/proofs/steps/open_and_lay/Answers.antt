use Rattle.std.proofs.Common.{◌≡◌, [], ◌∷◌, length, drop, subst, refl, sym, ◌∙◌, ap, arith}
use Rattle.house_io.specs.Disks.{told_moments}
use Rattle.std.proofs.lemmas.Bool.{eqb-true}
use Rattle.std.proofs.lemmas.List.{nil_from_length}
use Rattle.std.proofs.lemmas.Result.{on_ok_weaker}
use Rattle.house_io.specs.Moments.{AtEach, overlaid, settled}
use Rattle.house_io.proofs.Overlays.{overlaid_torn}
use Rattle.report_journal.specs.Puts.{TornTwice}
use Rattle.report_journal.specs.declared.spellings.TheConstants.{OPEN}
use Rattle.report_journal.proofs.Spans.{overlaid_same}
use Rattle.report_journal.proofs.Writes.{after_torn}
use Rattle.report_journal.proofs.TwoWrites.{first_each, laid_each, synced_each}
use Rattle.report_journal.proofs.steps.open_and_lay.Goals as goal

pub returns-then-is_empty-clause-moments : goal.returns-then-is_empty-clause-moments
returns-then-is_empty-clause-moments g c told =
    first_each c.args.gate 1 c.args.from (length c.args.bytes.now) _ (c.requires.file (c.write_synced.ensures.later.told told)).0.settled _ (c.write_synced.ensures.moments told)

pub returns-then-is_empty-clause-done : goal.returns-then-is_empty-clause-done
returns-then-is_empty-clause-done g c = on_ok_weaker c.write_synced.result (λ done told.
    let from_there = (c.requires.file (c.write_synced.ensures.later.told told)).1 in
    let file = (told_moments (g.D.Disk.shown c.args.disk.now)).now.read in
    let opened = overlaid file c.args.gate (OPEN ∷ []) in
    let none : c.args.bytes.now ≡ [] = nil_from_length c.args.bytes.now (eqb-true (length c.args.bytes.now) 0 (sym c.is_empty.ensures ∙ c.if-is_empty.true)) in
    done told
    ∙ ap settled (sym (ap (λ l. overlaid opened c.args.from l) none ∙ overlaid_same opened [] c.args.from (omega (arith, (overlaid_torn file (OPEN ∷ []) c.args.gate).no_shorter, from_there.within)) (drop c.args.from opened, refl)))) c.write_synced.ensures.done

pub returns-in_err-write_at-clause-moments : goal.returns-in_err-write_at-clause-moments
returns-in_err-write_at-clause-moments g c told =
    let is_settled = (c.requires.file (c.write_at.ensures.later.told told)).0.settled in
    first_each c.args.gate 1 c.args.from (length c.args.bytes.now) _ is_settled _ (after_torn c.args.gate (OPEN ∷ []) _ is_settled _ (c.in_err-write_at.ensures.torn told))

pub returns-in_err-write_at-2-clause-moments : goal.returns-in_err-write_at-2-clause-moments
returns-in_err-write_at-2-clause-moments g c told =
    let told_mid = c.write_at-2.ensures.later.told told in
    let told_old = c.write_at.ensures.later.told told_mid in
    let torn = c.in_err-write_at-2.ensures.torn told in
    laid_each c.args.gate c.args.from (length c.args.bytes.now) _ (c.requires.file told_old).0.settled (c.requires.file told_old).0.within _ (c.in_ok-write_at.ensures.written told_mid) torn.0 _ torn.1 torn.2

pub returns-in_err-sync-clause-moments : goal.returns-in_err-sync-clause-moments
returns-in_err-sync-clause-moments g c told =
    let told_next = c.sync.ensures.later.told told in
    let told_mid = c.write_at-2.ensures.later.told told_next in
    let told_old = c.write_at.ensures.later.told told_mid in
    let mid = (told_moments (g.D.Disk.shown c.write_at.new.self)).now.read in
    let both = laid_each c.args.gate c.args.from (length c.args.bytes.now) _ (c.requires.file told_old).0.settled (c.requires.file told_old).0.within _ (c.in_ok-write_at.ensures.written told_mid)
    (overlaid mid c.args.from c.args.bytes.now) _ (overlaid_torn mid c.args.bytes.now c.args.from) (c.in_ok-write_at-2.ensures.written told_next) in
    subst (AtEach (TornTwice c.args.gate 1 c.args.from (length c.args.bytes.now) (told_moments (g.D.Disk.shown c.args.disk.now)).now.read) (told_moments (g.D.Disk.shown c.args.disk.now))) (sym (c.in_err-sync.ensures.failed told)) both

pub returns-clause-moments : goal.returns-clause-moments
returns-clause-moments g c told =
    let told_next = c.sync.ensures.later.told told in
    let told_mid = c.write_at-2.ensures.later.told told_next in
    let told_old = c.write_at.ensures.later.told told_mid in
    let mid = (told_moments (g.D.Disk.shown c.write_at.new.self)).now.read in
    let both = laid_each c.args.gate c.args.from (length c.args.bytes.now) _ (c.requires.file told_old).0.settled (c.requires.file told_old).0.within _ (c.in_ok-write_at.ensures.written told_mid)
    (overlaid mid c.args.from c.args.bytes.now) _ (overlaid_torn mid c.args.bytes.now c.args.from) (c.in_ok-write_at-2.ensures.written told_next) in
    synced_each c.args.gate 1 c.args.from (length c.args.bytes.now) _ (c.requires.file told_old).0.settled _ _ both (c.in_ok-sync.ensures.synced told)
