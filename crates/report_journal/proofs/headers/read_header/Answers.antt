use Rattle.std.proofs.Common.{sym, ap, subst}
use Rattle.std.proofs.lemmas.List.{take_rest}
use Rattle.report_journal.specs.Fronts.{OpensWith}
use Rattle.report_journal.proofs.Kept.{is_false}
use Rattle.report_journal.proofs.Prefixes.{first, second, none}
use Rattle.report_journal.proofs.headers.read_header.Goals as goal

pub returns-then-has_name : goal.returns-then-has_name
returns-then-has_name c =
    let read = c.unread_header-clock.ensures in
    first c.args.bytes.now c.requires _ _ read.fits read.spelled (ap (λ h. h.digest) read.value) (c.has_name.ensures.0 c.if-has_name.true)

pub returns-then-not-has_name : goal.returns-then-not-has_name
returns-then-not-has_name c =
    none c.args.bytes.now (is_false c.has_name.ensures c.if-has_name.false)
    (λ named prices is. is_false c.has_name-2.ensures c.if-not-has_name.true named)

pub returns-in-None : goal.returns-in-None
returns-in-None c =
    none c.args.bytes.now (is_false c.has_name.ensures c.if-has_name.false)
    (λ named prices is. c.in-None.ensures prices (subst (λ l. OpensWith prices l) (sym (take_rest c.args.bytes.now 40)) is))

pub returns-in-Some : goal.returns-in-Some
returns-in-Some c =
    let read = c.unread_header-clock.ensures in
    second c.args.bytes.now c.requires _ _ read.fits read.spelled (ap (λ h. h.digest) read.value) c.in-Some.opening (c.has_name-2.ensures.0 c.if-not-has_name.false)
    (subst (λ l. OpensWith c.in-Some.opening l) (take_rest c.args.bytes.now 40) c.in-Some.ensures)
