use Rattle.std.proofs.Common.{◌+◌, ◌∷◌, ◌∙◌, refl, sym, ap, subst, arith, IsTrue}
use Rattle.house_io.specs.Disks.{told_moments}
use Rattle.house_io.specs.Moments.{overlaid}
use Rattle.house_io.proofs.Moments.{leaves_here}
use Rattle.report_journal.specs.declared.spellings.TheConstants.{OPEN}
use Rattle.report_journal.specs.Puts.{IsHead}
use Rattle.report_journal.proofs.Forming.{not_written, form_leaves, empty_size}
use Rattle.report_journal.proofs.Kept.{settled_is}
use Rattle.report_journal.proofs.Prefixes.{header_within}
use Rattle.report_journal.proofs.journal.Journal.form.Goals as goal

pub returns-in_default-clause-err : goal.returns-in_default-clause-err
returns-in_default-clause-err g c = record {
  refuses = refl;
  later = record { told = λ told. told; claim = refl };
  leaves = λ told. not_written c.args.header.now _ (c.requires.unformed told);
}

pub returns-in-Err-clause-err : goal.returns-in-Err-clause-err
returns-in-Err-clause-err g c =
    let is_head = subst (IsHead c.args.header.now) (sym c.deref.ensures.value) c.in-Ok.ensures in
    record {
      refuses = (c.in-Err.ensures.cause.later, c.in-Err.ensures.cause.failed);
      later = c.form_file.ensures.later;
      leaves = λ told. form_leaves c.args.header.now c.deref.result.now is_head _ _ (c.form_file.ensures.moments told c.args.header.now is_head) (c.form_file.ensures.range told);
    }

pub invariant_of-result : goal.invariant_of-result
invariant_of-result g c =
    let is_head = subst (IsHead c.args.header.now) (sym c.deref.ensures.value) c.in-Ok.ensures in
    rw c.new.ensures.items (
      record {
        spelled = c.requires.header;
        limit = omega (arith, c.first_gate-end.ensures, header_within c.args.header.now c.requires.header);
        roomy = omega arith;
        room = (omega arith, λ some. absurd (omega (arith, some)));
      },
      λ told. (
        record {
          stands = (settled_is _ _ (c.in-Ok-form_file.ensures.done told), c.in-Ok-form_file.ensures.formed told c.args.header.now is_head);
          placed = tt;
          size = empty_size c.args.header.now ∙ sym c.first_gate-end.ensures;
        },
        tt,
      ),
      subst IsTrue (sym c.form_file.ensures.later.claim) c.requires.claimed,
    )

pub returns-clause-ok : goal.returns-clause-ok
returns-clause-ok g c =
    let is_head = subst (IsHead c.args.header.now) (sym c.deref.ensures.value) c.in-Ok.ensures in
    rw c.new.ensures.items (record {
      contents = refl;
      places = refl;
      end = c.first_gate-end.ensures;
      pending = refl;
      spare = refl;
      laid = ap (λ gate. gate + 1) c.first_gate-end.ensures;
      steady = c.in-Ok-form_file.ensures.cause.steady;
      later = c.form_file.ensures.later;
      every_image = λ told. leaves_here _ _ (settled_is _ _ (c.in-Ok-form_file.ensures.done told)) (c.in-Ok-form_file.ensures.formed told c.args.header.now is_head);
      written = λ told. ap (λ m. m.read) (c.in-Ok-form_file.ensures.done told) ∙ ap (λ bytes. overlaid (told_moments (g.D.Disk.shown c.args.disk)).now.read 0 (OPEN ∷ bytes)) is_head.spelled;
      leaves = λ told. form_leaves c.args.header.now c.deref.result.now is_head _ _ (c.form_file.ensures.moments told c.args.header.now is_head) (c.form_file.ensures.range told);
    })

pub overflow_add-result : goal.overflow_add-result
overflow_add-result g c = omega (arith, c.first_gate-end.ensures, header_within c.args.header.now c.requires.header)
