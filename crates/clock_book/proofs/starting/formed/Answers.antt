use Rattle.std.proofs.Common.{subst, sym}
use Rattle.recovery.specs.Journaled.{owner_of}
use Rattle.clock_book.specs.declared.faults.OpenFault.{OpenFault}
use Rattle.clock_book.specs.Opened.{IsNotBegun}
use Rattle.clock_book.proofs.Begun.{laid-formed, not-formed}
use Rattle.clock_book.proofs.starting.formed.Goals as goal

pub returns-in-Ok-clause-laid : goal.returns-in-Ok-clause-laid
returns-in-Ok-clause-laid g c =
    laid-formed g.D.Disk.shown (owner_of c.args.terms.now c.args.clock c.args.digest.now) c.header_for-header.result c.args.disk c.in-Ok.journal c.header_for-header.ensures.header c.requires.unformed c.in-Ok.ensures.ok

pub returns-in-Err-clause-err : goal.returns-in-Err-clause-err
returns-in-Err-clause-err g c =
    let owner = owner_of c.args.terms.now c.args.clock c.args.digest.now in
    let e = c.in-Err.field-0 in
    let P : OpenFault → Type 0 = λ f. IsNotBegun g.D.Disk.shown owner c.args.disk e.disk f in
    subst P (sym c.fault_of.ensures) (not-formed g.D.Disk.shown owner c.header_for-header.result c.args.disk e.disk e.fault c.header_for-header.ensures.header c.requires.unformed c.in-Err.ensures.err)
