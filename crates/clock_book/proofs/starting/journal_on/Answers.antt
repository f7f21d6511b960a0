use Rattle.recovery.specs.Journaled.{owner_of}
use Rattle.clock_book.proofs.Begun.{not-begun, formed-of, laid-attached}
use Rattle.clock_book.proofs.starting.journal_on.Goals as goal

pub returns-in_default : goal.returns-in_default
returns-in_default g c =
    let owner = owner_of c.args.terms.now c.args.clock c.args.digest.now in
    record {
      laid = λ reports found. laid-attached g.D.Disk.shown owner reports c.args.scan c.args.disk c.attach.result (formed-of c.args.scan c.requires.undamaged c.in_default.not-Unformed) (λ t. (c.requires.scanned t).0) c.attach.ensures found;
      left = not-begun g.D.Disk.shown owner c.args.disk c.attach.result.disk c.attach.ensures.disk (λ t. (c.requires.scanned t).0);
      err = tt;
    }
