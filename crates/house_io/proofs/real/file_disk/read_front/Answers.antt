use Rattle.std.proofs.Common.{◌-◌, length, take, drop, subst, sym, rules}
use Rattle.std.proofs.KnownBytes.{Consumes-trans}
use Rattle.std.specs.Io.KnownBytes.{Consumes}
use Rattle.house_io.proofs.Fronts.{front-put}
use Rattle.house_io.proofs.real.file_disk.read_front.Goals as goal

-- what was read stands after what was read before
pub reads-preserved : goal.reads-preserved
reads-preserved g c =
    let done = c.reads.done in
    let into = c.reads.into in
    let count = c.in_ok-count.count in
    let buf = c.read.new.buf in
    record {
      within = search rules;
      same = search rules;
      taken = subst (Consumes (g.F.Read.remaining c.args.file.now) (g.F.Read.remaining c.read.new.self)) (sym (front-put done count into buf (drop (length into - done) (drop done into)) c.reads.invariant.within (search rules)))
          (Consumes-trans (g.F.Read.remaining c.args.file.now) (g.F.Read.remaining c.reads.file) (g.F.Read.remaining c.read.new.self) (take done into) (take count buf) c.reads.invariant.taken c.in_ok-count.ensures.bytes.0);
    }
