-- What was pulled joins what was held, and is judged with it.
use Rattle.std.proofs.Common.{◌≡◌, ◌∙◌, ◌<◌, ◌≤◌, ◌+◌, ◌-◌, ◌++◌, ℕ, ap, arith, drop, length, length-append, length-drop, refl, subst, sym, take}
use Rattle.std.proofs.lemmas.Bool.Decides.{nat_tests}
use Rattle.std.proofs.lemmas.List.{drop_at, length-take-le}
use Rattle.house_io.specs.Sources.{Takes}
use Rattle.house_io.specs.Told.{IfTold}
use Rattle.report_log.specs.Logs.{AreBytes}
use Rattle.report_log.specs.Pieces.{HasRead}
use Rattle.report_log.proofs.PieceReading.{held-and-piece, more-so-far, not-failed, too-much, whole-given, whole-so-far}
use Rattle.byte_numbers.proofs.Parts.{later_bytes}
use Rattle.report_log.proofs.pieces.read_pieces.Goals as goal

pub returns-clause-read : goal.returns-clause-read
returns-clause-read g c =
    too-much c.args.terms.now c.pulls.reader.clock.history c.pulls.reader.fault (g.R.Source.left c.args.source.now) (g.R.Source.left c.pulls.source) c.pulls.so_far (take c.pulls.held c.pulls.buffer) c.pulls.invariant.read (omega arith)

pub returns-in-Ok-eq0-clause-read : goal.returns-in-Ok-eq0-clause-read
returns-in-Ok-eq0-clause-read g c =
    let i = c.pulls.invariant in
    let held = take c.pulls.held c.pulls.buffer in
    let new = c.pull_after.new.buffer in
    let room = c.min.result + 1 in
    let into = take room (drop c.pulls.held new) in
    let zero : c.in-Ok-eq0.field-0 ≡ 0 = (let test = c.in-Ok-eq0.field-0-test in grind (arith, nat_tests)) in
    let none = subst (λ (n : ℕ). IfTold (g.R.Source.left c.pulls.source) (g.R.Source.left c.pull_after.new.source) (Takes n into)) zero c.in-Ok-eq0.ensures.bytes in
    let few : room ≤ length (drop c.pulls.held new) = omega (arith, length-drop c.pulls.held new) in
    let some : 0 < length into = omega (arith, length-take-le room (drop c.pulls.held new) few) in
    let is = whole-so-far c.args.terms.now c.pulls.reader.clock.history c.pulls.reader.fault (g.R.Source.left c.args.source.now) (g.R.Source.left c.pulls.source) (g.R.Source.left c.pull_after.new.source) c.pulls.so_far held into i.read none some (omega arith) in
    let long : length held ≡ c.pulls.held = length-take-le c.pulls.held c.pulls.buffer (omega arith) in
    whole-given c.args.terms.now c.finish.result (g.R.Source.left c.args.source.now) (g.R.Source.left c.pull_after.new.source) i.read.all is (c.finish.ensures c.args.terms.now i.read.all held i.read.long (sym long) i.read.has)

pub returns-in-Ok-eq0-clause-failed : goal.returns-in-Ok-eq0-clause-failed
returns-in-Ok-eq0-clause-failed g c e =
    let i = c.pulls.invariant in
    let held = take c.pulls.held c.pulls.buffer in
    let long : length held ≡ c.pulls.held = length-take-le c.pulls.held c.pulls.buffer (omega arith) in
    absurd (not-failed c.args.terms.now c.finish.result i.read.all (c.finish.ensures c.args.terms.now i.read.all held i.read.long (sym long) i.read.has) e)

pub pulls-preserved : goal.pulls-preserved
pulls-preserved g c =
    let i = c.pulls.invariant in
    let all = i.read.all in
    let count = c.in-Ok.count in
    let left = c.in-Ok-take.left in
    let held = take c.pulls.held c.pulls.buffer in
    let new = c.pull_after.new.buffer in
    let room = c.min.result + 1 in
    let into = take room (drop c.pulls.held new) in
    let piece = take count into in
    let end = c.pulls.held + count in
    let bytes = take end new in
    let few : count ≤ room = c.in-Ok.ensures.within in
    let fits : room ≤ length (drop c.pulls.held new) = omega (arith, length-drop c.pulls.held new) in
    let size : length piece ≡ count = length-take-le count into (omega (arith, few, length-take-le room (drop c.pulls.held new) fits)) in
    let are : bytes ≡ held ++ piece = held-and-piece new c.pulls.buffer c.pulls.held count room c.in-Ok.ensures.kept few in
    let long : length bytes ≡ end = length-take-le end new (omega (arith, few, fits, length-drop c.pulls.held new)) in
    let held_long : length held ≡ c.pulls.held = length-take-le c.pulls.held c.pulls.buffer (omega arith) in
    let piece_is : drop c.pulls.held bytes ≡ piece = ap (drop c.pulls.held) are ∙ drop_at held piece c.pulls.held held_long in
    let piece_bytes : AreBytes piece = subst AreBytes piece_is (later_bytes bytes c.pulls.held c.in-Ok-take.ensures.are_bytes) in
    let read = c.in-Ok-take.ensures.read all held piece are (omega (arith, i.read.long, size, length-append all piece)) i.read.has in
    let later : drop (length bytes - left) bytes ≡ take left c.keep_end.new.buffer = ap (λ n. drop (n - left) bytes) long ∙ sym c.keep_end.ensures in
    record {
      terms = c.in-Ok-take.ensures.terms;
      few = omega (arith, few, i.few);
      short = c.in-Ok-take.ensures.short;
      within = omega (arith, c.in-Ok-take.ensures.within, long, i.within);
      steady = c.in-Ok.ensures.cause.steady ∙ i.steady;
      read = more-so-far c.args.terms.now c.pulls.reader.clock.history c.take.new.self.clock.history c.pulls.reader.fault c.take.new.self.fault
          (g.R.Source.left c.args.source.now) (g.R.Source.left c.pulls.source) (g.R.Source.left c.pull_after.new.source) c.pulls.so_far (c.pulls.so_far + count) count held into (take left c.keep_end.new.buffer) i.read c.in-Ok.ensures.bytes
          piece_bytes size refl (subst (HasRead c.args.terms.now c.take.new.self.clock.history c.take.new.self.fault (all ++ piece)) later read);
    }
