use Rattle.std.proofs.Common.{◌≡◌, ◌-◌, ◌++◌, arith, drop, length, length-drop}
use Rattle.report_log.proofs.PieceReading.{faulty-after, faulty-before, piece-given, unfinished-after}
use Rattle.report_log.proofs.pieces.LogReader.take.Goals as goal

pub returns-in-Some-clause-read : goal.returns-in-Some-clause-read
returns-in-Some-clause-read c read rest piece same size has = faulty-before c.args.terms.now c.args.self.now.clock.history c.args.self.now.fault _ read rest piece _ c.in-Some.is has

pub returns-in-Ok-Unfinished-clause-short : goal.returns-in-Ok-Unfinished-clause-short
returns-in-Ok-Unfinished-clause-short c =
    let h = rw c.in-Ok-Unfinished.field-0-is at c.in-Ok-Unfinished.ensures in
    omega (arith, h.leaves.short, h.within, length-drop (length c.args.bytes.now - c.in-Ok-Unfinished.left) c.args.bytes.now)

pub returns-in-Ok-Unfinished-clause-read : goal.returns-in-Ok-Unfinished-clause-read
returns-in-Ok-Unfinished-clause-read c read rest piece same size has =
    let h = rw c.in-Ok-Unfinished.field-0-is at c.in-Ok-Unfinished.ensures in
    let later = drop (length c.args.bytes.now - c.in-Ok-Unfinished.left) c.args.bytes.now in
    let up_to = h.up_to (read ++ piece) (piece-given c.args.terms.now c.args.self.now.clock.history c.args.self.now.fault read rest piece c.args.bytes.now c.in-None.is same has) in
    unfinished-after c.args.terms.now c.take_entries.new.clock.history c.args.self.now.fault (read ++ piece) later c.in-None.is up_to h.leaves

pub returns-in-Ok-Faulty-clause-read : goal.returns-in-Ok-Faulty-clause-read
returns-in-Ok-Faulty-clause-read c read rest piece same size has =
    let h = rw c.in-Ok-Faulty.field-0-is at c.in-Ok-Faulty.ensures in
    let later = drop (length c.args.bytes.now - c.in-Ok-Faulty.left) c.args.bytes.now in
    let up_to = h.up_to (read ++ piece) (piece-given c.args.terms.now c.args.self.now.clock.history c.args.self.now.fault read rest piece c.args.bytes.now c.in-None.is same has) in
    let long : length later ≡ c.in-Ok-Faulty.left = omega (arith, h.within, length-drop (length c.args.bytes.now - c.in-Ok-Faulty.left) c.args.bytes.now) in
    faulty-after c.args.terms.now c.take_entries.new.clock.history (read ++ piece) later later c.args.so_far c.in-Ok-Faulty.left up_to h.leaves size long
