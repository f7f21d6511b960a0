use Rattle.std.proofs.Common.{◌≡◌, ◌∙◌, ◌-◌, ap, min, length, drop, rules}
use Rattle.house_io.specs.Disks.{told_moments}
use Rattle.report_journal.proofs.Placed.{read_back}
use Rattle.report_journal.proofs.journal.read_payload.Goals as goal

pub returns-clause-payload : goal.returns-clause-payload
returns-clause-payload g c told whole =
    let file = (told_moments (g.D.Disk.shown c.args.disk.now)).now.read in
    let read = c.in_ok-read_at.ensures.bytes told in
    let size : length c.deref_mut.result.now ≡ c.args.place.length = search rules in
    let into_size : length c.read_at.new.into ≡ c.args.place.length = search rules in
    let len : c.in_ok-payload.payload.len ≡ c.args.place.length = search rules in
    read_back file c.args.place c.in_ok-payload.payload.len c.in_ok-read_at.field-0 c.read_at.new.into (drop (length c.read_at.new.into) c.in_ok-payload.payload.items) whole len into_size
    (read.0 ∙ ap (λ n. min n (length file - c.args.place.at)) size) read.1
