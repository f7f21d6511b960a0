use Rattle.std.proofs.Common.{◌≡◌, ◌-◌, ◌<◌, ◌∙◌, ap, sym, refl, length, Some, arith}
use Rattle.house_io.specs.Disks.{told_moments}
use Rattle.std.specs.List.{slice_get}
use Rattle.std.proofs.lemmas.List.{length-map}
use Rattle.std.proofs.lemmas.Option.{slice_get_read}
use Rattle.std.proofs.lemmas.Result.{IfOk-weaker}
use Rattle.report_journal.specs.Format.{first_gate}
use Rattle.report_journal.specs.Journals.{payload_at}
use Rattle.report_journal.proofs.Placed.{nth_payload, nth_length}
use Rattle.report_journal.proofs.journal.Journal.payload.Goals as goal

pub returns-clause-payload : goal.returns-clause-payload
returns-clause-payload g c = rw (← c.self.view_is) (IfOk-weaker c.read_payload.result _ _ (λ payload read told.
    let file = (told_moments (g.D.Disk.shown c.self.inside.disk)).now.read in
    let told_before = c.read_payload.ensures.reads.later.told told in
    let kept = (c.self.invariant.1 told_before).0 in
    let asked = rw (← c.self.view_is) at c.requires in
    let below : c.args.number - 1 < length c.self.inside.places.items = omega (arith, asked, length-map c.self.inside.places.items (payload_at file)) in
    let there : slice_get c.self.inside.places.items (c.args.number - 1) ≡ Some c.index-place.result.now =
    slice_get_read c.self.inside.places.items (length c.self.inside.places.items) (c.args.number - 1) c.index-place.result.now refl below c.index-place.ensures in
    nth_payload file c.self.inside.places.items (c.args.number - 1) c.index-place.result.now there
    ∙ ap Some (sym (read told (nth_length file (first_gate c.self.inside.header) c.self.inside.places.items (c.args.number - 1) c.index-place.result.now kept.placed there)))) c.read_payload.ensures.payload)
