use Rattle.std.proofs.Common.{[], ◌∙◌, List, ℕ, ap, sym, subst}
use Rattle.std.proofs.lemmas.Result.{IfOk-weaker}
use Rattle.house_io.specs.Moments.{IsImage, opened}
use Rattle.house_io.specs.Calls.{replay}
use Rattle.house_io.specs.Ranges.{latest_first}
use Rattle.house_io.specs.Fills.{filled_with, image_of}
use Rattle.house_io.specs.Recorded.{moments_of}
use Rattle.house_io.specs.declared.memory.recorded_file.Fill.{Fill}
use Rattle.house_io.proofs.Images.{image_synced}
use Rattle.house_io.proofs.Replays.{read_is_image_of}
use Rattle.house_io.proofs.memory.recorded_file.RecordedFile.image.Goals as goal

pub returns-in-Old-clause-image : goal.returns-in-Old-clause-image
returns-in-Old-clause-image c = IfOk-weaker c.copy_of.result _ _ (λ copy is told.
    let self = c.args.self.now in
    let P : List ℕ → Type 0 = λ l. IsImage (replay self.calls.items self.written.items (opened self.start.items)).now l in
    subst P (sym (is ∙ c.deref.ensures.value ∙ self.settled told)) (image_synced (replay self.calls.items self.written.items (opened self.start.items)).now)) c.copy_of.ensures

pub returns-in-Old-clause-fills : goal.returns-in-Old-clause-fills
returns-in-Old-clause-fills c = IfOk-weaker c.copy_of.result _ _ (λ copy is told. is ∙ c.deref.ensures.value ∙ c.args.self.now.settled told ∙ ap (λ (fill : Fill). image_of fill (moments_of c.args.self.now).now) (sym c.in-Old.is)) c.copy_of.ensures

pub returns-in-New-clause-image : goal.returns-in-New-clause-image
returns-in-New-clause-image c = IfOk-weaker c.copy_of-in-New.result _ _ (λ copy is told.
    let self = c.args.self.now in
    let P : List ℕ → Type 0 = λ l. IsImage (replay self.calls.items self.written.items (opened self.start.items)).now l in
    subst P (sym (is ∙ c.deref-in-New.ensures.value ∙ self.read told)) (read_is_image_of self.calls.items self.written.items self.start.items)) c.copy_of-in-New.ensures

pub returns-in-New-clause-fills : goal.returns-in-New-clause-fills
returns-in-New-clause-fills c = IfOk-weaker c.copy_of-in-New.result _ _ (λ copy is told. is ∙ c.deref-in-New.ensures.value ∙ c.args.self.now.read told ∙ ap (λ (fill : Fill). image_of fill (moments_of c.args.self.now).now) (sym c.in-New.is)) c.copy_of-in-New.ensures

pub returns-in-Byte-clause-image : goal.returns-in-Byte-clause-image
returns-in-Byte-clause-image c = IfOk-weaker c.filled.result _ _ (λ copy is told.
    let self = c.args.self.now in
    let now = (replay self.calls.items self.written.items (opened self.start.items)).now in
    let P : List ℕ → Type 0 = λ l. IsImage now l in
    is now
    (subst P (sym (c.deref-in-Byte.ensures.value ∙ self.read told)) (read_is_image_of self.calls.items self.written.items self.start.items))
    (ap (λ ranges. latest_first ranges []) c.deref-in-Byte-2.ensures.value ∙ self.since told)) c.filled.ensures.image

pub returns-in-Byte-clause-fills : goal.returns-in-Byte-clause-fills
returns-in-Byte-clause-fills c = IfOk-weaker c.filled.result _ _ (λ copy is told.
    let self = c.args.self.now in
    is ∙ (λ i. filled_with c.in-Byte.byte ((ap (λ ranges. latest_first ranges []) c.deref-in-Byte-2.ensures.value ∙ self.since told) i) ((c.deref-in-Byte.ensures.value ∙ self.read told) i))
    ∙ ap (λ (fill : Fill). image_of fill (moments_of self).now) (sym c.in-Byte.is)) c.filled.ensures.filled
