use Rattle.std.proofs.Common.{◌≡◌, ◌∙◌, ap, sym, subst, length, rules, List, ℕ}
use Rattle.house_io.specs.Moments.{Torn, overlaid}
use Rattle.house_io.proofs.Overlays.{overlaid_torn}
use Rattle.house_io.proofs.memory.recorded_file.fill_range.Goals as goal

pub returns-clause-torn : goal.returns-clause-torn
returns-clause-torn c =
    let image = c.args.image.now.items in
    let piece = c.deref.result.now in
    let long : length piece ≡ c.args.range.length = search rules in
    let items : c.reserve.new.self.items ≡ image = c.in_ok-reserve.ensures.items in
    let is : c.overwrite.new.bytes.items ≡ overlaid image c.args.range.at piece = c.overwrite.ensures.bytes ∙ ap (λ (l : List ℕ). overlaid l c.args.range.at piece) items in
    let P : List ℕ → Type 0 = λ l. Torn c.args.range.at c.args.range.length image l in
    let Q : ℕ → Type 0 = λ n. Torn c.args.range.at n image (overlaid image c.args.range.at piece) in
    subst P (sym is) (subst Q long (overlaid_torn image piece c.args.range.at))
