use Rattle.std.proofs.Common.{◌∙◌, [], List, ℕ, ap, sym, take, get_or, replicate}
use Rattle.std.proofs.lemmas.List.{take_more}
use Rattle.house_io.specs.Moments.{overlaid}
use Rattle.house_io.specs.Ranges.{latest_first}
use Rattle.house_io.specs.Fills.{filled_with}
use Rattle.house_io.specs.declared.memory.recorded_file.Range.{Range}
use Rattle.house_io.proofs.Images.{image_torn_again, has_in, filled-push}
use Rattle.house_io.proofs.memory.recorded_file.filled.Goals as goal

pub loop-range-preserved : goal.loop-range-preserved
loop-range-preserved c =
    let none : Range = record { at = 0; length = 0 } in
    let range = get_or c.args.ranges.now c.loop-range.range-index none in
    let done = take c.loop-range.range-index c.args.ranges.now in
    record {
      image = λ m is_image ranges_are.
          image_torn_again m c.loop-range.image.items c.fill_range.new.image.items _ _ (c.loop-range.invariant.image m is_image ranges_are) (has_in c.args.ranges.now m.ranges c.loop-range.range-index _ c.loop-range-test.true ranges_are) c.in_ok-fill_range.ensures.torn;
      filled =
          c.in_ok-fill_range.ensures.filled
          ∙ ap (λ (file : List ℕ). overlaid file range.at (replicate range.length c.args.byte)) c.loop-range.invariant.filled
          ∙ sym (filled-push c.args.byte done range c.args.bytes.now)
          ∙ sym (ap (λ (ranges : List Range). filled_with c.args.byte (latest_first ranges []) c.args.bytes.now) (take_more c.args.ranges.now c.loop-range.range-index none c.loop-range-test.true));
    }
