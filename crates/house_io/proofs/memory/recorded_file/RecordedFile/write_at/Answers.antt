use Rattle.std.proofs.Common.{ℕ, List, ◌≡◌, ◌+◌, ◌-◌, ◌≤◌, IsTrue, vec_len, vec_capacity, rules, ◌++◌, [], ◌∷◌, ◌∙◌, ap, sym, length, arith, length-append}
use Rattle.house_io.specs.Moments.{overlaid, opened, wrote}
use Rattle.house_io.specs.Calls.{replay, total}
use Rattle.house_io.specs.declared.memory.recorded_file.Call.TheVariants.{Write}
use Rattle.house_io.specs.Ranges.{latest_first}
use Rattle.house_io.proofs.Images.{latest-push}
use Rattle.house_io.proofs.Replays.{read_is_image_of, replay-write, total-push}
use Rattle.house_io.proofs.memory.recorded_file.RecordedFile.write_at.Goals as goal

pub invariant_of-self-2 : goal.invariant_of-self-2
invariant_of-self-2 c =
    let self = c.args.self.now in
    let from = c.args.from.now in
    let had : IsTrue c.has_room.result = search rules in
    let has = c.has_room.ensures.0 had in
    let gap_is : c.saturating_sub-gap.result ≡ c.args.at - vec_len self.bytes = search rules in
    let moments_are : IsTrue self.told → replay c.push_call.new.calls.items c.extend.new.bytes.items (opened self.start.items) ≡ wrote c.args.at from (replay self.calls.items self.written.items (opened self.start.items)) = λ told.
    (λ i. replay (c.push_call.ensures.calls i) (c.extend.ensures.bytes i) (opened self.start.items)) ∙ replay-write self.calls.items self.written.items from (opened self.start.items) c.args.at (self.whole told) in
    record {
      read = λ told.
          c.overwrite.ensures.bytes ∙ ap (λ file. overlaid file c.args.at from) (self.read told) ∙ sym (ap (λ ms. ms.now.read) (moments_are told));
      whole = λ told.
          let before = self.whole told in
          let e : total (self.calls.items ++ Write c.args.at (length from) ∷ []) ≡ length (self.written.items ++ from) = omega (arith, total-push self.calls.items (Write c.args.at (length from)), before, length-append self.written.items from) in
          ap total c.push_call.ensures.calls ∙ e ∙ sym (ap length c.extend.ensures.bytes);
      settled = λ told. self.settled told ∙ sym (ap (λ ms. ms.now.synced) (moments_are told));
      since = λ told.
          ap (λ ranges. latest_first ranges []) c.push_range.ensures.ranges
          ∙ latest-push self.ranges.items [] (record { at = c.args.at; length = length from })
          ∙ ap (λ (ranges : List (ℕ × ℕ)). (c.args.at, length from) ∷ ranges) (self.since told)
          ∙ sym (ap (λ ms. ms.now.ranges) (moments_are told));
      readable = read_is_image_of c.push_call.new.calls.items c.extend.new.bytes.items self.start.items;
      bytes_room =
          let e : vec_len c.overwrite.new.bytes + (self.room - (length from + c.saturating_sub-gap.result)) ≤ vec_capacity c.overwrite.new.bytes = omega (arith, has.1, self.bytes_room, c.overwrite.ensures.long, c.overwrite.ensures.capacity, gap_is) in e;
      written_room =
          let e : vec_len c.extend.new.bytes + (self.room - (length from + c.saturating_sub-gap.result)) ≤ vec_capacity c.extend.new.bytes = omega (arith, has.1, self.written_room, c.extend.ensures.long, c.extend.ensures.capacity) in e;
      calls_room =
          let e : vec_len c.push_call.new.calls + (self.calls_left - 1) ≤ vec_capacity c.push_call.new.calls = omega (arith, has.2, self.calls_room, c.push_call.ensures.long, c.push_call.ensures.capacity) in e;
      synced_room =
          let e : vec_len c.overwrite.new.bytes + (self.room - (length from + c.saturating_sub-gap.result)) ≤ vec_capacity self.synced = omega (arith, has.1, self.synced_room, c.overwrite.ensures.long, gap_is) in e;
      ranges_room =
          let e : vec_len c.push_range.new.ranges + (self.calls_left - 1) ≤ vec_capacity c.push_range.new.ranges = omega (arith, has.2, self.ranges_room, c.push_range.ensures.long, c.push_range.ensures.capacity) in e;
    }

pub returns-clause-written : goal.returns-clause-written
returns-clause-written c told =
    let self = c.args.self.now in
    (λ i. replay (c.push_call.ensures.calls i) (c.extend.ensures.bytes i) (opened self.start.items)) ∙ replay-write self.calls.items self.written.items c.args.from.now (opened self.start.items) c.args.at (self.whole told)
