use Rattle.std.proofs.Common.{ℕ, List, ◌≡◌, ◌+◌, ◌-◌, ◌≤◌, IsTrue, vec_len, vec_capacity, rules, ◌++◌, [], ◌∷◌, ◌∙◌, ap, sym, arith}
use Rattle.house_io.specs.Moments.{opened}
use Rattle.house_io.specs.Calls.{replay, total}
use Rattle.house_io.specs.declared.memory.recorded_file.Call.TheVariants.{Tear}
use Rattle.house_io.specs.Ranges.{latest_first}
use Rattle.house_io.proofs.Images.{latest-push}
use Rattle.house_io.proofs.Replays.{read_is_image_of, replay-tear, total-push}
use Rattle.house_io.proofs.memory.recorded_file.RecordedFile.tear.Goals as goal

pub invariant_of-self-2 : goal.invariant_of-self-2
invariant_of-self-2 c =
    let self = c.args.self.now in
    let moments_are = ap (λ calls. replay calls self.written.items (opened self.start.items)) c.push_call.ensures.calls ∙ replay-tear self.calls.items self.written.items (opened self.start.items) c.args.at c.args.length in
    let had : IsTrue c.has_room.result = search rules in
    let has = c.has_room.ensures.0 had in
    record {
      read = λ told. self.read told ∙ sym (ap (λ ms. ms.now.read) moments_are);
      whole = λ told. ap total c.push_call.ensures.calls ∙ (let e : total (self.calls.items ++ Tear c.args.at c.args.length ∷ []) ≡ total self.calls.items = omega (arith, total-push self.calls.items (Tear c.args.at c.args.length)) in e) ∙ self.whole told;
      settled = λ told. self.settled told ∙ sym (ap (λ ms. ms.now.synced) moments_are);
      since = λ told.
          ap (λ ranges. latest_first ranges []) c.push_range.ensures.ranges
          ∙ latest-push self.ranges.items [] (record { at = c.args.at; length = c.args.length })
          ∙ ap (λ (ranges : List (ℕ × ℕ)). (c.args.at, c.args.length) ∷ ranges) (self.since told)
          ∙ sym (ap (λ ms. ms.now.ranges) moments_are);
      readable = read_is_image_of c.push_call.new.calls.items self.written.items self.start.items;
      bytes_room = self.bytes_room;
      written_room = self.written_room;
      calls_room =
          let e : vec_len c.push_call.new.calls + (self.calls_left - 1) ≤ vec_capacity c.push_call.new.calls = omega (arith, has.2, self.calls_room, c.push_call.ensures.long, c.push_call.ensures.capacity) in e;
      synced_room = self.synced_room;
      ranges_room =
          let e : vec_len c.push_range.new.ranges + (self.calls_left - 1) ≤ vec_capacity c.push_range.new.ranges = omega (arith, has.2, self.ranges_room, c.push_range.ensures.long, c.push_range.ensures.capacity) in e;
    }

pub returns-clause-torn : goal.returns-clause-torn
returns-clause-torn c told =
    let self = c.args.self.now in
    ap (λ calls. replay calls self.written.items (opened self.start.items)) c.push_call.ensures.calls ∙ replay-tear self.calls.items self.written.items (opened self.start.items) c.args.at c.args.length
