use Rattle.std.proofs.Common.{◌≡◌, ◌+◌, ◌-◌, ◌≤◌, IsTrue, vec_len, vec_capacity, rules, ◌++◌, [], ◌∷◌, ◌∙◌, ap, sym, arith}
use Rattle.house_io.specs.Moments.{opened}
use Rattle.house_io.specs.Calls.{replay, total}
use Rattle.house_io.specs.declared.memory.recorded_file.Call.TheVariants.{Sync}
use Rattle.house_io.specs.Ranges.{latest_first}
use Rattle.house_io.proofs.Replays.{read_is_image_of, replay-sync, total-push}
use Rattle.house_io.proofs.memory.recorded_file.RecordedFile.sync.Goals as goal

pub invariant_of-self-2 : goal.invariant_of-self-2
invariant_of-self-2 c =
    let self = c.args.self.now in
    let moments_are = ap (λ calls. replay calls self.written.items (opened self.start.items)) c.push_call.ensures.calls ∙ replay-sync self.calls.items self.written.items (opened self.start.items) in
    let had : IsTrue c.has_room.result = search rules in
    let has = c.has_room.ensures.0 had in
    record {
      read = λ told. self.read told ∙ sym (ap (λ ms. ms.now.read) moments_are);
      whole = λ told. ap total c.push_call.ensures.calls ∙ (let e : total (self.calls.items ++ Sync ∷ []) ≡ total self.calls.items = omega (arith, total-push self.calls.items Sync) in e) ∙ self.whole told;
      settled = λ told. c.copy_over.ensures.bytes ∙ c.deref.ensures.value ∙ self.read told ∙ sym (ap (λ ms. ms.now.synced) moments_are);
      since = λ told. ap (λ ranges. latest_first ranges []) c.forget.ensures.ranges ∙ sym (ap (λ ms. ms.now.ranges) moments_are);
      readable = read_is_image_of c.push_call.new.calls.items self.written.items self.start.items;
      bytes_room = self.bytes_room;
      written_room = self.written_room;
      calls_room =
          let e : vec_len c.push_call.new.calls + (self.calls_left - 1) ≤ vec_capacity c.push_call.new.calls = omega (arith, has.2, self.calls_room, c.push_call.ensures.long, c.push_call.ensures.capacity) in e;
      synced_room =
          let e : vec_len self.bytes + self.room ≤ vec_capacity c.copy_over.new.bytes = omega (arith, self.synced_room, c.copy_over.ensures.capacity) in e;
      ranges_room =
          let e : vec_len c.forget.new.ranges + (self.calls_left - 1) ≤ vec_capacity c.forget.new.ranges = omega (arith, self.ranges_room, c.forget.ensures.long, c.forget.ensures.capacity) in e;
    }

pub returns-clause-synced : goal.returns-clause-synced
returns-clause-synced c told =
    let self = c.args.self.now in
    ap (λ calls. replay calls self.written.items (opened self.start.items)) c.push_call.ensures.calls ∙ replay-sync self.calls.items self.written.items (opened self.start.items)
