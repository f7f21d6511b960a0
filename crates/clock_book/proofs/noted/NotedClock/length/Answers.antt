use Rattle.std.proofs.Common.{◌≡◌, ◌∙◌, ◌+◌, ◌%◌, ◌^◌, length, ap, arith}
use Rattle.clock_book.specs.DeskHistories.{NotedOf, history_of}
use Rattle.clock_book.specs.Noted.{noted_in}
use Rattle.clock_book.proofs.Histories.{history-length}
use Rattle.clock_book.proofs.noted.NotedClock.length.Goals as goal

pub returns : goal.returns
returns c =
    let n = c.self.inside in
    let h = history_of n.opened.value.history.reports (noted_in n.since) in
    let r = ap length c.self.invariant.reports_are in
    let l = history-length h in
    let e : (c.count.result + n.marks) % 2 ^ 64 ≡ length h % 2 ^ 64 = omega (arith, r, l, c.count.ensures.value, c.self.invariant.counted) in
    e ∙ ap (λ (v : NotedOf). length v.history % 2 ^ 64) c.self.view_is
