use Rattle.std.proofs.Common.{◌≡◌, ◌∙◌, ◌++◌, ◌∷◌, [], ap}
use Rattle.clock_book.specs.DeskHistories.{NotedOf, history_of, entry_of}
use Rattle.clock_book.specs.Noted.{noted_in}
use Rattle.clock_book.proofs.Histories.{history-push, noted-taken}
use Rattle.clock_book.proofs.noted.NotedClock.take.Goals as goal

pub invariant_of-self : goal.invariant_of-self
invariant_of-self c =
    let n = c.self.inside in
    let h = history_of n.opened.value.history.reports (noted_in n.since) in
    let reports : c.apply_reserved.new.clock.history.reports ≡ n.clock.history.reports ++ c.args.report ∷ [] = ap (λ k. k.history.reports) c.apply_reserved.ensures in
    let push : history_of n.opened.value.history.reports (noted_in c.note_after.result) ≡ h ++ entry_of (c.args.report, c.args.note) ∷ [] =
    ap (history_of n.opened.value.history.reports) c.note_after.ensures ∙ history-push n.opened.value.history.reports (noted_in n.since) (c.args.report, c.args.note) in
    rw (reports, push) (noted-taken n.clock.history.reports h n.marks c.args.report c.args.note c.requires.note c.self.invariant)

pub returns-clause-history : goal.returns-clause-history
returns-clause-history c =
    let n = c.self.inside in
    ap (history_of n.opened.value.history.reports) c.note_after.ensures ∙ history-push n.opened.value.history.reports (noted_in n.since) (c.args.report, c.args.note)
    ∙ ap (λ (v : NotedOf). v.history ++ entry_of (c.args.report, c.args.note) ∷ []) c.self.view_is
