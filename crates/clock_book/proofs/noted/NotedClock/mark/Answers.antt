use Rattle.std.proofs.Common.{◌≡◌, ◌∙◌, ◌+◌, ◌%◌, ◌^◌, ◌++◌, ◌∷◌, [], ap, refl}
use Rattle.clock_book.specs.DeskHistories.{NotedOf, history_of}
use Rattle.clock_book.specs.Noted.{noted_in}
use Rattle.clock_book.specs.declared.entries.Entry.TheVariants.{Mark}
use Rattle.clock_book.proofs.Histories.{history-push, noted-marked}
use Rattle.clock_book.specs.declared.entries.Note.TheVariants.{Failed}
use Rattle.clock_book.proofs.noted.NotedClock.mark.Goals as goal

pub invariant_of-self : goal.invariant_of-self
invariant_of-self c =
    let n = c.self.inside in
    let h = history_of n.opened.value.history.reports (noted_in n.since) in
    let push : history_of n.opened.value.history.reports (noted_in c.note_after.result) ≡ h ++ Mark c.args.report.now ∷ [] =
    ap (history_of n.opened.value.history.reports) c.note_after.ensures ∙ history-push n.opened.value.history.reports (noted_in n.since) (c.args.report.now, Failed) in
    rw push (noted-marked n.clock.history.reports h n.marks ((n.marks + 1) % 2 ^ 64) c.args.report.now refl c.self.invariant)

pub returns-clause-history : goal.returns-clause-history
returns-clause-history c =
    let n = c.self.inside in
    ap (history_of n.opened.value.history.reports) c.note_after.ensures ∙ history-push n.opened.value.history.reports (noted_in n.since) (c.args.report.now, Failed)
    ∙ ap (λ (v : NotedOf). v.history ++ Mark c.args.report.now ∷ []) c.self.view_is
