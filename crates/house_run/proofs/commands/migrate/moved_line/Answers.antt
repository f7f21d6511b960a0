use Rattle.std.proofs.Common.{◌≡◌, ◌∙◌, ℕ, [], ◌∷◌, append_assoc, ap, subst}
use Rattle.std.specs.Prelude.{codes, decimal, string_bytes}
use Rattle.outcome_text.specs.Lines.{line}
use Rattle.house_run.proofs.commands.migrate.moved_line.Goals as goal

pub returns : goal.returns
returns c =
    let L : ℕ → ℕ → Type 0 = λ n m. string_bytes c.in_ok-text.text ≡ line (codes "migrated" ∷ codes "clock" ∷ decimal n ∷ codes "reports" ∷ decimal m ∷ []) in
    let here : L c.number-number.result c.count-count.result = simp append_assoc c.in_ok-text.ensures.ok in
    let history = c.args.clock.now.history in
    ap (λ v. v.items) c.into_bytes.ensures.value
    ∙ subst (L history.number) c.count-count.ensures.value (subst (λ n. L n c.count-count.result) c.number-number.ensures.value here)
