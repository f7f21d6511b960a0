use Rattle.std.proofs.Common.{◌≡◌, ℕ, [], ◌∷◌, append_assoc, subst}
use Rattle.std.specs.Prelude.{codes, decimal, string_bytes}
use Rattle.outcome_text.specs.Lines.{line}
use Rattle.house_run.specs.Status.{record_of}
use Rattle.house_run.proofs.delivery.bad_target_line.Goals as goal

pub returns : goal.returns
returns c =
    let P : ℕ → ℕ → Type 0 = λ r n. string_bytes c.in_ok-line.line ≡ line (codes "bad" ∷ codes "target" ∷ codes "clock" ∷ decimal c.args.clock ∷ codes "record" ∷ decimal r ∷ codes "fault" ∷ decimal n ∷ []) in
    let here : P c.record_of-record.result c.refusal_number-number.result = simp append_assoc c.in_ok-line.ensures.ok in
    subst (P (record_of c.args.fault.now)) c.refusal_number-number.ensures (subst (λ r. P r c.refusal_number-number.result) c.record_of-record.ensures here)
