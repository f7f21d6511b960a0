use Rattle.std.proofs.Common.{◌∙◌, ◌++◌, List, ap, map}
use Rattle.house_serve.specs.declared.ends.SessionEnd.{SessionEnd}
use Rattle.outcome_text.specs.Lines.{text_of}
use Rattle.house_run.specs.ServeTexts.{door_lines, serve_text}
use Rattle.house_run.proofs.serve_texts.serve_text.Goals as goal

pub returns : goal.returns
unfolding serve_text
returns c =
    let doors : List (List SessionEnd) = map (λ v. v.items) c.args.doors.now in
    let first = c.in_ok-write_doors.ensures ∙ ap (λ l. l ++ text_of (door_lines 0 doors)) c.new-text.ensures.items in
    let second = c.deref.ensures.value ∙ c.in_ok-standings.ensures in
    c.in_ok-extend_from_slice.ensures.items ∙ (λ i. first i ++ second i)
