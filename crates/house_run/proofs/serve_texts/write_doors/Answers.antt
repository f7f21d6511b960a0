use Rattle.std.proofs.Common.{◌≡◌, ◌∙◌, ◌+◌, ◌++◌, suc, List, ◌∷◌, drop, map, arith, ap, sym, subst}
use Rattle.std.proofs.lemmas.List.{drop_more}
use Rattle.outcome_text.specs.Lines.{text_of}
use Rattle.house_serve.specs.declared.ends.SessionEnd.{SessionEnd}
use Rattle.house_run.specs.ServeTexts.{door_lines, session_lines}
use Rattle.house_run.proofs.Lining.{doors-more}
use Rattle.house_run.proofs.serve_texts.write_doors.Goals as goal

pub loop-door-preserved : goal.loop-door-preserved
loop-door-preserved c =
    let door = c.loop-door.door in
    let doors = c.args.doors.now in
    let ends = c.index-doors-door.result in
    let rest : List (List SessionEnd) = map (λ v. v.items) (drop (door + 1) doors) in
    let whole = c.args.text.now.items ++ text_of (door_lines 0 (map (λ v. v.items) doors)) in
    let next : map (λ v. v.items) (drop door doors) ≡ ends.items ∷ rest =
    ap (map (λ v. v.items)) (drop_more doors door ends c.loop-door-test.true) ∙ ap (λ v. v.items ∷ rest) (sym c.index-doors-door.is) in
    let e : suc door ≡ door + 1 = omega arith in
    subst (λ n. c.write_sessions.new.text.items ++ text_of (door_lines n rest) ≡ whole) e
    (doors-more c.loop-door.text.items c.write_sessions.new.text.items whole door ends.items rest (ap (λ l. c.loop-door.text.items ++ text_of (door_lines door l)) (sym next) ∙ c.loop-door.invariant)
    (c.in_ok-write_sessions.ensures ∙ ap (λ l. c.loop-door.text.items ++ text_of (session_lines door 1 l)) c.deref.ensures.value))
