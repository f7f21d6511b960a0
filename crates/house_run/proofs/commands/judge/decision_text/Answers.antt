-- The decision is a table or a cycle.
use Rattle.std.proofs.Common.{◌≡◌, ◌∷◌, [], List, length, subst, sym}
use Rattle.std.specs.Prelude.{IfOk, ℤ, codes, decimal}
use Rattle.std.specs.List.{AllByRecursion}
use Rattle.lot_base.specs.Box.{box}
use Rattle.lot_base.specs.Goods.{box_size}
use Rattle.outcome_text.specs.Lines.{text_of}
use Rattle.rationale.specs.Decisions.{IsDecision}
use Rattle.rationale.specs.declared.deciding.Decision.{Decision}
use Rattle.rationale.specs.declared.links.Link.{Link}
use Rattle.house_run.specs.JudgeCommand.{decision_lines, link_lines, value_lines}
use Rattle.house_run.proofs.Judging.{IsKnown, links-known}
use Rattle.house_run.proofs.commands.judge.decision_text.Goals as goal

pub links_text-requires : goal.links_text-requires
links_text-requires c =
    let decided = subst (λ (d : Decision). IsDecision c.args.goods.now c.requires.0 d) c.in-Cycle.is c.requires.2 in
    let P : List Link → Type 0 = λ links. AllByRecursion (IsKnown (length c.args.places.now)) links in
    subst P (sym c.as_slice-in-Cycle.ensures) (links-known c.args.goods.now c.requires.0 c.in-Cycle.links (length c.args.places.now) c.requires.1 decided.negative)

pub returns-in-Rational : goal.returns-in-Rational
returns-in-Rational c =
    let D : Decision → Type 0 = λ d. IfOk c.values_text.result (λ text. text.items ≡ text_of (decision_lines c.args.bidder c.args.goods.now c.args.places.now d)) in
    let V : List ℤ → Type 0 = λ values. IfOk c.values_text.result (λ text. text.items ≡ text_of
    ((codes "rational" ∷ codes "bidder" ∷ decimal c.args.bidder ∷ codes "bundles" ∷ decimal (box_size c.args.goods.now) ∷ []) ∷ value_lines (box c.args.goods.now) values)) in
    subst D (sym c.in-Rational.is) (subst V c.as_slice.ensures c.values_text.ensures)

pub returns-in-Cycle : goal.returns-in-Cycle
returns-in-Cycle c =
    let D : Decision → Type 0 = λ d. IfOk c.links_text.result (λ text. text.items ≡ text_of (decision_lines c.args.bidder c.args.goods.now c.args.places.now d)) in
    let L : List Link → Type 0 = λ links. IfOk c.links_text.result (λ text. text.items ≡ text_of
    ((codes "irrational" ∷ codes "bidder" ∷ decimal c.args.bidder ∷ codes "links" ∷ decimal (length links) ∷ []) ∷ link_lines c.args.places.now links)) in
    subst D (sym c.in-Cycle.is) (subst L c.as_slice-in-Cycle.ensures c.links_text.ensures)
