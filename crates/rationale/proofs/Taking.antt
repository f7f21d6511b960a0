-- The observations of the first lines and of the first stretches, and of one more.
use Rattle.std.proofs.Common.{◌≡◌, ◌≤◌, ◌<◌, ◌+◌, ◌*◌, ◌-◌, ◌^◌, ℕ, List, [], ◌∷◌, ◌++◌, length, take, drop, Some, arith, ap, sym, subst, ◌∙◌, length-append, take-append-drop}
use Rattle.std.specs.Prelude.{slice_index_or, slice_get, Option, MatchOption}
use Rattle.std.proofs.lemmas.List.{take_more}
use Rattle.rationale.specs.Observations.{Observation}
use Rattle.rationale.specs.Lines.{along}
use Rattle.rationale.specs.Kept.{lines_by, all_by, thin_at, thinned}
use Rattle.rationale.specs.Placed.{IsPlaced, IsCourse, AreBetween}
use Rattle.rationale.specs.declared.labels.Parent.{Parent}
use Rattle.rationale.specs.declared.lines.Line.{Line}
use Rattle.rationale.specs.declared.stretches.Stretch.{Stretch}
use Rattle.rationale.proofs.Growing.{along-long, lines_by-append, all_by-append, lines_by-last, all_by-last}
use Rattle.rationale.proofs.Courses.{get_first, course_join, between_low}

lines_next : (seen : Line → ℕ → Observation) (lines : List Line) (i : ℕ) (line : Line) → i < length lines → line ≡ slice_index_or lines i line →
    lines_by seen (take (i + 1) lines) ≡ lines_by seen (take i lines) ++ along (seen line) line.count
lines_next seen lines i line inside is =
    ap (lines_by seen) (take_more lines i line inside ∙ ap (λ (z : Line). take i lines ++ z ∷ []) (sym is)) ∙ lines_by-last seen (take i lines) line

lines_fit : (seen : Line → ℕ → Observation) (lines : List Line) (i : ℕ) → length (lines_by seen (take i lines)) ≤ length (lines_by seen lines)
lines_fit seen lines i =
    let e = ap length (ap (lines_by seen) (sym (take-append-drop i lines)) ∙ lines_by-append seen (take i lines) (drop i lines)) in
    let n = length-append (lines_by seen (take i lines)) (lines_by seen (drop i lines)) in
    omega arith

all_next : (seen : List (List ℕ) → Line → ℕ → Observation) (stretches : List Stretch) (i : ℕ) (s : Stretch) → i < length stretches → s ≡ slice_index_or stretches i s →
    all_by seen (take (i + 1) stretches) ≡ all_by seen (take i stretches) ++ lines_by (seen s.demand) s.lines.items
all_next seen stretches i s inside is =
    ap (all_by seen) (take_more stretches i s inside ∙ ap (λ (z : Stretch). take i stretches ++ z ∷ []) (sym is)) ∙ all_by-last seen (take i stretches) s

all_fit : (seen : List (List ℕ) → Line → ℕ → Observation) (stretches : List Stretch) (i : ℕ) → length (all_by seen (take i stretches)) ≤ length (all_by seen stretches)
all_fit seen stretches i =
    let e = ap length (ap (all_by seen) (sym (take-append-drop i stretches)) ∙ all_by-append seen (take i stretches) (drop i stretches)) in
    let n = length-append (all_by seen (take i stretches)) (all_by seen (drop i stretches)) in
    omega arith

-- a line more is still among all
pub lines_room : (seen : Line → ℕ → Observation) (lines : List Line) (i : ℕ) (line : Line) → i < length lines → line ≡ slice_index_or lines i line →
    length (lines_by seen (take i lines)) + line.count ≤ length (lines_by seen lines)
lines_room seen lines i line inside is =
    let e = ap length (lines_next seen lines i line inside is) in
    let n = length-append (lines_by seen (take i lines)) (along (seen line) line.count) in
    let l = along-long (seen line) line.count in
    let f = lines_fit seen lines (i + 1) in
    omega arith

pub all_room : (seen : List (List ℕ) → Line → ℕ → Observation) (stretches : List Stretch) (i : ℕ) (s : Stretch) → i < length stretches → s ≡ slice_index_or stretches i s →
    length (all_by seen (take i stretches)) + length (lines_by (seen s.demand) s.lines.items) ≤ length (all_by seen stretches)
all_room seen stretches i s inside is =
    let e = ap length (all_next seen stretches i s inside is) in
    let n = length-append (all_by seen (take i stretches)) (lines_by (seen s.demand) s.lines.items) in
    let f = all_fit seen stretches (i + 1) in
    omega arith

-- what the first ones leave of the room below the labels
pub lower_room : (n m k : ℕ) (labels : List ℕ) → n + m ≤ k → AreBetween (2 ^ 58 + k * 2 ^ 26 - n * 2 ^ 26) (2 ^ 60) labels → AreBetween (2 ^ 58 + m * 2 ^ 26) (2 ^ 60) labels
lower_room n m k labels fit b = between_low (2 ^ 58 + k * 2 ^ 26 - n * 2 ^ 26) (2 ^ 58 + m * 2 ^ 26) (2 ^ 60) labels (omega arith) b

pub lines_course : (supply : List ℕ) (seen : Line → ℕ → Observation) (lines : List Line) (i : ℕ) (line : Line) (first number : ℕ) (l0 l1 l2 : List ℕ) (p0 p1 p2 : List (Option Parent)) (f g r : Option ℕ) →
    i < length lines → line ≡ slice_index_or lines i line → number ≡ first + length (lines_by seen (take i lines)) → IsCourse supply (lines_by seen (take i lines)) first l0 p0 l1 p1 f →
    IsCourse supply (along (seen line) line.count) number l1 p1 l2 p2 g → MatchOption g (r ≡ f) (λ y. r ≡ Some y) → IsCourse supply (lines_by seen (take (i + 1) lines)) first l0 p0 l2 p2 r
lines_course supply seen lines i line first number l0 l1 l2 p0 p1 p2 f g r inside is at before now which =
    subst (λ (os : List Observation). IsCourse supply os first l0 p0 l2 p2 r) (sym (lines_next seen lines i line inside is))
    (course_join supply (lines_by seen (take i lines)) (along (seen line) line.count) first number l0 l1 l2 p0 p1 p2 f g r at before now which)

pub lines_number : (seen : Line → ℕ → Observation) (lines : List Line) (i : ℕ) (line : Line) (first number : ℕ) → i < length lines → line ≡ slice_index_or lines i line →
    number ≡ first + length (lines_by seen (take i lines)) → number + line.count ≡ first + length (lines_by seen (take (i + 1) lines))
lines_number seen lines i line first number inside is at =
    let e = ap length (lines_next seen lines i line inside is) in
    let n = length-append (lines_by seen (take i lines)) (along (seen line) line.count) in
    let l = along-long (seen line) line.count in
    omega arith

pub all_course : (supply : List ℕ) (stretches : List Stretch) (i : ℕ) (s : Stretch) (number : ℕ) (l0 l1 l2 : List ℕ) (p0 p1 p2 : List (Option Parent)) (f g r : Option ℕ) →
    i < length stretches → s ≡ slice_index_or stretches i s → number ≡ length (thinned (take i stretches)) → IsCourse supply (thinned (take i stretches)) 0 l0 p0 l1 p1 f →
    IsCourse supply (lines_by (thin_at s.demand) s.lines.items) number l1 p1 l2 p2 g → MatchOption g (r ≡ f) (λ y. r ≡ Some y) → IsCourse supply (thinned (take (i + 1) stretches)) 0 l0 p0 l2 p2 r
all_course supply stretches i s number l0 l1 l2 p0 p1 p2 f g r inside is at before now which =
    subst (λ (os : List Observation). IsCourse supply os 0 l0 p0 l2 p2 r) (sym (all_next thin_at stretches i s inside is))
    (course_join supply (thinned (take i stretches)) (lines_by (thin_at s.demand) s.lines.items) 0 number l0 l1 l2 p0 p1 p2 f g r (let e : length (thinned (take i stretches)) ≡ 0 + length (thinned (take i stretches)) = omega arith in at ∙ e) before now which)

pub all_number : (stretches : List Stretch) (i : ℕ) (s : Stretch) (number : ℕ) → i < length stretches → s ≡ slice_index_or stretches i s →
    number ≡ length (thinned (take i stretches)) → number + length (lines_by (thin_at s.demand) s.lines.items) ≡ length (thinned (take (i + 1) stretches))
all_number stretches i s number inside is at =
    let e = ap length (all_next thin_at stretches i s inside is) in
    let n = length-append (thinned (take i stretches)) (lines_by (thin_at s.demand) s.lines.items) in
    omega arith

-- labels and parents stay right for all stretches while the first ones are followed
pub placed_so_far : (supply : List ℕ) (stretches : List Stretch) (i : ℕ) (l0 l1 : List ℕ) (p0 p1 : List (Option Parent)) (last : Option ℕ) → IsCourse supply (thinned (take i stretches)) 0 l0 p0 l1 p1 last →
    IsPlaced supply (thinned stretches) l0 p0 → IsPlaced supply (thinned stretches) l1 p1
placed_so_far supply stretches i l0 l1 p0 p1 last course placed =
    let first = thinned (take i stretches) in
    let rest = thinned (drop i stretches) in
    let e : thinned stretches ≡ first ++ rest = ap thinned (sym (take-append-drop i stretches)) ∙ all_by-append thin_at (take i stretches) (drop i stretches) in
    (course.round (thinned stretches) (λ t inside. (let z : 0 + t ≡ t = omega arith in ap (slice_get (thinned stretches)) z ∙ ap (λ (os : List Observation). slice_get os t) e ∙ get_first first rest t inside)) placed).placed
