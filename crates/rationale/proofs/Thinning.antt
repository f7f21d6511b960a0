-- The observations of a line that bind: the first and the last.
use Rattle.std.proofs.Common.{◌≡◌, ◌≤◌, ◌<◌, ◌+◌, ◌-◌, ℕ, suc, zero, List, [], ◌∷◌, ◌++◌, length, Some, None, arith, ap, refl, inl, inr, sym, subst, ◌∙◌}
use Rattle.std.specs.Prelude.{true, false, ◌==◌, Option, slice_get, MatchOption}
use Rattle.std.proofs.lemmas.Bool.{cases_lt, cases_Bool, cond-true, cond-false}
use Rattle.std.proofs.lemmas.Bool.Decides.{nat_tests}
use Rattle.std.proofs.lemmas.Option.{slice_get_within}
use Rattle.rationale.specs.Observations.{Observation}
use Rattle.rationale.specs.Lines.{after, along}
use Rattle.rationale.specs.Kept.{IsLine, is_end, thin_at}
use Rattle.rationale.specs.Placed.{IsCourse}
use Rattle.rationale.specs.declared.labels.Parent.{Parent}
use Rattle.rationale.specs.declared.lines.Line.{Line}
use Rattle.rationale.proofs.Stepping.{after-0}
use Rattle.rationale.proofs.Growing.{along-long}
use Rattle.rationale.proofs.Courses.{get_first, get_second, course_join, course_blank}

pub along-first : (f : ℕ → Observation) (n : ℕ) → along f (suc n) ≡ f 0 ∷ along (λ t. f (suc t)) n
along-first f zero = refl
along-first f (suc n) = ap (λ (os : List Observation). os ++ f (suc n) ∷ []) (along-first f n)

pub get_along : (f : ℕ → Observation) (n t : ℕ) → t < n → slice_get (along f n) t ≡ Some (f t)
get_along f zero t inside = absurd (omega arith)
get_along f (suc n) t inside = elim (cases_lt t n) [
  | inl before ↦ get_first (along f n) (f n ∷ []) t (let l = along-long f n in omega arith) ∙ get_along f n t before
  | inr at ↦
      (let l = along-long f n in
      let e : t ≡ length (along f n) + 0 = omega arith in
      let k : n ≡ t = omega arith in
      ap (slice_get (along f (suc n))) e ∙ get_second (along f n) (f n ∷ []) 0 ∙ ap (λ (z : ℕ). Some (f z)) k)
]

-- an end of a line keeps its bundles, and the others have none
thin_end : (bundles : List (List ℕ)) (line : Line) (t : ℕ) (p : List ℕ) → is_end line t ≡ true → after line.first line.step t ≡ p → thin_at bundles line t ≡ record { prices = p; bundles = bundles }
thin_end bundles line t p is at =
    let e = cond-true (is_end line t) bundles [] is in
    let F : List ℕ → List (List ℕ) → Observation = λ q b. record { prices = q; bundles = b } in
    λ j. F (at j) (e j)

pub thin_first : (supply : List ℕ) (bundles : List (List ℕ)) (line : Line) → IsLine supply line → thin_at bundles line 0 ≡ record { prices = line.first; bundles = bundles }
thin_first supply bundles line is = thin_end bundles line 0 line.first refl (after-0 line.first line.step (is.first_goods ∙ sym is.step_goods))

at_last : (line : Line) (t : ℕ) → t + 1 ≡ line.count → is_end line t ≡ true
at_last line t e = elim (cases_Bool (t == 0)) [
  | inl a ↦ rw a refl
  | inr a ↦ (let b : (t + 1 == line.count) ≡ true = grind (arith, nat_tests) in rw (a, b) refl)
]

inner : (line : Line) (t : ℕ) → 0 < t → t + 1 < line.count → is_end line t ≡ false
inner line t low high =
    let a : (t == 0) ≡ false = grind (arith, nat_tests) in
    let b : (t + 1 == line.count) ≡ false = grind (arith, nat_tests) in
    rw (a, b) refl

pub thin_last : (supply : List ℕ) (bundles : List (List ℕ)) (line : Line) (t : ℕ) → IsLine supply line → t + 1 ≡ line.count → thin_at bundles line t ≡ record { prices = line.last; bundles = bundles }
thin_last supply bundles line t is e =
    let k : t ≡ line.count - 1 = omega arith in
    thin_end bundles line t line.last (at_last line t e) (ap (after line.first line.step) k ∙ sym is.last_is)

pub thin_inner : (bundles : List (List ℕ)) (line : Line) (t : ℕ) → 0 < t → t + 1 < line.count → (thin_at bundles line t).bundles ≡ []
thin_inner bundles line t low high = cond-false (is_end line t) bundles [] (inner line t low high)

-- a line of one observation
pub line_of_one : (supply : List ℕ) (bundles : List (List ℕ)) (line : Line) → IsLine supply line → line.count ≡ 1 → along (thin_at bundles line) line.count ≡ record { prices = line.first; bundles = bundles } ∷ []
line_of_one supply bundles line is one =
    let e : line.count ≡ suc zero = omega arith in
    ap (along (thin_at bundles line)) e ∙ ap (λ (o : Observation). o ∷ []) (thin_first supply bundles line is)

pub inside_of : List (List ℕ) → Line → List Observation
inside_of bundles line = along (λ t. thin_at bundles line (suc t)) (line.count - 2)

pub line_of_more : (supply : List ℕ) (bundles : List (List ℕ)) (line : Line) → IsLine supply line → 2 ≤ line.count →
    along (thin_at bundles line) line.count ≡ ((record { prices = line.first; bundles = bundles } ∷ []) ++ inside_of bundles line) ++ record { prices = line.last; bundles = bundles } ∷ []
unfolding inside_of
line_of_more supply bundles line is more =
    let f = thin_at bundles line in
    let n = line.count - 2 in
    let e : line.count ≡ suc (suc n) = omega arith in
    let a = thin_first supply bundles line is in
    let b = thin_last supply bundles line (suc n) is (omega arith) in
    ap (along f) e ∙ (λ j. along-first f n j ++ b j ∷ []) ∙ (λ j. (a j ∷ along (λ t. f (suc t)) n) ++ record { prices = line.last; bundles = bundles } ∷ [])

pub inside_long : (bundles : List (List ℕ)) (line : Line) → length (inside_of bundles line) ≡ line.count - 2
unfolding inside_of
inside_long bundles line = along-long (λ t. thin_at bundles line (suc t)) (line.count - 2)

pub inside_blank : (bundles : List (List ℕ)) (line : Line) (t : ℕ) (o : Observation) → slice_get (inside_of bundles line) t ≡ Some o → o.bundles ≡ []
unfolding inside_of
inside_blank bundles line t o got = elim (cases_lt t (line.count - 2)) [
  | inl within ↦
      (let e = sym (get_along (λ i. thin_at bundles line (suc i)) (line.count - 2) t within) ∙ got in
      let same : thin_at bundles line (suc t) ≡ o = cc in
      ap (λ (z : Observation). z.bundles) (sym same) ∙ thin_inner bundles line (suc t) (omega arith) (omega arith))
  | inr past ↦ absurd (let l = slice_get_within (inside_of bundles line) t o got in let k = along-long (λ i. thin_at bundles line (suc i)) (line.count - 2) in omega arith)
]

-- the first observation, those between that have no links, and the last
pub course_of_line : (supply : List ℕ) (bundles : List (List ℕ)) (line : Line) (number : ℕ) (l0 l1 l2 : List ℕ) (p0 p1 p2 : List (Option Parent)) (f g r : Option ℕ) → IsLine supply line → 2 ≤ line.count →
    IsCourse supply (record { prices = line.first; bundles = bundles } ∷ []) number l0 p0 l1 p1 f →
    IsCourse supply (record { prices = line.last; bundles = bundles } ∷ []) (number + (line.count - 1)) l1 p1 l2 p2 g →
    MatchOption g (r ≡ f) (λ y. r ≡ Some y) → IsCourse supply (along (thin_at bundles line) line.count) number l0 p0 l2 p2 r
course_of_line supply bundles line number l0 l1 l2 p0 p1 p2 f g r is more first last which =
    let o : Observation = record { prices = line.first; bundles = bundles } in
    let long = inside_long bundles line in
    let blank = course_blank supply (inside_of bundles line) (number + 1) l1 p1 (inside_blank bundles line) first.labels_long first.parents_long in
    let start = course_join supply (o ∷ []) (inside_of bundles line) number (number + 1) l0 l1 l1 p0 p1 p1 f None f refl first blank refl in
    let at : number + (line.count - 1) ≡ number + length ((o ∷ []) ++ inside_of bundles line) = (let k : length ((o ∷ []) ++ inside_of bundles line) ≡ suc (length (inside_of bundles line)) = refl in omega arith) in
    let whole = course_join supply ((o ∷ []) ++ inside_of bundles line) (record { prices = line.last; bundles = bundles } ∷ []) number (number + (line.count - 1)) l0 l1 l2 p0 p1 p2 f g r at start last which in
    subst (λ (os : List Observation). IsCourse supply os number l0 p0 l2 p2 r) (sym (line_of_more supply bundles line is more)) whole
