-- What following observations one after another makes of labels and parents.
use Rattle.std.proofs.Common.{◌≡◌, ◌≤◌, ◌<◌, ◌+◌, ◌-◌, ◌*◌, ◌^◌, ℕ, suc, zero, List, [], ◌∷◌, ◌++◌, length, slice_index, Some, None, arith, ap, refl, inl, inr, sym, subst, ◌∙◌, length-append}
use Rattle.std.specs.Prelude.{Bool, true, false, Option, slice_get, IfSome, IfNone, MatchOption, if◌then◌else◌}
use Rattle.std.proofs.lemmas.Int.{ints}
use Rattle.std.proofs.lemmas.Bool.{cases_lt}
use Rattle.lot_base.specs.Goods.{box_size}
use Rattle.lot_base.specs.Box.{bundle_at}
use Rattle.rationale.specs.Observations.{Observation}
use Rattle.rationale.specs.Links.{is_in}
use Rattle.rationale.specs.Steps.{AreSteps}
use Rattle.rationale.specs.Shown.{IsShown}
use Rattle.rationale.specs.Placed.{IsRound, IsCourse, AreBetween, Fell}
use Rattle.rationale.specs.declared.labels.Parent.{Parent}
use Rattle.rationale.proofs.Bundles.{edge_facts_at}
use Rattle.rationale.proofs.Lowering.{IsBefore}
use Rattle.rationale.proofs.Showing.{followed}

pub get_first : (xs ys : List Observation) (t : ℕ) → t < length xs → slice_get (xs ++ ys) t ≡ slice_get xs t
get_first [] ys t h = absurd (omega arith)
get_first (x ∷ xs) ys zero h = refl
get_first (x ∷ xs) ys (suc t) h = get_first xs ys t (omega arith)

pub get_second : (xs ys : List Observation) (t : ℕ) → slice_get (xs ++ ys) (length xs + t) ≡ slice_get ys t
get_second [] ys t = let e : 0 + t ≡ t = omega arith in ap (slice_get ys) e
get_second (x ∷ xs) ys t = let e : length (x ∷ xs) + t ≡ suc (length xs + t) = omega arith in ap (slice_get (x ∷ (xs ++ ys))) e ∙ get_second xs ys t

pub between_low : (low lower high : ℕ) (labels : List ℕ) → lower ≤ low → AreBetween low high labels → AreBetween lower high labels
between_low low lower high labels less b = record { above = λ i inside. (let a = b.above i inside in omega arith); below = b.below }

pub round_join : (supply : List ℕ) (os : List Observation) (a b c : ℕ) (l0 l1 l2 : List ℕ) (p1 p2 : List (Option Parent)) →
    IsRound supply os a b l0 l1 p1 → IsRound supply os b c l1 l2 p2 → IsRound supply os a c l0 l2 p2
round_join supply os a b c l0 l1 l2 p1 p2 r s = record {
  placed = s.placed;
  falls = λ y. (let i = r.falls y in let j = s.falls y in omega (arith, ints));
  followed = λ e there from to. elim (cases_lt e.observation b) [
    | inl before ↦ (let i = r.followed e there from before in let j = s.falls e.y in omega (arith, ints))
    | inr at ↦ (let i = s.followed e there at to in let j = r.falls e.x in omega (arith, ints))
  ];
}

pub fell_join : (fell last r : Option ℕ) (n : ℕ) (l0 l1 l2 : List ℕ) → MatchOption fell (r ≡ last) (λ y. r ≡ Some y) → Fell fell n l1 l2 →
    ((y : ℕ) → y < n → slice_index l1 y ≤ slice_index l0 y) → ((y : ℕ) → y < n → slice_index l2 y ≤ slice_index l1 y) → Fell last n l0 l1 → Fell r n l0 l2
fell_join (Some y) last r n l0 l1 l2 is some falls more fell =
    subst (λ (z : Option ℕ). Fell z n l0 l2) (sym is) (let i = some.1 in let j = falls y some.0 in (some.0, omega arith))
fell_join None None r n l0 l1 l2 is none falls more fell =
    subst (λ (z : Option ℕ). Fell z n l0 l2) (sym is) (λ y inside. none y inside ∙ fell y inside)
fell_join None (Some y) r n l0 l1 l2 is none falls more fell =
    subst (λ (z : Option ℕ). Fell z n l0 l2) (sym is) (let i = none y fell.0 in let j = fell.1 in (fell.0, omega arith))

-- one part after another
pub course_join : (supply : List ℕ) (A B : List Observation) (a b : ℕ) (l0 l1 l2 : List ℕ) (p0 p1 p2 : List (Option Parent)) (f g r : Option ℕ) → b ≡ a + length A →
    IsCourse supply A a l0 p0 l1 p1 f → IsCourse supply B b l1 p1 l2 p2 g → MatchOption g (r ≡ f) (λ y. r ≡ Some y) → IsCourse supply (A ++ B) a l0 p0 l2 p2 r
course_join supply A B a b l0 l1 l2 p0 p1 p2 f g r at first second which = record {
  labels_long = second.labels_long;
  parents_long = second.parents_long;
  between = λ low high start.
      (let n = length-append A B in
      let i = first.between low (omega arith) start in
      let j = second.between (low - length A * 2 ^ 26) (omega arith) i in
      between_low (low - length A * 2 ^ 26 - length B * 2 ^ 26) (low - length (A ++ B) * 2 ^ 26) (2 ^ 60) l2 (omega arith) j);
  round = λ os stands placed.
      (let n = length-append A B in
      let i = first.round os (λ t inside. stands t (omega arith) ∙ get_first A B t inside) placed in
      let j = second.round os (λ t inside. (let e : b + t ≡ a + (length A + t) = omega arith in ap (slice_get os) e ∙ stands (length A + t) (omega arith) ∙ get_second A B t)) i.placed in
      let k = subst (λ (z : ℕ). IsRound supply os z (z + length B) l1 l2 p2) at j in
      let e : a + length A + length B ≡ a + length (A ++ B) = omega arith in
      subst (λ (z : ℕ). IsRound supply os a z l0 l2 p2) e (round_join supply os a (a + length A) (a + length A + length B) l0 l1 l2 p1 p2 i k));
  falls = λ y inside. (let i = first.falls y inside in let j = second.falls y inside in omega arith);
  fell = fell_join g f r (box_size supply) l0 l1 l2 which second.fell first.falls second.falls first.fell;
}

-- observations without bundles have no links
pub course_blank : (supply : List ℕ) (B : List Observation) (a : ℕ) (labels : List ℕ) (parents : List (Option Parent)) → ((t : ℕ) (o : Observation) → slice_get B t ≡ Some o → o.bundles ≡ []) →
    length labels ≡ box_size supply → length parents ≡ box_size supply → IsCourse supply B a labels parents labels parents None
course_blank supply B a labels parents blank long p_long = record {
  labels_long = long;
  parents_long = p_long;
  between = λ low high start. between_low low (low - length B * 2 ^ 26) (2 ^ 60) labels (omega arith) start;
  round = λ os stands placed. record {
    placed = placed;
    falls = λ y. omega (arith, ints);
    followed = λ e there from to. absurd (
        let f = edge_facts_at supply os e there in
        let at : a + (e.observation - a) ≡ e.observation = omega arith in
        let got = sym (stands (e.observation - a) (omega arith)) ∙ ap (slice_get os) at ∙ f.is in
        let none = ap (is_in (bundle_at supply e.x)) (blank (e.observation - a) f.seen got) in
        let some = f.demanded in cc);
  };
  falls = λ y inside. omega arith;
  fell = λ y inside. refl;
}

pub gap_small : (b : Bool) (n : ℕ) → n ≡ (if b then 0 else 1) → n ≤ 1
gap_small true n e = omega arith
gap_small false n e = omega arith

fell_of : (last : Option ℕ) (n : ℕ) (l0 l1 : List ℕ) → length l0 ≡ n → IfSome last (λ y. (y < length l0) × (slice_index l1 y < slice_index l0 y)) →
    IfNone last ((y : ℕ) → y < length l0 → slice_index l1 y ≡ slice_index l0 y) → Fell last n l0 l1
fell_of None n l0 l1 long some none = λ y inside. none y (omega arith)
fell_of (Some y) n l0 l1 long some none = (let i = some.0 in omega arith, some.1)

-- one observation
pub course_of_one : (supply : List ℕ) (o : Observation) (number : ℕ) (costs gaps places labels : List ℕ) (excess which : ℕ) (new : Parent) (parents : List (Option Parent)) (labels' : List ℕ)
    (parents' : List (Option Parent)) (last : Option ℕ) → IsShown supply o costs gaps places → length labels ≡ box_size supply → length parents ≡ box_size supply →
    length labels' ≡ length labels → length parents' ≡ length labels → which < length places →
    excess + slice_index costs (slice_index places which) ≡ slice_index labels (slice_index places which) →
    ((j : ℕ) → j < length places → excess + slice_index costs (slice_index places j) ≤ slice_index labels (slice_index places j)) →
    ((k : ℕ) → k < box_size supply → slice_index costs k ≤ 2 ^ 25) → AreBetween (2 ^ 58 + 2 ^ 26) (2 ^ 60) labels →
    new ≡ record { observation = number; x = slice_index places which } → AreSteps excess costs gaps new labels parents labels' parents' (length labels) →
    IfSome last (λ y. (y < length labels) × (slice_index labels' y < slice_index labels y)) → IfNone last ((y : ℕ) → y < length labels → slice_index labels' y ≡ slice_index labels y) →
    IsCourse supply (o ∷ []) number labels parents labels' parents' last
course_of_one supply o number costs gaps places labels excess which new parents labels' parents' last shown long p_long long' p_long' which_in reached least cheap high is steps some none = record {
  labels_long = long' ∙ long;
  parents_long = p_long' ∙ long;
  between = λ low low_high b. record {
    above = λ i inside. (let h = b.above i (omega arith) in let x = b.above (slice_index places which) (omega (arith, start_in)) in let g = gap i (omega arith) in
        elim (steps i (omega arith)) [
          | inl s ↦ (let e = s.1 in let r = reached in let k = start_cheap in omega arith)
          | inr s ↦ (let e = s.1 in omega arith)
        ]);
    below = λ i inside. (let h = b.below i (omega arith) in elim (steps i (omega arith)) [
      | inl s ↦ (let e = s.1 in let f = s.0 in omega arith)
      | inr s ↦ (let e = s.1 in omega arith)
    ]);
  };
  round = λ os stands placed.
      (let zero_on : number + 0 ≡ number = omega arith in
      let found : slice_get os number ≡ Some o = ap (slice_get os) (sym zero_on) ∙ stands 0 (omega arith) in
      let f = followed supply os o number costs gaps places labels excess which new parents labels' parents' (before os found) long' (p_long ∙ sym long) p_long' is steps placed in
      record {
        placed = f.placed;
        falls = f.falls;
        followed = λ e there from to. f.followed e there (omega arith);
      });
  falls = λ y inside. elim (steps y (omega arith)) [
    | inl s ↦ (let e = s.1 in let f = s.0 in omega arith)
    | inr s ↦ (let e = s.1 in omega arith)
  ];
  fell = fell_of last (box_size supply) labels labels' long some none;
}
  where
    start_in : slice_index places which < box_size supply
    start_in = shown.inside which which_in

    start_cheap : slice_index costs (slice_index places which) ≤ 2 ^ 25
    start_cheap = cheap (slice_index places which) start_in

    gap : (i : ℕ) → i < box_size supply → slice_index gaps i ≤ 1
    gap i inside = gap_small (is_in (bundle_at supply i) o.bundles) (slice_index gaps i) (shown.gaps_are i inside)

    before : (os : List Observation) → slice_get os number ≡ Some o → IsBefore supply os o number costs gaps places labels excess which
    before os found = record {
      found = found;
      shown = shown;
      long = long;
      inside = which_in;
      reached = reached;
      least = least;
      positive = λ i small. (let g = gap i small in let x = high.above (slice_index places which) (let h = start_in in omega arith) in let k = start_cheap in omega arith);
    }
