-- Kept observations, and one more.
use Rattle.std.proofs.Common.{◌≡◌, ◌<◌, ◌+◌, ◌-◌, ℕ, suc, zero, List, [], ◌∷◌, ◌++◌, length, Some, arith, ap, refl, sym, subst, ◌∙◌, length-append, slice_set}
use Rattle.std.specs.Prelude.{slice_index_or, slice_get, Option, IfSome}
use Rattle.std.specs.List.{AllByRecursion}
use Rattle.std.proofs.lemmas.List.{append_assoc, append-nil}
use Rattle.std.proofs.lemmas.Option.{slice_get-get_or}
use Rattle.lot_base.specs.Demands.{IsDemand}
use Rattle.rationale.specs.declared.limits.TheConstants.{MOST_OBSERVATIONS}
use Rattle.rationale.specs.declared.lines.Line.{Line}
use Rattle.rationale.specs.declared.stretches.Stretch.{Stretch}
use Rattle.rationale.specs.Observations.{Observation}
use Rattle.rationale.specs.Lines.{along}
use Rattle.rationale.specs.Kept.{lines_by, all_by, seen_at, observations_of, IsLine, IsStretch}
use Rattle.rationale.specs.Grown.{stretch_of, IsExtended, IsLonger, KeepsMore, KeepsAll}
use Rattle.rationale.proofs.Stepping.{length-after}

-- a list by its last element, and with another one in its place
pub record IsLast {A : Type 0} (xs : List A) (i : ℕ) (x : A) : Type 0 where
  pub before : List A
  pub whole : xs ≡ before ++ x ∷ []
  pub changed : (y : A) → slice_set xs i y ≡ before ++ y ∷ []

pub last_at : {A : Type 0} (xs : List A) (i : ℕ) (x : A) → i + 1 ≡ length xs → x ≡ slice_index_or xs i x → IsLast xs i x
last_at [] i x long is = absurd (omega arith)
last_at (a ∷ []) zero x long is = record { before = []; whole = (let e : a ≡ x = sym is in λ j. e j ∷ []); changed = λ y. refl }
last_at (a ∷ b ∷ xs) zero x long is = absurd (omega arith)
last_at (a ∷ xs) (suc i) x long is =
    let l = last_at xs i x (omega arith) is in
    record { before = a ∷ l.before; whole = (λ j. a ∷ l.whole j); changed = λ y. (let e = l.changed y in λ j. a ∷ e j) }

pub all_append : {A : Type 0} (P : A → Type 0) (xs ys : List A) → AllByRecursion P xs → AllByRecursion P ys → AllByRecursion P (xs ++ ys)
all_append P [] ys a b = b
all_append P (x ∷ xs) ys a b = (a.0, all_append P xs ys a.1 b)

pub all_first : {A : Type 0} (P : A → Type 0) (xs ys : List A) → AllByRecursion P (xs ++ ys) → AllByRecursion P xs
all_first P [] ys a = tt
all_first P (x ∷ xs) ys a = (a.0, all_first P xs ys a.1)

pub all_second : {A : Type 0} (P : A → Type 0) (xs ys : List A) → AllByRecursion P (xs ++ ys) → AllByRecursion P ys
all_second P [] ys a = a
all_second P (x ∷ xs) ys a = all_second P xs ys a.1

pub along-long : {A : Type 0} (f : ℕ → A) (n : ℕ) → length (along f n) ≡ n
along-long f zero = refl
along-long f (suc n) = let i = along-long f n in let j = length-append (along f n) (f n ∷ []) in omega arith

pub lines_by-append : (seen : Line → ℕ → Observation) (xs ys : List Line) → lines_by seen (xs ++ ys) ≡ lines_by seen xs ++ lines_by seen ys
lines_by-append seen [] ys = refl
lines_by-append seen (x ∷ xs) ys =
    ap (λ (os : List Observation). along (seen x) x.count ++ os) (lines_by-append seen xs ys) ∙ sym (append_assoc (along (seen x) x.count) (lines_by seen xs) (lines_by seen ys))

pub all_by-append : (seen : List (List ℕ) → Line → ℕ → Observation) (xs ys : List Stretch) → all_by seen (xs ++ ys) ≡ all_by seen xs ++ all_by seen ys
all_by-append seen [] ys = refl
all_by-append seen (s ∷ xs) ys =
    ap (λ (os : List Observation). lines_by (seen s.demand) s.lines.items ++ os) (all_by-append seen xs ys)
    ∙ sym (append_assoc (lines_by (seen s.demand) s.lines.items) (all_by seen xs) (all_by seen ys))

-- those of one line, or of one stretch, more
pub lines_by-last : (seen : Line → ℕ → Observation) (before : List Line) (line : Line) → lines_by seen (before ++ line ∷ []) ≡ lines_by seen before ++ along (seen line) line.count
lines_by-last seen before line = lines_by-append seen before (line ∷ []) ∙ ap (λ (os : List Observation). lines_by seen before ++ os) (append-nil (along (seen line) line.count))

pub all_by-last : (seen : List (List ℕ) → Line → ℕ → Observation) (before : List Stretch) (s : Stretch) →
    all_by seen (before ++ s ∷ []) ≡ all_by seen before ++ lines_by (seen s.demand) s.lines.items
all_by-last seen before s = all_by-append seen before (s ∷ []) ∙ ap (λ (os : List Observation). all_by seen before ++ os) (append-nil (lines_by (seen s.demand) s.lines.items))

line_last : (supply : List ℕ) (s : Stretch) (i : ℕ) (line : Line) → IsStretch supply s → IsLast s.lines.items i line → IsLine supply line
line_last supply s i line is l = (all_second (IsLine supply) l.before (line ∷ []) (subst (AllByRecursion (IsLine supply)) l.whole is.lines_are)).0

stretch_seen : (s : Stretch) (i : ℕ) (line : Line) (l : IsLast s.lines.items i line) → stretch_of s ≡ lines_by (seen_at s.demand) l.before ++ along (seen_at s.demand line) line.count
stretch_seen s i line l = ap (lines_by (seen_at s.demand)) l.whole ∙ lines_by-last (seen_at s.demand) l.before line

pub last_line : (supply : List ℕ) (s : Stretch) (i : ℕ) (line : Line) → IsStretch supply s → i + 1 ≡ length s.lines.items → line ≡ slice_index_or s.lines.items i line → IsLine supply line
last_line supply s i line is long at = line_last supply s i line is (last_at s.lines.items i line long at)

pub last_goods : (supply : List ℕ) (s : Stretch) (i : ℕ) (line : Line) → IsStretch supply s → i + 1 ≡ length s.lines.items → line ≡ slice_index_or s.lines.items i line → length line.last ≡ length supply
last_goods supply s i line is long at =
    let l = line_last supply s i line is (last_at s.lines.items i line long at) in
    ap length l.last_is ∙ length-after line.first line.step (line.count - 1) (l.first_goods ∙ sym l.step_goods) ∙ l.first_goods

pub last_few : (s : Stretch) (i : ℕ) (line : Line) → i + 1 ≡ length s.lines.items → line ≡ slice_index_or s.lines.items i line → length (stretch_of s) < MOST_OBSERVATIONS → line.count < MOST_OBSERVATIONS
last_few s i line long at few =
    let l = last_at s.lines.items i line long at in
    let a = ap length (stretch_seen s i line l) in
    let b = length-append (lines_by (seen_at s.demand) l.before) (along (seen_at s.demand line) line.count) in
    let d = along-long (seen_at s.demand line) line.count in
    omega arith

pub longer_by_line : (supply : List ℕ) (s new : Stretch) (p : List ℕ) (i : ℕ) (line line' : Line) → IsStretch supply s → new.demand ≡ s.demand → i + 1 ≡ length s.lines.items →
    line ≡ slice_index_or s.lines.items i line → new.lines.items ≡ slice_set s.lines.items i line' → IsExtended supply line line' p → IsLonger supply s new p
longer_by_line supply s new p i line line' is same long at written more = record {
  is_stretch = record {
    reported = subst (IsDemand supply) (sym same) is.reported;
    some = (let a = ap length items in let b = length-append l.before (line' ∷ []) in omega arith);
    lines_are = subst (AllByRecursion (IsLine supply)) (sym items) (all_append (IsLine supply) l.before (line' ∷ [])
        (all_first (IsLine supply) l.before (line ∷ []) (subst (AllByRecursion (IsLine supply)) l.whole is.lines_are)) (more.is_line, tt));
  };
  same = same;
  seen = (λ j. lines_by (seen_at (same j)) (items j)) ∙ lines_by-last (seen_at s.demand) l.before line'
      ∙ ap (λ (os : List Observation). lines_by (seen_at s.demand) l.before ++ os) (more.seen s.demand)
      ∙ sym (append_assoc (lines_by (seen_at s.demand) l.before) (along (seen_at s.demand line) line.count) (o ∷ []))
      ∙ ap (λ (os : List Observation). os ++ o ∷ []) (sym (stretch_seen s i line l));
}
  where
    l : IsLast s.lines.items i line
    l = last_at s.lines.items i line long at

    o : Observation
    o = record { prices = p; bundles = s.demand }

    items : new.lines.items ≡ l.before ++ line' ∷ []
    items = written ∙ l.changed line'

pub longer_by_push : (supply : List ℕ) (s new : Stretch) (p : List ℕ) (line' : Line) → IsStretch supply s → new.demand ≡ s.demand → new.lines.items ≡ s.lines.items ++ line' ∷ [] → IsLine supply line' →
    along (seen_at s.demand line') line'.count ≡ record { prices = p; bundles = s.demand } ∷ [] → IsLonger supply s new p
longer_by_push supply s new p line' is same items is_line seen = record {
  is_stretch = record {
    reported = subst (IsDemand supply) (sym same) is.reported;
    some = (let a = ap length items in let b = length-append s.lines.items (line' ∷ []) in omega arith);
    lines_are = subst (AllByRecursion (IsLine supply)) (sym items) (all_append (IsLine supply) s.lines.items (line' ∷ []) is.lines_are (is_line, tt));
  };
  same = same;
  seen = (λ j. lines_by (seen_at (same j)) (items j)) ∙ lines_by-last (seen_at s.demand) s.lines.items line'
      ∙ ap (λ (os : List Observation). lines_by (seen_at s.demand) s.lines.items ++ os) seen;
}

-- a line that was left as it was
pub left_alone : (lines : List Line) (i : ℕ) (line line' : Line) → i + 1 ≡ length lines → line ≡ slice_index_or lines i line → line' ≡ line → slice_set lines i line' ≡ lines
left_alone lines i line line' long at same =
    let l = last_at lines i line long at in
    ap (slice_set lines i) same ∙ l.changed line ∙ sym l.whole

stretch_last : (supply : List ℕ) (old : List Stretch) (i : ℕ) (s : Stretch) → AllByRecursion (IsStretch supply) old → IsLast old i s → IsStretch supply s
stretch_last supply old i s each l = (all_second (IsStretch supply) l.before (s ∷ []) (subst (AllByRecursion (IsStretch supply)) l.whole each)).0

all_seen : (old : List Stretch) (i : ℕ) (s : Stretch) (l : IsLast old i s) → observations_of old ≡ observations_of l.before ++ stretch_of s
all_seen old i s l = ap observations_of l.whole ∙ all_by-last seen_at l.before s

pub last_stretch : (supply : List ℕ) (old : List Stretch) (i : ℕ) (s : Stretch) → AllByRecursion (IsStretch supply) old → i + 1 ≡ length old → s ≡ slice_index_or old i s → IsStretch supply s
last_stretch supply old i s each long at = stretch_last supply old i s each (last_at old i s long at)

pub stretch_few : (old : List Stretch) (i : ℕ) (s : Stretch) → i + 1 ≡ length old → s ≡ slice_index_or old i s → length (observations_of old) < MOST_OBSERVATIONS → length (stretch_of s) < MOST_OBSERVATIONS
stretch_few old i s long at few =
    let l = last_at old i s long at in
    let a = ap length (all_seen old i s l) in
    let b = length-append (observations_of l.before) (stretch_of s) in
    omega arith

pub same_demand_last : (old seen : List Stretch) (i : ℕ) (s : Stretch) (bundles : List (List ℕ)) → seen ≡ old → i + 1 ≡ length old → s ≡ slice_index_or old i s →
    IfSome (slice_get seen (length seen - 1)) (λ z. z.demand ≡ bundles) → s.demand ≡ bundles
same_demand_last old seen i s bundles e long at same =
    let k : length seen - 1 ≡ i = (let a = ap length e in omega arith) in
    let f : slice_get seen (length seen - 1) ≡ Some s = (λ j. slice_get (e j) (k j)) ∙ slice_get-get_or old i s (omega arith) ∙ ap (λ (z : Stretch). Some z) (sym at) in
    subst (λ (r : Option Stretch). IfSome r (λ z. z.demand ≡ bundles)) f same

pub keeps_by_stretch : (supply : List ℕ) (old : List Stretch) (p : List ℕ) (bundles : List (List ℕ)) (i : ℕ) (s s' : Stretch) → AllByRecursion (IsStretch supply) old → i + 1 ≡ length old →
    s ≡ slice_index_or old i s → s.demand ≡ bundles → IsLonger supply s s' p → KeepsMore supply old (slice_set old i s') p bundles
keeps_by_stretch supply old p bundles i s s' each long at same more = record {
  each = subst (AllByRecursion (IsStretch supply)) (sym items) (all_append (IsStretch supply) l.before (s' ∷ [])
      (all_first (IsStretch supply) l.before (s ∷ []) (subst (AllByRecursion (IsStretch supply)) l.whole each)) (more.is_stretch, tt));
  seen = ap observations_of items ∙ all_by-last seen_at l.before s'
      ∙ ap (λ (os : List Observation). observations_of l.before ++ os) (more.seen ∙ ap (λ (b : List (List ℕ)). stretch_of s ++ record { prices = p; bundles = b } ∷ []) same)
      ∙ sym (append_assoc (observations_of l.before) (stretch_of s) (o ∷ []))
      ∙ ap (λ (os : List Observation). os ++ o ∷ []) (sym (all_seen old i s l));
}
  where
    l : IsLast old i s
    l = last_at old i s long at

    o : Observation
    o = record { prices = p; bundles = bundles }

    items : slice_set old i s' ≡ l.before ++ s' ∷ []
    items = l.changed s'

pub keeps_by_push : (supply : List ℕ) (old new : List Stretch) (p : List ℕ) (bundles : List (List ℕ)) (s : Stretch) → AllByRecursion (IsStretch supply) old → new ≡ old ++ s ∷ [] → IsStretch supply s →
    stretch_of s ≡ record { prices = p; bundles = bundles } ∷ [] → KeepsMore supply old new p bundles
keeps_by_push supply old new p bundles s each items is seen = record {
  each = subst (AllByRecursion (IsStretch supply)) (sym items) (all_append (IsStretch supply) old (s ∷ []) each (is, tt));
  seen = ap observations_of items ∙ all_by-last seen_at old s ∙ ap (λ (os : List Observation). observations_of old ++ os) seen;
}

pub keeps_same : (supply : List ℕ) (old new : List Stretch) → AllByRecursion (IsStretch supply) old → new ≡ old → KeepsAll supply old new
keeps_same supply old new each items = record { each = subst (AllByRecursion (IsStretch supply)) (sym items) each; seen = ap observations_of items }

pub keeps_still : (supply : List ℕ) (old : List Stretch) (i : ℕ) (s s' : Stretch) → AllByRecursion (IsStretch supply) old → i + 1 ≡ length old → s ≡ slice_index_or old i s → s'.demand ≡ s.demand →
    s'.lines.items ≡ s.lines.items → KeepsAll supply old (slice_set old i s')
keeps_still supply old i s s' each long at same lines = record {
  each = subst (AllByRecursion (IsStretch supply)) (sym items) (all_append (IsStretch supply) l.before (s' ∷ [])
      (all_first (IsStretch supply) l.before (s ∷ []) (subst (AllByRecursion (IsStretch supply)) l.whole each)) (is', tt));
  seen = ap observations_of items ∙ all_by-last seen_at l.before s' ∙ ap (λ (os : List Observation). observations_of l.before ++ os) (λ j. lines_by (seen_at (same j)) (lines j))
      ∙ sym (all_seen old i s l);
}
  where
    l : IsLast old i s
    l = last_at old i s long at

    items : slice_set old i s' ≡ l.before ++ s' ∷ []
    items = l.changed s'

    is' : IsStretch supply s'
    is' = let is = stretch_last supply old i s each l in record {
      reported = subst (IsDemand supply) (sym same) is.reported;
      some = (let a = ap length lines in let b = is.some in omega arith);
      lines_are = subst (AllByRecursion (IsLine supply)) (sym lines) is.lines_are;
    }
