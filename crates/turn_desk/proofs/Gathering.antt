-- One view that stands for those of all passes, and the passes of a new desk.
use Rattle.std.proofs.Common.{◌≡◌, ℕ, ◌+◌, ◌<◌, List, [], ◌∷◌, ◌++◌, length, get_or, set, refl, sym, ap, subst, ◌∙◌, arith, append_assoc, length-append, append-nil}
use Rattle.std.specs.Prelude.{None, unwrap_or}
use Rattle.std.specs.List.{AllByRecursion}
use Rattle.atomic_table.specs.Seated.{TableId}
use Rattle.turn_desk.specs.declared.view.Stage.{Stage}
use Rattle.turn_desk.specs.declared.view.Stage.TheVariants.{Rests, Waits, Holds}
use Rattle.turn_desk.specs.declared.view.View.{View}
use Rattle.turn_desk.specs.Histories.{StartsWith, StandIn, total, times_at}
use Rattle.turn_desk.specs.Views.{began, unsteady}
use Rattle.turn_desk.specs.Steps.{both_of, Ends}
use Rattle.turn_desk.specs.Passes.{Known, known, turn_of, new_pass, AreLater, AreNew, AreAll, owns, Gathers, Closes}
use Rattle.turn_desk.proofs.Totals.{times_at-append}

-- parts of a list of which each element meets P
pub each_front : {A : Type 0} (P : A → Type 0) (xs ys : List A) → AllByRecursion P (xs ++ ys) → AllByRecursion P xs
each_front P [] ys h = tt
each_front P (x ∷ xs) ys h = (h.0, each_front P xs ys h.1)

pub each_back : {A : Type 0} (P : A → Type 0) (xs ys : List A) → AllByRecursion P (xs ++ ys) → AllByRecursion P ys
each_back P [] ys h = h
each_back P (x ∷ xs) ys h = each_back P xs ys h.1

pub each_at : {A : Type 0} (P : A → Type 0) (all xs ys : List A) (x : A) → all ≡ xs ++ x ∷ ys → AllByRecursion P all → P x
each_at P all xs ys x is h = (each_back P xs (x ∷ ys) (subst (AllByRecursion P) is h)).0

-- the last of the rest, before those that were taken
pub popped : {A : Type 0} (all old new : List A) (x : A) (taken : List A) → all ≡ old ++ taken → old ≡ new ++ x ∷ [] → all ≡ new ++ x ∷ taken
popped all old new x taken e is = e ∙ (ap (λ z. z ++ taken) is ∙ append_assoc new (x ∷ []) taken)

module _ {E : Type 0} where
  -- between two calls a seat without a turn rests
  pub rests_is : (stage : Stage E) → unsteady stage ≡ 0 → turn_of stage ≡ None → stage ≡ Rests
  rests_is Rests steady none = refl
  rests_is (Waits n) steady none = absurd (omega arith)
  rests_is (Holds n before more) steady none = absurd (cc)

  pub began_is : (stage : Stage E) → unwrap_or (turn_of stage) [] ≡ began stage
  began_is Rests = refl
  began_is (Waits n) = refl
  began_is (Holds n before more) = refl

module _ {E O : Type 0} where
  pub gather_one : (desk : TableId) (v : View E O) → v.stage ≡ Rests → v.seats ≡ 1 → Gathers v (known desk v ∷ [])
  gather_one desk v rests whole = record {
    rests = rests;
    some_seat = omega arith;
    own = sym (append-nil v.own);
    seats = whole;
    made = omega arith;
    seen = λ history s t. (s, tt);
    also = λ history t. (t, tt);
  }

  pub gather_more : (desk : TableId) (v w : View E O) (ps : List (Known E O)) → w.seats ≡ 1 → Gathers v ps → Gathers (both_of v w) (known desk w ∷ ps)
  gather_more desk v w ps whole g = record {
    rests = g.rests;
    some_seat = let z = g.some_seat in omega arith;
    own = ap (λ (z : List (ℕ × E)). w.own ++ z) g.own;
    seats = let z = g.seats in omega arith;
    made = let z = g.made in omega arith;
    seen = λ history s t. (t.0, g.seen history s (each_back (StartsWith history) w.also v.also t.1));
    also = λ history t. (each_front (StartsWith history) w.also v.also t.1, g.also history (each_back (StartsWith history) w.also v.also t.1));
  }

  times_owns : (k : ℕ) (ps : List (Known E O)) → times_at k (owns ps) ≡ total (λ (p : Known E O). times_at k p.own) ps
  times_owns k [] = refl
  times_owns k (p ∷ ps) = times_at-append k p.own (owns ps) ∙ ap (λ (z : ℕ). times_at k p.own + z) (times_owns k ps)

  stand_each : (history : List E) (ps : List (Known E O)) → StandIn history (owns ps) → AllByRecursion (λ (p : Known E O). StandIn history p.own) ps
  stand_each history [] h = tt
  stand_each history (p ∷ ps) h = (each_front (λ (x : ℕ × E). _) p.own (owns ps) h, stand_each history ps (each_back (λ (x : ℕ × E). _) p.own (owns ps) h))

module _ {B E O : Type 0} (history : B → List E) (origin : B → O) (first : B) where
  pub closes : (v : View E O) (ps : List (Known E O)) (b : B) → Gathers v ps → Ends history origin first v b → Closes history origin first ps b
  closes v ps b g k = record {
    origin_is = k.origin_is;
    goes_on = k.goes_on;
    seen = g.seen (history b) k.seen k.also;
    also = g.also (history b) k.also;
    own = stand_each (history b) ps (subst (StandIn (history b)) g.own k.own);
    places = λ n. sym (times_owns n ps) ∙ (ap (times_at n) (sym g.own) ∙ k.places n);
  }

module _ {E O : Type 0} (desk : TableId) (history : List E) (origin : O) where
  -- the first of new passes
  pub head_new : (n : ℕ) (ps : List (Known E O)) (p : Known E O) → AreNew n desk history origin ps → 0 < length ps → p ≡ get_or ps 0 p → p ≡ new_pass desk history origin n 0
  head_new n [] p new some_pass is = absurd (omega arith)
  head_new n (q ∷ ps) p new some_pass is = is ∙ new.1

  later_snoc : (k : ℕ) (ps : List (Known E O)) (p : Known E O) → AreLater desk history origin k ps → p ≡ new_pass desk history origin 0 (k + length ps) → AreLater desk history origin k (ps ++ p ∷ [])
  later_snoc k [] p h is = (is ∙ ap (new_pass desk history origin 0) (omega arith), tt)
  later_snoc k (q ∷ ps) p h is = (h.0, later_snoc (k + 1) ps p h.1 (is ∙ ap (new_pass desk history origin 0) (omega arith)))

  -- one more, split from the first
  pub more_new : (n : ℕ) (ps : List (Known E O)) (p p' q : Known E O) → AreNew n desk history origin ps → 0 < length ps → p ≡ get_or ps 0 p → p' ≡ record p { made = p.made + 1 } → q ≡ record p { number = p.made; also = []; own = []; turn = None; made = 0 }
      → AreNew (n + 1) desk history origin (set ps 0 p' ++ q ∷ [])
  more_new n [] p p' q new some_pass is grows made = absurd (omega arith)
  more_new n (r ∷ ps) p p' q new some_pass is grows made =
      let here : p ≡ new_pass desk history origin n 0 = is ∙ new.1 in (
        (let a = length-append ps (q ∷ []) in let c = new.0 in omega arith),
        grows ∙ ap (λ (z : Known E O). record z { made = z.made + 1 }) here,
        later_snoc 1 ps q new.2 (made ∙ (ap (λ (z : Known E O). record z { number = z.made; also = []; own = []; turn = None; made = 0 }) here ∙ ap (new_pass desk history origin 0) (let c = new.0 in omega arith))),
      )

  later_made : (k : ℕ) (ps : List (Known E O)) → AreLater desk history origin k ps → total (λ (p : Known E O). p.made) ps ≡ 0
  later_made k [] new = refl
  later_made k (p ∷ ps) new = let here : p.made ≡ 0 = ap (λ (z : Known E O). z.made) new.0 in let more = later_made (k + 1) ps new.1 in omega arith

  later_each : (P : Known E O → Type 0) (k : ℕ) (ps : List (Known E O)) → ((n : ℕ) → P (new_pass desk history origin 0 n)) → AreLater desk history origin k ps → AllByRecursion P ps
  later_each P k [] holds new = tt
  later_each P k (p ∷ ps) holds new = (subst P (sym new.0) (holds k), later_each P (k + 1) ps holds new.1)

  -- new passes are all that there are
  pub all_new : (n : ℕ) (ps : List (Known E O)) → 0 < n → AreNew n desk history origin ps → AreAll desk ps
  all_new n [] some_pass new = absurd (omega arith)
  all_new n (p ∷ ps) some_pass new = record {
    desks = (ap (λ (z : Known E O). z.desk) new.1, later_each (λ (q : Known E O). q.desk ≡ desk) 1 ps (λ k. refl) new.2);
    rest = (ap (λ (z : Known E O). z.turn) new.1, later_each (λ (q : Known E O). q.turn ≡ None) 1 ps (λ k. refl) new.2);
    some_pass = omega arith;
    all = let here : p.made ≡ n = ap (λ (z : Known E O). z.made) new.1 in let more = later_made 1 ps new.2 in let long = new.0 in omega arith;
  }
