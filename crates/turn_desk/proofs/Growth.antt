-- One turn, as the entries that it appends one by one.
use Rattle.std.proofs.Common.{◌≡◌, ℕ, ◌+◌, ◌-◌, ◌%◌, ◌^◌, ◌<◌, List, [], ◌∷◌, ◌++◌, length, refl, sym, ap, subst, ◌∙◌, arith, append_assoc, length-append, append-nil, drop}
use Rattle.std.proofs.Math.Seq.{drop-append_seam}
use Rattle.turn_desk.specs.declared.view.Stage.{Stage}
use Rattle.turn_desk.specs.declared.view.Stage.TheVariants.{Rests, Waits, Holds}
use Rattle.turn_desk.specs.declared.view.View.{View}
use Rattle.turn_desk.specs.Histories.{StartsWith, placed}
use Rattle.turn_desk.specs.Views.{holding, ticket_of, began, added, reached, unsteady}
use Rattle.turn_desk.specs.Steps.{grown, rested, after_turn}

pub placed-append : {E : Type 0} (k : ℕ) (xs ys : List E) → placed k (xs ++ ys) ≡ placed k xs ++ placed (k + length xs) ys
placed-append k [] ys = ap (λ (z : ℕ). placed z ys) (omega arith)
placed-append k (x ∷ xs) ys = ap (λ z. (k, x) ∷ z) (placed-append (k + 1) xs ys ∙ ap (λ (z : ℕ). placed (k + 1) xs ++ placed z ys) (omega arith))

pub next_entry : {E : Type 0} (history c : List E) → StartsWith history c → length c < length history → (e : E) × StartsWith history (c ++ e ∷ [])
next_entry history c ([], is) lt = absurd (let a = ap length is in let b = length-append c [] in omega arith)
next_entry history c (e ∷ more, is) lt = (e, (more, is ∙ sym (append_assoc c (e ∷ []) more)))

pub grew : (a m : ℕ) → m < 2 ^ 32 → ((a + m) % 2 ^ 64 + (2 ^ 64 - a % 2 ^ 64)) % 2 ^ 64 ≡ m
grew a m lt = omega arith

module _ {E : Type 0} where
  pub steady_added : (st : Stage E) → holding st ≡ 1 → unsteady st ≡ 0 → added st ≡ []
  steady_added Rests h u = refl
  steady_added (Waits k) h u = refl
  steady_added (Holds k b []) h u = refl
  steady_added (Holds k b (x ∷ m)) h u = absurd (omega arith)

  stage_is : (st : Stage E) → holding st ≡ 1 → st ≡ Holds (ticket_of st) (began st) (added st ++ [])
  stage_is Rests h = absurd (omega arith)
  stage_is (Waits k) h = absurd (omega arith)
  stage_is (Holds k b m) h = ap (λ (z : List E). Holds k b z) (sym (append-nil m))

  no_rest : (xs : List E) → length xs ≡ 0 → xs ≡ []
  no_rest [] h = refl
  no_rest (x ∷ xs) h = absurd (omega arith)

module _ {E O : Type 0} where
  -- m entries of the history were appended since the view was v
  pub record Appended (v : View E O) (history : List E) (m : ℕ) (w : View E O) : Type 0 where
    pub more : List E
    pub long : length more ≡ m
    pub from : StartsWith history (reached v.stage ++ more)
    pub is : w ≡ record v { stage = Holds (ticket_of v.stage) (began v.stage) (added v.stage ++ more); seen = w.seen; own = v.own ++ placed (length (reached v.stage)) more }

  pub append_none : (v : View E O) (history : List E) → holding v.stage ≡ 1 → StartsWith history (reached v.stage) → Appended v history 0 v
  append_none v history h s = record {
    more = [];
    long = refl;
    from = subst (StartsWith history) (sym (append-nil (reached v.stage))) s;
    is = (λ i. record v { stage = stage_is v.stage h i; own = sym (append-nil v.own) i });
  }

  pub append_one : (v w u : View E O) (history : List E) (m : ℕ) (e : E) → Appended v history m w → StartsWith history (reached w.stage ++ e ∷ []) → u ≡ grown w e → Appended v history (m + 1) u
  append_one v w u history m e a s is =
      let more = a.more in
      let stage : w.stage ≡ Holds (ticket_of v.stage) (began v.stage) (added v.stage ++ more) = ap (λ (z : View E O). z.stage) a.is in
      let there : reached w.stage ≡ reached v.stage ++ more = ap reached stage ∙ sym (append_assoc (began v.stage) (added v.stage) more) in
      let whole : u ≡ grown (record v { stage = Holds (ticket_of v.stage) (began v.stage) (added v.stage ++ more); seen = w.seen; own = v.own ++ placed (length (reached v.stage)) more }) e = is ∙ ap (λ (z : View E O). grown z e) a.is in
      let place : length (began v.stage ++ (added v.stage ++ more)) ≡ length (reached v.stage) + length more = ap length (sym (append_assoc (began v.stage) (added v.stage) more)) ∙ length-append (reached v.stage) more in
      let owns : (v.own ++ placed (length (reached v.stage)) more) ++ (length (began v.stage ++ (added v.stage ++ more)), e) ∷ [] ≡ v.own ++ placed (length (reached v.stage)) (more ++ e ∷ []) =
      append_assoc v.own (placed (length (reached v.stage)) more) ((length (began v.stage ++ (added v.stage ++ more)), e) ∷ [])
      ∙ ap (λ (z : List (ℕ × E)). v.own ++ z) (ap (λ (z : ℕ). placed (length (reached v.stage)) more ++ (z, e) ∷ []) place ∙ sym (placed-append (length (reached v.stage)) more (e ∷ []))) in record {
        more = more ++ e ∷ [];
        long = length-append more (e ∷ []) ∙ (let z = a.long in omega arith);
        from = subst (StartsWith history) (ap (λ (z : List E). z ++ e ∷ []) there ∙ append_assoc (reached v.stage) more (e ∷ [])) s;
        is = whole ∙ (λ i. record v {
          stage = Holds (ticket_of v.stage) (began v.stage) (append_assoc (added v.stage) more (e ∷ []) i);
          seen = sym (ap (λ (z : View E O). z.seen) whole) i;
          own = owns i;
        });
      }

  -- at the end of the turn
  pub all_given : (v w : View E O) (history xs : List E) → holding v.stage ≡ 1 → unsteady v.stage ≡ 0 → history ≡ began v.stage ++ xs → Appended v history (length xs) w → (history ≡ reached w.stage) × (rested w ≡ after_turn v history)
  all_given v w history xs holds steady is a =
      let more = a.more in
      let none : added v.stage ≡ [] = steady_added v.stage holds steady in
      let stage : w.stage ≡ Holds (ticket_of v.stage) (began v.stage) (added v.stage ++ more) = ap (λ (z : View E O). z.stage) a.is in
      let start : reached v.stage ≡ began v.stage = ap (λ (z : List E). began v.stage ++ z) none ∙ append-nil (began v.stage) in
      let there : reached w.stage ≡ reached v.stage ++ more = ap reached stage ∙ sym (append_assoc (began v.stage) (added v.stage) more) in
      let from = a.from in
      let long = ap length from.1 in
      let rest_none : from.0 ≡ [] = no_rest from.0 (let b = length-append (reached v.stage ++ more) from.0 in let c = length-append (reached v.stage) more in let d = ap length start in let e = ap length is in let f = length-append (began v.stage) xs in let g = a.long in omega arith) in
      let all : history ≡ reached w.stage = from.1 ∙ (ap (λ (z : List E). (reached v.stage ++ more) ++ z) rest_none ∙ (append-nil (reached v.stage ++ more) ∙ sym there)) in
      let made : history ≡ began v.stage ++ more = all ∙ (there ∙ ap (λ (z : List E). z ++ more) start) in
      let dropped : drop (length (began v.stage)) history ≡ more = ap (drop (length (began v.stage))) made ∙ drop-append_seam (began v.stage) more in (
        all,
        ap rested a.is ∙ (λ i. record v {
          stage = Rests;
          seen = (sym (append_assoc (began v.stage) (added v.stage) more) ∙ (sym there ∙ sym all)) i;
          own = v.own ++ placed (length (start i)) (sym dropped i);
        }),
      )

  pub more_left : (v w : View E O) (history xs : List E) (m : ℕ) → holding v.stage ≡ 1 → unsteady v.stage ≡ 0 → history ≡ began v.stage ++ xs → Appended v history m w → m < length xs → (e : E) × StartsWith history (reached w.stage ++ e ∷ [])
  more_left v w history xs m holds steady is a lt =
      let more = a.more in
      let none : added v.stage ≡ [] = steady_added v.stage holds steady in
      let stage : w.stage ≡ Holds (ticket_of v.stage) (began v.stage) (added v.stage ++ more) = ap (λ (z : View E O). z.stage) a.is in
      let start : reached v.stage ≡ began v.stage = ap (λ (z : List E). began v.stage ++ z) none ∙ append-nil (began v.stage) in
      let there : reached w.stage ≡ reached v.stage ++ more = ap reached stage ∙ sym (append_assoc (began v.stage) (added v.stage) more) in
      next_entry history (reached w.stage) (subst (StartsWith history) (sym there) a.from) (let b = ap length there in let c = length-append (reached v.stage) more in let d = ap length start in let e = ap length is in let f = length-append (began v.stage) xs in let g = a.long in omega arith)

  -- the same from the view u before the book was put back
  pub more_from : (u v w : View E O) (history xs : List E) (m n : ℕ) → v ≡ u → holding u.stage ≡ 1 → unsteady u.stage ≡ 0 → history ≡ began u.stage ++ xs → length xs ≡ n → Appended v history m w → m < n → (e : E) × StartsWith history (reached w.stage ++ e ∷ [])
  more_from u v w history xs m n same holds steady is long a lt =
      more_left v w history xs m (ap (λ (z : View E O). holding z.stage) same ∙ holds) (ap (λ (z : View E O). unsteady z.stage) same ∙ steady) (is ∙ ap (λ (z : View E O). began z.stage ++ xs) (sym same)) a (omega arith)

  pub given_from : (u v w : View E O) (history xs : List E) (m n : ℕ) → v ≡ u → holding u.stage ≡ 1 → unsteady u.stage ≡ 0 → history ≡ began u.stage ++ xs → length xs ≡ n → Appended v history m w → m ≡ n → (history ≡ reached w.stage) × (rested w ≡ after_turn u history)
  given_from u v w history xs m n same holds steady is long a end =
      let r = all_given v w history xs (ap (λ (z : View E O). holding z.stage) same ∙ holds) (ap (λ (z : View E O). unsteady z.stage) same ∙ steady) (is ∙ ap (λ (z : View E O). began z.stage ++ xs) (sym same)) (subst (λ (z : ℕ). Appended v history z w) (end ∙ sym long) a) in
      (r.0, r.1 ∙ ap (λ (z : View E O). after_turn z history) same)

  pub none_from : (u v : View E O) (history xs : List E) → v ≡ u → holding u.stage ≡ 1 → unsteady u.stage ≡ 0 → history ≡ began u.stage ++ xs → Appended v history 0 v
  none_from u v history xs same holds steady is =
      let h : holding v.stage ≡ 1 = ap (λ (z : View E O). holding z.stage) same ∙ holds in
      let none : added v.stage ≡ [] = steady_added v.stage h (ap (λ (z : View E O). unsteady z.stage) same ∙ steady) in
      let start : reached v.stage ≡ began v.stage = ap (λ (z : List E). began v.stage ++ z) none ∙ append-nil (began v.stage) in
      append_none v history h (xs, is ∙ (ap (λ (z : View E O). began z.stage ++ xs) (sym same) ∙ ap (λ (z : List E). z ++ xs) (sym start)))
