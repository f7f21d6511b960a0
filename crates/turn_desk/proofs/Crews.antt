-- The queue of tickets and the crew of seats after a change of one view.
use Rattle.std.proofs.Common.{◌≡◌, ◌≢◌, ℕ, ◌+◌, ◌<◌, ◌≤◌, List, [], ◌∷◌, ◌++◌, set, refl, sym, ap, subst, ◌∙◌, arith, ⊎_elim}
use Rattle.std.proofs.lemmas.Bool.Decides.{nat_tests}
use Rattle.std.specs.Prelude.{◌==◌, ltb, ◌&&◌}
use mathlib.Core.Option.{some}
use mathlib.Core.Logic.{dite}
use native.Mathlib.Decide.{ℕ_discrete}
use lib.ListN.{get_elem?}
use Rattle.atomic_table.proofs.Lists.{at_set, at_snoc, set_else}
use Rattle.turn_desk.specs.declared.view.Stage.TheVariants.{Rests, Waits}
use Rattle.turn_desk.specs.declared.view.View.{View}
use Rattle.turn_desk.specs.Histories.{total, one_if}
use Rattle.turn_desk.specs.Views.{at_ticket, active, holding, ticket_of, numbered}
use Rattle.turn_desk.specs.Rule.{IsQueue, IsCrew}
use Rattle.turn_desk.specs.Steps.{parent, child, witness, both_of, nobody}
use Rattle.turn_desk.proofs.Totals.{total_set, total_at, same_total, between_next, between_first, total_snoc, total_only}
use Rattle.turn_desk.proofs.Stages.{hold_active, hold_ticket, none_of}

module _ {E O : Type 0} where
  actives : List (View E O) → ℕ
  actives vs = total (λ (v : View E O). active v.stage) vs

  -- a view that keeps its ticket
  pub queue_set : (serving ticket : ℕ) (vs : List (View E O)) (id : ℕ) (v w : View E O) → get_elem? vs id ≡ some v → active w.stage ≡ active v.stage → ((n : ℕ) → at_ticket n w.stage ≡ at_ticket n v.stage) → IsQueue serving ticket vs → IsQueue serving ticket (set vs id w)
  queue_set serving ticket vs id v w at busy same q = record {
    length_is = let a = same_total (λ (u : View E O). active u.stage) vs id v w at busy in let b = q.length_is in omega arith;
    tickets = λ n. same_total (λ (u : View E O). at_ticket n u.stage) vs id v w at (same n) ∙ q.tickets n;
  }

  -- a view that draws the next ticket
  pub queue_draws : (serving ticket : ℕ) (vs : List (View E O)) (id : ℕ) (v w : View E O) → get_elem? vs id ≡ some v → v.stage ≡ Rests → w.stage ≡ Waits ticket → IsQueue serving ticket vs → IsQueue serving (ticket + 1) (set vs id w)
  queue_draws serving ticket vs id v w at rests waits q =
      let idle = none_of v.stage rests in let busy : active w.stage ≡ 1 = ap active waits in let le : serving ≤ ticket = let z = q.length_is in omega arith in record {
        length_is = let a = total_set (λ (u : View E O). active u.stage) vs id v w at in let b = q.length_is in let c = idle.0 in omega arith;
        tickets = λ n. let a = total_set (λ (u : View E O). at_ticket n u.stage) vs id v w at in let b = idle.2 n in let c : at_ticket n w.stage ≡ one_if (n == ticket) = ap (at_ticket n) waits in let d = q.tickets n in let e = between_next serving ticket n le in omega arith;
      }

  -- a view that passes the turn on
  pub queue_passes : (serving ticket : ℕ) (vs : List (View E O)) (id : ℕ) (v w : View E O) → get_elem? vs id ≡ some v → holding v.stage ≡ 1 → ticket_of v.stage ≡ serving → w.stage ≡ Rests → IsQueue serving ticket vs → IsQueue (serving + 1) ticket (set vs id w)
  queue_passes serving ticket vs id v w at holds mine rests q =
      let idle = none_of w.stage rests in let busy = hold_active v.stage holds in
      let lt : serving < ticket = let a = q.length_is in let b = total_at (λ (u : View E O). active u.stage) vs id v at in omega arith in record {
        length_is = let a = total_set (λ (u : View E O). active u.stage) vs id v w at in let b = q.length_is in let c = idle.0 in omega arith;
        tickets = λ n. let a = total_set (λ (u : View E O). at_ticket n u.stage) vs id v w at in let b = idle.2 n in let c = hold_ticket n v.stage holds ∙ ap (λ (m : ℕ). one_if (n == m)) mine in let d = q.tickets n in let e = between_first serving ticket n lt in omega arith;
      }

  -- a view that keeps its number, its seats, and what it made
  pub crew_set : (vs : List (View E O)) (id : ℕ) (v w : View E O) → get_elem? vs id ≡ some v → w.number ≡ v.number → w.seats ≡ v.seats → w.made ≡ v.made → IsCrew vs → IsCrew (set vs id w)
  crew_set vs id v w at number seats made k =
      let mades : total (λ (u : View E O). u.made) (set vs id w) ≡ total (λ (u : View E O). u.made) vs = same_total (λ (u : View E O). u.made) vs id v w at made in record {
        maker = k.maker;
        others = λ j u e ne. ⊎_elim (λ t. ap (λ (z : View E O). z.made) (sym t.1) ∙ (made ∙ k.others id v at (λ p. ne (t.0 ∙ p)))) (λ t. k.others j u t.1 ne) (at_set vs id j w u e);
        seats = same_total (λ (u : View E O). u.seats) vs id v w at seats ∙ (k.seats ∙ sym mades);
        numbers = λ n. let a = same_total (numbered n) vs id v w at (λ i. one_if (ltb 0 (seats i) && (n == number i))) in let b = k.numbers n in subst (λ (m : ℕ). total (numbered n) (set vs id w) ≤ one_if (ltb n m)) (sym mades) (omega arith);
        few = let b = k.few in omega arith;
      }

  -- the seat that made others is the maker, and the number of seats that were made is its own
  pub made_is : (vs : List (View E O)) (k : IsCrew vs) (id : ℕ) (v : View E O) → get_elem? vs id ≡ some v → 0 < v.made → (id ≡ k.maker) × (total (λ (u : View E O). u.made) vs ≡ v.made)
  made_is vs k id v at any =
      let is : id ≡ k.maker = dite (ℕ_discrete id k.maker) (λ e. e) (λ ne. absurd (let z = k.others id v at ne in omega arith)) in
      (is, total_only (λ (u : View E O). u.made) vs id v at (λ j u ne e. k.others j u e (λ p. ne (p ∙ sym is))))

  -- the maker splits a seat with the first number not yet made
  pub crew_splits : (vs : List (View E O)) (id : ℕ) (v : View E O) → get_elem? vs id ≡ some v → 0 < v.made → v.made < 64 → IsCrew vs → IsCrew (set vs id (parent v) ++ child v ∷ [])
  crew_splits vs id v at any room k =
      let w : View E O = parent v in let c : View E O = child v in let made = made_is vs k id v at any in
      let mades : total (λ (u : View E O). u.made) (set vs id w ++ c ∷ []) ≡ total (λ (u : View E O). u.made) vs + 1 = (let a = total_snoc (λ (u : View E O). u.made) (set vs id w) c in let b = total_set (λ (u : View E O). u.made) vs id v w at in omega arith) in record {
        maker = k.maker;
        others = λ j u e ne. ⊎_elim (λ t. ⊎_elim (λ r. absurd (ne (r.0 ∙ made.0))) (λ r. k.others j u r.1 ne) (at_set vs id j w u t)) (λ t. ap (λ (z : View E O). z.made) (sym t)) (at_snoc (set vs id w) c u j e);
        seats = (let a = total_snoc (λ (u : View E O). u.seats) (set vs id w) c in let b = same_total (λ (u : View E O). u.seats) vs id v w at refl in let d = k.seats in omega arith);
        numbers = λ n.
            let a = total_snoc (numbered n) (set vs id w) c in let b = same_total (numbered n) vs id v w at refl in let d = k.numbers n in
            let m : ℕ = total (λ (u : View E O). u.made) vs in
            let is : one_if (n == v.made) ≡ one_if (n == m) = ap (λ (z : ℕ). one_if (n == z)) (sym made.1) in
            let step : one_if (ltb n m) + one_if (n == m) ≤ one_if (ltb n (m + 1)) = grind (arith, nat_tests, one_if) in
            subst (λ (z : ℕ). total (numbered n) (set vs id w ++ c ∷ []) ≤ one_if (ltb n z)) (sym mades) (omega arith);
        few = omega (arith, made.1);
      }

  -- a view that stands for no seat and made none is added
  pub crew_adds : (vs : List (View E O)) (id : ℕ) (v : View E O) → get_elem? vs id ≡ some v → IsCrew vs → IsCrew (set vs id v ++ witness v ∷ [])
  crew_adds vs id v at k =
      let c : View E O = witness v in
      let same : (f : View E O → ℕ) → f c ≡ 0 → total f (set vs id v ++ c ∷ []) ≡ total f vs = λ f z. (let a = total_snoc f (set vs id v) c in let b = same_total f vs id v v at refl in omega arith) in
      let mades = same (λ (u : View E O). u.made) refl in record {
        maker = k.maker;
        others = λ j u e ne. ⊎_elim (λ t. ⊎_elim (λ r. ap (λ (z : View E O). z.made) (sym r.1) ∙ k.others id v at (λ p. ne (r.0 ∙ p))) (λ r. k.others j u r.1 ne) (at_set vs id j v u t)) (λ t. ap (λ (z : View E O). z.made) (sym t)) (at_snoc (set vs id v) c u j e);
        seats = same (λ (u : View E O). u.seats) refl ∙ (k.seats ∙ sym mades);
        numbers = λ n. let a = same (numbered n) refl in let b = k.numbers n in subst (λ (m : ℕ). total (numbered n) (set vs id v ++ c ∷ []) ≤ one_if (ltb n m)) (sym mades) (omega arith);
        few = let b = k.few in omega arith;
      }

  -- a seat that is not spent takes in another
  pub crew_joins : (vs : List (View E O)) (id : ℕ) (v : View E O) (other : ℕ) (w : View E O) → 0 < v.seats → get_elem? vs id ≡ some v → ¬ (other ≡ id) → get_elem? (set vs id (both_of v w)) other ≡ some w → IsCrew vs → IsCrew (set (set vs id (both_of v w)) other nobody)
  crew_joins vs id v other w part at apart there k =
      let x : View E O = both_of v w in let ws : List (View E O) = set vs id x in let us : List (View E O) = set ws other nobody in
      let w_at : get_elem? vs other ≡ some w = sym (set_else vs id other x apart) ∙ there in
      let maker : (m : ℕ) × ((j : ℕ) (u : View E O) → get_elem? us j ≡ some u → j ≢ m → u.made ≡ 0) = dite (ℕ_discrete w.made 0)
      (λ none. (
        k.maker,
        λ j u e ne. ⊎_elim (λ t. ap (λ (z : View E O). z.made) (sym t.1))
            (λ t. ⊎_elim (λ r. ap (λ (z : View E O). z.made) (sym r.1) ∙ (let z = k.others id v at (λ p. ne (r.0 ∙ p)) in omega arith)) (λ r. k.others j u r.1 ne) (at_set vs id j x u t.1)) (at_set ws other j nobody u e),
      ))
      (λ some_made. let is = (made_is vs k other w w_at (omega arith)).0 in (
        id,
        λ j u e ne. ⊎_elim (λ t. ap (λ (z : View E O). z.made) (sym t.1))
            (λ t. ⊎_elim (λ r. absurd (ne r.0)) (λ r. k.others j u r.1 (λ p. t.0 (p ∙ sym is))) (at_set vs id j x u t.1)) (at_set ws other j nobody u e),
      )) in
      let sum : (f : View E O → ℕ) → f x ≡ f v + f w → f nobody ≡ 0 → total f us ≡ total f vs = λ f e z. (let a = total_set f vs id v x at in let b = total_set f ws other w nobody there in omega arith) in
      let mades = sum (λ (u : View E O). u.made) refl refl in record {
        maker = maker.0;
        others = maker.1;
        seats = sum (λ (u : View E O). u.seats) refl refl ∙ (k.seats ∙ sym mades);
        numbers = λ n.
            let a = total_set (numbered n) vs id v x at in let b = total_set (numbered n) ws other w nobody there in
            let e : numbered n x ≤ numbered n v + numbered n w = let z : one_if (ltb 0 v.seats && (n == v.number)) ≡ one_if (n == v.number) = grind (arith, nat_tests, one_if) in let y : one_if (ltb 0 (v.seats + w.seats) && (n == v.number)) ≤ one_if (n == v.number) = grind (arith, nat_tests, one_if) in omega arith in
            let d = k.numbers n in
            subst (λ (z : ℕ). total (numbered n) us ≤ one_if (ltb n z)) (sym mades) (omega arith);
        few = let y = k.few in omega arith;
      }
