-- What a stage says of its seat, and what stays true of a history that goes on.
use Rattle.std.proofs.Common.{◌≡◌, ◌≢◌, ℕ, ◌+◌, ◌%◌, ◌^◌, ◌≤◌, List, [], ◌∷◌, ◌++◌, length, set, refl, sym, ap, subst, ◌∙◌, arith, Bool, true, false, ⊎_elim, append_assoc, append-nil, length-append}
use Rattle.std.proofs.lemmas.Bool.Decides.{nat_tests}
use Rattle.std.specs.Prelude.{◌==◌}
use mathlib.Core.Option.{some}
use lib.ListN.{get_elem?}
use Rattle.atomic_table.proofs.Lists.{at_set, at_longer}
use Rattle.turn_desk.specs.declared.view.Stage.{Stage}
use Rattle.turn_desk.specs.declared.view.Stage.TheVariants.{Rests, Waits, Holds}
use Rattle.turn_desk.specs.Histories.{one_if, StartsWith, StartsWithAll, StandIn}
use Rattle.turn_desk.specs.Views.{at_ticket, active, holding, ticket_of, reached}
use Rattle.turn_desk.specs.Rule.{FitsTurn}

pub mod_suc : (n : ℕ) → (n % 2 ^ 64 + 1) % 2 ^ 64 ≡ (n + 1) % 2 ^ 64
mod_suc n = omega arith

pub out_or_not : (b : Bool) → one_if b ≡ 0 → b ≡ false
out_or_not true h = absurd (omega arith)
out_or_not false h = refl

-- a fact of each view, after one of them changed
pub each_set : {V : Type 0} (P : V → Type 0) (views : List V) (id : ℕ) (w : V) → P w → ((j : ℕ) (u : V) → j ≢ id → get_elem? views j ≡ some u → P u) → (j : ℕ) (u : V) → get_elem? (set views id w) j ≡ some u → P u
each_set P views id w here else j u e = ⊎_elim (λ t. subst P t.1 here) (λ t. else j u t.0 t.1) (at_set views id j w u e)

module _ {E : Type 0} where
  pub hold_active : (st : Stage E) → holding st ≡ 1 → active st ≡ 1
  hold_active Rests h = h
  hold_active (Waits k) h = refl
  hold_active (Holds k b m) h = refl

  pub hold_le_active : (st : Stage E) → holding st ≤ active st
  hold_le_active Rests = omega arith
  hold_le_active (Waits k) = omega arith
  hold_le_active (Holds k b m) = omega arith

  pub hold_ticket : (n : ℕ) (st : Stage E) → holding st ≡ 1 → at_ticket n st ≡ one_if (n == ticket_of st)
  hold_ticket n Rests h = absurd (omega arith)
  hold_ticket n (Waits k) h = refl
  hold_ticket n (Holds k b m) h = refl

  pub hold_fits : (serving : ℕ) (history : List E) (st : Stage E) → holding st ≡ 1 → FitsTurn serving history st → (ticket_of st ≡ serving) × (reached st ≡ history)
  hold_fits serving history Rests h f = absurd (omega arith)
  hold_fits serving history (Waits k) h f = absurd (omega arith)
  hold_fits serving history (Holds k b m) h f = f

  pub fits_idle : (serving : ℕ) (history : List E) (st : Stage E) → holding st ≡ 0 → FitsTurn serving history st
  fits_idle serving history Rests h = tt
  fits_idle serving history (Waits k) h = tt
  fits_idle serving history (Holds k b m) h = absurd (omega arith)

  pub hold_le : (serving : ℕ) (history : List E) (st : Stage E) → FitsTurn serving history st → holding st ≤ at_ticket serving st
  hold_le serving history Rests f = omega arith
  hold_le serving history (Waits k) f = omega arith
  hold_le serving history (Holds k b m) f = let s = f.0 in let h : one_if (serving == k) ≡ 1 = grind (arith, nat_tests) in omega arith

  -- a seat that rests has no ticket
  pub none_of : (st : Stage E) → st ≡ Rests → (active st ≡ 0) × (holding st ≡ 0) × ((n : ℕ) → at_ticket n st ≡ 0)
  none_of st e = (ap active e, ap holding e, λ n. ap (at_ticket n) e)

  pub starts_whole : (history : List E) → StartsWith history history
  starts_whole history = ([], sym (append-nil history))

  -- what is a front of a front is one of the whole
  pub starts_in : (history front seen : List E) → StartsWith history front → StartsWith front seen → StartsWith history seen
  starts_in history front seen s t = (t.0 ++ s.0, s.1 ∙ (ap (λ (z : List E). z ++ s.0) t.1 ∙ append_assoc seen t.0 s.0))

  pub starts_all_in : (history front : List E) (xs : List (List E)) → StartsWith history front → StartsWithAll front xs → StartsWithAll history xs
  starts_all_in history front [] s t = tt
  starts_all_in history front (x ∷ xs) s t = (starts_in history front x s t.0, starts_all_in history front xs s t.1)

  no_rest : (xs : List E) → length xs ≡ 0 → xs ≡ []
  no_rest [] h = refl
  no_rest (x ∷ xs) h = absurd (omega arith)

  -- two histories of which each is a front of the other
  pub starts_both : (history front : List E) → StartsWith history front → StartsWith front history → front ≡ history
  starts_both history front s t =
      let a = ap length s.1 in let b = length-append front s.0 in let c = ap length t.1 in let d = length-append history t.0 in
      sym (s.1 ∙ (ap (λ (z : List E). front ++ z) (no_rest s.0 (omega arith)) ∙ append-nil front))

  pub starts_more : (history more : List E) (seen : List E) → StartsWith history seen → StartsWith (history ++ more) seen
  starts_more history more seen s = (s.0 ++ more, ap (λ (z : List E). z ++ more) s.1 ∙ append_assoc seen s.0 more)

  pub starts_all_append : (history : List E) (xs ys : List (List E)) → StartsWithAll history xs → StartsWithAll history ys → StartsWithAll history (xs ++ ys)
  starts_all_append history [] ys s t = t
  starts_all_append history (x ∷ xs) ys s t = (s.0, starts_all_append history xs ys s.1 t)

  pub stand_more : (history more : List E) (xs : List (ℕ × E)) → StandIn history xs → StandIn (history ++ more) xs
  stand_more history more [] s = tt
  stand_more history more (x ∷ xs) s = (at_longer history more x.0 x.1 s.0, stand_more history more xs s.1)

  pub stand_append : (history : List E) (xs ys : List (ℕ × E)) → StandIn history xs → StandIn history ys → StandIn history (xs ++ ys)
  stand_append history [] ys s t = t
  stand_append history (x ∷ xs) ys s t = (s.0, stand_append history xs ys s.1 t)
