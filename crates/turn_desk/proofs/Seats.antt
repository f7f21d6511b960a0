-- The split of a seat or of a witness, and the join of a seat, keep the rule.
use Rattle.std.proofs.Common.{◌≡◌, ℕ, ◌+◌, ◌<◌, List, [], ◌∷◌, ◌++◌, length, set, refl, sym, subst, ◌∙◌, arith, ⊎_elim}
use mathlib.Core.Option.{some}
use lib.ListN.{get_elem?}
use Rattle.atomic_table.specs.Table.{Splits, Joins}
use Rattle.atomic_table.proofs.Lists.{at_snoc, set_else}
use Rattle.turn_desk.specs.declared.view.Stage.TheVariants.{Rests}
use Rattle.turn_desk.specs.declared.view.View.{View}
use Rattle.turn_desk.specs.Histories.{total, times_at}
use Rattle.turn_desk.specs.Views.{at_ticket, active, holding}
use Rattle.turn_desk.specs.Rule.{Fits, KeepsRule}
use Rattle.turn_desk.specs.Steps.{parent, child, witness, both_of, nobody}
use Rattle.turn_desk.proofs.Totals.{total_set, same_total, total_snoc, times_at-append}
use Rattle.turn_desk.proofs.Stages.{each_set, none_of, starts_all_append, stand_append}
use Rattle.turn_desk.proofs.Crews.{crew_adds, crew_splits, crew_joins}

module _ {B E O : Type 0} (history : B → List E) (origin : B → O) (gauge : O → List E → ℕ) (first : B) where
  pub splits : (id : ℕ) (v : View E O) → 0 < v.made → v.made < 64 → 0 < v.seats → Splits (KeepsRule history origin gauge first) id v (parent v) (child v)
  splits id v any room part s k at =
      let vs = s.views in let w : View E O = parent v in let c : View E O = child v in
      let fit = k.each id v at in
      let same : (f : View E O → ℕ) → f w ≡ f v → f c ≡ 0 → total f (set vs id w ++ c ∷ []) ≡ total f vs = λ f e z. (let a = total_snoc f (set vs id w) c in let b = same_total f vs id v w at e in omega arith) in
      let fits : Fits k.serving k.log k.shown (origin first) (length (history first)) w = record { turn_is = fit.turn_is; seen = fit.seen; also = fit.also; own = fit.own; origin_is = fit.origin_is; start_is = fit.start_is; busy = fit.busy; spent = fit.spent } in
      let fits' : Fits k.serving k.log k.shown (origin first) (length (history first)) c = record { turn_is = tt; seen = fit.seen; also = tt; own = tt; origin_is = λ _. fit.origin_is part; start_is = λ _. fit.start_is part; busy = omega arith; spent = λ _. refl } in
      record {
        ticket = k.ticket;
        serving = k.serving;
        log = k.log;
        shown = k.shown;
        out = k.out;
        book = k.book;
        words_are = k.words_are;
        homes_are = k.homes_are;
        book_is = k.book_is;
        goes_on = k.goes_on;
        shown_in = k.shown_in;
        settled = k.settled;
        holders = same (λ (u : View E O). holding u.stage) refl refl ∙ k.holders;
        each = λ j u e. ⊎_elim (λ t. each_set (Fits k.serving k.log k.shown (origin first) (length (history first))) vs id w fits (λ i x ne d. k.each i x d) j u t) (λ t. subst (Fits k.serving k.log k.shown (origin first) (length (history first))) t fits') (at_snoc (set vs id w) c u j e);
        places = λ n. same (λ (u : View E O). times_at n u.own) refl refl ∙ k.places n;
        queue = record {
          length_is = let a = same (λ (u : View E O). active u.stage) refl refl in let b = k.queue.length_is in omega arith;
          tickets = λ n. same (λ (u : View E O). at_ticket n u.stage) refl refl ∙ k.queue.tickets n;
        };
        crew = crew_splits vs id v at any room k.crew;
      }

  pub witnesses : (id : ℕ) (v : View E O) → Splits (KeepsRule history origin gauge first) id v v (witness v)
  witnesses id v s k at =
      let vs = s.views in let c : View E O = witness v in
      let fit = k.each id v at in
      let F : View E O → Type 0 = Fits k.serving k.log k.shown (origin first) (length (history first)) in
      let same : (f : View E O → ℕ) → f c ≡ 0 → total f (set vs id v ++ c ∷ []) ≡ total f vs = λ f z. (let a = total_snoc f (set vs id v) c in let b = same_total f vs id v v at refl in omega arith) in
      let fits : F c = record { turn_is = tt; seen = fit.seen; also = tt; own = tt; origin_is = λ no. absurd (omega arith); start_is = λ no. absurd (omega arith); busy = omega arith; spent = λ _. refl } in
      record {
        ticket = k.ticket;
        serving = k.serving;
        log = k.log;
        shown = k.shown;
        out = k.out;
        book = k.book;
        words_are = k.words_are;
        homes_are = k.homes_are;
        book_is = k.book_is;
        goes_on = k.goes_on;
        shown_in = k.shown_in;
        settled = k.settled;
        holders = same (λ (u : View E O). holding u.stage) refl ∙ k.holders;
        each = λ j u e. ⊎_elim (λ t. each_set F vs id v fit (λ i x ne d. k.each i x d) j u t) (λ t. subst F t fits) (at_snoc (set vs id v) c u j e);
        places = λ n. same (λ (u : View E O). times_at n u.own) refl ∙ k.places n;
        queue = record {
          length_is = let a = same (λ (u : View E O). active u.stage) refl in let b = k.queue.length_is in omega arith;
          tickets = λ n. same (λ (u : View E O). at_ticket n u.stage) refl ∙ k.queue.tickets n;
        };
        crew = crew_adds vs id v at k.crew;
      }

  pub joins : (id : ℕ) (v : View E O) (other : ℕ) (w : View E O) → 0 < v.seats → w.stage ≡ Rests → Joins (KeepsRule history origin gauge first) id v other w (both_of v w) nobody
  joins id v other w part rests s k at apart there =
      let vs = s.views in let x : View E O = both_of v w in let ws : List (View E O) = set vs id x in let us : List (View E O) = set ws other nobody in
      let w_at : get_elem? vs other ≡ some w = sym (set_else vs id other x apart) ∙ there in
      let fit = k.each id v at in let fit' = k.each other w w_at in let idle = none_of w.stage rests in
      let F : View E O → Type 0 = Fits k.serving k.log k.shown (origin first) (length (history first)) in
      let sum : (f : View E O → ℕ) → f x ≡ f v + f w → f nobody ≡ 0 → total f us ≡ total f vs = λ f e z. (let a = total_set f vs id v x at in let b = total_set f ws other w nobody there in omega arith) in
      let fits : F x = record {
        turn_is = fit.turn_is;
        seen = fit.seen;
        also = (fit'.seen, starts_all_append k.shown w.also v.also fit'.also fit.also);
        own = stand_append k.log w.own v.own fit'.own fit.own;
        origin_is = λ _. fit.origin_is part;
        start_is = λ _. fit.start_is part;
        busy = let z = fit.busy in omega arith;
        spent = λ no. absurd (omega arith);
      } in
      let fits' : F nobody = record { turn_is = tt; seen = (k.shown, refl); also = tt; own = tt; origin_is = λ no. absurd (omega arith); start_is = λ no. absurd (omega arith); busy = omega arith; spent = λ _. refl } in
      record {
        ticket = k.ticket;
        serving = k.serving;
        log = k.log;
        shown = k.shown;
        out = k.out;
        book = k.book;
        words_are = k.words_are;
        homes_are = k.homes_are;
        book_is = k.book_is;
        goes_on = k.goes_on;
        shown_in = k.shown_in;
        settled = k.settled;
        holders = sum (λ (u : View E O). holding u.stage) (let z = idle.1 in omega arith) refl ∙ k.holders;
        each = each_set F ws other nobody fits' (λ i y ne d. each_set F vs id x fits (λ i' y' ne' d'. k.each i' y' d') i y d);
        places = λ n. sum (λ (u : View E O). times_at n u.own) (let z = times_at-append n w.own v.own in omega arith) refl ∙ k.places n;
        queue = record {
          length_is = let a = sum (λ (u : View E O). active u.stage) (let z = idle.0 in omega arith) refl in let b = k.queue.length_is in omega arith;
          tickets = λ n. sum (λ (u : View E O). at_ticket n u.stage) (let z = idle.2 n in omega arith) refl ∙ k.queue.tickets n;
        };
        crew = crew_joins vs id v other w part at apart there k.crew;
      }
