-- The steps on the tickets keep the rule: a draw, a read of the number that is served, and a turn that passes on.
use Rattle.std.proofs.Common.{◌≡◌, ◌≢◌, ℕ, ◌+◌, ◌%◌, ◌^◌, ◌<◌, ◌≤◌, List, [], ◌∷◌, length, refl, sym, ap, subst, ◌∙◌, arith, Bool, true, false, append-nil}
use Rattle.std.proofs.lemmas.Bool.Decides.{nat_tests}
use Rattle.std.specs.Prelude.{◌==◌, slice_index, slice_set, Option, Some}
use mathlib.Core.Option.{some, none}
use mathlib.Core.Option as maybe
use mathlib.Core.Logic.{dite}
use native.Mathlib.Decide.{ℕ_discrete}
use lib.ListN.{get_elem?}
use Rattle.atomic_table.specs.Table.{State, step, keeps, takes, gives, Allows, stepped, put_back}
use Rattle.atomic_table.proofs.Lists.{set_again, one_turn}
use Rattle.turn_desk.specs.declared.view.Stage.TheVariants.{Rests, Waits, Holds}
use Rattle.turn_desk.specs.declared.view.View.{View}
use Rattle.turn_desk.specs.Histories.{total, one_if, times_at, StartsWith, StartsWithAll}
use Rattle.turn_desk.specs.Views.{at_ticket, active, holding, ticket_of, reached, posed}
use Rattle.turn_desk.specs.Rule.{home, Fits, KeepsRule}
use Rattle.turn_desk.specs.Steps.{Seated, drawn, looked, rested, passed}
use Rattle.turn_desk.proofs.Totals.{total_set, total_at, total_two, same_total, total_le, total_le_at, between_in, between_one, one_here}
use Rattle.turn_desk.proofs.Stages.{mod_suc, out_or_not, each_set, hold_active, hold_fits, fits_idle, hold_le, starts_both}
use Rattle.turn_desk.proofs.Crews.{queue_set, queue_draws, queue_passes, crew_set}

module _ {B E O : Type 0} (history : B → List E) (origin : B → O) (gauge : O → List E → ℕ) (first : B) where
  pub draws : (slots : ℕ) (id : ℕ) (me : Seated B E O) → me.0.stage ≡ Rests → 0 < me.0.seats → Allows (KeepsRule history origin gauge first) slots id me 0 (λ n. (n + 1) % 2 ^ 64) (drawn (step slots 0 1 0 none) me)
  draws slots id me rests part s k wide at small =
      let v : View E O = me.0 in let w : View E O = posed v (Waits k.ticket) in let vs = s.views in
      let fit = k.each id v at in
      let mine : Fits k.serving k.log k.shown (origin first) (length (history first)) w = record { turn_is = tt; seen = fit.seen; also = fit.also; own = fit.own; origin_is = fit.origin_is; start_is = fit.start_is; busy = part; spent = λ no. absurd (omega arith) } in
      let found : slice_index s.words 0 ≡ k.ticket % 2 ^ 64 = ap (λ (ws : List ℕ). slice_index ws 0) k.words_are in (
        w,
        keeps,
        tt,
        record {
          ticket = k.ticket + 1;
          serving = k.serving;
          log = k.log;
          shown = k.shown;
          out = k.out;
          book = k.book;
          words_are = ap (λ (ws : List ℕ). slice_set ws 0 ((slice_index ws 0 + 1) % 2 ^ 64)) k.words_are ∙ ap (λ (x : ℕ). x ∷ k.serving % 2 ^ 64 ∷ length k.log % 2 ^ 64 ∷ gauge (origin first) k.shown ∷ []) (mod_suc k.ticket);
          homes_are = k.homes_are;
          book_is = k.book_is;
          goes_on = k.goes_on;
          shown_in = k.shown_in;
          settled = k.settled;
          holders = same_total (λ (u : View E O). holding u.stage) vs id v w at (sym (ap holding rests)) ∙ k.holders;
          each = each_set (Fits k.serving k.log k.shown (origin first) (length (history first))) vs id w mine (λ j u ne e. k.each j u e);
          places = λ n. same_total (λ (u : View E O). times_at n u.own) vs id v w at refl ∙ k.places n;
          queue = queue_draws k.serving k.ticket vs id v w at rests refl k.queue;
          crew = crew_set vs id v w at refl refl refl k.crew;
        },
        (k.ticket, found, refl),
      )

  -- a load that changes nothing
  stays : (s : State (Option B) (View E O)) (i id : ℕ) (me : Seated B E O) → slice_set s.words i (slice_index s.words i) ≡ s.words → get_elem? s.views id ≡ some me.0 → KeepsRule history origin gauge first s → KeepsRule history origin gauge first (stepped s i (slice_index s.words i) id me.1 me.0 keeps)
  stays s i id me same at k = subst (λ (z : List ℕ × List (View E O)). KeepsRule history origin gauge first record { words = z.0; homes = s.homes; views = z.1 }) (λ i. (sym same i, sym (set_again s.views id me.0 at) i)) k

  few_wait : (s : State (Option B) (View E O)) (k : KeepsRule history origin gauge first s) → total (λ (v : View E O). active v.stage) s.views ≤ 64
  few_wait s k = let a = total_le (λ (v : View E O). active v.stage) (λ (v : View E O). v.seats) s.views (λ j u e. (k.each j u e).busy) in let b = k.crew.seats in let c = k.crew.few in omega arith

  -- the number that is served shows as the seat's own: then it is its own, and the book is at home
  own_turn : (s : State (Option B) (View E O)) (k : KeepsRule history origin gauge first s) (id : ℕ) (v : View E O) (n : ℕ) → get_elem? s.views id ≡ some v → v.stage ≡ Waits n → k.serving % 2 ^ 64 ≡ n % 2 ^ 64 → (k.serving ≡ n) × (k.out ≡ false)
  own_turn s k id v n at waits hit =
      let vs = s.views in let idle : holding v.stage ≡ 0 = ap holding waits in
      let tick : at_ticket n v.stage ≡ 1 = ap (at_ticket n) waits ∙ one_here n in
      let some_turn = total_at (λ (u : View E O). at_ticket n u.stage) vs id v at in
      let here = between_in k.serving k.ticket n (let z = k.queue.tickets n in omega arith) in
      let near : n < k.serving + 2 ^ 64 = let a = few_wait s k in let b = k.queue.length_is in omega arith in
      let is : k.serving ≡ n = one_turn k.serving n (2 ^ 64) here.0 near hit in (
        is,
        out_or_not k.out (
            let a = total_le_at (λ (u : View E O). holding u.stage) (λ (u : View E O). at_ticket n u.stage) vs id v at (λ j u e. subst (λ (z : ℕ). holding u.stage ≤ at_ticket z u.stage) is (hold_le k.serving k.log u.stage (k.each j u e).turn_is)) in
            let b = k.queue.tickets n in let c = between_one k.serving k.ticket n in let d = k.holders in omega arith),
      )

  pub looks : (slots : ℕ) (id : ℕ) (me : Seated B E O) (n : ℕ) → me.0.stage ≡ Waits n → Allows (KeepsRule history origin gauge first) slots id me 1 (λ x. x) (looked history origin (step slots 1 0 0 none) me)
  looks slots id me n waits s k wide at small =
      let v : View E O = me.0 in let vs = s.views in
      let found : slice_index s.words 1 ≡ k.serving % 2 ^ 64 = ap (λ (ws : List ℕ). slice_index ws 1) k.words_are in
      let same : slice_set s.words 1 (slice_index s.words 1) ≡ s.words = ap (λ (ws : List ℕ). slice_set ws 1 (slice_index ws 1)) k.words_are ∙ sym k.words_are in
      let mine : ticket_of v.stage ≡ n = ap ticket_of waits in
      dite (ℕ_discrete (slice_index s.words 1) (ticket_of v.stage % 2 ^ 64))
      (λ hit.
      let idle : holding v.stage ≡ 0 = ap holding waits in let busy : active v.stage ≡ 1 = ap active waits in
      let turn = own_turn s k id v n at waits (sym found ∙ (hit ∙ ap (λ (z : ℕ). z % 2 ^ 64) mine)) in
      let free : k.out ≡ false = turn.1 in
      let b : B = k.book in let has = k.book_is free in let w : View E O = posed v (Holds (ticket_of v.stage) (history b) []) in
      let fit = k.each id v at in
      let fits : Fits k.serving k.log k.shown (origin first) (length (history first)) w = record { turn_is = (mine ∙ sym turn.0, append-nil (history b) ∙ has.0); seen = fit.seen; also = fit.also; own = fit.own; origin_is = fit.origin_is; start_is = fit.start_is; busy = let z = fit.busy in omega arith; spent = λ no. absurd (omega arith) } in
      let homes : s.homes ≡ some (Some b) ∷ [] = k.homes_are ∙ ap (λ (z : Bool). home z b ∷ []) free in (
        w,
        takes 0 (Some b),
        ap (λ hs. get_elem? hs 0) homes,
        record {
          ticket = k.ticket;
          serving = k.serving;
          log = k.log;
          shown = k.shown;
          out = true;
          book = b;
          words_are = same ∙ k.words_are;
          homes_are = ap (λ (hs : List (maybe.Option (Option B))). slice_set hs 0 none) homes;
          book_is = λ e. absurd (cc);
          goes_on = k.goes_on;
          shown_in = k.shown_in;
          settled = λ e. absurd (cc);
          holders = let q = total_set (λ (u : View E O). holding u.stage) vs id v w at in let z = k.holders in let y : one_if k.out ≡ 0 = ap one_if free in omega arith;
          each = each_set (Fits k.serving k.log k.shown (origin first) (length (history first))) vs id w fits (λ j u ne e. k.each j u e);
          places = λ m. same_total (λ (u : View E O). times_at m u.own) vs id v w at refl ∙ k.places m;
          queue = queue_set k.serving k.ticket vs id v w at (sym busy) (λ m. ap (λ (z : ℕ). one_if (m == z)) mine ∙ sym (ap (at_ticket m) waits)) k.queue;
          crew = crew_set vs id v w at refl refl refl k.crew;
        },
        ((λ _. (b, refl, subst (λ (z : List E). StartsWith z v.seen) (k.settled free ∙ sym has.0) fit.seen, fit.origin_is (let z = fit.busy in omega arith) ∙ ap Some (sym has.1), subst (λ (z : List E). StartsWithAll z v.also) (k.settled free ∙ sym has.0) fit.also)), λ miss. absurd (miss hit)),
      ))
      (λ miss. (me.0, keeps, tt, stays s 1 id me same at k, ((λ hit. absurd (miss hit)), λ _. refl)))

  -- while one seat holds the turn the book is out, and no other seat holds
  pub only_holder : (s : State (Option B) (View E O)) (k : KeepsRule history origin gauge first s) (id : ℕ) (v : View E O) → get_elem? s.views id ≡ some v → holding v.stage ≡ 1 → (one_if k.out ≡ 1) × ((j : ℕ) (u : View E O) → j ≢ id → get_elem? s.views j ≡ some u → holding u.stage ≡ 0)
  only_holder s k id v at holds =
      let held = total_at (λ (u : View E O). holding u.stage) s.views id v at in
      let most : one_if k.out ≤ 1 = grind (arith, nat_tests, one_if) in (
        (let a = k.holders in omega arith),
        λ j u ne e. (let a = total_two (λ (x : View E O). holding x.stage) s.views id j v u ne at e in let c = k.holders in omega arith),
      )

  pub passes : (slots : ℕ) (id : ℕ) (me : Seated B E O) (b : B) → holding me.0.stage ≡ 1 → me.1 ≡ (0, Some b) ∷ [] → history b ≡ reached me.0.stage → me.0.origin ≡ Some (origin b) → me.0.seen ≡ reached me.0.stage
      → Allows (KeepsRule history origin gauge first) slots id me 1 (λ n. (n + 1) % 2 ^ 64) (passed (step slots 1 1 0 none) me)
  passes slots id me b holds hand is from told s k wide at small =
      let v : View E O = me.0 in let vs = s.views in let w : View E O = rested v in
      let busy = hold_active v.stage holds in
      let fit = k.each id v at in
      let mine = hold_fits k.serving k.log v.stage holds fit.turn_is in
      let only = only_holder s k id v at holds in
      let log_is : history b ≡ k.log = is ∙ mine.1 in
      let whole : k.shown ≡ k.log = starts_both k.log k.shown k.shown_in (subst (λ (z : List E). StartsWith k.shown z) (told ∙ mine.1) fit.seen) in
      let fits : Fits (k.serving + 1) k.log k.shown (origin first) (length (history first)) w = record { turn_is = tt; seen = subst (λ (z : List E). StartsWith k.shown z) told fit.seen; also = fit.also; own = fit.own; origin_is = fit.origin_is; start_is = fit.start_is; busy = omega arith; spent = λ no. absurd (omega arith) } in (
        w,
        gives,
        tt,
        record {
          ticket = k.ticket;
          serving = k.serving + 1;
          log = k.log;
          shown = k.shown;
          out = false;
          book = b;
          words_are = ap (λ (ws : List ℕ). slice_set ws 1 ((slice_index ws 1 + 1) % 2 ^ 64)) k.words_are ∙ ap (λ (x : ℕ). k.ticket % 2 ^ 64 ∷ x ∷ length k.log % 2 ^ 64 ∷ gauge (origin first) k.shown ∷ []) (mod_suc k.serving);
          homes_are = (λ i. put_back (k.homes_are i) (hand i));
          book_is = λ _. (log_is, cc (from, fit.origin_is (let z = fit.busy in omega arith)));
          goes_on = k.goes_on;
          shown_in = k.shown_in;
          settled = λ _. whole;
          holders = let t = total_set (λ (u : View E O). holding u.stage) vs id v w at in let z = k.holders in let y = only.0 in omega arith;
          each = each_set (Fits (k.serving + 1) k.log k.shown (origin first) (length (history first))) vs id w fits (λ j u ne e. let f = k.each j u e in record { turn_is = fits_idle (k.serving + 1) k.log u.stage (only.1 j u ne e); seen = f.seen; also = f.also; own = f.own; origin_is = f.origin_is; start_is = f.start_is; busy = f.busy; spent = f.spent });
          places = λ m. same_total (λ (u : View E O). times_at m u.own) vs id v w at refl ∙ k.places m;
          queue = queue_passes k.serving k.ticket vs id v w at holds mine.0 refl k.queue;
          crew = crew_set vs id v w at refl refl refl k.crew;
        },
        refl,
      )
