-- A new desk meets the rule; what the rule says of a desk whose book lies on it, and of one that is closed.
use Rattle.std.proofs.Common.{◌≡◌, ◌≢◌, ℕ, zero, suc, ◌+◌, ◌%◌, ◌^◌, ◌<◌, ◌≤◌, List, [], ◌∷◌, length, map, refl, sym, ap, subst, ◌∙◌, arith, Bool, true, false}
use Rattle.std.proofs.lemmas.Bool.Decides.{nat_tests}
use Rattle.std.specs.Prelude.{◌==◌, ltb, slice_index, Option, Some}
use mathlib.Core.Option.{some, none, some-injective, some-ne-none}
use mathlib.Core.Option as maybe
use mathlib.Core.Logic.{dite}
use native.Mathlib.Decide.{ℕ_discrete}
use lib.ListN.{get_elem?}
use Rattle.atomic_table.specs.Table.{State, Final, Seen, opening}
use Rattle.turn_desk.specs.declared.view.Stage.TheVariants.{Rests}
use Rattle.turn_desk.specs.declared.view.View.{View}
use Rattle.turn_desk.specs.Histories.{total, one_if, between, times_at, StartsWith, StartsWithAll, StandIn}
use Rattle.turn_desk.specs.Views.{holding, founder, numbered, reached}
use Rattle.turn_desk.specs.Rule.{home, Fits, IsCrew, KeepsRule, AreApart, AtHome, InTurn}
use Rattle.turn_desk.specs.Steps.{Ends}
use Rattle.turn_desk.proofs.Totals.{total_at, total_two, total_only, total_none}
use Rattle.turn_desk.proofs.Stages.{out_or_not, hold_le_active, none_of, starts_whole, starts_in, starts_all_in, hold_fits}
use Rattle.turn_desk.proofs.Crews.{made_is}
use Rattle.turn_desk.proofs.Tickets.{only_holder}

one_view : {V : Type 0} (P : V → Type 0) (v : V) (j : ℕ) (u : V) → get_elem? (v ∷ []) j ≡ some u → P v → P u
one_view P v zero u e h = subst P (some-injective v u e) h
one_view P v (suc j) u e h = absurd (some-ne-none u (sym e))

others_none : {E O : Type 0} (v : View E O) (j : ℕ) (u : View E O) → get_elem? (v ∷ []) j ≡ some u → j ≢ 0 → u.made ≡ 0
others_none v zero u e ne = absurd (ne refl)
others_none v (suc j) u e ne = absurd (some-ne-none u (sym e))

between_none : (a n : ℕ) → between a a n ≡ 0
between_none a n = grind (arith, nat_tests, one_if)

abbrev first_home : {A : Type 0} → List (maybe.Option A) → maybe.Option A
first_home [] = none
first_home (x ∷ xs) = x

-- the slot that has a book is at home, with this book
home_is : {B : Type 0} (out : Bool) (b book : B) → home out b ∷ [] ≡ some (Some book) ∷ [] → (out ≡ false) × (b ≡ book)
home_is true b book e = absurd (some-ne-none (Some book) (sym (ap first_home e)))
home_is false b book e = (refl, cc)

is_out : (b : Bool) → one_if b ≡ 1 → b ≡ true
is_out true h = refl
is_out false h = absurd (omega arith)

-- a view that is not spent counts once under its number
one_numbered : {E O : Type 0} (n : ℕ) (v : View E O) → 0 < v.seats → n ≡ v.number → numbered n v ≡ 1
one_numbered n v some_seat is = grind (arith, nat_tests, one_if)

module _ {B E O : Type 0} (history : B → List E) (origin : B → O) (gauge : O → List E → ℕ) (first : B) where
  pub opens : (count gauged : ℕ) (xs : List (Option B)) → xs ≡ Some first ∷ [] → count ≡ length (history first) % 2 ^ 64 → gauged ≡ gauge (origin first) (history first) → KeepsRule history origin gauge first (opening (0 ∷ 0 ∷ count ∷ gauged ∷ []) xs (founder (history first) (origin first)))
  opens count gauged xs is counted same =
      let v : View E O = founder (history first) (origin first) in
      let fits : Fits 0 (history first) (history first) (origin first) (length (history first)) v = record { turn_is = tt; seen = starts_whole (history first); also = tt; own = tt; origin_is = λ _. refl; start_is = λ _. refl; busy = omega arith; spent = λ no. refl } in
      record {
        ticket = 0;
        serving = 0;
        log = history first;
        shown = history first;
        out = false;
        book = first;
        words_are = (λ i. 0 ∷ 0 ∷ counted i ∷ same i ∷ []);
        homes_are = ap (map some) is;
        book_is = λ _. (refl, refl);
        goes_on = starts_whole (history first);
        shown_in = starts_whole (history first);
        settled = λ _. refl;
        holders = refl;
        each = λ j u e. one_view (Fits 0 (history first) (history first) (origin first) (length (history first))) v j u e fits;
        places = λ n. sym (between_none (length (history first)) n);
        queue = record { length_is = refl; tickets = λ n. sym (between_none 0 n) };
        crew = record {
          maker = 0;
          others = λ j u e ne. others_none v j u e ne;
          seats = refl;
          numbers = λ n. let h : one_if (n == 0) + 0 ≤ one_if (ltb n 1) = grind (arith, nat_tests, one_if) in h;
          few = omega arith;
        };
      }

  -- the view that keeps how many were made is the one that the rule names
  the_maker : (views : List (View E O)) (crew : IsCrew views) (j : ℕ) (v : View E O) → get_elem? views j ≡ some v → 0 < v.made → j ≡ crew.maker
  the_maker views crew j v at some_made = dite (ℕ_discrete j crew.maker) (λ is. is) (λ other. absurd (let none = crew.others j v at other in omega arith))

  apart : (s : State (Option B) (View E O)) → KeepsRule history origin gauge first s → AreApart history origin first s.views
  apart s k = record {
    numbers = λ i j v w at_i at_j some_v some_w same. dite (ℕ_discrete i j) (λ is. is) (λ ne. absurd (
        let a = total_two (numbered v.number) s.views i j v w (λ p. ne (sym p)) at_i at_j in
        let b = one_numbered v.number v some_v refl in let c = one_numbered v.number w some_w same in
        let d = k.crew.numbers v.number in let e : one_if (ltb v.number (total (λ (u : View E O). u.made) s.views)) ≤ 1 = grind (arith, nat_tests, one_if) in omega arith));
    below = λ j v at some_v.
        (let a = total_at (numbered v.number) s.views j v at in let b = one_numbered v.number v some_v refl in let d = k.crew.numbers v.number in
        let e : 1 ≤ one_if (ltb v.number (total (λ (u : View E O). u.made) s.views)) = omega arith in grind (arith, nat_tests, one_if));
    origins = λ j v at some_v. ((k.each j v at).origin_is some_v, (k.each j v at).start_is some_v);
    maker = λ i j v w at_i at_j some_v some_w. the_maker s.views k.crew i v at_i some_v ∙ sym (the_maker s.views k.crew j w at_j some_w);
  }

  pub at_home : (book : B) (s : State (Option B) (View E O)) → KeepsRule history origin gauge first s → s.homes ≡ some (Some book) ∷ [] → AtHome history origin gauge first book s
  at_home book s k lies =
      let free = home_is k.out k.book book (sym k.homes_are ∙ lies) in let has = k.book_is free.0 in
      let log_is : k.log ≡ history book = sym has.0 ∙ ap history free.1 in
      let shown_is : k.shown ≡ history book = k.settled free.0 ∙ log_is in
      let none_holds : total (λ (v : View E O). holding v.stage) s.views ≡ 0 = k.holders ∙ ap one_if free.0 in record {
        count = ap (λ (ws : List ℕ). slice_index ws 2) k.words_are ∙ ap (λ (z : List E). length z % 2 ^ 64) log_is;
        gauge_is = ap (λ (ws : List ℕ). slice_index ws 3) k.words_are ∙ ap (gauge (origin first)) shown_is;
        goes_on = subst (λ (z : List E). StartsWith z (history first)) log_is k.goes_on;
        origin_is = ap origin (sym free.1) ∙ has.1;
        seen = λ j v at. subst (λ (z : List E). StartsWith z v.seen) shown_is (k.each j v at).seen;
        also = λ j v at. subst (λ (z : List E). StartsWithAll z v.also) shown_is (k.each j v at).also;
        own = λ j v at. subst (λ (z : List E). StandIn z v.own) log_is (k.each j v at).own;
        places = λ n. k.places n ∙ ap (λ (z : List E). between (length (history first)) (length z) n) log_is;
        apart = apart s k;
        queue = let a = ap (λ (ws : List ℕ). slice_index ws 0) k.words_are in let b = ap (λ (ws : List ℕ). slice_index ws 1) k.words_are in let c = k.queue.length_is in omega arith;
        holders = none_holds;
      }

  pub in_turn : (place : ℕ) (w : View E O) (s : State (Option B) (View E O)) → KeepsRule history origin gauge first s → get_elem? s.views place ≡ some w → holding w.stage ≡ 1 → InTurn history origin gauge first place w s
  in_turn place w s k at holds =
      let only = only_holder history origin gauge first s k place w at holds in
      let mine = hold_fits k.serving k.log w.stage holds (k.each place w at).turn_is in
      let log_is : k.log ≡ reached w.stage = sym mine.1 in record {
        slot = k.homes_are ∙ ap (λ (z : Bool). home z k.book ∷ []) (is_out k.out only.0);
        serving = ap (λ (ws : List ℕ). slice_index ws 1) k.words_are ∙ ap (λ (z : ℕ). z % 2 ^ 64) (sym mine.0);
        alone = only.1;
        count = ap (λ (ws : List ℕ). slice_index ws 2) k.words_are ∙ ap (λ (z : List E). length z % 2 ^ 64) log_is;
        shown = k.shown;
        shown_in = subst (λ (z : List E). StartsWith z k.shown) log_is k.shown_in;
        gauge_is = ap (λ (ws : List ℕ). slice_index ws 3) k.words_are;
        goes_on = subst (λ (z : List E). StartsWith z (history first)) log_is k.goes_on;
        seen = λ j v here. subst (λ (z : List E). StartsWith z v.seen) log_is (starts_in k.log k.shown v.seen k.shown_in (k.each j v here).seen);
        also = λ j v here. subst (λ (z : List E). StartsWithAll z v.also) log_is (starts_all_in k.log k.shown v.also k.shown_in (k.each j v here).also);
        own = λ j v here. subst (λ (z : List E). StandIn z v.own) log_is (k.each j v here).own;
        places = λ n. k.places n ∙ ap (λ (z : List E). between (length (history first)) (length z) n) log_is;
        apart = apart s k;
        queue = let a = ap (λ (ws : List ℕ). slice_index ws 0) k.words_are in let b = ap (λ (ws : List ℕ). slice_index ws 1) k.words_are in let c = k.queue.length_is in omega arith;
      }

  ends : (id : ℕ) (v : View E O) (ws : List ℕ) (xs : List (Option B)) → v.stage ≡ Rests → v.seats ≡ v.made → 0 < v.made → Final (Seen (KeepsRule history origin gauge first) id v) ws xs → (b : B) × (get_elem? xs 0 ≡ some (Some b)) × Ends history origin first v b
  ends id v ws xs rests whole any f =
      let s = f.0 in let k = f.1.0 in let at = f.1.1 in let vs = s.views in let made = made_is vs k.crew id v at any in
      let idle = none_of v.stage rests in
      let seats : (j : ℕ) (u : View E O) → j ≢ id → get_elem? vs j ≡ some u → u.seats ≡ 0 = λ j u ne e. (let a = total_two (λ (y : View E O). y.seats) vs id j v u ne at e in let b = k.crew.seats in let c = made.1 in omega arith) in
      let few : total (λ (u : View E O). holding u.stage) vs ≡ 0 = total_none (λ (u : View E O). holding u.stage) vs (λ j u e. dite (ℕ_discrete j id)
      (λ is. let same : v ≡ u = some-injective v u (sym at ∙ (ap (get_elem? vs) (sym is) ∙ e)) in ap (λ (y : View E O). holding y.stage) (sym same) ∙ idle.1)
      (λ ne. let a = (k.each j u e).busy in let b = seats j u ne e in let c = hold_le_active u.stage in omega arith)) in
      let free : k.out ≡ false = out_or_not k.out (let a = k.holders in omega arith) in
      let b : B = k.book in let has = k.book_is free in let fit = k.each id v at in
      let homes : s.homes ≡ some (Some b) ∷ [] = k.homes_are ∙ ap (λ (z : Bool). home z b ∷ []) free in
      let places : (n : ℕ) → times_at n v.own ≡ between (length (history first)) (length k.log) n = λ n. sym (total_only (λ (u : View E O). times_at n u.own) vs id v at (λ j u ne e. ap (times_at n) ((k.each j u e).spent (seats j u ne e)))) ∙ k.places n in (
        b,
        f.4 0 (Some b) (ap (λ hs. get_elem? hs 0) homes),
        record {
          origin_is = has.1;
          goes_on = subst (λ (z : List E). StartsWith z (history first)) (sym has.0) k.goes_on;
          seen = subst (λ (z : List E). StartsWith z v.seen) (k.settled free ∙ sym has.0) fit.seen;
          also = subst (λ (z : List E). StartsWithAll z v.also) (k.settled free ∙ sym has.0) fit.also;
          own = subst (λ (z : List E). StandIn z v.own) (sym has.0) fit.own;
          places = λ n. places n ∙ ap (λ (z : List E). between (length (history first)) (length z) n) (sym has.0);
        },
      )

  -- the value found in the slot of a closed table is the book
  pub ends_with : (id : ℕ) (v : View E O) (ws : List ℕ) (xs : List (Option B)) (found : Option B) → v.stage ≡ Rests → v.seats ≡ v.made → 0 < v.made → Final (Seen (KeepsRule history origin gauge first) id v) ws xs → get_elem? xs 0 ≡ some found → (b : B) × (found ≡ Some b) × Ends history origin first v b
  ends_with id v ws xs found rests whole any f at = let e = ends id v ws xs rests whole any f in (e.0, some-injective found (Some e.0) (sym at ∙ e.1), e.2)
