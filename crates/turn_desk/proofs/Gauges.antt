-- The steps on the gauge keep the rule: it is written by the seat whose turn it is, and read by a seat that rests.
use Rattle.std.proofs.Common.{◌≡◌, ℕ, ◌%◌, ◌^◌, ◌<◌, List, [], ◌∷◌, length, refl, sym, ap, subst, ◌∙◌, arith}
use Rattle.std.specs.Prelude.{Some, slice_index, slice_set}
use mathlib.Core.Option.{none}
use Rattle.atomic_table.specs.Table.{step, keeps, Allows}
use Rattle.turn_desk.specs.declared.view.View.{View}
use Rattle.turn_desk.specs.Histories.{times_at, StartsWith}
use Rattle.turn_desk.specs.Views.{holding, reached}
use Rattle.turn_desk.specs.Rule.{Fits, KeepsRule}
use Rattle.turn_desk.specs.Steps.{Seated, shown_to, told, glanced}
use Rattle.turn_desk.proofs.Totals.{same_total}
use Rattle.turn_desk.proofs.Stages.{each_set, hold_active, hold_fits, starts_whole, starts_in, starts_all_in}
use Rattle.turn_desk.proofs.Crews.{queue_set, crew_set}
use Rattle.turn_desk.proofs.Tickets.{only_holder}

module _ {B E O : Type 0} (history : B → List E) (origin : B → O) (gauge : O → List E → ℕ) (first : B) where
  pub tells : (slots : ℕ) (id : ℕ) (me : Seated B E O) (new : ℕ) (b : B) → holding me.0.stage ≡ 1 → history b ≡ reached me.0.stage → me.0.origin ≡ Some (origin b) → new ≡ gauge (origin b) (history b)
      → Allows (KeepsRule history origin gauge first) slots id me 3 (λ _. new) (λ _. told (step slots 3 new 0 none) me new)
  tells slots id me new b holds is from gauged s k wide at small =
      let v : View E O = me.0 in let vs = s.views in let w : View E O = shown_to v in
      let fit = k.each id v at in
      let mine = hold_fits k.serving k.log v.stage holds fit.turn_is in
      let busy = hold_active v.stage holds in
      let only = only_holder history origin gauge first s k id v at holds in
      let some_origin : Some (origin b) ≡ Some (origin first) = sym from ∙ fit.origin_is (let z = fit.busy in omega arith) in
      let one : origin b ≡ origin first = cc some_origin in
      let written : new ≡ gauge (origin first) k.log = gauged ∙ (λ i. gauge (one i) ((is ∙ mine.1) i)) in
      let fits : Fits k.serving k.log k.log (origin first) (length (history first)) w = record {
        turn_is = fit.turn_is;
        seen = subst (λ (z : List E). StartsWith k.log z) (sym mine.1) (starts_whole k.log);
        also = starts_all_in k.log k.shown v.also k.shown_in fit.also;
        own = fit.own;
        origin_is = fit.origin_is;
        start_is = fit.start_is;
        busy = fit.busy;
        spent = fit.spent;
      } in (
        w,
        keeps,
        tt,
        record {
          ticket = k.ticket;
          serving = k.serving;
          log = k.log;
          shown = k.log;
          out = k.out;
          book = k.book;
          words_are = ap (λ (ws : List ℕ). slice_set ws 3 new) k.words_are ∙ ap (λ (x : ℕ). k.ticket % 2 ^ 64 ∷ k.serving % 2 ^ 64 ∷ length k.log % 2 ^ 64 ∷ x ∷ []) written;
          homes_are = k.homes_are;
          book_is = k.book_is;
          goes_on = k.goes_on;
          shown_in = starts_whole k.log;
          settled = λ _. refl;
          holders = same_total (λ (u : View E O). holding u.stage) vs id v w at refl ∙ k.holders;
          each = each_set (Fits k.serving k.log k.log (origin first) (length (history first))) vs id w fits (λ j u ne d. let f = k.each j u d in record { turn_is = f.turn_is; seen = starts_in k.log k.shown u.seen k.shown_in f.seen; also = starts_all_in k.log k.shown u.also k.shown_in f.also; own = f.own; origin_is = f.origin_is; start_is = f.start_is; busy = f.busy; spent = f.spent });
          places = λ m. same_total (λ (u : View E O). times_at m u.own) vs id v w at refl ∙ k.places m;
          queue = queue_set k.serving k.ticket vs id v w at refl (λ n. refl) k.queue;
          crew = crew_set vs id v w at refl refl refl k.crew;
        },
        refl,
      )

  pub glances : (slots : ℕ) (id : ℕ) (me : Seated B E O) → 0 < me.0.seats → Allows (KeepsRule history origin gauge first) slots id me 3 (λ n. n) (glanced gauge (step slots 3 0 0 none) me)
  glances slots id me part s k wide at small =
      let v : View E O = me.0 in let vs = s.views in let w : View E O = record v { seen = k.shown } in
      let fit = k.each id v at in
      let found : slice_index s.words 3 ≡ gauge (origin first) k.shown = ap (λ (ws : List ℕ). slice_index ws 3) k.words_are in
      let same : slice_set s.words 3 (slice_index s.words 3) ≡ s.words = ap (λ (ws : List ℕ). slice_set ws 3 (slice_index ws 3)) k.words_are ∙ sym k.words_are in
      let fits : Fits k.serving k.log k.shown (origin first) (length (history first)) w = record { turn_is = fit.turn_is; seen = starts_whole k.shown; also = fit.also; own = fit.own; origin_is = fit.origin_is; start_is = fit.start_is; busy = fit.busy; spent = fit.spent } in (
        w,
        keeps,
        tt,
        record {
          ticket = k.ticket;
          serving = k.serving;
          log = k.log;
          shown = k.shown;
          out = k.out;
          book = k.book;
          words_are = same ∙ k.words_are;
          homes_are = k.homes_are;
          book_is = k.book_is;
          goes_on = k.goes_on;
          shown_in = k.shown_in;
          settled = k.settled;
          holders = same_total (λ (u : View E O). holding u.stage) vs id v w at refl ∙ k.holders;
          each = each_set (Fits k.serving k.log k.shown (origin first) (length (history first))) vs id w fits (λ j u ne d. k.each j u d);
          places = λ m. same_total (λ (u : View E O). times_at m u.own) vs id v w at refl ∙ k.places m;
          queue = queue_set k.serving k.ticket vs id v w at refl (λ n. refl) k.queue;
          crew = crew_set vs id v w at refl refl refl k.crew;
        },
        (record { origin = origin first; origin_is = fit.origin_is part; history = k.shown; goes_on = fit.seen; also = fit.also; gauge_is = found; sees = refl }, refl),
      )
