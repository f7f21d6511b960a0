-- The append of one entry keeps the rule.
use Rattle.std.proofs.Common.{◌≡◌, ℕ, ◌+◌, ◌%◌, ◌^◌, ◌≤◌, List, [], ◌∷◌, ◌++◌, length, refl, sym, ap, ◌∙◌, arith, append_assoc, length-append}
use Rattle.std.specs.Prelude.{◌==◌, slice_index, slice_set}
use mathlib.Core.Option.{none}
use Rattle.atomic_table.specs.Table.{step, keeps, Allows}
use Rattle.atomic_table.proofs.Lists.{at_last}
use Rattle.turn_desk.specs.declared.view.View.{View}
use Rattle.turn_desk.specs.Histories.{one_if, between, times_at, StartsWith}
use Rattle.turn_desk.specs.Views.{holding, began, added, reached}
use Rattle.turn_desk.specs.Rule.{Fits, KeepsRule}
use Rattle.turn_desk.specs.Steps.{Seated, in_hand, grown, appended}
use Rattle.turn_desk.proofs.Totals.{total_set, same_total, between_next, times_at-append}
use Rattle.turn_desk.proofs.Stages.{mod_suc, each_set, hold_active, hold_ticket, hold_fits, fits_idle, starts_more, stand_more, stand_append}
use Rattle.turn_desk.proofs.Crews.{queue_set, crew_set}
use Rattle.turn_desk.proofs.Tickets.{only_holder}

module _ {B E O : Type 0} (history : B → List E) (origin : B → O) (gauge : O → List E → ℕ) (first : B) where
  pub appends : (slots : ℕ) (id : ℕ) (me : Seated B E O) (e : E) → holding me.0.stage ≡ 1 → StartsWith (in_hand history me.1) (reached me.0.stage ++ e ∷ [])
      → Allows (KeepsRule history origin gauge first) slots id me 2 (λ n. (n + 1) % 2 ^ 64) (appended history (step slots 2 1 0 none) me)
  appends slots id me e holds more s k wide at small =
      let v : View E O = me.0 in let vs = s.views in let w : View E O = grown v e in
      let fit = k.each id v at in
      let mine = hold_fits k.serving k.log v.stage holds fit.turn_is in
      let busy = hold_active v.stage holds in
      let only = only_holder history origin gauge first s k id v at holds in
      let log' : List E = k.log ++ e ∷ [] in
      let grows : reached v.stage ++ e ∷ [] ≡ log' = ap (λ (z : List E). z ++ e ∷ []) mine.1 in
      let long : length log' ≡ length k.log + 1 = length-append k.log (e ∷ []) in
      let place : length (reached v.stage) ≡ length k.log = ap length mine.1 in
      let start : length (history first) ≤ length k.log = let a = ap length k.goes_on.1 in let c = length-append (history first) k.goes_on.0 in omega arith in
      let fits : Fits k.serving log' k.shown (origin first) (length (history first)) w = record {
        turn_is = (mine.0, sym (append_assoc (began v.stage) (added v.stage) (e ∷ [])) ∙ grows);
        seen = fit.seen;
        also = fit.also;
        own = stand_append log' v.own ((length (reached v.stage), e) ∷ []) (stand_more k.log (e ∷ []) v.own fit.own) (at_last k.log e (length (reached v.stage)) (sym place), tt);
        origin_is = fit.origin_is;
        start_is = fit.start_is;
        busy = let z = fit.busy in omega arith;
        spent = λ no. absurd (let z = fit.busy in omega arith);
      } in (
        w,
        keeps,
        tt,
        record {
          ticket = k.ticket;
          serving = k.serving;
          log = log';
          shown = k.shown;
          out = k.out;
          book = k.book;
          words_are = ap (λ (ws : List ℕ). slice_set ws 2 ((slice_index ws 2 + 1) % 2 ^ 64)) k.words_are ∙ ap (λ (x : ℕ). k.ticket % 2 ^ 64 ∷ k.serving % 2 ^ 64 ∷ x ∷ gauge (origin first) k.shown ∷ []) (mod_suc (length k.log) ∙ ap (λ (z : ℕ). z % 2 ^ 64) (sym long));
          homes_are = k.homes_are;
          book_is = λ no. absurd (let y = only.0 in let z : one_if k.out ≡ 0 = ap one_if no in omega arith);
          goes_on = starts_more k.log (e ∷ []) (history first) k.goes_on;
          shown_in = starts_more k.log (e ∷ []) k.shown k.shown_in;
          settled = λ no. absurd (let y = only.0 in let z : one_if k.out ≡ 0 = ap one_if no in omega arith);
          holders = same_total (λ (u : View E O). holding u.stage) vs id v w at (sym holds) ∙ k.holders;
          each = each_set (Fits k.serving log' k.shown (origin first) (length (history first))) vs id w fits (λ j u ne d. let f = k.each j u d in record { turn_is = fits_idle k.serving log' u.stage (only.1 j u ne d); seen = f.seen; also = f.also; own = stand_more k.log (e ∷ []) u.own f.own; origin_is = f.origin_is; start_is = f.start_is; busy = f.busy; spent = f.spent });
          places = λ m.
              let t = total_set (λ (u : View E O). times_at m u.own) vs id v w at in
              let a = times_at-append m v.own ((length (reached v.stage), e) ∷ []) in
              let c : one_if (m == length (reached v.stage)) ≡ one_if (m == length k.log) = ap (λ (z : ℕ). one_if (m == z)) place in
              let d = between_next (length (history first)) (length k.log) m start in
              let x = k.places m in
              let y : between (length (history first)) (length log') m ≡ between (length (history first)) (length k.log + 1) m = ap (λ (z : ℕ). between (length (history first)) z m) long in omega arith;
          queue = queue_set k.serving k.ticket vs id v w at (sym busy) (λ n. sym (hold_ticket n v.stage holds)) k.queue;
          crew = crew_set vs id v w at refl refl refl k.crew;
        },
        (e, more, refl),
      )
