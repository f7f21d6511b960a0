-- A pass for each desk, after one of them had its turn.
use Rattle.std.proofs.Common.{◌≡◌, inl, inr, ◌<◌, ℕ, zero, suc, List, [], ◌∷◌, length, map, get_or, None, refl, sym, ◌∙◌, ap, subst, arith}
use Rattle.std.specs.Prelude.{slice_set}
use Rattle.std.proofs.Math.Seq.{map-set_same}
use Rattle.std.proofs.lemmas.List.{get_or-set_same, get_or-set_other, length-set}
use Rattle.std.proofs.lemmas.Bool.{cases_eq}
use Rattle.lot_base.specs.declared.auction_terms.Terms.{Terms}
use Rattle.demand_set.specs.declared.reports.Report.{Report}
use Rattle.clock.specs.declared.clocks.Look.{Look}
use Rattle.clock.specs.declared.judging.Offered.{Offered}
use Rattle.recovery.specs.Journaled.{owner_of}
use Rattle.clock_book.specs.declared.entries.Entry.{Entry}
use Rattle.clock_book.specs.declared.origins.Origin.{Origin}
use Rattle.turn_desk.specs.Passes.{Opened, Known, at_turn, after_giving}
use Rattle.clock_family.specs.Houses.{HousePassOf, still, all_still}
use Rattle.clock_family.specs.Turns.{IsOf, AreOf, OthersStay, PassLooks, PassOffers, LooksAt, OffersAt}

-- a turn leaves the rest of a pass
pub still-given : (old new : Known Entry Origin) (before after : List Entry) → old.turn ≡ None → new ≡ after_giving (at_turn old before) after → still new ≡ still old
still-given old new before after rests gives = ap still gives ∙ (λ i. record (still old) { turn = sym rests i })

-- a pass of the list had its turn, and nothing else of it changed
pub still-set : (passes : List (Known Entry Origin)) (i : ℕ) (old new : Known Entry Origin) (before : HousePassOf) (room : ℕ) → old ≡ get_or passes i old → still new ≡ still old → record { passes = passes; room = room } ≡ before
    → all_still (record { passes = slice_set passes i new; room = room }) ≡ all_still before
still-set passes i old new before room is same view =
    let each : map still (slice_set passes i new) ≡ map still passes = map-set_same still passes i new old (same ∙ ap still is) in
    (λ j. record { passes = each j; room = room }) ∙ ap all_still view

-- within a list the default is not met
any-default : {A : Type 0} (xs : List A) (i : ℕ) (d e : A) → i < length xs → get_or xs i d ≡ get_or xs i e
any-default [] i d e below = absurd (omega (arith, below))
any-default (x ∷ xs) zero d e below = refl
any-default (x ∷ xs) (suc i) d e below = any-default xs i d e (omega (arith, below))

pub set-of : {B : Type 0} (terms : Terms) (digest : List ℕ) (desks : List (Opened B)) (passes : List (Known Entry Origin)) (i : ℕ) (new : Known Entry Origin) → AreOf terms digest desks passes → i < length passes
    → ((d : Opened B) → new.desk ≡ (get_or desks i d).id) → new.turn ≡ None → IsOf (owner_of terms i digest) new → AreOf terms digest desks (slice_set passes i new)
set-of terms digest desks passes i new are below desk rest of =
    record {
      clocks = are.clocks;
      count = length-set passes i new ∙ are.count;
      desk = λ k d p less. by-place k (λ q. q.desk ≡ (get_or desks k d).id) p (let L : ℕ → Type 0 = λ n. k < n in subst L (length-set passes i new) less) (λ e. let D : ℕ → Type 0 = λ n. new.desk ≡ (get_or desks n d).id in subst D (sym e) (desk d)) (λ more. are.desk k d p more);
      rest = λ k p less. by-place k (λ q. q.turn ≡ None) p (let L : ℕ → Type 0 = λ n. k < n in subst L (length-set passes i new) less) (λ e. rest) (λ more. are.rest k p more);
      book = λ k p less. by-place k (λ q. IsOf (owner_of terms k digest) q) p (let L : ℕ → Type 0 = λ n. k < n in subst L (length-set passes i new) less) (λ e. let D : ℕ → Type 0 = λ n. IsOf (owner_of terms n digest) new in subst D (sym e) of) (λ more. are.book k p more);
    }
  where
    by-place : (k : ℕ) (P : Known Entry Origin → Type 0) (p : Known Entry Origin) → k < length passes → (k ≡ i → P new) → (k < length passes → P (get_or passes k p)) → P (get_or (slice_set passes i new) k p)
    by-place k P p less here there = elim (cases_eq k i) [
      | inl e ↦ subst P (sym (ap (λ n. get_or (slice_set passes i new) n p) e ∙ get_or-set_same passes i new p below)) (here e)
      | inr not ↦ subst P (sym (get_or-set_other passes i k new p not)) (there less)
    ]

others-stay : (passes : List (Known Entry Origin)) (i : ℕ) (new : Known Entry Origin) → OthersStay i passes (slice_set passes i new)
others-stay passes i new k other not = get_or-set_other passes i k new other not

-- a pass of the list had its turn
pub looks-at : {look : Look} (passes : List (Known Entry Origin)) (i : ℕ) (old new : Known Entry Origin) → i < length passes → old ≡ get_or passes i old → PassLooks look old new → LooksAt i look passes (slice_set passes i new)
looks-at {look} passes i old new below is looks =
    record {
      looks = λ other.
          let P : Known Entry Origin → Known Entry Origin → Type 0 = λ a b. PassLooks look a b in
          subst (λ a. P a (get_or (slice_set passes i new) i other)) (is ∙ any-default passes i old other below) (subst (λ b. P old b) (sym (get_or-set_same passes i new other below)) looks);
      others = others-stay passes i new;
    }

pub offers-at : {r : Report} {answer : Offered} (passes : List (Known Entry Origin)) (i : ℕ) (old new : Known Entry Origin) → i < length passes → old ≡ get_or passes i old → PassOffers r answer old new → OffersAt i r answer passes (slice_set passes i new)
offers-at {r} {answer} passes i old new below is offers =
    record {
      offers = λ other.
          let P : Known Entry Origin → Known Entry Origin → Type 0 = λ a b. PassOffers r answer a b in
          subst (λ a. P a (get_or (slice_set passes i new) i other)) (is ∙ any-default passes i old other below) (subst (λ b. P old b) (sym (get_or-set_same passes i new other below)) offers);
      others = others-stay passes i new;
    }
