-- An observation that is shown at the places of the box, and what following it comes to.
use Rattle.std.proofs.Common.{◌≡◌, ◌≤◌, ◌<◌, ℕ, List, length, slice_index, arith, ap, refl, inl, inr, sym, subst, ◌∙◌}
use Rattle.std.specs.Prelude.{Option, if◌then◌else◌}
use Rattle.std.proofs.lemmas.Int.{ints}
use Rattle.std.proofs.lemmas.Bool.{cases_Bool, cond-true, cond-false}
use Rattle.lot_base.specs.Goods.{cost, box_size}
use Rattle.lot_base.specs.Box.{IsIn, bundle_at, index_of}
use Rattle.lot_base.proofs.Index.{index_of-bundle_at}
use Rattle.rationale.specs.Observations.{Observation}
use Rattle.rationale.specs.Links.{is_in}
use Rattle.rationale.specs.Places.{is_edge, edge_weight}
use Rattle.rationale.specs.Steps.{AreSteps}
use Rattle.rationale.specs.Shown.{label_of, parent_of, IsShown}
use Rattle.rationale.specs.Placed.{bundles_at, IsWanted, IsPlaced, IsFollowed}
use Rattle.rationale.specs.declared.labels.Parent.{Parent}
use Rattle.rationale.proofs.Bundles.{IsIn-is_in, is_in-IsIn}
use Rattle.rationale.proofs.Climbs.{sound_after}
use Rattle.rationale.proofs.Passes.{sums_after}
use Rattle.rationale.proofs.Lowering.{IsBefore, map_in, in_map, steps-lower, steps-followed}

pub record Gaps (places gaps : List ℕ) (n : ℕ) : Type 0 where
  pub there : (j : ℕ) → j < length places → slice_index gaps (slice_index places j) ≡ 0
  pub away : (k : ℕ) → k < n → ((j : ℕ) → j < length places → slice_index places j ≡ k → ⊥) → slice_index gaps k ≡ 1

pub wanted : (supply places gaps : List ℕ) → 1 ≤ length places → ((j : ℕ) → j < length places → slice_index places j < box_size supply) → length gaps ≡ box_size supply →
    Gaps places gaps (box_size supply) → IsWanted supply places gaps
wanted supply places gaps some inside long g = record {
  some = some;
  inside = inside;
  gaps_long = long;
  gaps_are = λ k small. gap k small;
}
  where
    gap : (k : ℕ) → k < box_size supply → slice_index gaps k ≡ (if is_in (bundle_at supply k) (bundles_at supply places) then 0 else 1)
    gap k small = elim (cases_Bool (is_in (bundle_at supply k) (bundles_at supply places))) [
      | inl t ↦
          let m = map_in (bundle_at supply) places (bundle_at supply k) (is_in-IsIn (bundle_at supply k) (bundles_at supply places) t) in
          let place = slice_index places m.which in
          let same : k ≡ place = sym (index_of-bundle_at supply k small) ∙ ap (index_of supply) m.is ∙ index_of-bundle_at supply place (inside m.which m.inside) in
          ap (slice_index gaps) same ∙ g.there m.which m.inside ∙ sym (cond-true {A = ℕ} (is_in (bundle_at supply k) (bundles_at supply places)) 0 1 t)
      | inr f ↦
          g.away k small (λ j within same. (
          let m = in_map (bundle_at supply) places j within in
          let h : IsIn (bundle_at supply k) (bundles_at supply places) = subst (λ (z : ℕ). IsIn (bundle_at supply z) (bundles_at supply places)) same m in
          let i = IsIn-is_in (bundle_at supply k) (bundles_at supply places) h in cc))
          ∙ sym (cond-false {A = ℕ} (is_in (bundle_at supply k) (bundles_at supply places)) 0 1 f)
    ]

pub shown : (supply p : List ℕ) (costs gaps places : List ℕ) → IsWanted supply places gaps → length costs ≡ box_size supply →
    ((k : ℕ) → k < box_size supply → slice_index costs k ≡ cost p (bundle_at supply k)) → IsShown supply (record { prices = p; bundles = bundles_at supply places }) costs gaps places
shown supply p costs gaps places w long costs_are = record {
  costs_long = long;
  gaps_long = w.gaps_long;
  costs_are = costs_are;
  gaps_are = w.gaps_are;
  bundles_are = refl;
  inside = w.inside;
}

pub followed : (supply : List ℕ) (os : List Observation) (o : Observation) (number : ℕ) (costs gaps places labels : List ℕ) (excess which : ℕ) (new : Parent) (parents : List (Option Parent)) (labels' : List ℕ) (parents' : List (Option Parent)) →
    IsBefore supply os o number costs gaps places labels excess which → length labels' ≡ length labels → length parents ≡ length labels → length parents' ≡ length labels →
    new ≡ record { observation = number; x = slice_index places which } →
    AreSteps excess costs gaps new labels parents labels' parents' (length labels) →
    IsPlaced supply os labels parents → IsFollowed supply os number labels labels' parents'
followed supply os o number costs gaps places labels excess which new parents labels' parents' b long p_long p_long' is steps placed =
    let P : Parent → Type 0 = λ q. AreSteps excess costs gaps q labels parents labels' parents' (length labels) in
    let low = steps-lower supply os o number costs gaps places labels excess which parents labels' parents' b long p_long p_long' (subst P is steps) in
    record {
      placed = record {
        sound = sound_after (is_edge supply os) (edge_weight supply os) (label_of labels) (parent_of parents) (label_of labels') (parent_of parents') (slice_index places which) placed.sound low;
        sums = sums_after (is_edge supply os) (edge_weight supply os) (label_of labels) (parent_of parents) (label_of labels') (parent_of parents') (slice_index places which) placed.sums low;
      };
      falls = λ y. elim (low.each y) [
        | inl k ↦ (let i = k.label in omega (arith, ints))
        | inr k ↦ (let i = k.falls in omega (arith, ints))
      ];
      followed = λ e there same. steps-followed supply os o number costs gaps places labels excess which new parents labels' parents' b long steps e there same;
    }
