-- A line of one observation, and of one more.
use Rattle.std.proofs.Common.{◌≡◌, ◌<◌, ◌+◌, ◌-◌, ℕ, List, [], ◌∷◌, ◌++◌, length, arith, ap, inl, inr, sym, ◌∙◌}
use Rattle.std.proofs.lemmas.Bool.{cases_lt}
use Rattle.lot_base.specs.Goods.{plus}
use Rattle.rationale.specs.declared.lines.Line.{Line}
use Rattle.rationale.specs.Observations.{Observation}
use Rattle.rationale.specs.Lines.{after, along}
use Rattle.rationale.specs.Kept.{seen_at, AreLow, IsLine}
use Rattle.rationale.specs.Grown.{IsExtended}
use Rattle.rationale.proofs.Stepping.{after-0, after-more, along_same, along-more, length-after}

pub one_line : (supply p step : List ℕ) → length p ≡ length supply → length step ≡ length supply → AreLow p → IsLine supply (record { first = p; step = step; last = p; count = 1 })
one_line supply p step long step_long low = record {
  some = omega arith;
  first_goods = long;
  step_goods = step_long;
  last_is = sym (after-0 p step (long ∙ sym step_long));
  first_low = low;
  last_low = low;
}

pub one_seen : (bundles : List (List ℕ)) (p q step : List ℕ) → length p ≡ length step → seen_at bundles (record { first = p; step = step; last = q; count = 1 }) 0 ≡ record { prices = p; bundles = bundles }
one_seen bundles p q step long = let F : List ℕ → Observation = λ z. record { prices = z; bundles = bundles } in ap F (after-0 p step long)

-- the step is that of the line, or there was none yet
same_before : (line : Line) (step : List ℕ) (supply : List ℕ) → IsLine supply line → length step ≡ length supply → (1 < line.count → step ≡ line.step) → (t : ℕ) → t < line.count → after line.first step t ≡ after line.first line.step t
same_before line step supply is long same t inside = elim (cases_lt 1 line.count) [
  | inl more ↦ ap (λ (s : List ℕ). after line.first s t) (same more)
  | inr one ↦
      let e : t ≡ 0 = omega arith in
      let first = is.first_goods in
      let steps = is.step_goods in
      ap (after line.first step) e ∙ after-0 line.first step (first ∙ sym long) ∙ sym (after-0 line.first line.step (first ∙ sym steps)) ∙ sym (ap (after line.first line.step) e)
]

pub extended : (supply : List ℕ) (line : Line) (step p : List ℕ) → IsLine supply line → AreLow p → length step ≡ length line.last → length line.last ≡ length p → plus line.last step ≡ p →
    (1 < line.count → step ≡ line.step) → IsExtended supply line (record { first = line.first; step = step; last = p; count = line.count + 1 }) p
extended supply line step p is low step_long last_long sum same = record {
  is_line = record {
    some = omega arith;
    first_goods = is.first_goods;
    step_goods = long;
    last_is = sym end ∙ ap (after line.first step) back;
    first_low = is.first_low;
    last_low = low;
  };
  seen = λ bundles.
      along-more (seen_at bundles new) line.count
      ∙ ap (λ (xs : List Observation). xs ++ seen_at bundles new line.count ∷ []) (along_same (seen_at bundles new) (seen_at bundles line) line.count (λ t inside. at bundles (before t inside)))
      ∙ ap (λ (o : Observation). along (seen_at bundles line) line.count ++ o ∷ []) (at bundles end);
}
  where
    new : Line
    new = record { first = line.first; step = step; last = p; count = line.count + 1 }

    at : (bundles : List (List ℕ)) {q r : List ℕ} → q ≡ r → ◌≡◌ {A = Observation} (record { prices = q; bundles = bundles }) (record { prices = r; bundles = bundles })
    at bundles e = let F : List ℕ → Observation = λ z. record { prices = z; bundles = bundles } in ap F e

    n : ℕ
    n = line.count - 1

    last_goods : length line.last ≡ length supply
    last_goods = ap length is.last_is ∙ length-after line.first line.step n (is.first_goods ∙ sym is.step_goods) ∙ is.first_goods

    long : length step ≡ length supply
    long = step_long ∙ last_goods

    before : (t : ℕ) → t < line.count → after line.first step t ≡ after line.first line.step t
    before t inside = same_before line step supply is long same t inside

    back : line.count ≡ line.count + 1 - 1
    back = omega arith

    end : after line.first step line.count ≡ p
    end =
        let some = is.some in
        let e : line.count ≡ n + 1 = omega arith in
        ap (after line.first step) e ∙ after-more line.first step n (is.first_goods ∙ sym long)
        ∙ ap (λ (q : List ℕ). plus q step) (before n (omega arith) ∙ sym is.last_is) ∙ sum
