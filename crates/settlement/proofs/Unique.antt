-- Least Walrasian prices and payments after Vickrey, Clarke and Groves are single numbers.
use Rattle.std.proofs.Common.{◌≡◌, ℕ, List, [], ◌∷◌, map, refl, sym, ◌∙◌, arith, subst}
use Rattle.std.specs.Prelude.{ℤ, ◌-ℤ◌}
use Rattle.std.specs.List.{AllZip}
use Rattle.std.proofs.lemmas.Int.{ints}
use Rattle.lot_base.specs.Equilibrium.{IsWelfare, IsVcgPayment, total_value, unsold_value}
use Rattle.lot_base.specs.Economy.{without}
use Rattle.lot_base.specs.declared.auction_terms.Terms.{Terms}
use Rattle.lyapunov.specs.Bidders.{bundle_of}
use Rattle.lyapunov.proofs.Lattice.{AtMost-same}
use Rattle.clock.specs.Reports.{all_bidders}
use Rattle.settlement.specs.Efficient.{IsEfficient, PaysVcg, award_of}
use Rattle.settlement.specs.declared.outcome.AwardRow.{AwardRow}
use Rattle.settlement.specs.declared.outcome.Outcome.{Outcome}

pub one-price : (u : ℕ → List ℕ → ℤ) (terms : Terms) (o p : Outcome) → IsEfficient u terms o → IsEfficient u terms p → o.prices ≡ p.prices
one-price u terms o p h k = AtMost-same o.prices p.prices (h.least.1 p.prices k.least.0) (k.least.1 o.prices h.least.0)

one-welfare : (s o : List ℕ) (u : ℕ → List ℕ → ℤ) (js : List ℕ) (a b : ℤ) → IsWelfare s o u js a → IsWelfare s o u js b → a ≡ b
one-welfare s o u js a b h k =
    let up = k.bound h.best h.allocation in
    let down = h.bound k.best k.allocation in
    let e = h.reached in
    let f = k.reached in
    omega (arith, ints)

one-payment : (s o : List ℕ) (u : ℕ → List ℕ → ℤ) (js : List ℕ) (x : ℕ → List ℕ) (i : ℕ) (a b : ℤ) → IsVcgPayment s o u js x i a → IsVcgPayment s o u js x i b → a ≡ b
one-payment s o u js x i a b h k =
    let w = one-welfare s o u (without i js) h.others k.others h.welfare k.welfare in
    h.pays ∙ (λ n. (w n -ℤ total_value u (without i js) x) -ℤ unsold_value s o js x) ∙ sym k.pays

one-each : (u : ℕ → List ℕ → ℤ) (terms : Terms) (x : ℕ → List ℕ) (js : List ℕ) (rows others : List AwardRow) → AllZip (PaysVcg u terms x) js rows → AllZip (PaysVcg u terms x) js others
    → map (λ (row : AwardRow). row.pays) rows ≡ map (λ (row : AwardRow). row.pays) others
one-each u terms x [] [] [] h k = refl
one-each u terms x [] (row ∷ rows) others h k = absurd h
one-each u terms x [] [] (other ∷ others) h k = absurd k
one-each u terms x (j ∷ js) [] others h k = absurd h
one-each u terms x (j ∷ js) (row ∷ rows) [] h k = absurd k
one-each u terms x (j ∷ js) (row ∷ rows) (other ∷ others) h k =
    let e = one-payment terms.goods terms.opening u (all_bidders terms.bidders) x j row.pays other.pays h.0 k.0 in
    let f = one-each u terms x js rows others h.1 k.1 in
    λ n. e n ∷ f n

pub one-pays : (u : ℕ → List ℕ → ℤ) (terms : Terms) (o p : Outcome) → IsEfficient u terms o → IsEfficient u terms p → map (λ (row : AwardRow). row.award) o.rows ≡ map (λ (row : AwardRow). row.award) p.rows
    → map (λ (row : AwardRow). row.pays) o.rows ≡ map (λ (row : AwardRow). row.pays) p.rows
one-pays u terms o p h k same =
    let X : List (List ℕ) → Type 0 = λ xs. AllZip (PaysVcg u terms (bundle_of (all_bidders terms.bidders) xs)) (all_bidders terms.bidders) p.rows in
    one-each u terms (award_of terms o) (all_bidders terms.bidders) o.rows p.rows h.payments (subst X (sym same) k.payments)
