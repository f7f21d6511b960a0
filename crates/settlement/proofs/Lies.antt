-- The worked lie, computed.
use Rattle.std.proofs.Common.{◌≡◌, ◌≢◌, ◌≤◌, ℕ, Bool, true, false, cond, nat_eq, List, [], ◌∷◌, refl, sym, subst, arith, lit≤}
use Rattle.std.specs.Prelude.{pos, negsuc, ◌≤ℤ◌}
use Rattle.std.specs.List.{AllByRecursion}
use Rattle.std.proofs.lemmas.Int.{ints}
use Rattle.std.proofs.lemmas.Bool.Decides.{nat_tests}
use Rattle.lot_base.specs.Goods.{IsSupply, IsRange, IsOpening, zeros}
use Rattle.lot_base.specs.Economy.{demand, indirect_utility, AllStrongSubstitutes}
use Rattle.lot_base.specs.RowsTables.{marginals, three_bidders}
use Rattle.lot_base.specs.Steps.{step_set}
use Rattle.lot_base.specs.declared.auction_terms.Terms.{Terms}
use Rattle.lot_base.proofs.ExchangeTest.{exchanges-strong}
use Rattle.lyapunov.proofs.Bidders.{strong-without}
use Rattle.clock.specs.Reports.{all_bidders}
use Rattle.clock.specs.Standing.{prices_after, steps_from, steps_of}
use Rattle.clock.specs.Accounts.{account_after}
use Rattle.clock.specs.Judging.{IsLegal}
use Rattle.clock.specs.Explained.{Explains}
use Rattle.settlement.specs.Clocks.{choice_of}
use Rattle.settlement.specs.Settling.{IsOutcomeOf}
use Rattle.settlement.specs.Examples.{first_clocks}
use Rattle.settlement.specs.declared.outcome.Settlement.TheVariants.{Settled}
use Rattle.settlement.proofs.Computed.{Stands, stands}
use Rattle.settlement.proofs.Examples.{first-example}
use Rattle.settlement.specs.Lies.{lied_clocks, lied_outcome, lying_bidders, IsLieExample}
use Rattle.settlement.proofs.Misreports.{misreports}
use Rattle.settlement.proofs.TruthPays.{gain-true, all-among}

-- what terms of two units, three bidders and a ceiling of 100 keep
record Keeps (version : ℕ) : Type 0 where
  pub supply : IsSupply (2 ∷ [])
  pub bidders : IsRange 1 12 3
  pub ceiling : IsRange 2 10000 100
  pub versions : IsRange 1 2 version
  pub opens : IsOpening (2 ∷ []) 100 (0 ∷ [])
  pub first : version ≡ 1 → 0 ∷ [] ≡ zeros (2 ∷ [])

-- such terms, whatever their proofs are
abbrev terms_of : Keeps 1 → Terms
terms_of k = record {
  goods = 2 ∷ [];
  bidders = 3;
  ceiling = 100;
  version = 1;
  opening = 0 ∷ [];
  supply = k.supply;
  bidders_in_range = k.bidders;
  ceiling_in_range = k.ceiling;
  version_in_range = k.versions;
  opens = k.opens;
  first_opens_at_zero = k.first;
}

liars-strong : AllStrongSubstitutes (2 ∷ []) lying_bidders (1 ∷ 2 ∷ 3 ∷ [])
liars-strong = (exchanges-strong (2 ∷ []) (marginals 10 4) refl, (exchanges-strong (2 ∷ []) (marginals 8 3) refl, (exchanges-strong (2 ∷ []) (marginals 9 1) refl, tt)))

lied-stand : (k : Keeps 1) → AllByRecursion (Stands lying_bidders) (lied_clocks (terms_of k))
unfolding steps_of steps_from prices_after step_set demand indirect_utility
lied-stand k =
    let strong = λ (j : ℕ). strong-without (2 ∷ []) lying_bidders j (all_bidders 3) liars-strong in (
      stands lying_bidders _ (lit≤ tt) (refl, (refl, (refl, tt))) liars-strong refl refl,
      (
        stands lying_bidders _ (lit≤ tt) (refl, (refl, tt)) (strong 1) refl refl,
        (
          stands lying_bidders _ (lit≤ tt) (refl, (refl, tt)) (strong 2) refl refl,
          (stands lying_bidders _ (lit≤ tt) (refl, (refl, tt)) (strong 3) refl refl, tt),
        ),
      ),
    )

lied-settles : (k : Keeps 1) → IsOutcomeOf (lied_clocks (terms_of k)) (Settled lied_outcome)
unfolding steps_of steps_from prices_after step_set choice_of account_after
lied-settles k = (
  refl,
  refl,
  refl,
  record {
    prices_are = refl;
    opening_is = refl;
    awards_are = refl;
    rows_are = (record { debit_is = refl; credit_is = refl; pays_is = refl }, (record { debit_is = refl; credit_is = refl; pays_is = refl }, (record { debit_is = refl; credit_is = refl; pays_is = refl }, tt)));
    clocks_are = (record { steps_are = refl; prices_are = refl; choice_is = refl }, (record { steps_are = refl; prices_are = refl; choice_is = refl }, (record { steps_are = refl; prices_are = refl; choice_is = refl }, (record { steps_are = refl; prices_are = refl; choice_is = refl }, tt))));
  },
)

third-alone : (j : ℕ) → 1 ≤ j → j ≢ 3 → lying_bidders j ≡ three_bidders j
third-alone j from other = by (nat_eq j 3) refl
  where
    by : (b : Bool) → nat_eq j 3 ≡ b → cond b (marginals 9 1) (three_bidders j) ≡ three_bidders j
    by true e = absurd (let f : j ≡ 3 = grind (arith, nat_tests) in other f)
    by false e = refl

each : {A : Type 0} (P Q : A → Type 0) → ((x : A) → P x → Q x) → (xs : List A) → AllByRecursion P xs → AllByRecursion Q xs
each P Q f [] all = tt
each P Q f (x ∷ xs) all = (f x all.0, each P Q f xs all.1)

lied : (k : Keeps 1) → IsLieExample (terms_of k)
lied k =
    let terms = terms_of k in
    let stand = lied-stand k in
    let clocks = lied_clocks terms in
    let worked = (first-example terms refl refl refl refl refl).worked in
    let legal = each (Stands lying_bidders) IsLegal (λ c h. h.legal) clocks stand in
    let explained = each (Stands lying_bidders) (Explains lying_bidders) (λ c h. h.explained) clocks stand in
    let among = misreports 3 three_bidders lying_bidders terms clocks (lit≤ tt) (lit≤ tt) third-alone (record { numbers = refl; terms_are = (refl, (refl, (refl, (refl, tt)))) }) legal explained in
    let settles = lied-settles k in
    let true-ones = all-among 3 three_bidders terms (first_clocks terms) (lit≤ tt) (lit≤ tt) worked.clocks_are worked.legal worked.explained in
    record {
      among = among;
      lies = λ truth. let g : pos 0 ≤ℤ negsuc 1 = gain-true 3 three_bidders terms clocks lied_outcome among truth settles in absurd (omega (arith, ints));
      outcome = settles;
      loses = refl;
      true_among = true-ones.0;
      truthful = true-ones.1;
      true_outcome = worked.outcome;
      true_gain = refl;
    }

pub lie-example : (terms : Terms) → terms.goods ≡ 2 ∷ [] → terms.bidders ≡ 3 → terms.ceiling ≡ 100 → terms.version ≡ 1 → terms.opening ≡ 0 ∷ [] → IsLieExample terms
lie-example terms goods bidders ceiling versions opens =
    let F : List ℕ → ℕ → ℕ → ℕ → List ℕ → Type 0 = λ g k m v o. (s : IsSupply g) → (b : IsRange 1 12 k) → (c : IsRange 2 10000 m) → (r : IsRange 1 2 v) → (p : IsOpening g m o) → (f : v ≡ 1 → o ≡ zeros g)
    → IsLieExample (record { goods = g; bidders = k; ceiling = m; version = v; opening = o; supply = s; bidders_in_range = b; ceiling_in_range = c; version_in_range = r; opens = p; first_opens_at_zero = f }) in
    let f : F (2 ∷ []) 3 100 1 (0 ∷ []) = λ s b c r p f. lied (record { supply = s; bidders = b; ceiling = c; versions = r; opens = p; first = f }) in
    let g =
    subst (λ g. F g terms.bidders terms.ceiling terms.version terms.opening) (sym goods)
    (subst (λ k. F (2 ∷ []) k terms.ceiling terms.version terms.opening) (sym bidders)
    (subst (λ m. F (2 ∷ []) 3 m terms.version terms.opening) (sym ceiling)
    (subst (λ v. F (2 ∷ []) 3 100 v terms.opening) (sym versions) (subst (λ o. F (2 ∷ []) 3 100 1 o) (sym opens) f)))) in
    g terms.supply terms.bidders_in_range terms.ceiling_in_range terms.version_in_range terms.opens terms.first_opens_at_zero
