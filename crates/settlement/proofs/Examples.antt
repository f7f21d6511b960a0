-- The worked auctions, computed. Of their terms no more is used than the numbers.
use Rattle.std.proofs.Common.{◌≡◌, ℕ, List, [], ◌∷◌, refl, sym, subst, lit≤}
use Rattle.std.specs.Prelude.{pos}
use Rattle.std.specs.List.{AllByRecursion}
use Rattle.lot_base.specs.Goods.{IsSupply, IsRange, IsOpening, zeros}
use Rattle.lot_base.specs.Economy.{demand, indirect_utility, AllStrongSubstitutes}
use Rattle.lot_base.specs.RowsTables.{marginals, three_bidders, unequal_bidders}
use Rattle.lot_base.specs.Steps.{step_set}
use Rattle.lot_base.specs.declared.auction_terms.Terms.{Terms}
use Rattle.lot_base.proofs.ExchangeTest.{exchanges-strong}
use Rattle.lyapunov.proofs.Bidders.{strong-without}
use Rattle.lyapunov.proofs.Examples.{three}
use Rattle.clock.specs.Reports.{all_bidders}
use Rattle.clock.specs.Standing.{prices_after, steps_from, steps_of}
use Rattle.clock.specs.Accounts.{account_after}
use Rattle.settlement.specs.Clocks.{choice_of}
use Rattle.settlement.specs.Settling.{IsOutcomeOf}
use Rattle.settlement.specs.Examples.{first_clocks, first_outcome, IsFirstExample, second_clocks, second_outcome_at, IsSecondExample, third_clocks, third_outcome_at, IsThirdExample}
use Rattle.settlement.specs.declared.outcome.Settlement.TheVariants.{Settled}
use Rattle.settlement.proofs.Unique.{one-pays}
use Rattle.settlement.proofs.Computed.{Stands, stands, worked, below}

-- what terms of two units, so many bidders and a ceiling of 100 keep
pub record Keeps (n version : ℕ) (opening : List ℕ) : Type 0 where
  pub supply : IsSupply (2 ∷ [])
  pub bidders : IsRange 1 12 n
  pub ceiling : IsRange 2 10000 100
  pub versions : IsRange 1 2 version
  pub opens : IsOpening (2 ∷ []) 100 opening
  pub first : version ≡ 1 → opening ≡ zeros (2 ∷ [])

-- such terms, whatever their proofs are
abbrev pub terms_of : (n version : ℕ) (opening : List ℕ) → Keeps n version opening → Terms
terms_of n version opening k = record {
  goods = 2 ∷ [];
  bidders = n;
  ceiling = 100;
  version = version;
  opening = opening;
  supply = k.supply;
  bidders_in_range = k.bidders;
  ceiling_in_range = k.ceiling;
  version_in_range = k.versions;
  opens = k.opens;
  first_opens_at_zero = k.first;
}

first-stand : (k : Keeps 3 1 (0 ∷ [])) → AllByRecursion (Stands three_bidders) (first_clocks (terms_of 3 1 (0 ∷ []) k))
unfolding steps_of steps_from prices_after step_set demand indirect_utility
first-stand k =
    let strong = λ (j : ℕ). strong-without (2 ∷ []) three_bidders j (all_bidders 3) three.substitutes in (
      stands three_bidders _ (lit≤ tt) (refl, (refl, (refl, tt))) three.substitutes refl refl,
      (
        stands three_bidders _ (lit≤ tt) (refl, (refl, tt)) (strong 1) refl refl,
        (
          stands three_bidders _ (lit≤ tt) (refl, (refl, tt)) (strong 2) refl refl,
          (stands three_bidders _ (lit≤ tt) (refl, (refl, tt)) (strong 3) refl refl, tt),
        ),
      ),
    )

first-outcome : (k : Keeps 3 1 (0 ∷ [])) → IsOutcomeOf (first_clocks (terms_of 3 1 (0 ∷ []) k)) (Settled first_outcome)
unfolding steps_of steps_from prices_after step_set choice_of account_after
first-outcome k = (
  refl,
  refl,
  refl,
  record {
    prices_are = refl;
    opening_is = refl;
    awards_are = refl;
    rows_are = (record { debit_is = refl; credit_is = refl; pays_is = refl }, (record { debit_is = refl; credit_is = refl; pays_is = refl }, (record { debit_is = refl; credit_is = refl; pays_is = refl }, tt)));
    clocks_are = (record { steps_are = refl; prices_are = refl; choice_is = refl }, (record { steps_are = refl; prices_are = refl; choice_is = refl }, (record { steps_are = refl; prices_are = refl; choice_is = refl }, (record { steps_are = refl; prices_are = refl; choice_is = refl }, tt))));
  },
)

first : (k : Keeps 3 1 (0 ∷ [])) → IsFirstExample (terms_of 3 1 (0 ∷ []) k)
first k =
    let terms = terms_of 3 1 (0 ∷ []) k in
    record {
      goods = refl;
      bidders = refl;
      ceiling = refl;
      version = refl;
      opening = refl;
      worked = worked three_bidders terms (first_clocks terms) first_outcome (record { numbers = refl; terms_are = (refl, (refl, (refl, (refl, tt)))) }) (first-stand k)
          (below (2 ∷ []) three_bidders 100 (all_bidders 3) refl) (first-outcome k);
    }

rivals-strong : AllStrongSubstitutes (2 ∷ []) unequal_bidders (1 ∷ 2 ∷ [])
rivals-strong = (exchanges-strong (2 ∷ []) (marginals 10 9) refl, (exchanges-strong (2 ∷ []) (marginals 8 3) refl, tt))

second-stand : (k : Keeps 2 1 (0 ∷ [])) → AllByRecursion (Stands unequal_bidders) (second_clocks (terms_of 2 1 (0 ∷ []) k))
unfolding steps_of steps_from prices_after step_set demand indirect_utility
second-stand k =
    let strong = λ (j : ℕ). strong-without (2 ∷ []) unequal_bidders j (all_bidders 2) rivals-strong in (
      stands unequal_bidders _ (lit≤ tt) (refl, (refl, tt)) rivals-strong refl refl,
      (
        stands unequal_bidders _ (lit≤ tt) (refl, tt) (strong 1) refl refl,
        (stands unequal_bidders _ (lit≤ tt) (refl, tt) (strong 2) refl refl, tt),
      ),
    )

second-outcome : (k : Keeps 2 1 (0 ∷ [])) → IsOutcomeOf (second_clocks (terms_of 2 1 (0 ∷ []) k)) (Settled (second_outcome_at (pos 11)))
unfolding steps_of steps_from prices_after step_set choice_of account_after
second-outcome k = (
  refl,
  refl,
  refl,
  record {
    prices_are = refl;
    opening_is = refl;
    awards_are = refl;
    rows_are = (record { debit_is = refl; credit_is = refl; pays_is = refl }, (record { debit_is = refl; credit_is = refl; pays_is = refl }, tt));
    clocks_are = (record { steps_are = refl; prices_are = refl; choice_is = refl }, (record { steps_are = refl; prices_are = refl; choice_is = refl }, (record { steps_are = refl; prices_are = refl; choice_is = refl }, tt)));
  },
)

second : (k : Keeps 2 1 (0 ∷ [])) → IsSecondExample (terms_of 2 1 (0 ∷ []) k)
second k =
    let terms = terms_of 2 1 (0 ∷ []) k in
    let w = worked unequal_bidders terms (second_clocks terms) (second_outcome_at (pos 11)) (record { numbers = refl; terms_are = (refl, (refl, (refl, tt))) }) (second-stand k)
    (below (2 ∷ []) unequal_bidders 100 (all_bidders 2) refl) (second-outcome k) in
    record {
      goods = refl;
      bidders = refl;
      ceiling = refl;
      version = refl;
      opening = refl;
      worked = w;
      only_payment = λ pays efficient. let e = one-pays unequal_bidders terms (second_outcome_at pays) (second_outcome_at (pos 11)) efficient w.efficient refl in cc;
    }

-- With a reserve of 9, two bidders want nothing, and no clock takes a step.
third-stand : (k : Keeps 3 2 (9 ∷ [])) → AllByRecursion (Stands three_bidders) (third_clocks (terms_of 3 2 (9 ∷ []) k))
unfolding steps_of steps_from prices_after step_set demand indirect_utility
third-stand k =
    let strong = λ (j : ℕ). strong-without (2 ∷ []) three_bidders j (all_bidders 3) three.substitutes in (
      stands three_bidders _ (lit≤ tt) (refl, (refl, (refl, tt))) three.substitutes refl refl,
      (
        stands three_bidders _ (lit≤ tt) (refl, (refl, tt)) (strong 1) refl refl,
        (
          stands three_bidders _ (lit≤ tt) (refl, (refl, tt)) (strong 2) refl refl,
          (stands three_bidders _ (lit≤ tt) (refl, (refl, tt)) (strong 3) refl refl, tt),
        ),
      ),
    )

third-outcome : (k : Keeps 3 2 (9 ∷ [])) → IsOutcomeOf (third_clocks (terms_of 3 2 (9 ∷ []) k)) (Settled (third_outcome_at (pos 9)))
unfolding steps_of steps_from prices_after step_set choice_of account_after
third-outcome k = (
  refl,
  refl,
  refl,
  record {
    prices_are = refl;
    opening_is = refl;
    awards_are = refl;
    rows_are = (record { debit_is = refl; credit_is = refl; pays_is = refl }, (record { debit_is = refl; credit_is = refl; pays_is = refl }, (record { debit_is = refl; credit_is = refl; pays_is = refl }, tt)));
    clocks_are = (record { steps_are = refl; prices_are = refl; choice_is = refl }, (record { steps_are = refl; prices_are = refl; choice_is = refl }, (record { steps_are = refl; prices_are = refl; choice_is = refl }, (record { steps_are = refl; prices_are = refl; choice_is = refl }, tt))));
  },
)

third : (k : Keeps 3 2 (9 ∷ [])) → IsThirdExample (terms_of 3 2 (9 ∷ []) k)
third k =
    let terms = terms_of 3 2 (9 ∷ []) k in
    let w = worked three_bidders terms (third_clocks terms) (third_outcome_at (pos 9)) (record { numbers = refl; terms_are = (refl, (refl, (refl, (refl, tt)))) }) (third-stand k)
    (below (2 ∷ []) three_bidders 100 (all_bidders 3) refl) (third-outcome k) in
    record {
      goods = refl;
      bidders = refl;
      ceiling = refl;
      version = refl;
      opening = refl;
      worked = w;
      only_payment = λ pays efficient. let e = one-pays three_bidders terms (third_outcome_at pays) (third_outcome_at (pos 9)) efficient w.efficient refl in cc;
    }

-- what holds of all terms with these numbers holds of the terms
pub at-numbers : (P : Terms → Type 0) (n version : ℕ) (opening : List ℕ) → ((k : Keeps n version opening) → P (terms_of n version opening k)) → (terms : Terms) → terms.goods ≡ 2 ∷ [] → terms.bidders ≡ n → terms.ceiling ≡ 100 → terms.version ≡ version
    → terms.opening ≡ opening → P terms
at-numbers P n version opening all terms goods bidders ceiling versions opens =
    let F : List ℕ → ℕ → ℕ → ℕ → List ℕ → Type 0 = λ g k m v o. (s : IsSupply g) → (b : IsRange 1 12 k) → (c : IsRange 2 10000 m) → (r : IsRange 1 2 v) → (p : IsOpening g m o) → (f : v ≡ 1 → o ≡ zeros g)
    → P (record { goods = g; bidders = k; ceiling = m; version = v; opening = o; supply = s; bidders_in_range = b; ceiling_in_range = c; version_in_range = r; opens = p; first_opens_at_zero = f }) in
    let f : F (2 ∷ []) n 100 version opening = λ s b c r p f. all (record { supply = s; bidders = b; ceiling = c; versions = r; opens = p; first = f }) in
    let g =
    subst (λ g. F g terms.bidders terms.ceiling terms.version terms.opening) (sym goods)
    (subst (λ k. F (2 ∷ []) k terms.ceiling terms.version terms.opening) (sym bidders)
    (subst (λ m. F (2 ∷ []) n m terms.version terms.opening) (sym ceiling)
    (subst (λ v. F (2 ∷ []) n 100 v terms.opening) (sym versions) (subst (λ o. F (2 ∷ []) n 100 version o) (sym opens) f)))) in
    g terms.supply terms.bidders_in_range terms.ceiling_in_range terms.version_in_range terms.opens terms.first_opens_at_zero

pub first-example : (terms : Terms) → terms.goods ≡ 2 ∷ [] → terms.bidders ≡ 3 → terms.ceiling ≡ 100 → terms.version ≡ 1 → terms.opening ≡ 0 ∷ [] → IsFirstExample terms
first-example = at-numbers IsFirstExample 3 1 (0 ∷ []) first

pub second-example : (terms : Terms) → terms.goods ≡ 2 ∷ [] → terms.bidders ≡ 2 → terms.ceiling ≡ 100 → terms.version ≡ 1 → terms.opening ≡ 0 ∷ [] → IsSecondExample terms
second-example = at-numbers IsSecondExample 2 1 (0 ∷ []) second

pub third-example : (terms : Terms) → terms.goods ≡ 2 ∷ [] → terms.bidders ≡ 3 → terms.ceiling ≡ 100 → terms.version ≡ 2 → terms.opening ≡ 9 ∷ [] → IsThirdExample terms
third-example = at-numbers IsThirdExample 3 2 (9 ∷ []) third
