-- Worked paths: the premises of the laws can be met.
use Rattle.std.proofs.Common.{◌≡◌, ◌≢◌, ℕ, [], ◌∷◌, refl, arith, inl, subst}
use Rattle.std.specs.Prelude.{ℤ, pos, negsuc}
use Rattle.lot_base.specs.Economy.{AllStrongSubstitutes, indirect_utility, demand}
use Rattle.lot_base.specs.Steps.{step_set}
use Rattle.lot_base.specs.RowsTables.{one, two, marginals, unit_demand, three_bidders, two_bidders, unequal_bidders}
use Rattle.lot_base.proofs.ExchangeTest.{exchanges-strong}
use Rattle.lot_base.specs.Equilibrium.{IsVcgPayment}
use Rattle.lyapunov.specs.Bidders.{bundle_of}
use Rattle.lyapunov.specs.Paths.{IsPath, HasEnded, IsTrueChoice, account_along, payment_along}
use Rattle.lyapunov.proofs.Payment.{choice-pays}

some : (n : ℕ) → n ≡ 1 → n ≢ 0
some n one e = omega arith

others_strong : AllStrongSubstitutes (one 2) three_bidders (2 ∷ 3 ∷ [])
others_strong = (exchanges-strong (one 2) (marginals 8 3) refl, (exchanges-strong (one 2) (marginals 6 1) refl, tt))

pub three : IsPath (one 2) three_bidders (1 ∷ 2 ∷ 3 ∷ []) (one 0) (1 ∷ 1 ∷ 1 ∷ 1 ∷ 1 ∷ 1 ∷ [])
unfolding step_set demand indirect_utility
three = record {
  substitutes = (exchanges-strong (one 2) (marginals 10 4) refl, others_strong);
  goods = refl;
  steps = (some 1 refl, refl, (some 1 refl, refl, (some 1 refl, refl, (some 1 refl, refl, (some 1 refl, refl, (some 1 refl, refl, tt))))));
}

pub three-ended : HasEnded (one 2) three_bidders (1 ∷ 2 ∷ 3 ∷ []) (one 0) (1 ∷ 1 ∷ 1 ∷ 1 ∷ 1 ∷ 1 ∷ [])
unfolding step_set demand indirect_utility
three-ended = refl

pub without_first : IsPath (one 2) three_bidders (2 ∷ 3 ∷ []) (one 0) (1 ∷ 1 ∷ 1 ∷ [])
unfolding step_set demand indirect_utility
without_first = record { substitutes = others_strong; goods = refl; steps = (some 1 refl, refl, (some 1 refl, refl, (some 1 refl, refl, tt))) }

pub without_first-ended : HasEnded (one 2) three_bidders (2 ∷ 3 ∷ []) (one 0) (1 ∷ 1 ∷ 1 ∷ [])
unfolding step_set demand indirect_utility
without_first-ended = refl

pub credit : account_along (one 2) three_bidders (2 ∷ 3 ∷ []) (one 0) (1 ∷ 1 ∷ 1 ∷ 1 ∷ 1 ∷ 1 ∷ []) ≡ negsuc 3
unfolding demand indirect_utility
credit = refl

pub debit : account_along (one 2) three_bidders (2 ∷ 3 ∷ []) (one 0) (1 ∷ 1 ∷ 1 ∷ []) ≡ negsuc 3
unfolding demand indirect_utility
debit = refl

pub both_goods : IsPath (two 1 1) two_bidders (1 ∷ 2 ∷ []) (two 0 0) (1 ∷ [])
unfolding step_set demand indirect_utility
both_goods = record {
  substitutes = (exchanges-strong (two 1 1) (unit_demand 5 4) refl, (exchanges-strong (two 1 1) (unit_demand 3 0) refl, tt));
  goods = refl;
  steps = (some 1 refl, refl, tt);
}

pub both_goods-ended : HasEnded (two 1 1) two_bidders (1 ∷ 2 ∷ []) (two 0 0) (1 ∷ [])
unfolding step_set demand indirect_utility
both_goods-ended = refl

-- the first of two unequal bidders takes both units, and pays what the other would have had
second_strong : AllStrongSubstitutes (one 2) unequal_bidders (2 ∷ [])
second_strong = (exchanges-strong (one 2) (marginals 8 3) refl, tt)

pub unequal : IsPath (one 2) unequal_bidders (1 ∷ 2 ∷ []) (one 0) (1 ∷ 1 ∷ 1 ∷ 1 ∷ 1 ∷ 1 ∷ 1 ∷ 1 ∷ [])
unfolding step_set demand indirect_utility
unequal = record {
  substitutes = (exchanges-strong (one 2) (marginals 10 9) refl, second_strong);
  goods = refl;
  steps = (some 1 refl, refl, (some 1 refl, refl, (some 1 refl, refl, (some 1 refl, refl, (some 1 refl, refl, (some 1 refl, refl, (some 1 refl, refl, (some 1 refl, refl, tt))))))));
}

first_takes_all : IsTrueChoice (one 2) (one 0) unequal_bidders (1 ∷ 2 ∷ []) (1 ∷ 1 ∷ 1 ∷ 1 ∷ 1 ∷ 1 ∷ 1 ∷ 1 ∷ []) (one 2 ∷ one 0 ∷ [])
unfolding demand indirect_utility
first_takes_all = record { chosen = (inl refl, (inl refl, tt)); clears = (omega arith, λ h. refl, tt) }

second_alone : IsPath (one 2) unequal_bidders (2 ∷ []) (one 0) []
second_alone = record { substitutes = second_strong; goods = refl; steps = tt }

second_takes_all : IsTrueChoice (one 2) (one 0) unequal_bidders (2 ∷ []) [] (one 2 ∷ [])
unfolding demand indirect_utility
second_takes_all = record { chosen = (inl refl, tt); clears = (omega arith, λ h. refl, tt) }

eleven : payment_along (one 2) unequal_bidders (1 ∷ 2 ∷ []) (one 0) (1 ∷ 1 ∷ 1 ∷ 1 ∷ 1 ∷ 1 ∷ 1 ∷ 1 ∷ []) [] 1 (one 2) ≡ pos 11
unfolding demand indirect_utility
eleven = refl

pub pays : IsVcgPayment (one 2) (one 0) unequal_bidders (1 ∷ 2 ∷ []) (bundle_of (1 ∷ 2 ∷ []) (one 2 ∷ one 0 ∷ [])) 1 (pos 11)
pays =
    let P : ℤ → Type 0 = IsVcgPayment (one 2) (one 0) unequal_bidders (1 ∷ 2 ∷ []) (bundle_of (1 ∷ 2 ∷ []) (one 2 ∷ one 0 ∷ [])) 1 in
    subst P eleven
    (choice-pays (one 2) (one 0) unequal_bidders (1 ∷ 2 ∷ []) (1 ∷ 1 ∷ 1 ∷ 1 ∷ 1 ∷ 1 ∷ 1 ∷ 1 ∷ []) [] 1 (one 2 ∷ one 0 ∷ []) (one 2 ∷ [])
    (refl, (refl, tt)) refl unequal first_takes_all second_alone second_takes_all)
