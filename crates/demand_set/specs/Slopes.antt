-- What the tables of a demand say of its bidder, where the demand is the whole demand set, at some prices, of a bidder with
-- strong substitutes: they are the slopes of the indirect utility V. The least quantities are read in this way by Ausubel,
-- "An Efficient Dynamic Auction for Heterogeneous Commodities", American Economic Review 96(3), 2006.
use Rattle.std.specs.Prelude.{◌≡◌, ◌<◌, ℕ, ◌^◌, List, length, slice_index, ℤ, pos, ◌-ℤ◌}
use Rattle.lot_base.specs.Goods.{raised, lowered, AllPriced}
use Rattle.lot_base.specs.Economy.{indirect_utility, demand, IsStrongSubstitutes}

-- the entry of each set is how far V falls where the prices rise by one on the set, V(p) - V(p + 1_E)
abbrev pub AreFalls : List ℕ → List (List ℕ) → List ℕ → Type 0
AreFalls supply bundles table =
    (u : List ℕ → ℤ) (p : List ℕ) (set : ℕ) → IsStrongSubstitutes supply u → length p ≡ length supply → bundles ≡ demand supply u p →
    set < 2 ^ length supply → pos (slice_index table set) ≡ indirect_utility supply u p -ℤ indirect_utility supply u (raised p set)

-- the entry of each set of goods with prices is how far V rises where these prices fall by one, V(p - 1_E) - V(p)
abbrev pub AreRises : List ℕ → List (List ℕ) → List ℕ → Type 0
AreRises supply bundles table =
    (u : List ℕ → ℤ) (p : List ℕ) (set : ℕ) → IsStrongSubstitutes supply u → length p ≡ length supply → bundles ≡ demand supply u p →
    set < 2 ^ length supply → AllPriced p set → pos (slice_index table set) ≡ indirect_utility supply u (lowered p set) -ℤ indirect_utility supply u p
