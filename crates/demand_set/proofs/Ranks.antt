-- Bundles in ascending order have ascending places in the box, so there are no more of them than the supply has bundles.
use Rattle.std.proofs.Common.{◌≡◌, ◌≤◌, ℕ, ◌+◌, true, List, Option, Some, None, arith}
use Rattle.std.specs.Cmp.Lexicographic.{slice_cmp}
use Rattle.std.specs.Ordering.{nat_cmp}
use Rattle.lot_base.specs.Goods.{box_size, is_within}
use Rattle.lot_base.specs.Box.{index_of}
use Rattle.lot_base.proofs.Order.{index_of-below, index_of-less, is_lt-less}
use Rattle.demand_set.specs.Reading.{is_after}

-- so many bundles come up to the one before
abbrev pub IsRankedAt : List ℕ → ℕ → Option (List ℕ) → Type 0
IsRankedAt supply place None = place ≡ 0
IsRankedAt supply place (Some before) = (is_within supply before ≡ true) × (place ≤ index_of supply before + 1)

pub ranked-few : (supply : List ℕ) (place : ℕ) (before : Option (List ℕ)) → box_size supply ≤ 2048 → IsRankedAt supply place before → place ≤ 2048
ranked-few supply place None small e = omega (arith, e)
ranked-few supply place (Some b) small e = omega (arith, index_of-below supply b e.0, e.1)

pub ranked-box : (supply : List ℕ) (place : ℕ) (before : Option (List ℕ)) → 1 ≤ box_size supply → IsRankedAt supply place before → place ≤ box_size supply
ranked-box supply place None some e = omega (arith, e)
ranked-box supply place (Some b) some e = omega (arith, index_of-below supply b e.0, e.1)

pub ranked-next : (supply : List ℕ) (place : ℕ) (before : Option (List ℕ)) (x : List ℕ) → IsRankedAt supply place before → is_within supply x ≡ true → is_after before x ≡ true → IsRankedAt supply (place + 1) (Some x)
ranked-next supply place None x e w a = (w, omega (arith, e))
ranked-next supply place (Some b) x e w a = (w, (let r = index_of-less supply b x e.0 w (is_lt-less (slice_cmp nat_cmp b x) a) in omega (arith, e.1)))
