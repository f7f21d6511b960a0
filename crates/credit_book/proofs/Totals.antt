-- Sums over the bidders but one: in a loop, and where each summand grows.
use Rattle.std.proofs.Common.{◌≡◌, ◌≢◌, ◌<◌, ◌≤◌, ℕ, zero, suc, ◌+◌, ◌-◌, true, false, not, nat_eq, cond, List, [], ◌∷◌, refl, ◌∙◌, ap, arith, None, slice_index, slice_index_or, replicate}
use Rattle.std.specs.Prelude.{pos, ◌+ℤ◌, ◌-ℤ◌, Option}
use Rattle.std.specs.List.{range_with_len}
use Rattle.std.proofs.lemmas.Bool.Decides.{nat_tests}
use Rattle.std.proofs.lemmas.Int.{ints}
use Rattle.lot_base.specs.Goods.{quantity_in}
use Rattle.lot_base.specs.Economy.{total_units, without}
use Rattle.lot_base.specs.declared.tables.LeastTable.{LeastTable}
use Rattle.credit_book.specs.Account.{least_in, others, units_left, Sums, sum_without}

-- the bidders from one on, below a last one, but one
abbrev pub others_from : ℕ → ℕ → ℕ → List ℕ
others_from other last bidder = without bidder (range_with_len other (last - other))

range-next : (other last : ℕ) → other < last → range_with_len other (last - other) ≡ other ∷ range_with_len (other + 1) (last - (other + 1))
range-next other last below = let e : last - other ≡ suc (last - (other + 1)) = omega arith in ap (range_with_len other) e

pub total-kept : (f : ℕ → ℕ) (other last bidder : ℕ) → other < last → other ≢ bidder → total_units f (others_from other last bidder) ≡ f other + total_units f (others_from (other + 1) last bidder)
total-kept f other last bidder below differ =
    let t : nat_eq other bidder ≡ false = grind (arith, nat_tests) in
    ap (λ js. total_units f (without bidder js)) (range-next other last below)
    ∙ ap (λ b. total_units f (cond (not b) (other ∷ others_from (other + 1) last bidder) (others_from (other + 1) last bidder))) t

pub total-skipped : (f : ℕ → ℕ) (other last bidder : ℕ) → other < last → other ≡ bidder → total_units f (others_from other last bidder) ≡ total_units f (others_from (other + 1) last bidder)
total-skipped f other last bidder below same =
    let t : nat_eq other bidder ≡ true = grind (arith, nat_tests) in
    ap (λ js. total_units f (without bidder js)) (range-next other last below)
    ∙ ap (λ b. total_units f (cond (not b) (other ∷ others_from (other + 1) last bidder) (others_from (other + 1) last bidder))) t

total-last : (f : ℕ → ℕ) (last bidder : ℕ) → total_units f (others_from last last bidder) ≡ 0
total-last f last bidder = let e : last - last ≡ 0 = omega arith in ap (λ n. total_units f (without bidder (range_with_len last n))) e

-- what a loop over the bidders keeps: the total so far and that of the rest are the whole
pub record IsTotalUpTo (f : ℕ → ℕ) (bidder other total : ℕ) : Type 0 where
  pub reached : other ≤ 13
  pub first : 1 ≤ other
  pub rest : total + total_units f (others_from other 13 bidder) ≡ total_units f (others bidder)

pub total_up_to-first : (f : ℕ → ℕ) (bidder : ℕ) → IsTotalUpTo f bidder 1 0
unfolding others
total_up_to-first f bidder = record { reached = omega arith; first = omega arith; rest = omega arith }

pub total_up_to-kept : (f : ℕ → ℕ) (bidder other total v next : ℕ) → other < 13 → other ≢ bidder → v ≡ f other → next ≡ total + v → IsTotalUpTo f bidder other total → IsTotalUpTo f bidder (other + 1) next
total_up_to-kept f bidder other total v next below differ e d h =
    let k = total-kept f other 13 bidder below differ in
    record { reached = omega arith; first = omega (arith, h.first); rest = joined _ _ _ _ _ _ _ k h.rest e d }
  where
    joined : (rest more whole total v next x : ℕ) → rest ≡ x + more → total + rest ≡ whole → v ≡ x → next ≡ total + v → next + more ≡ whole
    joined rest more whole total v next x a b c d = omega arith

pub total_up_to-skipped : (f : ℕ → ℕ) (bidder other total next : ℕ) → other < 13 → other ≡ bidder → next ≡ total → IsTotalUpTo f bidder other total → IsTotalUpTo f bidder (other + 1) next
total_up_to-skipped f bidder other total next below same d h =
    let k = total-skipped f other 13 bidder below same in
    record { reached = omega arith; first = omega (arith, h.first); rest = joined _ _ _ _ _ k h.rest d }
  where
    joined : (rest more whole total next : ℕ) → rest ≡ more → total + rest ≡ whole → next ≡ total → next + more ≡ whole
    joined rest more whole total next a b d = omega arith

pub total_up_to-last : (f : ℕ → ℕ) (bidder other total : ℕ) → other ≡ 13 → IsTotalUpTo f bidder other total → total ≡ total_units f (others bidder)
total_up_to-last f bidder other total e h = joined total _ _ (ap (λ n. total_units f (others_from n 13 bidder)) e ∙ total-last f 13 bidder) h.rest
  where
    joined : (total rest whole : ℕ) → rest ≡ 0 → total + rest ≡ whole → total ≡ whole
    joined total rest whole a b = omega arith

pub total_units-zero : (f : ℕ → ℕ) (js : List ℕ) → ((j : ℕ) → f j ≡ 0) → total_units f js ≡ 0
total_units-zero f [] zeros = refl
total_units-zero f (j ∷ js) zeros = let a = zeros j in let b = total_units-zero f js zeros in omega arith

pub total_units-plus : (f g h : ℕ → ℕ) (js : List ℕ) → ((j : ℕ) → h j ≡ f j + g j) → total_units h js ≡ total_units f js + total_units g js
total_units-plus f g h [] each = refl
total_units-plus f g h (j ∷ js) each = let a = each j in let b = total_units-plus f g h js each in omega arith

-- a sum of an account after a step
pub sum_without-added : (before after : Sums) (supply : List ℕ) (tables : List (Option LeastTable)) (set bidder : ℕ) → after.units ≡ before.units + quantity_in supply set
    → ((j : ℕ) → slice_index after.least j ≡ slice_index before.least j + least_in (slice_index_or tables j None) set)
    → sum_without after bidder ≡ sum_without before bidder +ℤ units_left supply tables set bidder
unfolding sum_without units_left
sum_without-added before after supply tables set bidder units each =
    let e = total_units-plus (λ j. slice_index before.least j) (λ j. least_in (slice_index_or tables j None) set) (λ j. slice_index after.least j) (others bidder) each in
    joined _ _ _ _ _ _ units e
  where
    joined : (u v w l m n : ℕ) → u ≡ v + w → l ≡ m + n → pos u -ℤ pos l ≡ ((pos v -ℤ pos m) +ℤ (pos w -ℤ pos n))
    joined u v w l m n a b = omega (arith, ints)

pub sum_without-none : (account : Sums) (bidder : ℕ) → account.units ≡ 0 → ((j : ℕ) → slice_index account.least j ≡ 0) → sum_without account bidder ≡ pos 0
unfolding sum_without
sum_without-none account bidder units each = joined _ _ units (total_units-zero (λ j. slice_index account.least j) (others bidder) each)
  where
    joined : (u l : ℕ) → u ≡ 0 → l ≡ 0 → pos u -ℤ pos l ≡ pos 0
    joined u l a b = omega (arith, ints)

pub sum_without-is : (account : Sums) (bidder least : ℕ) → least ≡ total_units (λ j. slice_index account.least j) (others bidder) → pos account.units -ℤ pos least ≡ sum_without account bidder
unfolding sum_without
sum_without-is account bidder least e = ap (λ n. pos account.units -ℤ pos n) e

-- the numbers of a new account
pub zeros-at : (n j : ℕ) → slice_index (replicate n 0) j ≡ 0
zeros-at zero j = refl
zeros-at (suc n) zero = refl
zeros-at (suc n) (suc j) = zeros-at n j
