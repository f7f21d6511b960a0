-- The entries of tables of excess: what they are at the start, with one bidder's table more, and how large they can be.
use Rattle.std.proofs.Common.{set, subst, get_or-set_same, get_or-set_other, take, get_or, Bool, true, false, ◌≡◌, ◌≤◌, ◌<◌, ℕ, ◌+◌, ◌*◌, ◌/◌, ◌%◌, ◌^◌, nat_eq, cond, List, [], ◌∷◌, length, slice_index, replicate, arith, refl, sym, ◌∙◌, inl, inr, mul-le-mul_left, suc, zero}
use Rattle.std.proofs.lemmas.Int.{ints}
use Rattle.std.proofs.lemmas.Bool.{cases_lt, cases_eq}
use Rattle.std.specs.Prelude.{ℤ, pos, negsuc, ◌+ℤ◌, ◌-ℤ◌, ◌≤ℤ◌}
use Rattle.std.specs.List.{AllByRecursion}
use Rattle.lot_base.specs.Goods.{quantity_in, box_size, IsSupply}
use Rattle.lot_base.specs.declared.tables.LeastTable.{LeastTable}
use Rattle.lyapunov.specs.Excesses.{entry, total_at, IsExcessOf, IsAdded, IsSmall, HasRoom}

-- the table at the start is blank
pub entry-blank : (n set : ℕ) → let nothing : ℤ = pos 0 in entry (replicate n nothing) set ≡ nothing
entry-blank zero set = refl
entry-blank (suc n) zero = refl
entry-blank (suc n) (suc set) = entry-blank n set

-- a set has fewer units than the box has bundles
pub quantity_in-box : (supply : List ℕ) (set : ℕ) → quantity_in supply set < box_size supply
quantity_in-box [] set = omega arith
quantity_in-box (s ∷ supply) set =
    let rest = quantity_in-box supply (set / 2) in
    head_within s (quantity_in supply (set / 2)) (box_size supply) (cond (nat_eq (set % 2) 1) s 0) rest (cond-bound (nat_eq (set % 2) 1) s)
  where
    cond-bound : (b : Bool) (s : ℕ) → cond b s 0 ≤ s
    cond-bound true s = omega arith
    cond-bound false s = omega arith

    head_within : (s rest size head : ℕ) → rest < size → head ≤ s → head + rest < (s + 1) * size
    head_within s rest size head below bound = let h : s * 1 ≤ s * size = mul-le-mul_left s (omega arith) in omega (arith, h)

-- the last of some tables
pub total_at-more : (tables : List LeastTable) (i : ℕ) (d : LeastTable) (set : ℕ) → i < length tables →
    total_at (take (i + 1) tables) set ≡ total_at (take i tables) set + slice_index (get_or tables i d).0 set
total_at-more [] i d set below = absurd (omega arith)
total_at-more (table ∷ tables) zero d set below = omega arith
total_at-more (table ∷ tables) (suc i) d set below =
    let e : suc i + 1 ≡ suc (i + 1) = omega arith in
    rw e (let rest = total_at-more tables i d set (omega arith) in omega (arith, rest))

-- so many small tables are small together
total_at-small : (tables : List LeastTable) (i set : ℕ) → AllByRecursion (λ t. IsSmall t.0) tables → total_at (take i tables) set ≤ 2047 * i
total_at-small tables zero set small = omega arith
total_at-small [] (suc i) set small = omega arith
total_at-small (table ∷ tables) (suc i) set small =
    let first = small.0.entries set in let rest = total_at-small tables i set small.1 in omega (arith, first, rest)

-- with one table more
pub IsExcessOf-more : (goods : List ℕ) (tables : List LeastTable) (i : ℕ) (d : LeastTable) (old new : List ℤ) → i < length tables →
    IsExcessOf goods (take i tables) old → IsAdded goods (get_or tables i d).0 old new → IsExcessOf goods (take (i + 1) tables) new
IsExcessOf-more goods tables i d old new below is added = record {
  entries = λ set is_set.
      let before = is.entries set is_set in let after = added.entries set is_set in let more = total_at-more tables i d set below in
      entry-more (entry old set) (entry new set) (total_at (take i tables) set) (slice_index (get_or tables i d).0 set) (quantity_in goods set) _ before after more;
  others = λ set behind. added.others set behind ∙ is.others set behind;
}
  where
    entry-more : (old new : ℤ) (total more units total' : ℕ) → old ≡ pos total -ℤ pos units → new ≡ old +ℤ pos more
        → total' ≡ total + more →
        new ≡ pos total' -ℤ pos units
    entry-more old new total more units total' before after sum = omega (arith, ints, before, after, sum)

-- no set has more units than an entry leaves room for
abbrev pub IsFew : List ℕ → Type 0
IsFew goods = (set : ℕ) → set < 2 ^ length goods → quantity_in goods set ≤ 2047

pub IsFew-supply : (goods : List ℕ) → IsSupply goods → IsFew goods
IsFew-supply goods supply set is_set = let units = quantity_in-box goods set in let bound = supply.small in omega arith

-- where nobody demands anything there is room for a table, and the other way round
pub IsFew-room : (goods : List ℕ) (table : List ℤ) → IsExcessOf goods [] table → HasRoom table → IsFew goods
IsFew-room goods table is room set is_set =
    units_of (entry table set) (quantity_in goods set) (is.entries set is_set) (room.at_least set)
  where
    units_of : (e : ℤ) (units : ℕ) → e ≡ pos 0 -ℤ pos units → negsuc 2046 ≤ℤ e → units ≤ 2047
    units_of e units is low = omega (arith, ints, is, low)

-- the excess of at most eleven small tables leaves room for one more
pub IsExcessOf-room : (goods : List ℕ) (tables : List LeastTable) (i : ℕ) (table : List ℤ) → IsFew goods
    → AllByRecursion (λ t. IsSmall t.0) tables →
    i < 12 → IsExcessOf goods (take i tables) table → HasRoom table
IsExcessOf-room goods tables i table few small below is = record { at_least = λ set. (bounds set).0; at_most = λ set. (bounds set).1 }
  where
    room_of : (e : ℤ) (total units : ℕ) → e ≡ pos total -ℤ pos units → total ≤ 22517 → units ≤ 2047 → (negsuc 2046 ≤ℤ e) × (e ≤ℤ pos 22517)
    room_of e total units is few_total few_units = (omega (arith, ints, is), omega (arith, ints, is))

    nothing_room : (e : ℤ) → e ≡ pos 0 → (negsuc 2046 ≤ℤ e) × (e ≤ℤ pos 22517)
    nothing_room e is = (omega (arith, ints, is), omega (arith, ints, is))

    bounds : (set : ℕ) → (negsuc 2046 ≤ℤ entry table set) × (entry table set ≤ℤ pos 22517)
    bounds set = elim (cases_lt set (2 ^ length goods)) [
      | inl is_set ↦
          (let units = few set is_set in let total = total_at-small tables i set small in
          room_of (entry table set) (total_at (take i tables) set) (quantity_in goods set) (is.entries set is_set) (omega (arith, total)) units)
      | inr behind ↦ nothing_room (entry table set) (is.others set behind)
    ]

-- a table that is filled from the front with the values of f
pub entry-set : (table : List ℤ) (i : ℕ) (value : ℤ) (f : ℕ → ℤ) → i < length table → value ≡ f i
    → ((k : ℕ) → k < i → entry table k ≡ f k) →
    (k : ℕ) → k < i + 1 → entry (set table i value) k ≡ f k
entry-set table i value f below is before k within =
    elim (cases_eq k i) [
      | inl same ↦ (let P : ℕ → Type 0 = λ n. entry (set table i value) n ≡ f n in subst P (sym same) (get_or-set_same table i value (pos 0) below ∙ is))
      | inr other ↦ get_or-set_other table i k value (pos 0) other ∙ before k (let apart = other in omega arith)
    ]

-- a table that is filled up to the last set
pub IsExcessOf-opening : (goods : List ℕ) (table : List ℤ) (last : ℕ) → 2 ^ length goods ≤ last → last ≤ 2 ^ length goods →
    ((k : ℕ) → k < last → entry table k ≡ pos 0 -ℤ pos (quantity_in goods k)) → ((k : ℕ) → last ≤ k → entry table k ≡ pos 0) → IsExcessOf goods [] table
IsExcessOf-opening goods table last at_least at_most before behind = record {
  entries = λ set is_set. before set (omega arith);
  others = λ set is_behind. behind set (omega arith);
}

-- a blank table is small, and stays so where small entries are written
pub IsSmall-blank : (n : ℕ) → IsSmall (replicate n 0)
IsSmall-blank n = record { entries = λ set. blank n set }
  where
    blank : (n set : ℕ) → slice_index (replicate n 0) set ≤ 2047
    blank zero set = omega arith
    blank (suc n) zero = omega arith
    blank (suc n) (suc set) = blank n set

pub IsSmall-set : (table : List ℕ) (i units : ℕ) → units ≤ 2047 → IsSmall table → IsSmall (set table i units)
IsSmall-set table i units few small = record { entries = written table i units few small.entries }
  where
    written : (table : List ℕ) (i units : ℕ) → units ≤ 2047 → ((k : ℕ) → slice_index table k ≤ 2047) → (k : ℕ)
        → slice_index (set table i units) k ≤ 2047
    written [] i units few small k = small k
    written (t ∷ table) zero units few small zero = few
    written (t ∷ table) zero units few small (suc k) = small (suc k)
    written (t ∷ table) (suc i) units few small zero = small zero
    written (t ∷ table) (suc i) units few small (suc k) = written table i units few (λ n. small (suc n)) k
