-- Tallies as counts by name: one more tally, and one that is raised.
use Rattle.std.proofs.Common.{◌≡◌, ◌<◌, ℕ, ◌+◌, ◌-◌, ◌^◌, min, suc, zero, List, [], ◌∷◌, ◌++◌, length, take, bytes_eq, string_bytes, slice_index_or, slice_set, true, false, cond, Bool, Contains, refl, sym, ◌∙◌, ap, arith}
use Rattle.std.proofs.lemmas.Slice.Eq.{bytes_eq-Decides}
use Rattle.std.proofs.lemmas.List.{map-append}
use Rattle.std.proofs.Math.Seq.{take-append_seam}
use Rattle.house_io.specs.declared.tallies.Tally.{Tally}
use Rattle.house_io.specs.Counts.{count_of, names_of}
use Rattle.house_io.specs.Tallies.{counts_in, HasNo, IsPlace}
use Rattle.house_io.specs.Shelves.{Adds, with_name}
use Rattle.house_io.specs.Faults.{raised_by}

-- a test that is not true is false
not-true : (b : Bool) → (b ≡ true → ⊥) → b ≡ false
not-true true h = absurd (h refl)
not-true false h = refl

-- another name tests as another
tests-other : (xs ys : List ℕ) → (xs ≡ ys → ⊥) → bytes_eq xs ys ≡ false
tests-other xs ys ne = not-true (bytes_eq xs ys) (λ same. ne ((bytes_eq-Decides xs ys).0 same))

-- a tally of no faults at the end changes no count
pub count-push : (ts : List Tally) (t : Tally) (other : List ℕ) → t.faults ≡ 0 → count_of (counts_in (ts ++ t ∷ [])) other ≡ count_of (counts_in ts) other
count-push [] t other none = elim (bytes_eq (string_bytes t.name) other) as (λ b. cond b t.faults 0 ≡ 0) [ true ↦ none | false ↦ refl ]
count-push (x ∷ xs) t other none = ap (λ n. cond (bytes_eq (string_bytes x.name) other) x.faults n) (count-push xs t other none)

-- the names, and one more
pub names-push : (ts : List Tally) (t : Tally) → names_of (counts_in (ts ++ t ∷ [])) ≡ names_of (counts_in ts) ++ string_bytes t.name ∷ []
names-push [] t = refl
names-push (x ∷ xs) t = ap (λ names. string_bytes x.name ∷ names) (names-push xs t)

-- the tallies before one more
pub counts-front : (ts : List Tally) (t : Tally) → take (length (counts_in ts)) (counts_in (ts ++ t ∷ [])) ≡ counts_in ts
counts-front ts t = ap (take (length (counts_in ts))) (map-append (λ (tally : Tally). record { name = string_bytes tally.name; faults = tally.faults }) ts (t ∷ [])) ∙ take-append_seam (counts_in ts) (counts_in (t ∷ []))

-- a name that has a tally is among the names already
pub with_name-there : (ts : List Tally) (name : List ℕ) (place : ℕ) → IsPlace ts name place → with_name name (names_of (counts_in ts)) ≡ names_of (counts_in ts)
with_name-there [] name place is = absurd (omega (arith, is.inside))
with_name-there (t ∷ ts) name zero is = rw (is.here t) refl
with_name-there (t ∷ ts) name (suc place) is =
    rw (is.first zero t (omega arith)) (ap (λ names. string_bytes t.name ∷ names) (with_name-there ts name place (record { inside = omega (arith, is.inside); here = is.here; first = λ k other below. is.first (suc k) other (omega arith) })))

-- and one that has none is put after them
pub with_name-new : (ts : List Tally) (name : List ℕ) → HasNo ts name → with_name name (names_of (counts_in ts)) ≡ names_of (counts_in ts) ++ name ∷ []
with_name-new [] name absent = refl
with_name-new (t ∷ ts) name absent =
    rw (absent zero t (omega arith)) (ap (λ names. string_bytes t.name ∷ names) (with_name-new ts name (λ k other below. absent (suc k) other (omega arith))))

-- the name at a place is among the names
pub named-place : (ts : List Tally) (name : List ℕ) (place : ℕ) → place < length ts → ((other : Tally) → bytes_eq (string_bytes (slice_index_or ts place other).name) name ≡ true) → Contains (names_of (counts_in ts)) name
named-place [] name place inside here = absurd (omega arith)
named-place (t ∷ ts) name zero inside here = (0, omega arith, (bytes_eq-Decides (string_bytes t.name) name).0 (here t))
named-place (t ∷ ts) name (suc place) inside here =
    let rest = named-place ts name place (omega arith) here in
    (suc rest.0, omega (arith, rest.1), rest.2)

-- a name that no tally has is not among the names
pub no-name : (ts : List Tally) (name : List ℕ) → HasNo ts name → Contains (names_of (counts_in ts)) name → ⊥
no-name [] name absent (k, inside, is) = omega arith
no-name (t ∷ ts) name absent (zero, inside, is) =
    let same : bytes_eq (string_bytes t.name) name ≡ true = (bytes_eq-Decides (string_bytes t.name) name).1 is in
    let other : bytes_eq (string_bytes t.name) name ≡ false = absent zero t (omega arith) in
    cc
no-name (t ∷ ts) name absent (suc k, inside, is) = no-name ts name (λ j other below. absent (suc j) other (omega arith)) (k, omega arith, is)

-- the count at the place of a name
pub count-place : (ts : List Tally) (name : List ℕ) (place : ℕ) (d : Tally) → IsPlace ts name place → count_of (counts_in ts) name ≡ (slice_index_or ts place d).faults
count-place [] name place d is = absurd (omega (arith, is.inside))
count-place (t ∷ ts) name zero d is = rw (is.here d)
count-place (t ∷ ts) name (suc place) d is =
    rw (is.first zero t (omega arith)) (count-place ts name place d (record { inside = omega (arith, is.inside); here = is.here; first = λ k other below. is.first (suc k) other (omega arith) }))

-- a tally that takes the place of one of the same name: the count of the name
pub count-set : (ts : List Tally) (name : List ℕ) (place : ℕ) (t : Tally) → IsPlace ts name place → bytes_eq (string_bytes t.name) name ≡ true → count_of (counts_in (slice_set ts place t)) name ≡ t.faults
count-set [] name place t is same = absurd (omega (arith, is.inside))
count-set (x ∷ xs) name zero t is same = rw same
count-set (x ∷ xs) name (suc place) t is same =
    rw (is.first zero x (omega arith)) (count-set xs name place t (record { inside = omega (arith, is.inside); here = is.here; first = λ k other below. is.first (suc k) other (omega arith) }) same)

-- the count of another name
pub count-set_other : (ts : List Tally) (other : List ℕ) (place : ℕ) (t d : Tally) → place < length ts → string_bytes t.name ≡ string_bytes (slice_index_or ts place d).name → bytes_eq (string_bytes t.name) other ≡ false → count_of (counts_in (slice_set ts place t)) other ≡ count_of (counts_in ts) other
count-set_other [] other place t d inside same another = absurd (omega arith)
count-set_other (x ∷ xs) other zero t d inside same another =
    let first : bytes_eq (string_bytes x.name) other ≡ false = ap (λ name. bytes_eq name other) (sym same) ∙ another in
    rw (another, first)
count-set_other (x ∷ xs) other (suc place) t d inside same another =
    ap (λ n. cond (bytes_eq (string_bytes x.name) other) x.faults n) (count-set_other xs other place t d (omega arith) same another)

-- the names
pub names-set : (ts : List Tally) (place : ℕ) (t d : Tally) → place < length ts → string_bytes t.name ≡ string_bytes (slice_index_or ts place d).name → names_of (counts_in (slice_set ts place t)) ≡ names_of (counts_in ts)
names-set [] place t d inside same = absurd (omega arith)
names-set (x ∷ xs) zero t d inside same = ap (λ name. name ∷ names_of (counts_in xs)) same
names-set (x ∷ xs) (suc place) t d inside same = ap (λ names. string_bytes x.name ∷ names) (names-set xs place t d (omega arith) same)

-- a tally to which faults are added
pub adds-set : (ts : List Tally) (name : List ℕ) (place faults : ℕ) (t d : Tally) → IsPlace ts name place → d ≡ slice_index_or ts place d → string_bytes t.name ≡ string_bytes d.name → t.faults ≡ min (d.faults + faults) (2 ^ 64 - 1) → d.faults < 2 ^ 64
    → Adds name faults (count_of (counts_in ts)) (count_of (counts_in (slice_set ts place t)))
adds-set ts name place faults t d is old same raised fits =
    let here : bytes_eq (string_bytes t.name) name ≡ true = ap (λ n. bytes_eq n name) same ∙ ap (λ tally. bytes_eq (string_bytes tally.name) name) old ∙ is.here d in
    let named : string_bytes t.name ≡ name = (bytes_eq-Decides (string_bytes t.name) name).0 here in
    let before : count_of (counts_in ts) name ≡ d.faults = count-place ts name place d is ∙ sym (ap (λ tally. tally.faults) old) in
    record {
      added = count-set ts name place t is here ∙ (let e : t.faults ≡ raised_by (count_of (counts_in ts) name) faults = omega (arith, raised, before, fits) in e);
      others = λ other ne. count-set_other ts other place t d is.inside (same ∙ ap (λ tally. string_bytes tally.name) old) (tests-other (string_bytes t.name) other (λ e. ne (sym e ∙ named)));
    }
