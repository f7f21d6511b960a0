-- What a valuation file that is read gives: a value for each bundle, 0 for the empty one, each below the ceiling.
use Rattle.std.proofs.Common.{◌≡◌, ◌<◌, ◌≤◌, ℕ, ◌-◌, Bool, true, false, nat_eq, nat_le, List, [], ◌∷◌, length, map, drop, slice_index, Ok, Err, Result, Option, Some, None, codes, refl, arith, ap, sym, ◌∙◌, subst, inl, inr}
use Rattle.std.specs.Prelude.{◌==◌, position, slice_get, IfOk, IfErr, ◌≢◌}
use Rattle.std.specs.List.{AllByRecursion}
use Rattle.std.specs.Str.{bytes_eq}
use Rattle.std.proofs.lemmas.Bool.{cases_Bool}
use Rattle.std.proofs.lemmas.Bool.Decides.{nat_tests}
use Rattle.std.proofs.lemmas.List.{length-map}
use Rattle.lot_base.specs.Goods.{box_size, zeros, cost}
use Rattle.lot_base.specs.Box.{box, bundle_at, index_of}
use Rattle.lot_base.proofs.Demand.{AtMost-zeros}
use Rattle.lot_base.proofs.Index.{length-box, box-bundle_at, bundle_at-index_of, box_size-above_0}
use Rattle.lot_base.proofs.Openings.{all-below, at-below_all}
use Rattle.toml.specs.Data.{Data, Members}
use Rattle.toml.specs.View.{view}
use Rattle.toml.specs.declared.value.Value.{Value}
use Rattle.valuation.specs.declared.faults.ValueKey.{ValueKey}
use Rattle.valuation.specs.declared.faults.ValueKey.TheVariants as key
use Rattle.valuation.specs.declared.faults.ValuesFault.{ValuesFault}
use Rattle.valuation.specs.declared.faults.ValuesFault.TheVariants as fault
use Rattle.valuation.specs.Forms.{marginal_value, unit_value, capped_value}
use Rattle.valuation.specs.Seen.{GivesIfRoom}
use Rattle.toml_tree.specs.Readers.{value_at, string_at, array_at, table_of, known_keys}
use Rattle.toml_tree.specs.Steps.{check, each_from}
use Rattle.toml_tree.proofs.Passed.{bind_ok, same_Ok, each-length, each-all}
use Rattle.toml_tree.proofs.Turns.{each-map}
use Rattle.valuation.specs.Tree.{found, integers_of}
use Rattle.valuation.specs.Values.{IsTable, AreValues}
use Rattle.valuation.specs.ValuesFile.{document_of, long, values_at, lists_at, cap_at, table_form, marginal_form, unit_form, capped_form, in_form, below, valuation_at, values_of}
use Rattle.valuation.proofs.Capped.{capped-all, total-zeros}
use Rattle.valuation.proofs.Long.{long-count}

-- ---- a value for each bundle, and none for the empty one

pub record IsWhole (s values : List ℕ) : Type 0 where
  pub whole : length values ≡ box_size s
  pub empty : slice_index values 0 ≡ 0

index-zeros : (s : List ℕ) → index_of s (zeros s) ≡ 0
index-zeros [] = refl
index-zeros (a ∷ s) = let i = index-zeros s in omega (arith, i)

bundle-first : (s : List ℕ) → bundle_at s 0 ≡ zeros s
bundle-first s = ap (bundle_at s) (sym (index-zeros s)) ∙ bundle_at-index_of s (zeros s) (AtMost-zeros s)

first-map : (f : List ℕ → ℕ) (xs : List (List ℕ)) (x : List ℕ) → slice_get xs 0 ≡ Some x → slice_index (map f xs) 0 ≡ f x
first-map f [] x is = absurd (cc)
first-map f (y ∷ ys) x is = (let e : y ≡ x = cc in ap f e)

mapped-whole : (f : List ℕ → ℕ) (s values : List ℕ) → f (zeros s) ≡ 0 → map f (box s) ≡ values → IsWhole s values
mapped-whole f s values none is = record {
  whole = ap length (sym is) ∙ length-map (box s) f ∙ length-box s;
  empty = ap (λ v. slice_index v 0) (sym is) ∙ first-map f (box s) (bundle_at s 0) (box-bundle_at s 0 (let o = box_size-above_0 s in omega (arith, o))) ∙ ap f (bundle-first s) ∙ none;
}

marginal-zeros : (s numbers : List ℕ) → marginal_value s numbers (zeros s) ≡ 0
marginal-zeros [] numbers = refl
marginal-zeros (a ∷ s) numbers = let i = marginal-zeros s (drop a numbers) in omega (arith, i)

unit-zeros : (v s : List ℕ) → unit_value v (zeros s) ≡ 0
unit-zeros [] s = refl
unit-zeros (a ∷ v) [] = refl
unit-zeros (a ∷ v) (b ∷ s) = let i = unit-zeros v s in omega (arith, i)

cost-zeros : (v s : List ℕ) → cost v (zeros s) ≡ 0
cost-zeros [] s = refl
cost-zeros (a ∷ v) [] = refl
cost-zeros (a ∷ v) (b ∷ s) = let i = cost-zeros v s in omega (arith, i)

capped-zeros : (v : List ℕ) (cap : ℕ) (s : List ℕ) → capped_value v cap (zeros s) ≡ 0
capped-zeros v cap s = let t = total-zeros s in sym (capped-all v cap (zeros s) (omega (arith, t))) ∙ cost-zeros v s

-- ---- the forms

values_at-count : (bidder limit needed : ℕ) (table : Members) (values : List ℕ) → values_at bidder limit needed table ≡ Ok values → length values ≡ needed
unfolding values_at
values_at-count bidder limit needed table values h =
    let value = bind_ok (found (value_at (key.Values bidder) (codes "values") table)) _ values h in
    let numbers = bind_ok (integers_of (key.Values bidder) value.0) _ values value.2 in
    let counted = bind_ok (long bidder needed (length numbers.0)) _ values numbers.2 in
    each-length _ 0 numbers.0 values counted.2 ∙ long-count bidder needed (length numbers.0) counted.0 counted.1

passed : (n m : ℕ) (refusal : ValuesFault) (u : Unit {0}) → check (n == m) refusal ≡ Ok u → n ≡ m
passed n m refusal u e = by (nat_eq n m) refl e
  where
    by : (b : Bool) → nat_eq n m ≡ b → check b refusal ≡ Ok u → n ≡ m
    by true t g = grind (arith, nat_tests)
    by false t g = cc g

table-whole : (bidder limit : ℕ) (s : List ℕ) (table : Members) (values : List ℕ) → table_form bidder limit s table ≡ Ok values → IsWhole s values
unfolding table_form
table-whole bidder limit s table values h =
    let keys = bind_ok (found (known_keys (codes "form" ∷ codes "values" ∷ []) table)) _ values h in
    let read = bind_ok (values_at bidder limit (box_size s) table) _ values keys.2 in
    let none = bind_ok (check (slice_index read.0 0 == 0) (fault.EmptyNotZero bidder)) _ values read.2 in
    let P : List ℕ → Type 0 = λ v. IsWhole s v in
    subst P (same_Ok read.0 values none.2) (record { whole = values_at-count bidder limit (box_size s) table read.0 read.1; empty = passed (slice_index read.0 0) 0 (fault.EmptyNotZero bidder) none.0 none.1 })

marginal-whole : (bidder limit : ℕ) (s : List ℕ) (table : Members) (values : List ℕ) → marginal_form bidder limit s table ≡ Ok values → IsWhole s values
unfolding marginal_form
marginal-whole bidder limit s table values h =
    let keys = bind_ok (found (known_keys (codes "form" ∷ codes "lists" ∷ []) table)) _ values h in
    let read = bind_ok (lists_at bidder limit s table) _ values keys.2 in
    mapped-whole (marginal_value s read.0) s values (marginal-zeros s read.0) (same_Ok _ values read.2)

unit-whole : (bidder limit : ℕ) (s : List ℕ) (table : Members) (values : List ℕ) → unit_form bidder limit s table ≡ Ok values → IsWhole s values
unfolding unit_form
unit-whole bidder limit s table values h =
    let keys = bind_ok (found (known_keys (codes "form" ∷ codes "values" ∷ []) table)) _ values h in
    let read = bind_ok (values_at bidder limit (length s) table) _ values keys.2 in
    mapped-whole (unit_value read.0) s values (unit-zeros read.0 s) (same_Ok _ values read.2)

capped-whole : (bidder limit : ℕ) (s : List ℕ) (table : Members) (values : List ℕ) → capped_form bidder limit s table ≡ Ok values → IsWhole s values
unfolding capped_form
capped-whole bidder limit s table values h =
    let keys = bind_ok (found (known_keys (codes "form" ∷ codes "values" ∷ codes "cap" ∷ []) table)) _ values h in
    let read = bind_ok (values_at bidder limit (length s) table) _ values keys.2 in
    let cap = bind_ok (cap_at bidder (length s) table) _ values read.2 in
    mapped-whole (capped_value read.0 cap.0) s values (capped-zeros read.0 cap.0 s) (same_Ok _ values cap.2)

pub form-whole : (form : List ℕ) (bidder limit : ℕ) (s : List ℕ) (table : Members) (values : List ℕ) → in_form form bidder limit s table ≡ Ok values → IsWhole s values
form-whole form bidder limit s table values h = elim (cases_Bool (bytes_eq form (codes "table"))) [
  | inl a ↦ table-whole bidder limit s table values (rw a at h)
  | inr a ↦ elim (cases_Bool (bytes_eq form (codes "marginal"))) [
    | inl b ↦ marginal-whole bidder limit s table values (rw (a, b) at h)
    | inr b ↦ elim (cases_Bool (bytes_eq form (codes "unit"))) [
      | inl c ↦ unit-whole bidder limit s table values (rw (a, b, c) at h)
      | inr c ↦ elim (cases_Bool (bytes_eq form (codes "capped"))) [
        | inl d ↦ capped-whole bidder limit s table values (rw (a, b, c, d) at h)
        | inr d ↦ (let e : ◌≡◌ {A = Result (List ℕ) ValuesFault} (Err (fault.Form bidder)) (Ok values) = rw (a, b, c, d) at h in cc e)
      ]
    ]
  ]
]

-- ---- below the ceiling

pub low-all : (ceiling : ℕ) (values : List ℕ) (found : Option ℕ) → found ≡ position (λ value. nat_le ceiling value) values → found ≡ None → 1 ≤ ceiling → (k : ℕ) → slice_index values k < ceiling
low-all ceiling values found is none some k =
    at-below_all ceiling values k (omega (arith, some)) (all-below values ceiling values (record { goods = refl; below = sym is ∙ none }))

below-passed : (bidder : ℕ) (found : Option ℕ) (values result : List ℕ) → below bidder found values ≡ Ok result → (found ≡ None) × (values ≡ result)
below-passed bidder None values result h = (refl, same_Ok values result h)
below-passed bidder (Some index) values result h = cc h

pub values-kept : (ceiling : ℕ) (values narrow : List ℕ) (found : Option ℕ) → narrow ≡ values → 1 ≤ length values → length values ≤ 2048 → slice_index values 0 ≡ 0 →
    found ≡ position (λ value. nat_le ceiling value) values → found ≡ None → 1 ≤ ceiling → ceiling ≤ 10000 → AreValues narrow
values-kept ceiling values narrow found same some few empty is none low high =
    let P : List ℕ → Type 0 = λ v. AreValues v in
    subst P (sym same) (record { some = some; few = few; empty = empty; below = λ k. let b = low-all ceiling values found is none low k in omega (arith, b, high) })

pub valuation-table : (ceiling bidder : ℕ) (s : List ℕ) (element : Data) (values : List ℕ) → 1 ≤ ceiling → valuation_at ceiling bidder s element ≡ Ok values → IsTable s ceiling values
unfolding valuation_at
valuation-table ceiling bidder s element values some h =
    let table = bind_ok (found (table_of (key.Table bidder) element)) _ values h in
    let form = bind_ok (found (string_at (key.Form bidder) (codes "form") table.0)) _ values table.2 in
    let read = bind_ok (in_form form.0 bidder (ceiling - 1) s table.0) _ values form.2 in
    let kept = below-passed bidder (position (λ value. nat_le ceiling value) read.0) read.0 values read.2 in
    let w = form-whole form.0 bidder (ceiling - 1) s table.0 read.0 read.1 in
    let P : List ℕ → Type 0 = λ v. IsTable s ceiling v in
    subst P kept.1 (record { whole = w.whole; empty = w.empty; below = low-all ceiling read.0 (position (λ value. nat_le ceiling value) read.0) refl kept.0 some })

-- ---- the calls, once their parts are known

pub valuation-read : (ceiling bidder number limit : ℕ) (s : List ℕ) (element : Data) (table : Members) (form values list : List ℕ) → number ≡ bidder → limit ≡ ceiling - 1 → list ≡ values → table_of (key.Table number) element ≡ Ok table
    → string_at (key.Form number) (codes "form") table ≡ Ok form → in_form form bidder limit s table ≡ Ok values
    → below bidder (position (λ value. nat_le ceiling value) list) list ≡ valuation_at ceiling bidder s element
unfolding valuation_at
valuation-read ceiling bidder number limit s element table form values list numbered is same a b c =
    let d : table_of (key.Table bidder) element ≡ Ok table = ap (λ n. table_of (key.Table n) element) (sym numbered) ∙ a in
    let e : string_at (key.Form bidder) (codes "form") table ≡ Ok form = ap (λ n. string_at (key.Form n) (codes "form") table) (sym numbered) ∙ b in
    let f : in_form form bidder (ceiling - 1) s table ≡ Ok values = ap (λ n. in_form form bidder n s table) (sym is) ∙ c in
    ap (λ v. below bidder (position (λ value. nat_le ceiling value) v) v) same ∙ sym (rw (d, e, f))

counted : (n m : ℕ) (refusal : ValuesFault) → n ≡ m → check (n == m) refusal ≡ Ok tt
counted n m refusal e = let t : nat_eq n m ≡ true = grind (arith, nat_tests) in rw t

pub file-read : (s : List ℕ) (bidders ceiling : ℕ) (bytes : List ℕ) (file : Members) (elements : List Value) (u : Unit {0}) → document_of bytes ≡ Ok file → known_keys {K = ValueKey} (codes "valuations" ∷ []) file ≡ Ok u
    → array_at key.Valuations (codes "valuations") file ≡ Ok (map view elements) → length elements ≡ bidders
    → each_from (λ bidder v. valuation_at ceiling bidder s (view v)) 1 elements ≡ values_of s bidders ceiling bytes
unfolding values_of
file-read s bidders ceiling bytes file elements u a b c count =
    let d = counted (length (map view elements)) bidders (fault.Bidders (length (map view elements))) (length-map elements view ∙ count) in
    sym (rw (a, b, c, d) (each-map (λ bidder. valuation_at ceiling bidder s) view 1 elements))

pub file-tables : (s : List ℕ) (bidders ceiling : ℕ) (bytes : List ℕ) (values : List (List ℕ)) → 1 ≤ ceiling → values_of s bidders ceiling bytes ≡ Ok values → (length values ≡ bidders) × AllByRecursion (IsTable s ceiling) values
unfolding values_of
file-tables s bidders ceiling bytes values some h =
    let file = bind_ok (document_of bytes) _ values h in
    let keys = bind_ok (found (known_keys (codes "valuations" ∷ []) file.0)) _ values file.2 in
    let elements = bind_ok (found (array_at key.Valuations (codes "valuations") file.0)) _ values keys.2 in
    let count = bind_ok (check (length elements.0 == bidders) (fault.Bidders (length elements.0))) _ values elements.2 in
    let same : length elements.0 ≡ bidders = passed (length elements.0) bidders (fault.Bidders (length elements.0)) count.0 count.1 in (
      each-length (λ bidder. valuation_at ceiling bidder s) 1 elements.0 values count.2 ∙ same,
      each-all (λ bidder. valuation_at ceiling bidder s) (IsTable s ceiling) (λ bidder element v is. valuation-table ceiling bidder s element v some is) 1 elements.0 values count.2,
    )

-- ---- what a call gives, by its result

pub given-ok : {X Y : Type 0} (seen : X → Y) (r : Result X ValuesFault) (read : Result Y ValuesFault) → GivesIfRoom seen r read → IfOk r (λ v. read ≡ Ok (seen v))
given-ok seen (Ok v) read h = h
given-ok seen (Err refusal) read h = tt

pub given-err : {X Y : Type 0} (seen : X → Y) (r : Result X ValuesFault) (read : Result Y ValuesFault) → GivesIfRoom seen r read → IfErr r (λ refusal. refusal ≢ fault.NoMemory → read ≡ Err refusal)
given-err seen (Ok v) read h = tt
given-err seen (Err refusal) read h = h
