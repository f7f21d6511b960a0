-- Bundles joined in order, taken apart again; and a demand has no fault.
use Rattle.std.proofs.Common.{◌≡◌, ◌<◌, ◌≤◌, ℕ, ◌+◌, ◌*◌, ◌/◌, true, false, nat_eq, cond, suc, List, [], ◌∷◌, ◌++◌, length, take, drop, Option, Some, None, refl, sym, ◌∙◌, ap, arith, subst, get_or, length-append, Ok, Err}
use Rattle.std.specs.List.{AllByRecursion, concat}
use Rattle.std.specs.Cmp.Lexicographic.{slice_cmp}
use Rattle.std.specs.Ordering.{nat_cmp, is_lt}
use Rattle.std.specs.declared.cmp.Ordering.TheVariants.{Less}
use Rattle.std.proofs.Math.Nat.{mul-div_cancel}
use Rattle.std.proofs.Math.Seq.{take-append_seam, drop-append_seam}
use Rattle.std.proofs.lemmas.Bool.Decides.{nat_tests}
use Rattle.std.proofs.lemmas.List.{append-nil, take_more}
use Rattle.std.proofs.lemmas.List.Folds.{concat-append}
use Rattle.lot_base.specs.Goods.{AtMost, IsRange}
use Rattle.lot_base.specs.Demands.{IsAscending, IsDemand}
use Rattle.lot_base.proofs.Within.{at_most-within}
use Rattle.demand_set.specs.Held.{IsSomeDemand}
use Rattle.demand_set.specs.Reading.{groups, bundles_of, fault_from, unless, demand_of, AreWhole}
use Rattle.demand_set.specs.declared.reading.DemandFault.TheVariants.{Empty, WrongGoods}
use Rattle.demand_set.proofs.Faults.{AfterFirst, fault-later}

pub length-concat : (goods : ℕ) (bundles : List (List ℕ)) → AllByRecursion (λ x. length x ≡ goods) bundles → length (concat bundles) ≡ length bundles * goods
length-concat goods [] all = omega arith
length-concat goods (x ∷ bundles) all =
    let r = length-concat goods bundles all.1 in
    let n : suc (length bundles) * goods ≡ length bundles * goods + goods = grind arith in
    omega (arith, length-append x (concat bundles), all.0, r, n)

groups-concat : (goods : ℕ) (bundles : List (List ℕ)) → AllByRecursion (λ x. length x ≡ goods) bundles → groups (length bundles) goods (concat bundles) ≡ bundles
groups-concat goods [] all = refl
groups-concat goods (x ∷ bundles) all =
    let front : take goods (x ++ concat bundles) ≡ x = ap (λ n. take n (x ++ concat bundles)) (sym all.0) ∙ take-append_seam x (concat bundles) in
    let back : drop goods (x ++ concat bundles) ≡ concat bundles = ap (λ n. drop n (x ++ concat bundles)) (sym all.0) ∙ drop-append_seam x (concat bundles) in
    (λ i. front i ∷ groups (length bundles) goods (back i)) ∙ ap (λ rest. x ∷ rest) (groups-concat goods bundles all.1)

pub bundles_of-concat : (goods : ℕ) (bundles : List (List ℕ)) → 1 ≤ goods → AllByRecursion (λ x. length x ≡ goods) bundles → bundles_of goods (concat bundles) ≡ bundles
bundles_of-concat goods bundles some all =
    let n : length (concat bundles) / goods ≡ length bundles = ap (λ k. k / goods) (length-concat goods bundles all) ∙ mul-div_cancel (length bundles) some in
    ap (λ k. groups k goods (concat bundles)) n ∙ groups-concat goods bundles all

less-is_lt : (x y : List ℕ) → slice_cmp nat_cmp x y ≡ Less → is_lt (slice_cmp nat_cmp x y) ≡ true
less-is_lt x y e = ap is_lt e

ascending-later : (x : List ℕ) (bundles : List (List ℕ)) → IsAscending (x ∷ bundles) → AfterFirst (Some x) bundles × IsAscending bundles
ascending-later x [] up = (tt, tt)
ascending-later x (y ∷ bundles) up = (less-is_lt x y up.0, up.1)

-- bundles of the box in ascending order have no fault
pub faultless : (supply : List ℕ) (place : ℕ) (before : Option (List ℕ)) (bundles : List (List ℕ)) → AfterFirst before bundles → IsAscending bundles → AllByRecursion (λ x. AtMost x supply) bundles → fault_from supply place before bundles ≡ None
faultless supply place before [] later up within = refl
faultless supply place before (x ∷ bundles) later up within =
    let next = ascending-later x bundles up in
    fault-later supply place before x bundles (at_most-within supply x within.0) later ∙ faultless supply (place + 1) (Some x) bundles next.0 next.1 within.1

pub after-nothing : (bundles : List (List ℕ)) → AfterFirst None bundles
after-nothing [] = tt
after-nothing (x ∷ bundles) = refl

-- a demand of these goods is read as itself
pub demand_of-demand : (supply : List ℕ) (goods : ℕ) (bundles : List (List ℕ)) → IsDemand supply bundles → goods ≡ length supply → demand_of supply goods bundles ≡ Ok bundles
demand_of-demand supply goods bundles is size =
    let a : nat_eq goods (length supply) ≡ true = grind (arith, nat_tests) in
    let some : 1 ≤ length bundles = is.some in
    let b : nat_eq (length bundles) 0 ≡ false = grind (arith, nat_tests) in
    let f : fault_from supply 0 None bundles ≡ None = faultless supply 0 None bundles (after-nothing bundles) is.ascending is.in_box in
    λ i. cond (a i) (cond (b i) (Err Empty) (unless (f i) bundles)) (Err (WrongGoods goods))

pub at_most-length : (x supply : List ℕ) → AtMost x supply → length x ≡ length supply
at_most-length [] [] within = refl
at_most-length [] (s ∷ supply) within = absurd within
at_most-length (q ∷ x) [] within = absurd within
at_most-length (q ∷ x) (s ∷ supply) within = ap (λ n. suc n) (at_most-length x supply within.1)

goods-of : (supply : List ℕ) (goods : ℕ) (bundles : List (List ℕ)) → 1 ≤ length bundles → AllByRecursion (λ x. length x ≡ goods) bundles → AllByRecursion (λ x. AtMost x supply) bundles → goods ≡ length supply
goods-of supply goods [] some all within = absurd (omega arith)
goods-of supply goods (x ∷ bundles) some all within = sym all.0 ∙ at_most-length x supply within.0

first-length : (goods : ℕ) (x : List ℕ) (bundles : List (List ℕ)) → 1 ≤ length bundles → AllByRecursion (λ y. length y ≡ goods) bundles → x ≡ get_or bundles 0 x → length x ≡ goods
first-length goods x [] some all is = absurd (omega arith)
first-length goods x (y ∷ bundles) some all is = ap length is ∙ all.0

-- what a demand is, written out
pub record IsWritten (bundles : List (List ℕ)) (goods : ℕ) (quantities : List ℕ) : Type 0 where
  pub goods_of : AllByRecursion (λ x. length x ≡ goods) bundles
  pub joined : quantities ≡ concat bundles
  pub whole : AreWhole goods quantities
  pub apart : bundles_of goods quantities ≡ bundles
  pub read_back : (supply : List ℕ) → IsDemand supply bundles → demand_of supply goods (bundles_of goods quantities) ≡ Ok bundles

pub written-length : (bundles : List (List ℕ)) (goods : ℕ) (quantities : List ℕ) → 1 ≤ length bundles → IsRange 1 6 goods → AllByRecursion (λ x. length x ≡ goods) bundles → quantities ≡ concat bundles → IsWritten bundles goods quantities
written-length bundles goods quantities some range all e =
    let apart : bundles_of goods quantities ≡ bundles = ap (bundles_of goods) e ∙ bundles_of-concat goods bundles range.at_least all in
    record {
      goods_of = all;
      joined = e;
      whole = record { some_good = range.at_least; few_goods = range.at_most; count = length bundles; whole = ap length e ∙ length-concat goods bundles all };
      apart = apart;
      read_back = λ supply is. ap (demand_of supply goods) apart ∙ demand_of-demand supply goods bundles is (goods-of supply goods bundles some all is.in_box);
    }

-- the goods are those of the first bundle
pub written : (bundles : List (List ℕ)) (first : List ℕ) (goods : ℕ) (quantities : List ℕ) → IsSomeDemand bundles → first ≡ get_or bundles 0 first → goods ≡ length first → quantities ≡ concat bundles → IsWritten bundles goods quantities
written bundles first goods quantities held is size e =
    let same : held.one_length.0 ≡ goods = sym (size ∙ first-length held.one_length.0 first bundles held.some held.one_length.2 is) in
    let W : ℕ → Type 0 = λ g. IsWritten bundles g quantities in
    subst W same (written-length bundles held.one_length.0 quantities held.some held.one_length.1 held.one_length.2 e)

-- the first bundles joined, and the next one
pub concat-take_more : (bundles : List (List ℕ)) (place : ℕ) (x quantities : List ℕ) → place < length bundles → x ≡ get_or bundles place x → quantities ≡ concat (take place bundles) → quantities ++ x ≡ concat (take (place + 1) bundles)
concat-take_more bundles place x quantities below is e =
    ap (λ qs. qs ++ x) e
    ∙ ap (λ y. concat (take place bundles) ++ y) (is ∙ sym (append-nil (get_or bundles place x)))
    ∙ sym (concat-append (take place bundles) (get_or bundles place x ∷ []))
    ∙ sym (ap concat (take_more bundles place x below))
