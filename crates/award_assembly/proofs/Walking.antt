-- The walk from the first demand on, and the tables that are made from the last demand back.
use Rattle.std.proofs.Common.{◌≡◌, ◌≤◌, ◌<◌, ℕ, zero, suc, ◌+◌, ◌-◌, Bool, true, false, List, [], ◌∷◌, ◌++◌, length, drop, Option, Some, None, is_some, cond, refl, sym, ◌∙◌, ap, subst, arith, append_assoc, slice_index_or, get_or, length-append}
use Rattle.std.specs.Prelude.{find, option_map, slice_get}
use Rattle.std.specs.List.{AllByRecursion}
use Rattle.std.proofs.lemmas.List.{append-nil}
use Rattle.std.proofs.lemmas.Option.{slice_get_read}
use Rattle.lot_base.specs.Goods.{plus, zeros, AtMost}
use Rattle.lot_base.specs.Box.{bundle_at}
use Rattle.lot_base.specs.Choices.{sum_of, choices, clears, first_choice}
use Rattle.lot_base.specs.Demands.{IsDemand}
use Rattle.lot_base.proofs.Vec.{length-below}
use Rattle.award_assembly.specs.Remaining.{first_choice_after, can_clear, IsReach, has_total, AreReaches}
use Rattle.award_assembly.proofs.Adding.{zeros-plus, length-plus, bundle_at-0}
use Rattle.award_assembly.proofs.Filling.{get_or-more, all-at}
use Rattle.award_assembly.proofs.Reaching.{Leads, leads, leads-none}

-- nothing is taken at first
long-sum_of : (s : List ℕ) (xs : List (List ℕ)) → length s ≤ length (sum_of s xs)
long-sum_of s [] = length-zeros s
  where
    length-zeros : (s : List ℕ) → length s ≤ length (zeros s)
    length-zeros [] = omega arith
    length-zeros (s ∷ ss) = let h = length-zeros ss in omega arith
long-sum_of s (x ∷ xs) = let h = long-sum_of s xs in let k = length-plus x (sum_of s xs) in omega arith

first_choice-after : (s o p : List ℕ) (ds : List (List (List ℕ))) → first_choice_after s o p ds (bundle_at s 0) ≡ first_choice s o p ds
unfolding first_choice_after
first_choice-after s o p ds =
    ap (λ t. find (λ xs. clears o p (plus t (sum_of s xs)) s) (choices ds)) (bundle_at-0 s)
    ∙ (λ i. find (λ xs. clears o p (zeros-plus s (sum_of s xs) (long-sum_of s xs) i) s) (choices ds))

-- the bundles of the demands before a place, what they are together, and that the first choice goes on from there
pub record IsOnTheWay (s o p : List ℕ) (ds : List (List (List ℕ))) (place : ℕ) (t : List ℕ) (bundles : List (List ℕ)) : Type 0 where
  pub within : AtMost t s
  pub can : can_clear s o p (drop place ds) t ≡ true
  pub goes_on : first_choice s o p ds ≡ option_map (λ xs. bundles ++ xs) (first_choice_after s o p (drop place ds) t)

map-same : (r : Option (List (List ℕ))) → r ≡ option_map (λ xs. [] ++ xs) r
map-same None = refl
map-same (Some xs) = refl

pub way-start : (s o p : List ℕ) (ds : List (List (List ℕ))) (t : List ℕ) → t ≡ bundle_at s 0 → AtMost t s → can_clear s o p ds (bundle_at s 0) ≡ true → IsOnTheWay s o p ds 0 t []
way-start s o p ds t is within can =
    record {
      within = within;
      can = ap (can_clear s o p ds) is ∙ can;
      goes_on = sym (first_choice-after s o p ds) ∙ ap (first_choice_after s o p ds) (sym is) ∙ map-same (first_choice_after s o p ds t);
    }

pub way-none : (s o p : List ℕ) (ds : List (List (List ℕ))) → can_clear s o p ds (bundle_at s 0) ≡ false → first_choice s o p ds ≡ None
way-none s o p ds can = by (first_choice s o p ds) refl
  where
    by : (r : Option (List (List ℕ))) → first_choice s o p ds ≡ r → r ≡ None
    by None e = refl
    by (Some xs) e = absurd (let f : true ≡ false = sym (ap is_some (first_choice-after s o p ds ∙ e)) ∙ can in cc)

pub drop-at : {X : Type 0} (xs : List X) (i : ℕ) (x : X) → slice_get xs i ≡ Some x → drop i xs ≡ x ∷ drop (i + 1) xs
drop-at [] i x at = absurd (let f : None ≡ Some x = at in cc)
drop-at (y ∷ xs) zero x at = let s : y ≡ x = cc in ap (λ z. z ∷ xs) s
drop-at (y ∷ xs) (suc i) x at = drop-at xs i x at ∙ (let e : suc (i + 1) ≡ suc i + 1 = omega arith in ap (λ n. x ∷ drop n (y ∷ xs)) e)

map-more : (bundles : List (List ℕ)) (x : List ℕ) (r : Option (List (List ℕ))) → option_map (λ xs. bundles ++ xs) (option_map (λ xs. x ∷ xs) r) ≡ option_map (λ xs. (bundles ++ x ∷ []) ++ xs) r
map-more bundles x None = refl
map-more bundles x (Some xs) = ap Some (sym (append_assoc bundles (x ∷ []) xs))

-- one demand on
way-step : (s o p : List ℕ) (ds : List (List (List ℕ))) (place : ℕ) (t : List ℕ) (bundles : List (List ℕ)) (d : List (List ℕ)) (x next : List ℕ) → IsOnTheWay s o p ds place t bundles
    → slice_get ds place ≡ Some d → Leads s o p t x d (drop (place + 1) ds) → next ≡ plus t x → IsOnTheWay s o p ds (place + 1) next (bundles ++ x ∷ [])
way-step s o p ds place t bundles d x next way at led is =
    subst (λ (u : List ℕ). IsOnTheWay s o p ds (place + 1) u (bundles ++ x ∷ [])) (sym is) (record {
      within = led.within;
      can = led.can;
      goes_on =
          way.goes_on
          ∙ ap (λ rest. option_map (λ xs. bundles ++ xs) (first_choice_after s o p rest t)) (drop-at ds place d at)
          ∙ ap (option_map (λ xs. bundles ++ xs)) led.more
          ∙ map-more bundles x (first_choice_after s o p (drop (place + 1) ds) (plus t x));
    })

way-stuck : (s o p : List ℕ) (ds : List (List (List ℕ))) (place : ℕ) (t : List ℕ) (bundles : List (List ℕ)) (d : List (List ℕ)) → IsOnTheWay s o p ds place t bundles
    → slice_get ds place ≡ Some d → first_choice_after s o p (d ∷ drop (place + 1) ds) t ≡ None → first_choice s o p ds ≡ None
way-stuck s o p ds place t bundles d way at none =
    way.goes_on ∙ ap (λ rest. option_map (λ xs. bundles ++ xs) (first_choice_after s o p rest t)) (drop-at ds place d at) ∙ ap (option_map (λ xs. bundles ++ xs)) none

drop-all : {X : Type 0} (xs : List X) (i : ℕ) → length xs ≤ i → drop i xs ≡ []
drop-all [] zero long = refl
drop-all [] (suc i) long = refl
drop-all (x ∷ xs) zero long = absurd (omega arith)
drop-all (x ∷ xs) (suc i) long = drop-all xs i (omega arith)

after-last : (s o p t : List ℕ) → can_clear s o p [] t ≡ true → first_choice_after s o p [] t ≡ Some []
unfolding first_choice_after
after-last s o p t can = by (clears o p (plus t (sum_of s [])) s) refl can
  where
    by : (b : Bool) → clears o p (plus t (sum_of s [])) s ≡ b → is_some (find (λ xs. clears o p (plus t (sum_of s xs)) s) (choices [])) ≡ true → find (λ xs. clears o p (plus t (sum_of s xs)) s) (choices []) ≡ Some []
    by true e f = ap (λ b. cond {A = Option (List (List ℕ))} b (Some []) None) e
    by false e f = absurd (let g : false ≡ true = sym (ap (λ b. is_some (cond {A = Option (List (List ℕ))} b (Some []) None)) e) ∙ f in cc)

-- past the last demand
pub way-end : (s o p : List ℕ) (ds : List (List (List ℕ))) (place : ℕ) (t : List ℕ) (bundles : List (List ℕ)) → IsOnTheWay s o p ds place t bundles → length ds ≤ place → first_choice s o p ds ≡ Some bundles
way-end s o p ds place t bundles way long =
    let none = drop-all ds place long in
    let can : can_clear s o p [] t ≡ true = ap (λ rest. can_clear s o p rest t) (sym none) ∙ way.can in
    way.goes_on
    ∙ ap (λ rest. option_map (λ xs. bundles ++ xs) (first_choice_after s o p rest t)) none
    ∙ ap (option_map (λ xs. bundles ++ xs)) (after-last s o p t can)
    ∙ ap Some (append-nil bundles)

-- the tables, from the last demand back
pub reaches-one : (s o p : List ℕ) (ds : List (List (List ℕ))) (table : List Bool) → IsReach s o p [] table → AreReaches s o p ds 0 (table ∷ [])
reaches-one s o p ds table reach =
    record {
      count = refl;
      each = λ k other below.
          (let e : k ≡ 0 = omega arith in
          let long : length ds ≤ length ds - k = omega arith in
          let none : drop (length ds - k) ds ≡ [] = drop-all ds (length ds - k) long in
          subst (λ (rest : List (List (List ℕ))). IsReach s o p rest (get_or (table ∷ []) k other)) (sym none) (subst (λ (j : ℕ). IsReach s o p [] (get_or (table ∷ []) j other)) (sym e) reach));
    }

pub reaches-more : (s o p : List ℕ) (ds : List (List (List ℕ))) (done : ℕ) (tables : List (List Bool)) (d : List (List ℕ)) (table : List Bool) → done < length ds → slice_get ds (length ds - 1 - done) ≡ Some d
    → AreReaches s o p ds done tables → IsReach s o p (d ∷ drop (length ds - done) ds) table → AreReaches s o p ds (done + 1) (tables ++ table ∷ [])
reaches-more s o p ds done tables d table below at reaches reach =
    let row : drop (length ds - (done + 1)) ds ≡ d ∷ drop (length ds - done) ds =
    (let e : length ds - (done + 1) ≡ length ds - 1 - done = omega arith in
    let f : length ds - 1 - done + 1 ≡ length ds - done = omega arith in
    ap (λ n. drop n ds) e ∙ drop-at ds (length ds - 1 - done) d at ∙ ap (λ n. d ∷ drop n ds) f) in
    let here : IsReach s o p (drop (length ds - (done + 1)) ds) table = subst (λ (rest : List (List (List ℕ))). IsReach s o p rest table) (sym row) reach in
    record {
      count = (let e = length-append tables (table ∷ []) in let c = reaches.count in omega arith);
      each = λ k other less.
          get_or-more (λ j t. IsReach s o p (drop (length ds - j) ds) t) tables table other (done + 1) reaches.count (λ j lt. reaches.each j other (let c = reaches.count in omega arith)) here k
          (let e = length-append tables (table ∷ []) in let c = reaches.count in omega arith);
    }

-- a table of the list
pub reaches-at : (s o p : List ℕ) (ds : List (List (List ℕ))) (last k : ℕ) (tables : List (List Bool)) (table : List Bool) (rest : List (List (List ℕ))) → AreReaches s o p ds last tables → k ≤ last
    → table ≡ slice_index_or tables k table → drop (length ds - k) ds ≡ rest → IsReach s o p rest table
reaches-at s o p ds last k tables table rest reaches below is same =
    let at = reaches.each k table (let c = reaches.count in omega arith) in
    subst (λ (r : List (List (List ℕ))). IsReach s o p r table) same (subst (λ (t : List Bool). IsReach s o p (drop (length ds - k) ds) t) (sym is) at)

pub reaches-all : (s o p : List ℕ) (ds : List (List (List ℕ))) (tables : List (List Bool)) (table : List Bool) → AreReaches s o p ds (length ds) tables → table ≡ slice_index_or tables (length ds) table → IsReach s o p ds table
reaches-all s o p ds tables table reaches is =
    reaches-at s o p ds (length ds) (length ds) tables table ds reaches (omega arith) is (let e : length ds - length ds ≡ 0 = omega arith in ap (λ n. drop n ds) e)

reaches-behind : (s o p : List ℕ) (ds : List (List (List ℕ))) (tables : List (List Bool)) (table : List Bool) (place : ℕ) → AreReaches s o p ds (length ds) tables → place < length ds
    → table ≡ slice_index_or tables (length ds - 1 - place) table → IsReach s o p (drop (place + 1) ds) table
reaches-behind s o p ds tables table place reaches below is =
    reaches-at s o p ds (length ds) (length ds - 1 - place) tables table (drop (place + 1) ds) reaches (omega arith) is
    (let e : length ds - (length ds - 1 - place) ≡ place + 1 = omega arith in ap (λ n. drop n ds) e)

-- The demand at a place, the table of those after it, and what was found or not found by them.
record Turn (s o p : List ℕ) (ds : List (List (List ℕ))) (place : ℕ) (table : List Bool) (d : List (List ℕ)) : Type 0 where
  pub at : slice_get ds place ≡ Some d
  pub demand : IsDemand s d
  pub behind : IsReach s o p (drop (place + 1) ds) table

turn : (s o p : List ℕ) (ds : List (List (List ℕ))) (tables : List (List Bool)) (place : ℕ) (table : List Bool) (d : List (List ℕ)) → AllByRecursion (λ y. IsDemand s y) ds → AreReaches s o p ds (length ds) tables
    → place < length ds → table ≡ slice_index_or tables (length ds - 1 - place) table → d ≡ slice_index_or ds place d → Turn s o p ds place table d
turn s o p ds tables place table d demands reaches below table_is d_is =
    let at = slice_get_read ds (length ds) place d refl below d_is in
    record { at = at; demand = all-at (λ y. IsDemand s y) ds place d demands at; behind = reaches-behind s o p ds tables table place reaches below table_is }

pub way-leads : (s o p : List ℕ) (ds : List (List (List ℕ))) (tables : List (List Bool)) (place : ℕ) (table : List Bool) (d : List (List ℕ)) (t x : List ℕ) → AllByRecursion (λ y. IsDemand s y) ds
    → AreReaches s o p ds (length ds) tables → place < length ds → table ≡ slice_index_or tables (length ds - 1 - place) table → d ≡ slice_index_or ds place d → AtMost t s
    → Some x ≡ find (λ y. has_total s table (plus t y)) d → Leads s o p t x d (drop (place + 1) ds)
way-leads s o p ds tables place table d t x demands reaches below table_is d_is within found =
    let now = turn s o p ds tables place table d demands reaches below table_is d_is in
    leads s o p t d (drop (place + 1) ds) table x now.behind (length-below t s within) now.demand.in_box (sym found)

pub way-goes_on : (s o p : List ℕ) (ds : List (List (List ℕ))) (tables : List (List Bool)) (place : ℕ) (table : List Bool) (d : List (List ℕ)) (t x next : List ℕ) (bundles : List (List ℕ))
    → AllByRecursion (λ y. IsDemand s y) ds → AreReaches s o p ds (length ds) tables → place < length ds → table ≡ slice_index_or tables (length ds - 1 - place) table → d ≡ slice_index_or ds place d
    → IsOnTheWay s o p ds place t bundles → Some x ≡ find (λ y. has_total s table (plus t y)) d → next ≡ plus t x → IsOnTheWay s o p ds (place + 1) next (bundles ++ x ∷ [])
way-goes_on s o p ds tables place table d t x next bundles demands reaches below table_is d_is way found is =
    let now = turn s o p ds tables place table d demands reaches below table_is d_is in
    way-step s o p ds place t bundles d x next way now.at (way-leads s o p ds tables place table d t x demands reaches below table_is d_is way.within found) is

pub way-stops : (s o p : List ℕ) (ds : List (List (List ℕ))) (tables : List (List Bool)) (place : ℕ) (table : List Bool) (d : List (List ℕ)) (t : List ℕ) (bundles : List (List ℕ))
    → AllByRecursion (λ y. IsDemand s y) ds → AreReaches s o p ds (length ds) tables → place < length ds → table ≡ slice_index_or tables (length ds - 1 - place) table → d ≡ slice_index_or ds place d
    → IsOnTheWay s o p ds place t bundles → None ≡ find (λ y. has_total s table (plus t y)) d → first_choice s o p ds ≡ None
way-stops s o p ds tables place table d t bundles demands reaches below table_is d_is way missing =
    let now = turn s o p ds tables place table d demands reaches below table_is d_is in
    way-stuck s o p ds place t bundles d way now.at (leads-none s o p t d (drop (place + 1) ds) table now.behind (length-below t s way.within) now.demand.in_box (sym missing))
