-- What is looked up in what a clock keeps.
use Rattle.std.proofs.Common.{◌≡◌, ◌≢◌, ◌<◌, ◌≤◌, ◌⊎◌, inl, inr, ℕ, zero, suc, ◌+◌, ◌-◌, ◌*◌, Bool, true, nat_eq, List, [], ◌∷◌, ◌++◌, length, length-append, take, drop, get_or, Option, Some, None, refl, sym, ◌∙◌, ap, subst, arith}
use Rattle.std.specs.Prelude.{find, option_map, slice_index, ℤ}
use Rattle.std.proofs.lemmas.Bool.{cases_eq, cases_lt}
use Rattle.std.proofs.lemmas.List.{take-append-le, take_all, take_more, map-append, length-map}
use Rattle.lot_base.specs.Goods.{AllBelow, raised}
use Rattle.lot_base.specs.declared.phases.Phase.{Phase}
use Rattle.lot_base.specs.declared.supply.GoodSet.{GoodSet}
use Rattle.lot_base.specs.declared.tables.LeastTable.{LeastTable}
use Rattle.lyapunov.specs.Paths.{prices_along}
use Rattle.lyapunov.proofs.Growing.{prices_along-append}
use Rattle.credit_book.specs.Account.{Sums}
use Rattle.demand_set.specs.Same.{same_demand}
use Rattle.demand_set.specs.declared.reports.Report.{Report}
use Rattle.clock.specs.Reports.{ClockHistory, set_numbers, is_named, demand_in, members_of}
use Rattle.clock.specs.Standing.{sets_of, step_set_after, prices_after, leads_on}
use Rattle.clock.specs.Kept.{HasStanding, KeepsRound, reports_before}
use Rattle.clock.proofs.Current.{demand-current}
use Rattle.clock.proofs.InOrder.{find-in_order}
use Rattle.clock.proofs.Next.{can-raise}
use Rattle.clock.proofs.Taking.{count-reports}
use Rattle.clock.proofs.Truthful.{length-sets_of, prices-along}

-- in the last or current round
pub present-demand : (c : ClockHistory) (present : List Report) (left steps : ℕ) (phase : Phase) (prices : List ℕ) (account : Sums) (tables : List (Option LeastTable)) (sums : List ℤ) (round j : ℕ) → HasStanding c (reports_before c steps) steps phase prices account → KeepsRound c present left steps tables sums
    → round ≡ steps + 1 → demand_in present round j ≡ demand_in c.reports round j
present-demand c present left steps phase prices account tables sums round j k r e =
    ap (λ t. demand_in present t j) e ∙ demand-current (reports_before c steps) steps j c.reports present k.past r.present_are ∙ ap (λ t. demand_in c.reports t j) (sym e)

twice : {A B C : Type 0} (f : B → C) (g : A → B) (o : Option A) → option_map f (option_map g o) ≡ option_map (λ x. f (g x)) o
twice f g None = refl
twice f g (Some x) = refl

no-reports : (reports : List Report) → length reports ≡ 0 → reports ≡ []
no-reports [] e = refl
no-reports (r ∷ reports) e = absurd (omega arith)

none-among : (test : Report → Bool) (m from : ℕ) → find test (take m (drop from [])) ≡ None
none-among test zero from = refl
none-among test (suc m) zero = refl
none-among test (suc m) (suc from) = refl

-- in an earlier round
pub past-demand : (c : ClockHistory) (present : List Report) (left steps : ℕ) (phase : Phase) (prices : List ℕ) (account : Sums) (tables : List (Option LeastTable)) (sums : List ℤ) (round b : ℕ) (demand : List (List ℕ)) → HasStanding c (reports_before c steps) steps phase prices account
    → KeepsRound c present left steps tables sums → 1 ≤ round
    → option_map (λ (r : Report). same_demand r.demand demand) (find (λ (r : Report). nat_eq r.bidder b) (take (length (members_of c)) (drop ((round - 1) * length (members_of c)) c.reports)))
    ≡ option_map (λ before. same_demand before demand) (demand_in c.reports round b)
past-demand c present left steps phase prices account tables sums round b demand k r one = by (cases_eq (length (members_of c)) 0)
  where
    by : (length (members_of c) ≡ 0) ⊎ (length (members_of c) ≢ 0)
        → option_map (λ (r : Report). same_demand r.demand demand) (find (λ (r : Report). nat_eq r.bidder b) (take (length (members_of c)) (drop ((round - 1) * length (members_of c)) c.reports)))
        ≡ option_map (λ before. same_demand before demand) (demand_in c.reports round b)
    by (inl nobody) =
        let n = count-reports c present left steps 0 phase prices account tables sums k r in
        let z : steps * length (members_of c) ≡ 0 = ap (λ m. steps * m) nobody ∙ omega arith in
        let none = no-reports c.reports (omega (arith, n, z, nobody, r.counted)) in
        ap (λ rs. option_map (λ (r : Report). same_demand r.demand demand) (find (λ (r : Report). nat_eq r.bidder b) (take (length (members_of c)) (drop ((round - 1) * length (members_of c)) rs)))) none
        ∙ ap (option_map (λ (r : Report). same_demand r.demand demand)) (none-among (λ (r : Report). nat_eq r.bidder b) (length (members_of c)) ((round - 1) * length (members_of c)))
        ∙ sym (ap (λ rs. option_map (λ before. same_demand before demand) (demand_in rs round b)) none)
    by (inr some) =
        ap (option_map (λ (r : Report). same_demand r.demand demand)) (sym (find-in_order (length (members_of c)) round b c.reports (omega (arith, some)) one r.in_order))
        ∙ sym (twice (λ before. same_demand before demand) (λ (r : Report). r.demand) (find (is_named round b) c.reports))

-- the first step sets
pub take-sets : (c : ClockHistory) (n k : ℕ) → k ≤ n → take k (sets_of c n) ≡ sets_of c k
unfolding sets_of
take-sets c zero zero up = refl
take-sets c zero (suc k) up = absurd (omega arith)
take-sets c (suc n) k up = by (λ less. take-sets c n k less) (cases_lt n k)
  where
    by : (k ≤ n → take k (sets_of c n) ≡ sets_of c k) → (n < k) ⊎ (k ≤ n) → take k (sets_of c n ++ step_set_after c n ∷ []) ≡ sets_of c k
    by rest (inl last) =
        let e : k ≡ suc n = omega (arith, last, up) in
        let l = length-append (sets_of c n) (step_set_after c n ∷ []) in
        let m = length-sets_of c n in
        take_all k (sets_of c n ++ step_set_after c n ∷ []) (omega (arith, l, m, e)) ∙ ap (sets_of c) (sym e)
    by rest (inr less) = take-append-le k (sets_of c n) (step_set_after c n ∷ []) (let m = length-sets_of c n in omega (arith, m, less)) ∙ rest less

numbers-take : (k : ℕ) (sets : List GoodSet) → set_numbers (take k sets) ≡ take k (set_numbers sets)
numbers-take zero sets = refl
numbers-take (suc k) [] = refl
numbers-take (suc k) (s ∷ sets) = ap (λ xs. s.0 ∷ xs) (numbers-take k sets)

pub numbers-get : (sets : List GoodSet) (k : ℕ) → slice_index (set_numbers sets) k ≡ (get_or sets k (record { 0 = 0 })).0
numbers-get [] zero = refl
numbers-get [] (suc k) = refl
numbers-get (s ∷ sets) zero = refl
numbers-get (s ∷ sets) (suc k) = numbers-get sets k

take-take : (n k : ℕ) (xs : List ℕ) → n ≤ k → take n (take k xs) ≡ take n xs
take-take zero k xs up = refl
take-take (suc n) zero xs up = absurd (omega arith)
take-take (suc n) (suc k) [] up = refl
take-take (suc n) (suc k) (x ∷ xs) up = ap (λ ys. x ∷ ys) (take-take n k xs (omega arith))

get-take : (n k : ℕ) (xs : List ℕ) → n < k → slice_index (take k xs) n ≡ slice_index xs n
get-take n zero xs below = absurd (omega arith)
get-take zero (suc k) [] below = refl
get-take (suc n) (suc k) [] below = refl
get-take zero (suc k) (x ∷ xs) below = refl
get-take (suc n) (suc k) (x ∷ xs) below = get-take n k xs (omega arith)

pub get-sets : (c : ClockHistory) (n k : ℕ) → k < n → slice_index (sets_of c n) k ≡ step_set_after c k
unfolding sets_of
get-sets c zero k below = absurd (omega arith)
get-sets c (suc n) k below = by (λ less. get-sets c n k less) (cases_lt k n)
  where
    last : (xs : List ℕ) (x i : ℕ) → i ≡ length xs → slice_index (xs ++ x ∷ []) i ≡ x
    last [] x i e = ap (slice_index (x ∷ [])) e
    last (y ∷ xs) x zero e = absurd (omega arith)
    last (y ∷ xs) x (suc i) e = last xs x i (omega arith)

    front : (xs : List ℕ) (x i : ℕ) → i < length xs → slice_index (xs ++ x ∷ []) i ≡ slice_index xs i
    front [] x i below = absurd (omega arith)
    front (y ∷ xs) x zero below = refl
    front (y ∷ xs) x (suc i) below = front xs x i (omega arith)

    by : (k < n → slice_index (sets_of c n) k ≡ step_set_after c k) → (k < n) ⊎ (n ≤ k) → slice_index (sets_of c n ++ step_set_after c n ∷ []) k ≡ step_set_after c k
    by rest (inl less) = front (sets_of c n) (step_set_after c n) k (let m = length-sets_of c n in omega (arith, m, less)) ∙ rest less
    by rest (inr here) =
        let e : k ≡ n = omega (arith, below, here) in
        last (sets_of c n) (step_set_after c n) k (let m = length-sets_of c n in omega (arith, m, e)) ∙ ap (step_set_after c) (sym e)

-- the prices of a round
pub along-kept : (c : ClockHistory) (sets : List GoodSet) (steps k : ℕ) → set_numbers sets ≡ sets_of c steps → k ≤ steps → prices_along c.terms.opening (set_numbers (take k sets)) ≡ prices_after c k
along-kept c sets steps k is up =
    ap (prices_along c.terms.opening) (numbers-take k sets ∙ ap (take k) is ∙ take-sets c steps k up) ∙ sym (prices-along c k)

pub along-below : (c : ClockHistory) (sets : List GoodSet) (steps k n : ℕ) → set_numbers sets ≡ sets_of c steps → ((m : ℕ) → m < steps → leads_on c m ≡ true) → k ≤ steps → n < k
    → AllBelow 4294967295 (prices_along c.terms.opening (set_numbers (take n (take k sets)))) (slice_index (set_numbers (take k sets)) n)
along-below c sets steps k n is path up below =
    let a : prices_along c.terms.opening (set_numbers (take n (take k sets))) ≡ prices_after c n =
    ap (prices_along c.terms.opening) (numbers-take n (take k sets) ∙ ap (take n) (numbers-take k sets) ∙ take-take n k (set_numbers sets) (omega (arith, below)) ∙ sym (numbers-take n sets))
    ∙ along-kept c sets steps n is (omega (arith, below, up)) in
    let b : slice_index (set_numbers (take k sets)) n ≡ step_set_after c n =
    ap (λ xs. slice_index xs n) (numbers-take k sets) ∙ get-take n k (set_numbers sets) below ∙ ap (λ xs. slice_index xs n) is ∙ get-sets c steps n (omega (arith, below, up)) in
    let P : List ℕ → Type 0 = λ ps. AllBelow 4294967295 ps (slice_index (set_numbers (take k sets)) n) in
    let Q : ℕ → Type 0 = λ s. AllBelow 4294967295 (prices_after c n) s in
    subst P (sym a) (subst Q (sym b) (can-raise c n (step_set_after c n) (λ m less. path m (omega (arith, less, below, up)))))

-- one set more
pub along-next : (opening : List ℕ) (sets : List GoodSet) (k : ℕ) → k < length sets → raised (prices_along opening (set_numbers (take k sets))) (get_or sets k (record { 0 = 0 })).0 ≡ prices_along opening (set_numbers (take (k + 1) sets))
along-next opening sets k below =
    sym (prices_along-append opening (set_numbers (take k sets)) (get_or sets k (record { 0 = 0 })).0)
    ∙ ap (prices_along opening) (sym (map-append (λ (s : GoodSet). s.0) (take k sets) (get_or sets k (record { 0 = 0 }) ∷ [])) ∙ ap set_numbers (sym (take_more sets k (record { 0 = 0 }) below)))

-- as many sets as steps
pub count-sets : (c : ClockHistory) (sets : List GoodSet) (steps : ℕ) → set_numbers sets ≡ sets_of c steps → length sets ≡ steps
count-sets c sets steps is = sym (length-map sets (λ (s : GoodSet). s.0)) ∙ ap length is ∙ length-sets_of c steps
