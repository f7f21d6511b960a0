-- What is found among the reports of a trial.
use Rattle.std.proofs.Common.{◌≡◌, ◌≢◌, ◌<◌, ◌≤◌, ℕ, zero, suc, ◌+◌, Bool, true, false, not, ◌&&◌, nat_eq, cond, List, [], ◌∷◌, ◌++◌, Option, Some, None, is_some, refl, sym, ◌∙◌, ap, arith, append_assoc}
use Rattle.std.specs.Prelude.{find, option_map, ℤ}
use Rattle.std.specs.List.{AllByRecursion, range_with_len}
use Rattle.std.proofs.lemmas.Bool.Decides.{nat_tests}
use Rattle.lot_base.specs.declared.auction_terms.Terms.{Terms}
use Rattle.lot_base.specs.Economy.{without}
use Rattle.demand_set.specs.declared.reports.Report.{Report}
use Rattle.clock.specs.Reports.{is_named, demand_in, is_full}
use Rattle.clock.proofs.Append.{absent-beyond}
use Rattle.trial.specs.Trials.{true_report, round_reports}

-- each of two lists
pub all-both : {A : Type 0} (P : A → Type 0) (xs ys : List A) → AllByRecursion P xs → AllByRecursion P ys → AllByRecursion P (xs ++ ys)
all-both P [] ys a b = b
all-both P (x ∷ xs) ys a b = (a.0, all-both P xs ys a.1 b)

pub all-more : {A : Type 0} (P Q : A → Type 0) (xs : List A) → ((x : A) → P x → Q x) → AllByRecursion P xs → AllByRecursion Q xs
all-more P Q [] f a = tt
all-more P Q (x ∷ xs) f a = (f x a.0, all-more P Q xs f a.1)

-- what is found in the first of two lists, else in the second
pub find-before : {X : Type 0} (test : X → Bool) (xs ys : List X) → find test ys ≡ None → find test (xs ++ ys) ≡ find test xs
find-before test [] ys e = e
find-before {X} test (x ∷ xs) ys e = by (test x) (find-before test xs ys e)
  where
    by : (b : Bool) → find test (xs ++ ys) ≡ find test xs → cond b (Some x) (find test (xs ++ ys)) ≡ cond b (Some x) (find test xs)
    by true rest = refl
    by false rest = rest

pub find-after : {X : Type 0} (test : X → Bool) (xs ys : List X) → find test xs ≡ None → find test (xs ++ ys) ≡ find test ys
find-after test [] ys e = refl
find-after {X} test (x ∷ xs) ys e = by (test x) (find-after test xs ys) e
  where
    by : (b : Bool) → (find test xs ≡ None → find test (xs ++ ys) ≡ find test ys) → cond b (Some x) (find test xs) ≡ None → cond b (Some x) (find test (xs ++ ys)) ≡ find test ys
    by true rest f = absurd (let g : Some x ≡ None = f in cc)
    by false rest f = rest f

pub some-before : {X : Type 0} (test : X → Bool) (xs ys : List X) → is_some (find test xs) ≡ true → is_some (find test (xs ++ ys)) ≡ true
some-before test [] ys e = absurd (let f : false ≡ true = e in cc)
some-before {X} test (x ∷ xs) ys e = by (test x) (some-before test xs ys) e
  where
    by : (b : Bool) → (is_some (find test xs) ≡ true → is_some (find test (xs ++ ys)) ≡ true) → is_some (cond b (Some x) (find test xs)) ≡ true → is_some (cond b (Some x) (find test (xs ++ ys))) ≡ true
    by true rest f = refl
    by false rest f = rest f

pub some-last : {X : Type 0} (test : X → Bool) (xs : List X) (x : X) → test x ≡ true → is_some (find test (xs ++ x ∷ [])) ≡ true
some-last test [] x e = ap (λ b. is_some (cond b (Some x) None)) e
some-last {X} test (y ∷ xs) x e = by (test y) (some-last test xs x e)
  where
    by : (b : Bool) → is_some (find test (xs ++ x ∷ [])) ≡ true → is_some (cond b (Some y) (find test (xs ++ x ∷ []))) ≡ true
    by true rest = refl
    by false rest = rest

pub mapped-some : {A B : Type 0} (f : A → B) (o : Option A) → is_some (option_map f o) ≡ is_some o
mapped-some f None = refl
mapped-some f (Some x) = refl

-- the members are among the bidders up to the last one
pub members-up_to : (last a n number : ℕ) → a + n ≤ last + 1 → AllByRecursion (λ j. j ≤ last) (without number (range_with_len a n))
members-up_to last a zero number e = tt
members-up_to last a (suc n) number e = by (not (nat_eq a number)) (members-up_to last (a + 1) n number (omega arith))
  where
    by : (b : Bool) → AllByRecursion (λ j. j ≤ last) (without number (range_with_len (a + 1) n)) → AllByRecursion (λ j. j ≤ last) (cond b (a ∷ without number (range_with_len (a + 1) n)) (without number (range_with_len (a + 1) n)))
    by true rest = (omega arith, rest)
    by false rest = rest

-- no report of a round is by a bidder after those who report
pub none-behind : (terms : Terms) (u : ℕ → List ℕ → ℤ) (t : ℕ) (p js : List ℕ) (last round b : ℕ) → AllByRecursion (λ j. j ≤ last) js → last < b → find (is_named round b) (round_reports terms u t p js) ≡ None
none-behind terms u t p [] last round b all behind = refl
none-behind terms u t p (j ∷ js) last round b all behind =
    let low = all.0 in
    let other : nat_eq j b ≡ false = grind (arith, nat_tests) in
    let r = true_report terms u t p j in
    let rest = none-behind terms u t p js last round b all.1 behind in
    by (nat_eq t round) other rest r
  where
    by : (x : Bool) → nat_eq j b ≡ false → find (is_named round b) (round_reports terms u t p js) ≡ None → (r : Report)
        → cond (x && nat_eq j b) (Some r) (find (is_named round b) (round_reports terms u t p js)) ≡ None
    by true other rest r = ap (λ v. cond v (Some r) (find (is_named round b) (round_reports terms u t p js))) other ∙ rest
    by false other rest r = rest

-- none of a round is of another round
pub none-apart : (terms : Terms) (u : ℕ → List ℕ → ℤ) (t : ℕ) (p js : List ℕ) (round b : ℕ) → t ≢ round → find (is_named round b) (round_reports terms u t p js) ≡ None
none-apart terms u t p [] round b apart = refl
none-apart terms u t p (j ∷ js) round b apart =
    let other : nat_eq t round ≡ false = grind (arith, nat_tests) in
    ap (λ v. cond (v && nat_eq j b) (Some (true_report terms u t p j)) (find (is_named round b) (round_reports terms u t p js))) other ∙ none-apart terms u t p js round b apart

-- a round that was told is full
pub full-told : (terms : Terms) (u : ℕ → List ℕ → ℤ) (t : ℕ) (p : List ℕ) (js : List ℕ) (reports : List Report) → is_full js (reports ++ round_reports terms u t p js) t ≡ true
full-told terms u t p [] reports = refl
full-told terms u t p (j ∷ js) reports =
    let r = true_report terms u t p j in
    let rest = round_reports terms u t p js in
    let same : (reports ++ r ∷ []) ++ rest ≡ reports ++ r ∷ rest = append_assoc reports (r ∷ []) rest in
    let t-same : nat_eq t t ≡ true = grind (arith, nat_tests) in
    let j-same : nat_eq j j ≡ true = grind (arith, nat_tests) in
    let named : is_named t j r ≡ true = (λ i. t-same i && j-same i) in
    let here : is_some (demand_in ((reports ++ r ∷ []) ++ rest) t j) ≡ true = mapped-some (λ (x : Report). x.demand) (find (is_named t j) ((reports ++ r ∷ []) ++ rest)) ∙ some-before (is_named t j) (reports ++ r ∷ []) rest (some-last (is_named t j) reports r named) in
    let others = full-told terms u t p js (reports ++ r ∷ []) in
    ap (λ xs. is_full (j ∷ js) xs t) (sym same) ∙ (λ i. here i && others i)

-- nobody has reported in a round beyond, so it is not full where there is a member
pub open-beyond : (j : ℕ) (js : List ℕ) (reports : List Report) (limit round : ℕ) → limit < round → AllByRecursion (λ (x : Report). x.round ≤ limit) reports → is_full (j ∷ js) reports round ≡ false
open-beyond j js reports limit round beyond past =
    ap (λ o. is_some (option_map (λ (r : Report). r.demand) o) && is_full js reports round) (absent-beyond limit round j reports beyond past)
