-- Members of a clock who are taken in turn.
use Rattle.std.proofs.Common.{◌≡◌, ◌≢◌, ◌<◌, ◌≤◌, inl, inr, ℕ, ◌+◌, List, [], ◌∷◌, ◌++◌, length, get_or, set, refl, sym, ◌∙◌, ap, arith, subst}
use Rattle.std.proofs.lemmas.Bool.{cases_lt}
use Rattle.std.proofs.lemmas.List.{length-set, get_or-set_same, get_or-set_other, get_or_append_left, get_or_push}
use Rattle.trial.specs.Following.{Followed, IsSteady}
use Rattle.trial.specs.Rounds.{follower_at}
use Rattle.trial.proofs.Telling.{get-same}

-- the members so far are changed as they should be, and none of the others
pub record AreChanged (R : Followed → Followed → Type 0) (number place : ℕ) (old new : List Followed) : Type 0 where
  pub count : length new ≡ length old
  pub before : (k : ℕ) → k < place → k + 1 ≢ number → R (follower_at old k) (follower_at new k)
  pub behind : (k : ℕ) → place ≤ k → follower_at new k ≡ follower_at old k

pub none-changed : (R : Followed → Followed → Type 0) (number : ℕ) (old : List Followed) → AreChanged R number 0 old old
none-changed R number old = record { count = refl; before = λ k below member. absurd (omega arith); behind = λ k high. refl }

-- one member more
pub next-changed : (R : Followed → Followed → Type 0) (number place : ℕ) (old new next : List Followed) (other g : Followed) → AreChanged R number place old new → place < length old → next ≡ set new place g → R (get_or new place other) g →
    AreChanged R number (place + 1) old next
next-changed R number place old new next other g are inside is changed = record {
  count = ap length is ∙ length-set new place g ∙ are.count;
  before = λ k below member. elim (cases_lt k place) [
    | inl less ↦ subst (R (follower_at old k)) (sym (ap (λ l. follower_at l k) is ∙ get_or-set_other new place k g _ (λ e. absurd (omega (arith, e, less))))) (are.before k less member)
    | inr more ↦
        let e : place ≡ k = omega (arith, below, more) in
        let here : place < length new = (let c = are.count in omega (arith, c, inside)) in
        let was : get_or new place other ≡ follower_at old place = get-same new place other _ here ∙ are.behind place (omega arith) in
        let now : follower_at next place ≡ g = ap (λ l. follower_at l place) is ∙ get_or-set_same new place g _ here in
        subst (λ n. R (follower_at old n) (follower_at next n)) e (subst (R (follower_at old place)) (sym now) (subst (λ z. R z g) was changed))
  ];
  behind = λ k high. ap (λ l. follower_at l k) is ∙ get_or-set_other new place k g _ (λ e. absurd (omega (arith, e, high))) ∙ are.behind k (omega (arith, high));
}

-- the one whom the clock is without
pub skip-changed : (R : Followed → Followed → Type 0) (number place : ℕ) (old new next : List Followed) → AreChanged R number place old new → place + 1 ≡ number → next ≡ new → AreChanged R number (place + 1) old next
skip-changed R number place old new next are out is = record {
  count = ap length is ∙ are.count;
  before = λ k below member. elim (cases_lt k place) [
    | inl less ↦ subst (λ l. R (follower_at old k) (follower_at l k)) (sym is) (are.before k less member)
    | inr more ↦ (let e : k ≡ place = omega (arith, below, more) in absurd (member (ap (λ n. n + 1) e ∙ out)))
  ];
  behind = λ k high. ap (λ l. follower_at l k) is ∙ are.behind k (omega (arith, high));
}

-- the members so far stay for so many steps
pub record AreSteadyTo (number set steps place : ℕ) (followers : List Followed) : Type 0 where
  pub each : (k n : ℕ) → k < place → k + 1 ≢ number → n ≤ steps → IsSteady set n (follower_at followers k)

pub next-steady : (number goods steps least place : ℕ) (new next : List Followed) (g : Followed) → AreSteadyTo number goods steps place new → place < length new → next ≡ set new place g → least ≤ steps → ((n : ℕ) → n ≤ least → IsSteady goods n g) →
    AreSteadyTo number goods least (place + 1) next
next-steady number goods steps least place new next g are inside is low steady = record { each = each }
  where
    each : (k n : ℕ) → k < place + 1 → k + 1 ≢ number → n ≤ least → IsSteady goods n (follower_at next k)
    each k n below member few = elim (cases_lt k place) [
      | inl less ↦ subst (IsSteady goods n) (sym (ap (λ l. follower_at l k) is ∙ get_or-set_other new place k g _ (λ e. absurd (omega (arith, e, less))))) (are.each k n less member (omega (arith, few, low)))
      | inr more ↦
          let e : place ≡ k = omega (arith, below, more) in
          let now : follower_at next place ≡ g = ap (λ l. follower_at l place) is ∙ get_or-set_same new place g _ inside in
          subst (λ m. IsSteady goods n (follower_at next m)) e (subst (IsSteady goods n) (sym now) (steady n few))
    ]

pub skip-steady : (number goods steps place : ℕ) (new next : List Followed) → AreSteadyTo number goods steps place new → place + 1 ≡ number → next ≡ new → AreSteadyTo number goods steps (place + 1) next
skip-steady number goods steps place new next are out is = record { each = each }
  where
    each : (k n : ℕ) → k < place + 1 → k + 1 ≢ number → n ≤ steps → IsSteady goods n (follower_at next k)
    each k n below member few = elim (cases_lt k place) [
      | inl less ↦ subst (λ l. IsSteady goods n (follower_at l k)) (sym is) (are.each k n less member few)
      | inr more ↦ (let e : k ≡ place = omega (arith, below, more) in absurd (member (ap (λ n. n + 1) e ∙ out)))
    ]

-- one follower more at the end of a list
abbrev nobody : Followed
nobody = record { supply = []; worth = []; set = 0; owed = 0 }

pub next-pushed : (P : ℕ → Followed → Type 0) (place : ℕ) (followers next : List Followed) (f : Followed) → next ≡ followers ++ f ∷ [] → length followers ≡ place → ((k : ℕ) → k < place → P k (follower_at followers k)) → P place f → (k : ℕ) → k < place + 1 → P k (follower_at next k)
next-pushed P place followers next f is long before last k below = elim (cases_lt k place) [
  | inl less ↦ subst (P k) (sym (ap (λ l. get_or l k nobody) is ∙ get_or_append_left followers (f ∷ []) nobody k (let h : k < length followers = omega (arith, less, long) in h))) (before k less)
  | inr more ↦
      let e : place ≡ k = omega (arith, below, more) in
      subst (λ n. P n (follower_at next n)) e (subst (P place) (sym (ap (λ l. get_or l place nobody) is ∙ get_or_push followers f nobody place long)) last)
]
