-- What is kept of the clocks, in a list.
use Rattle.std.proofs.Common.{◌≡◌, ◌≢◌, ℕ, zero, suc, ◌+◌, ◌-◌, ◌<◌, ◌≤◌, ◌==◌, Bool, true, false, not, ◌&&◌, List, [], ◌∷◌, length, drop, get_or, set, replicate, Option, Some, refl, sym, ◌∙◌, ap, subst, arith, if◌then◌else◌}
use Rattle.bidder_agent.specs.Talks.{Part, Exchange, is_open, first_open, next_clock, or_else}
use Rattle.bidder_agent.specs.Knowing.{Knows, KnowsAll, unseen, open_in, weight, weigh}
use Rattle.bidder_agent.specs.declared.knowing.Known.{Known}

-- one clock after another
pub open_here : (who clock : ℕ) (k : Known) (ks : List Known) → (not (clock == who) && not k.closed) ≡ true → open_in who clock (k ∷ ks) ≡ Some clock
open_here who clock k ks e = ap (λ (b : Bool). if b then Some clock else open_in who (clock + 1) ks) e

pub closed_here : (who clock : ℕ) (k : Known) (ks : List Known) → (not (clock == who) && not k.closed) ≡ false → open_in who clock (k ∷ ks) ≡ open_in who (clock + 1) ks
closed_here who clock k ks e = ap (λ (b : Bool). if b then Some clock else open_in who (clock + 1) ks) e

pub drop_at : (ks : List Known) (i : ℕ) (d : Known) → i < length ks → drop i ks ≡ get_or ks i d ∷ drop (i + 1) ks
drop_at [] i d lt = absurd (omega arith)
drop_at (k ∷ ks) zero d lt = refl
drop_at (k ∷ ks) (suc i) d lt =
    let e : suc (i + 1) ≡ suc i + 1 = omega arith in
    drop_at ks i d (omega arith) ∙ ap (λ (n : ℕ). get_or ks i d ∷ drop n (k ∷ ks)) e

pub drop_none : (ks : List Known) (i : ℕ) → length ks ≤ i → drop i ks ≡ []
drop_none [] zero le = refl
drop_none [] (suc i) le = refl
drop_none (k ∷ ks) zero le = absurd (omega arith)
drop_none (k ∷ ks) (suc i) le = drop_none ks i (omega arith)

-- the open clocks are those of the talk
pub open_is : (looks who clock : ℕ) (talk : List Exchange) (ks : List Known) → KnowsAll looks clock talk ks → open_in who clock ks ≡ first_open (is_open who talk) clock (length ks)
open_is looks who clock talk [] all = refl
open_is looks who clock talk (k ∷ ks) all =
    (λ i. if not (clock == who) && not (sym all.0.closed i) then Some clock else open_in who (clock + 1) ks)
    ∙ ap (λ (o : Option ℕ). if is_open who talk clock then Some clock else o) (open_is looks who (clock + 1) talk ks all.1)

pub known_drop : (looks clock : ℕ) (talk : List Exchange) (ks : List Known) (i : ℕ) → KnowsAll looks clock talk ks → KnowsAll looks (clock + i) talk (drop i ks)
known_drop looks clock talk [] zero all = tt
known_drop looks clock talk [] (suc i) all = tt
known_drop looks clock talk (k ∷ ks) zero all = subst (λ (n : ℕ). KnowsAll looks n talk (k ∷ ks)) (let e : clock ≡ clock + 0 = omega arith in e) all
known_drop looks clock talk (k ∷ ks) (suc i) all =
    let e : clock + 1 + i ≡ clock + suc i = omega arith in
    subst (λ (n : ℕ). KnowsAll looks n talk (drop i ks)) e (known_drop looks (clock + 1) talk ks i all.1)

pub drop_length : (ks : List Known) (i : ℕ) → length (drop i ks) ≡ length ks - i
drop_length [] zero = refl
drop_length [] (suc i) = omega arith
drop_length (k ∷ ks) zero = omega arith
drop_length (k ∷ ks) (suc i) = (let e : length ks - i ≡ length (k ∷ ks) - suc i = omega arith in drop_length ks i ∙ e)

pub next_is : (p : Part) (talk : List Exchange) (ks : List Known) (from : ℕ) → KnowsAll p.looks 0 talk ks → length ks ≡ p.bidders + 1
    → or_else (open_in p.who from (drop from ks)) (open_in p.who 0 ks) ≡ next_clock p talk from
next_is p talk ks from all size =
    let a : open_in p.who from (drop from ks) ≡ first_open (is_open p.who talk) from (length (drop from ks)) = open_is p.looks p.who from talk (drop from ks) (subst (λ (m : ℕ). KnowsAll p.looks m talk (drop from ks)) (let z : 0 + from ≡ from = omega arith in z) (known_drop p.looks 0 talk ks from all)) in
    let b : open_in p.who 0 ks ≡ first_open (is_open p.who talk) 0 (length ks) = open_is p.looks p.who 0 talk ks all in
    let n : length (drop from ks) ≡ p.bidders + 1 - from = drop_length ks from ∙ ap (λ (m : ℕ). m - from) size in
    (λ i. or_else ((a ∙ ap (λ (m : ℕ). first_open (is_open p.who talk) from m) n) i) ((b ∙ ap (λ (m : ℕ). first_open (is_open p.who talk) 0 m) size) i))

-- what is kept of one clock
pub known_at : (looks clock : ℕ) (talk : List Exchange) (ks : List Known) (i : ℕ) (d : Known) → i < length ks → KnowsAll looks clock talk ks → Knows looks (clock + i) talk (get_or ks i d)
known_at looks clock talk [] i d lt all = absurd (omega arith)
known_at looks clock talk (k ∷ ks) zero d lt all = subst (λ (n : ℕ). Knows looks n talk k) (let e : clock ≡ clock + 0 = omega arith in e) all.0
known_at looks clock talk (k ∷ ks) (suc i) d lt all =
    let e : clock + 1 + i ≡ clock + suc i = omega arith in
    subst (λ (n : ℕ). Knows looks n talk (get_or ks i d)) e (known_at looks (clock + 1) talk ks i d (omega arith) all.1)

others_known : (looks clock at : ℕ) (talk later : List Exchange) (ks : List Known) → at < clock → ((c : ℕ) (k : Known) → c ≢ at → Knows looks c talk k → Knows looks c later k) → KnowsAll looks clock talk ks → KnowsAll looks clock later ks
others_known looks clock at talk later [] lt f all = tt
others_known looks clock at talk later (k ∷ ks) lt f all = (f clock k (λ e. (let g : clock ≡ at = e in omega arith)) all.0, others_known looks (clock + 1) at talk later ks (omega arith) f all.1)

pub known_set : (looks clock : ℕ) (talk later : List Exchange) (ks : List Known) (i : ℕ) (k : Known) → ((c : ℕ) (other : Known) → c ≢ clock + i → Knows looks c talk other → Knows looks c later other)
    → Knows looks (clock + i) later k → KnowsAll looks clock talk ks → KnowsAll looks clock later (set ks i k)
known_set looks clock talk later [] zero k f one all = tt
known_set looks clock talk later [] (suc i) k f one all = tt
known_set looks clock talk later (x ∷ xs) zero k f one all =
    let e : clock + 0 ≡ clock = omega arith in
    (subst (λ (n : ℕ). Knows looks n later k) e one, others_known looks (clock + 1) (clock + 0) talk later xs (omega arith) f all.1)
known_set looks clock talk later (x ∷ xs) (suc i) k f one all =
    let e : clock + suc i ≡ clock + 1 + i = omega arith in (
      f clock x (λ d. (let g : clock ≡ clock + suc i = d in omega arith)) all.0,
      known_set looks (clock + 1) talk later xs i k (λ c o n. f c o (λ d. n (d ∙ e))) (subst (λ (n : ℕ). Knows looks n later k) e one) all.1,
    )

pub set_length : (ks : List Known) (i : ℕ) (k : Known) → length (set ks i k) ≡ length ks
set_length [] zero k = refl
set_length [] (suc i) k = refl
set_length (x ∷ xs) zero k = refl
set_length (x ∷ xs) (suc i) k = ap (λ (n : ℕ). suc n) (set_length xs i k)

pub weigh_set : (ks : List Known) (i : ℕ) (k d : Known) → i < length ks → weight k < weight (get_or ks i d) → weigh (set ks i k) < weigh ks
weigh_set [] i k d lt less = absurd (omega arith)
weigh_set (x ∷ xs) zero k d lt less = (let l : weight k < weight x = less in omega (arith, l))
weigh_set (x ∷ xs) (suc i) k d lt less = (let r : weigh (set xs i k) < weigh xs = weigh_set xs i k d (omega arith) less in omega (arith, r))

pub known_none : (looks clock n : ℕ) → 1 ≤ looks → KnowsAll looks clock [] (replicate n unseen)
known_none looks clock zero le = tt
known_none looks clock (suc n) le = (record { closed = refl; last = refl; repeats = refl; below = omega (arith, le); reported = λ round. refl }, known_none looks (clock + 1) n le)

pub next_step : (who clock : ℕ) (ks : List Known) → clock < length ks → (not (clock == who) && not (get_or ks clock unseen).closed) ≡ false → open_in who clock (drop clock ks) ≡ open_in who (clock + 1) (drop (clock + 1) ks)
next_step who clock ks lt e = ap (λ (l : List Known). open_in who clock l) (drop_at ks clock unseen lt) ∙ closed_here who clock (get_or ks clock unseen) (drop (clock + 1) ks) e

pub get_any : (ks : List Known) (i : ℕ) (d e : Known) → i < length ks → get_or ks i d ≡ get_or ks i e
get_any [] i d e lt = absurd (omega arith)
get_any (k ∷ ks) zero d e lt = refl
get_any (k ∷ ks) (suc i) d e lt = get_any ks i d e (omega arith)
