-- Prices that moved, and the bidders that follow them.
use Rattle.std.proofs.Common.{◌≡◌, ◌<◌, ◌≤◌, inl, inr, ℕ, zero, suc, ◌+◌, ◌-◌, ◌*◌, ◌/◌, ◌%◌, ◌^◌, false, cond, nat_eq, List, [], ◌∷◌, ◌++◌, length, drop, get_or, refl, sym, ◌∙◌, ap, arith, subst}
use Rattle.std.specs.Prelude.{slice_index, slice_index_or, slice_set, ℤ, OnOk, Result, Ok, Err}
use Rattle.std.proofs.lemmas.Bool.{cases_lt}
use Rattle.std.proofs.lemmas.List.{length-append, length-set, get_or-set_same, get_or-set_other, get_or_append_left, get_or_push}
use Rattle.lot_base.specs.Goods.{raised}
use Rattle.lot_base.specs.Economy.{demand}
use Rattle.lot_base.specs.declared.auction_terms.Terms.{Terms}
use Rattle.valuation.specs.Values.{valuation_of}
use Rattle.trial.specs.Bidding.{bidders_of}
use Rattle.trial.specs.Following.{Follows}
use Rattle.trial.proofs.Risen.{from-place}
use Rattle.trial.proofs.Telling.{get-same}
use Rattle.two_way.specs.Bidding.{bidder_in, IsBidder, AreBidders, AreRenewed, AreRisen, IsRenewed, IsRisen, HaveFollowed}
use Rattle.two_way.specs.declared.bidding.Bidder.{Bidder}

-- what follows from what holds where a call went well
pub OnOk-weaker : {X E : Type 0} (P Q : Type 0) → (P → Q) → (r : Result X E) → OnOk r P → OnOk r Q
OnOk-weaker P Q more (Ok x) h = more h
OnOk-weaker P Q more (Err e) h = tt

-- one good more, from the last on
raised-here : (a b bit old : ℕ) (later earlier : List ℕ) → bit ≤ 1 → a ≡ b + bit → later ≡ raised earlier old → a ∷ later ≡ raised (b ∷ earlier) (old * 2 + bit)
raised-here a b bit old later earlier few rose rest =
    let half : (old * 2 + bit) / 2 ≡ old = omega arith in
    let odd : (old * 2 + bit) % 2 ≡ bit = omega arith in
    let first : a ≡ cond (nat_eq ((old * 2 + bit) % 2) 1) (b + 1) b = rose ∙ by bit few ∙ ap (λ d. cond (nat_eq d 1) (b + 1) b) (sym odd) in
    (λ i. first i ∷ (rest ∙ ap (raised earlier) (sym half)) i)
  where
    by : (n : ℕ) → n ≤ 1 → b + n ≡ cond (nat_eq n 1) (b + 1) b
    by zero few = omega arith
    by (suc zero) few = omega arith
    by (suc (suc n)) few = absurd (omega arith)

pub raised-next : (before after : List ℕ) (n place bit old : ℕ) → length before ≡ n → length after ≡ n → place < n → bit ≤ 1
    → slice_index after (n - 1 - place) ≡ slice_index before (n - 1 - place) + bit
    → drop (n - place) after ≡ raised (drop (n - place) before) old → drop (n - (place + 1)) after ≡ raised (drop (n - (place + 1)) before) (old * 2 + bit)
raised-next before after n place bit old lb la below few rose rest =
    let d : ℕ = n - 1 - place in
    let e : n - (place + 1) ≡ n - 1 - place = omega arith in
    let f : n - place ≡ suc (n - 1 - place) = omega arith in
    let more = raised-here (slice_index after d) (slice_index before d) bit old (drop (suc d) after) (drop (suc d) before) few rose
    (ap (λ k. drop k after) (sym f) ∙ rest ∙ ap (λ k. raised (drop k before) old) f) in
    ap (λ k. drop k after) e ∙ from-place after d (omega arith) ∙ more
    ∙ ap (λ xs. raised xs (old * 2 + bit)) (sym (ap (λ k. drop k before) e ∙ from-place before d (omega arith)))

pub small-set : (place bit old : ℕ) → bit ≤ 1 → old < 2 ^ place → old * 2 + bit < 2 ^ (place + 1)
small-set place bit old few low =
    let one : place + 1 ≡ suc place = omega arith in
    let double : 2 ^ suc place ≡ 2 ^ place * 2 = omega arith in
    let power = ap (λ k. 2 ^ k) one ∙ double in
    omega (arith, power, few, low)

-- all goods are looked at
pub raised-all : (before after : List ℕ) (n set : ℕ) → drop (n - n) after ≡ raised (drop (n - n) before) set → after ≡ raised before set
raised-all before after n set e =
    let none : n - n ≡ 0 = omega arith in
    ap (λ k. drop k after) (sym none) ∙ e ∙ ap (λ k. raised (drop k before) set) none

-- bidders whose prices rose
pub followed-up : (terms : Terms) (u : ℕ → List ℕ → ℤ) (before after : List ℕ) (set : ℕ) (old new : List Bidder) → length before ≡ length terms.goods → AreBidders terms u before old → after ≡ raised before set → AreRisen set old new
    → HaveFollowed terms u before after new
followed-up terms u before after set old new long are rose risen = record {
  are = record {
    count = risen.count ∙ are.count;
    each = λ place inside. (let r = step place inside in let b = are.each place inside in record {
      over = r.goods ∙ b.over;
      follows = (let C : List ℕ → Type 0 = Follows (bidder_in new place).follower (u (place + 1)) in subst C (sym rose) (r.follows (u (place + 1)) before (long ∙ ap length (sym b.over)) b.follows));
    });
  };
  stay = λ place inside stays. (let r = step place inside in let b = are.each place inside in
      let D : List ℕ → Type 0 = λ g. demand g (u (place + 1)) (raised before set) ≡ demand g (u (place + 1)) before in
      ap (demand terms.goods (u (place + 1))) rose ∙ subst D b.over (r.stays stays (u (place + 1)) before (long ∙ ap length (sym b.over)) b.follows));
}
  where
    step : (place : ℕ) → place < terms.bidders → IsRisen set (bidder_in old place) (bidder_in new place)
    step place inside = risen.each place (let c = are.count in omega (arith, c, inside))

-- or whose prices moved anywhere
pub followed-anew : (terms : Terms) (valuations : List (List ℕ)) (before after : List ℕ) (old new : List Bidder) → AreBidders terms (bidders_of terms.goods valuations) before old → AreRenewed valuations after old new
    → HaveFollowed terms (bidders_of terms.goods valuations) before after new
followed-anew terms valuations before after old new are renewed = record {
  are = record {
    count = renewed.count ∙ are.count;
    each = λ place inside. (let r = step place inside in record { over = r.goods ∙ (are.each place inside).over; follows = follows place inside });
  };
  stay = λ place inside stays. (let r = step place inside in let b = are.each place inside in let e = r.goods ∙ b.over in
      let v = bidders_of terms.goods valuations (place + 1) in
      (λ i. demand (sym e i) v after) ∙ r.stays stays v v before after b.follows (follows place inside) ∙ ap (λ g. demand g v before) b.over);
}
  where
    step : (place : ℕ) → place < terms.bidders → IsRenewed (slice_index_or valuations place []) after (bidder_in old place) (bidder_in new place)
    step place inside = renewed.each place (let c = are.count in omega (arith, c, inside))

    follows : (place : ℕ) → place < terms.bidders → Follows (bidder_in new place).follower (bidders_of terms.goods valuations (place + 1)) after
    follows place inside =
        let r = step place inside in
        let b = are.each place inside in
        let back : place ≡ place + 1 - 1 = omega arith in
        let F : List ℕ → Type 0 = λ g. Follows (bidder_in new place).follower (valuation_of g (slice_index_or valuations place [])) after in
        let G : ℕ → Type 0 = λ k. Follows (bidder_in new place).follower (valuation_of terms.goods (slice_index_or valuations k [])) after in
        subst G back (subst F b.over r.follows)

-- the bidders so far have moved, and the others are as they were
pub record AreMovedTo (Moved : ℕ → Bidder → Bidder → Type 0) (place : ℕ) (old new : List Bidder) : Type 0 where
  pub count : length new ≡ length old
  pub before : (k : ℕ) → k < place → Moved k (bidder_in old k) (bidder_in new k)
  pub behind : (k : ℕ) → place ≤ k → bidder_in new k ≡ bidder_in old k

-- the next one is as it was
pub is-next : (Moved : ℕ → Bidder → Bidder → Type 0) (place : ℕ) (old new : List Bidder) (other : Bidder) → AreMovedTo Moved place old new → place < length old → get_or new place other ≡ bidder_in old place
is-next Moved place old new other are inside = get-same new place other _ (let c = are.count in omega (arith, c, inside)) ∙ are.behind place (omega arith)

-- one bidder more
pub next-moved : (Moved : ℕ → Bidder → Bidder → Type 0) (place : ℕ) (old new next : List Bidder) (other b : Bidder) → AreMovedTo Moved place old new → place < length old → next ≡ slice_set new place b → Moved place (get_or new place other) b
    → AreMovedTo Moved (place + 1) old next
next-moved Moved place old new next other b are inside is moved = record {
  count = ap length is ∙ length-set new place b ∙ are.count;
  before = λ k below. elim (cases_lt k place) [
    | inl less ↦ subst (Moved k (bidder_in old k)) (sym (ap (λ l. bidder_in l k) is ∙ get_or-set_other new place k b _ (λ e. absurd (omega (arith, e, less))))) (are.before k less)
    | inr more ↦
        let e : place ≡ k = omega (arith, below, more) in
        let here : place < length new = (let c = are.count in omega (arith, c, inside)) in
        let was = is-next Moved place old new other are inside in
        let now : bidder_in next place ≡ b = ap (λ l. bidder_in l place) is ∙ get_or-set_same new place b _ here in
        subst (λ n. Moved n (bidder_in old n) (bidder_in next n)) e (subst (Moved place (bidder_in old place)) (sym now) (subst (λ z. Moved place z b) was moved))
  ];
  behind = λ k high. ap (λ l. bidder_in l k) is ∙ get_or-set_other new place k b _ (λ e. absurd (omega (arith, e, high))) ∙ are.behind k (omega (arith, high));
}

pub all-risen : (set place : ℕ) (old new : List Bidder) → AreMovedTo (λ k. IsRisen set) place old new → length old ≤ place → AreRisen set old new
all-risen set place old new are all = record { count = are.count; each = λ k inside. are.before k (omega (arith, inside, all)) }

pub all-renewed : (values : List (List ℕ)) (prices : List ℕ) (place : ℕ) (old new : List Bidder) → AreMovedTo (λ k. IsRenewed (slice_index_or values k []) prices) place old new → length old ≤ place → AreRenewed values prices old new
all-renewed values prices place old new are all = record { count = are.count; each = λ k inside. are.before k (omega (arith, inside, all)) }

-- one bidder more at the end of a list
abbrev nobody : Bidder
nobody = record { follower = record { supply = []; worth = []; set = 0; owed = 0 }; stays = false }

pub next-bidder : (P : ℕ → Bidder → Type 0) (place : ℕ) (bidders next : List Bidder) (b : Bidder) → next ≡ bidders ++ b ∷ [] → length bidders ≡ place → ((k : ℕ) → k < place → P k (bidder_in bidders k)) → P place b → (k : ℕ) → k < place + 1 → P k (bidder_in next k)
next-bidder P place bidders next b is long before last k below = elim (cases_lt k place) [
  | inl less ↦ subst (P k) (sym (ap (λ l. get_or l k nobody) is ∙ get_or_append_left bidders (b ∷ []) nobody k (let h : k < length bidders = omega (arith, less, long) in h))) (before k less)
  | inr more ↦
      let e : place ≡ k = omega (arith, below, more) in
      subst (λ n. P n (bidder_in next n)) e (subst (P place) (sym (ap (λ l. get_or l place nobody) is ∙ get_or_push bidders b nobody place long)) last)
]

none-stays : (bidders next : List Bidder) (b : Bidder) → next ≡ bidders ++ b ∷ [] → b.stays ≡ false → ((k : ℕ) → (bidder_in bidders k).stays ≡ false) → (k : ℕ) → (bidder_in next k).stays ≡ false
none-stays bidders next b is anew none k = ap (λ l. (get_or l k nobody).stays) is ∙ by bidders none k
  where
    beyond : (n : ℕ) → (get_or [] n nobody).stays ≡ false
    beyond n = refl

    by : (bs : List Bidder) → ((n : ℕ) → (bidder_in bs n).stays ≡ false) → (n : ℕ) → (get_or (bs ++ b ∷ []) n nobody).stays ≡ false
    by [] none zero = anew
    by [] none (suc n) = beyond n
    by (c ∷ bs) none zero = none 0
    by (c ∷ bs) none (suc n) = by bs (λ m. none (suc m)) n

-- what the loop that makes the bidders keeps
pub record AreMade (goods : List ℕ) (u : ℕ → List ℕ → ℤ) (prices : List ℕ) (place : ℕ) (bidders : List Bidder) : Type 0 where
  pub count : length bidders ≡ place
  pub each : (k : ℕ) → k < place → IsBidder goods (u (k + 1)) prices (bidder_in bidders k)
  pub anew : (k : ℕ) → (bidder_in bidders k).stays ≡ false

pub next-made : (goods : List ℕ) (u : ℕ → List ℕ → ℤ) (prices : List ℕ) (place : ℕ) (bidders next : List Bidder) (b : Bidder) → AreMade goods u prices place bidders → next ≡ bidders ++ b ∷ [] → IsBidder goods (u (place + 1)) prices b → b.stays ≡ false
    → AreMade goods u prices (place + 1) next
next-made goods u prices place bidders next b are is here anew = record {
  count = ap length is ∙ length-append bidders (b ∷ []) ∙ ap (λ n. n + 1) are.count;
  each = next-bidder (λ k x. IsBidder goods (u (k + 1)) prices x) place bidders next b is are.count are.each here;
  anew = none-stays bidders next b is anew are.anew;
}
