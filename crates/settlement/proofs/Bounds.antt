-- How much a bundle of a clearing choice can cost: no price is above the ceiling, and no quantity above the supply.
use Rattle.std.proofs.Common.{◌≡◌, ◌<◌, ◌≤◌, ℕ, ◌+◌, ◌*◌, ◌^◌, List, [], ◌∷◌, length, Option, Some, sym, ◌∙◌, arith, map}
use Rattle.std.proofs.Math.Nat.{mul-le-mul_left, mul-le-mul_right}
use Rattle.std.specs.List.{AllByRecursion}
use Rattle.lot_base.specs.Goods.{cost, plus, box_size}
use Rattle.lot_base.specs.declared.auction_terms.Terms.{Terms}
use Rattle.lot_base.specs.Choices.{sum_of, Clears, IsClearingChoice, first_choice}
use Rattle.clock.specs.Reports.{ClockHistory, members_of}
use Rattle.clock.specs.Standing.{prices_of, steps_of, last_demands}
use Rattle.clock.proofs.Ceiling.{AllUpTo}
use Rattle.clock.proofs.Path.{on_the_path, has_steps, OnThePath}
use Rattle.lot_base.proofs.Order.{box_size-some}
use Rattle.award_assembly.proofs.Places.{first_choice-clearing}
use Rattle.settlement.specs.Clocks.{choice_of}
use Rattle.std.proofs.lemmas.List.{length-map}
use Rattle.settlement.proofs.Members.{count-choice}

pub path-of : (c : ClockHistory) → OnThePath c (steps_of c)
path-of c = on_the_path c (steps_of c) (has_steps c).before

pub choice-clears : (c : ClockHistory) (xs : List (List ℕ)) → choice_of c ≡ Some xs → IsClearingChoice c.terms.goods c.terms.opening (prices_of c) (map (last_demands c) (members_of c)) xs
unfolding choice_of
choice-clears c xs e = first_choice-clearing c.terms.goods c.terms.opening (prices_of c) (map (last_demands c) (members_of c)) xs e

-- the first choice of these demands is the clock's
pub choice-from : (c : ClockHistory) (terms : Terms) (prices : List ℕ) (demands : List (List (List ℕ))) (answer : Option (List (List ℕ))) → c.terms ≡ terms → prices ≡ prices_of c → demands ≡ map (last_demands c) (members_of c)
    → answer ≡ first_choice terms.goods terms.opening prices demands → choice_of c ≡ answer
unfolding choice_of
choice-from c terms prices demands answer same p d e =
    let back = sym same in sym (e ∙ (λ i. first_choice (back i).goods (back i).opening (p i) (d i)))

-- a choice has a bundle for each member
pub choice-count : (c : ClockHistory) (xs : List (List ℕ)) → choice_of c ≡ Some xs → length xs ≡ length (members_of c)
choice-count c xs e = count-choice _ xs (choice-clears c xs e).chosen ∙ length-map (members_of c) (last_demands c)

pub cost-left : (p x y : List ℕ) → cost p x ≤ cost p (plus x y)
cost-left [] x y = omega arith
cost-left (p ∷ ps) [] y = omega arith
cost-left (p ∷ ps) (x ∷ xs) [] = omega arith
cost-left (p ∷ ps) (x ∷ xs) (y ∷ ys) = let r = cost-left ps xs ys in let m : p * x ≤ p * (x + y) = mul-le-mul_left p (omega arith) in omega arith

pub cost-right : (p x y : List ℕ) → cost p y ≤ cost p (plus x y)
cost-right [] x y = omega arith
cost-right (p ∷ ps) [] y = omega arith
cost-right (p ∷ ps) (x ∷ xs) [] = omega arith
cost-right (p ∷ ps) (x ∷ xs) (y ∷ ys) = let r = cost-right ps xs ys in let m : p * y ≤ p * (x + y) = mul-le-mul_left p (omega arith) in omega arith

-- each bundle costs at most what all of them cost
pub each-cost : (p s : List ℕ) (xs : List (List ℕ)) (limit : ℕ) → cost p (sum_of s xs) < limit → AllByRecursion (λ x. cost p x < limit) xs
each-cost p s [] limit h = tt
each-cost p s (x ∷ xs) limit h =
    let a = cost-left p x (sum_of s xs) in
    let b = cost-right p x (sum_of s xs) in
    (omega arith, each-cost p s xs limit (omega arith))

-- a total that clears has at most as much of each good as a box that small has
pub sum-up : (o p t s : List ℕ) → Clears o p t s → box_size s ≤ 2048 → AllUpTo 2047 t
sum-up [] [] [] [] h small = tt
sum-up (o ∷ os) (p ∷ ps) (t ∷ ts) (s ∷ ss) h small =
    let k = box_size-some ss in
    let m : (s + 1) * 1 ≤ (s + 1) * box_size ss = mul-le-mul_left (s + 1) k in
    let n : 1 * box_size ss ≤ (s + 1) * box_size ss = mul-le-mul_right (box_size ss) (omega arith) in
    let low = h.0 in
    (omega arith, sum-up os ps ts ss h.2 (omega arith))
sum-up _ _ _ _ h small = absurd h

pub cost-up : (a b : ℕ) (p t : List ℕ) → AllUpTo a p → AllUpTo b t → cost p t ≤ length p * (a * b)
cost-up a b [] t up low = omega arith
cost-up a b (p ∷ ps) [] up low = omega arith
cost-up a b (p ∷ ps) (t ∷ ts) up low =
    let r = cost-up a b ps ts up.1 low.1 in
    let m : p * t ≤ p * b = mul-le-mul_left p low.0 in
    let n : p * b ≤ a * b = mul-le-mul_right b up.0 in
    omega arith

pub few-goods : (k a : ℕ) → k ≤ 6 → a ≤ 10000 → k * (a * 2047) < 2 ^ 51
few-goods k a few low =
    let m : k * (a * 2047) ≤ 6 * (a * 2047) = mul-le-mul_right (a * 2047) few in
    omega arith

pub choice-small : (c : ClockHistory) (xs : List (List ℕ)) → choice_of c ≡ Some xs → AllByRecursion (λ x. cost (prices_of c) x < 2 ^ 51) xs
choice-small c xs e =
    let path = path-of c in
    let clears = (choice-clears c xs e).clears in
    let t = sum_of c.terms.goods xs in
    let low = cost-up c.terms.ceiling 2047 (prices_of c) t path.up (sum-up c.terms.opening (prices_of c) t c.terms.goods clears c.terms.supply.small) in
    let few : length (prices_of c) ≤ 6 = let s = c.terms.supply.few_goods in let g = path.goods in omega arith in
    let limit = few-goods (length (prices_of c)) c.terms.ceiling few c.terms.ceiling_in_range.at_most in
    each-cost (prices_of c) c.terms.goods xs (2 ^ 51) (omega arith)
