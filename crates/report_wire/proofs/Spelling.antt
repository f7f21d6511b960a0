-- Numbers one after another in bytes.
use Rattle.std.proofs.Common.{◌≡◌, ℕ, zero, suc, ◌+◌, ◌*◌, ◌<◌, ◌≤◌, List, [], ◌∷◌, ◌++◌, length, get_or, set, take, drop, refl, sym, ◌∙◌, ap, subst, arith, append_assoc}
use Rattle.std.proofs.lemmas.List.{append-nil}
use Rattle.std.proofs.Common.{true, ◌/◌, ◌^◌, nat_eq}
use Rattle.std.proofs.Math.Nat.{mul-div_cancel, mul-div_cancel_left}
use Rattle.std.proofs.lemmas.Bool.{and_from}
use Rattle.std.proofs.lemmas.Bool.Decides.{nat_tests}
use Rattle.byte_numbers.specs.Spelling.{big_bytes}
use Rattle.byte_numbers.proofs.Spelled.{read_back}
use Rattle.std.specs.Prelude.{nat_le}
use Rattle.std.specs.List.{flat_map}
use Rattle.report_wire.specs.Payloads.{report_payload, is_report_payload, bundles_in}
use Rattle.report_wire.specs.Entries.{IsWhole}
pub use Rattle.byte_numbers.proofs.Pairs.{length-pairs}

pub flat_take : (f : ℕ → List ℕ) (xs : List ℕ) (k : ℕ) → k < length xs → flat_map f (take (k + 1) xs) ≡ flat_map f (take k xs) ++ f (get_or xs k 0)
flat_take f [] k lt = absurd (omega arith)
flat_take f (x ∷ xs) zero lt = append-nil (f x)
flat_take f (x ∷ xs) (suc k) lt =
    let e : suc k + 1 ≡ suc (k + 1) = omega arith in
    subst (λ (m : ℕ). flat_map f (take m (x ∷ xs)) ≡ (f x ++ flat_map f (take k xs)) ++ f (get_or xs k 0)) (sym e)
    (ap (λ l. f x ++ l) (flat_take f xs k (omega arith)) ∙ sym (append_assoc (f x) (flat_map f (take k xs)) (f (get_or xs k 0))))

pub flat_set : (f : ℕ → List ℕ) (xs : List ℕ) (k v : ℕ) → k < length xs → flat_map f (take (k + 1) (set xs k v)) ≡ flat_map f (take k xs) ++ f v
flat_set f [] k v lt = absurd (omega arith)
flat_set f (x ∷ xs) zero v lt = append-nil (f v)
flat_set f (x ∷ xs) (suc k) v lt =
    let e : suc k + 1 ≡ suc (k + 1) = omega arith in
    subst (λ (m : ℕ). flat_map f (take m (x ∷ set xs k v)) ≡ (f x ++ flat_map f (take k xs)) ++ f v) (sym e)
    (ap (λ l. f x ++ l) (flat_set f xs k v (omega arith)) ∙ sym (append_assoc (f x) (flat_map f (take k xs)) (f v)))

pub flat_push : (f : ℕ → List ℕ) (xs : List ℕ) (x : ℕ) → flat_map f (xs ++ x ∷ []) ≡ flat_map f xs ++ f x
flat_push f [] x = append-nil (f x)
flat_push f (y ∷ ys) x = ap (λ l. f y ++ l) (flat_push f ys x) ∙ sym (append_assoc (f y) (flat_map f ys) (f x))

pub whole_is_formed : (first round goods : ℕ) (quantities : List ℕ) → IsWhole goods quantities → length quantities < 2 ^ 16 → is_report_payload (report_payload first round goods quantities) ≡ true
whole_is_formed first round goods quantities is small =
    let payload = report_payload first round goods quantities in
    let low = is.some_good in
    let high = is.few_goods in
    let count : length quantities / goods ≡ is.count = ap (λ n. n / goods) is.whole ∙ mul-div_cancel is.count low in
    let few : is.count < 2 ^ 16 = bound is.count goods (length quantities) is.whole low small in
    let said : bundles_in payload ≡ is.count = read_back 2 (length quantities / goods) (omega (arith, count, few)) ∙ count in
    let size : length payload ≡ 8 + 2 * length quantities = let n = length-pairs quantities in omega (arith, n) in
    let exact : length payload ≡ 8 + 2 * (goods * bundles_in payload) = size ∙ ap (λ n. 8 + 2 * n) (is.whole ∙ turned is.count goods ∙ ap (λ n. goods * n) (sym said)) in
    let long : nat_le 8 (length payload) ≡ true = grind (arith, nat_tests) in
    let a : nat_le 1 goods ≡ true = grind (arith, nat_tests) in
    let b : nat_le goods 6 ≡ true = grind (arith, nat_tests) in
    let e : nat_eq (length payload) (8 + 2 * (goods * bundles_in payload)) ≡ true = grind (arith, nat_tests) in
    and_from _ _ (and_from _ _ long (and_from _ _ a b)) e
  where
    bound : (count goods n : ℕ) → n ≡ count * goods → 1 ≤ goods → n < 2 ^ 16 → count < 2 ^ 16
    bound count goods n is low small = grind arith

    turned : (a b : ℕ) → a * b ≡ b * a
    turned a b = grind arith

pub parts : (bytes : List ℕ) → 8 ≤ length bytes → bytes ≡ get_or bytes 0 0 ∷ take 4 (drop 1 bytes) ++ get_or bytes 5 0 ∷ take 2 (drop 6 bytes) ++ drop 8 bytes
parts (b ∷ r ∷ s ∷ t ∷ u ∷ g ∷ m ∷ n ∷ body) long = refl
parts [] long = absurd (omega arith)
parts (b ∷ []) long = absurd (omega arith)
parts (b ∷ r ∷ []) long = absurd (omega arith)
parts (b ∷ r ∷ s ∷ []) long = absurd (omega arith)
parts (b ∷ r ∷ s ∷ t ∷ []) long = absurd (omega arith)
parts (b ∷ r ∷ s ∷ t ∷ u ∷ []) long = absurd (omega arith)
parts (b ∷ r ∷ s ∷ t ∷ u ∷ g ∷ []) long = absurd (omega arith)
parts (b ∷ r ∷ s ∷ t ∷ u ∷ g ∷ m ∷ []) long = absurd (omega arith)

pub entry_is : (payload quantities : List ℕ) (round count : ℕ) → 8 ≤ length payload → 1 ≤ get_or payload 5 0 → big_bytes 4 round ≡ take 4 (drop 1 payload) → big_bytes 2 count ≡ take 2 (drop 6 payload)
    → length quantities ≡ get_or payload 5 0 * count → flat_map (big_bytes 2) quantities ≡ drop 8 payload → report_payload (get_or payload 0 0) round (get_or payload 5 0) quantities ≡ payload
entry_is payload quantities round count long low round_is count_is size body_is =
    let n : length quantities / get_or payload 5 0 ≡ count = ap (λ n. n / get_or payload 5 0) size ∙ mul-div_cancel_left count low in
    let counted : big_bytes 2 (length quantities / get_or payload 5 0) ≡ take 2 (drop 6 payload) = ap (big_bytes 2) n ∙ count_is in
    (λ i. get_or payload 0 0 ∷ round_is i ++ get_or payload 5 0 ∷ counted i ++ body_is i) ∙ sym (parts payload long)
