-- What is written is read back, and what is read is written back.
use Rattle.std.proofs.Common.{◌≡◌, ◌<◌, ◌≤◌, ◌/◌, ◌%◌, ◌^◌, ℕ, zero, suc, ◌+◌, ◌*◌, List, [], ◌∷◌, length, take, slice_index, refl, sym, ◌∙◌, ap, arith}
use Rattle.std.proofs.Math.Nat.{add_assoc, div-one, mul-add-div_right, mul-add-mod_self_right, mod-eq_of_lt, div-eq_of_lt, mul_assoc, one-le-pow, pow-suc}
use Rattle.std.proofs.lemmas.Nat.{div-mul-add, pow-add}
use Rattle.std.proofs.lemmas.List.{append-nil, take_all}
use Rattle.std.specs.Int.{byte_at}
use Rattle.byteorder.specs.Endian.{big_bytes, big_from, big_number}
use Rattle.byteorder.specs.Numbers.{big_from-cons, big_from-lt, big_number-reads_back}

pub read_back : (n x : ℕ) → x < 256 ^ n → big_number n (big_bytes n x) ≡ x
read_back n x fits = ap (big_number n) (sym (append-nil (big_bytes n x))) ∙ big_number-reads_back n x [] fits

some-power : (k : ℕ) → zero < 256 ^ k
some-power k = let h = one-le-pow k 256 (omega arith) in omega arith

byte-power : (k x : ℕ) → byte_at k x ≡ x / 256 ^ k % 256
byte-power zero x = ap (λ (y : ℕ). y % 256) (sym (div-one x))
byte-power (suc k) x = refl

-- the byte at a place is no matter of the places above
low-byte : (k m top rest : ℕ) → byte_at k (top * 256 ^ (suc (k + m)) + rest) ≡ byte_at k rest
low-byte k m top rest =
    let split : 256 ^ suc (k + m) ≡ 256 ^ m * 256 * 256 ^ k = pow-suc 256 (k + m) ∙ turned (256 ^ k) (256 ^ m) (256 ^ (k + m)) (pow-add 256 k m) in
    let shape : top * 256 ^ suc (k + m) ≡ (top * 256 ^ m * 256) * 256 ^ k = ap (λ (p : ℕ). top * p) split ∙ moved top (256 ^ m) (256 ^ k) in
    byte-power k _
    ∙ ap (λ (y : ℕ). (y + rest) / 256 ^ k % 256) shape
    ∙ ap (λ (y : ℕ). y % 256) (mul-add-div_right (some-power k) (top * 256 ^ m * 256) rest)
    ∙ mul-add-mod_self_right (top * 256 ^ m) 256 (rest / 256 ^ k)
    ∙ sym (byte-power k rest)
  where
    turned : (a b c : ℕ) → c ≡ a * b → c * 256 ≡ b * 256 * a
    turned a b c e = grind arith

    moved : (t a b : ℕ) → t * (a * 256 * b) ≡ (t * a * 256) * b
    moved t a b = grind arith

low-bytes : (k m n top rest : ℕ) → n ≡ k + m → big_bytes k (top * 256 ^ n + rest) ≡ big_bytes k rest
low-bytes zero m n top rest e = refl
low-bytes (suc k) m n top rest e =
    let size : n ≡ suc (k + m) = omega arith in
    let first : byte_at k (top * 256 ^ n + rest) ≡ byte_at k rest = ap (λ (j : ℕ). byte_at k (top * 256 ^ j + rest)) size ∙ low-byte k m top rest in
    let others = low-bytes k (suc m) n top rest (omega arith) in
    λ i. first i ∷ others i

pub written_back : (n : ℕ) (bytes : List ℕ) → n ≤ length bytes → ((place : ℕ) → slice_index bytes place < 256) → big_bytes n (big_number n bytes) ≡ take n bytes
written_back zero bytes long are = refl
written_back (suc n) [] long are = absurd (omega arith)
written_back (suc n) (b ∷ bytes) long are =
    let tail = big_from-cons 0 n b bytes in
    let rest = big_number n bytes in
    let fits : rest < 256 ^ n = big_from-lt 0 n bytes (λ place. are (suc place)) in
    let first : byte_at n (b * 256 ^ n + rest) ≡ b =
    byte-power n (b * 256 ^ n + rest) ∙ ap (λ (y : ℕ). y % 256) (div-mul-add b (256 ^ n) rest fits) ∙ mod-eq_of_lt (are 0) in
    let others : big_bytes n (b * 256 ^ n + rest) ≡ take n bytes =
    low-bytes n 0 n b rest (omega arith) ∙ written_back n bytes (omega arith) (λ place. are (suc place)) in
    ap (λ (r : ℕ). big_bytes (suc n) (b * 256 ^ n + r)) tail ∙ (λ i. first i ∷ others i)

-- the bytes whose number this is
pub same_bytes : (n : ℕ) (bytes : List ℕ) (x : ℕ) → length bytes ≡ n → ((place : ℕ) → slice_index bytes place < 256) → x ≡ big_number n bytes → big_bytes n x ≡ bytes
same_bytes n bytes x long are is = ap (big_bytes n) is ∙ written_back n bytes (omega arith) are ∙ take_all n bytes (omega arith)

-- numbers of the same bytes are the same
pub one_number : (n x y : ℕ) → x < 256 ^ n → y < 256 ^ n → big_bytes n x ≡ big_bytes n y → x ≡ y
one_number n x y fits fits' same = sym (read_back n x fits) ∙ ap (big_number n) same ∙ read_back n y fits'
