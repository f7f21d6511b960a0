-- Numbers in two bytes each: pairs of bytes are those of the numbers that they spell.
use Rattle.std.proofs.Common.{◌≡◌, ◌<◌, ◌≤◌, ◌^◌, ℕ, zero, suc, ◌+◌, ◌*◌, List, [], ◌∷◌, ◌++◌, length, take, drop, slice_index, refl, ◌∙◌, ap, arith, lit<}
use Rattle.std.specs.List.{AllByRecursion, flat_map}
use Rattle.byteorder.specs.Endian.{big_bytes, big_number, IsRead}
use Rattle.byte_numbers.specs.Spelling.{short_numbers}
use Rattle.byte_numbers.proofs.Spelled.{read_back, same_bytes}

pub length-short_numbers : (count : ℕ) (bytes : List ℕ) → length bytes ≡ 2 * count → length (short_numbers bytes) ≡ count
length-short_numbers zero [] long = refl
length-short_numbers zero (a ∷ bytes) long = absurd (omega arith)
length-short_numbers (suc n) [] long = absurd (omega arith)
length-short_numbers (suc n) (a ∷ []) long = absurd (omega arith)
length-short_numbers (suc n) (a ∷ b ∷ bytes) long = ap (λ k. suc k) (length-short_numbers n bytes (omega arith))

pub length-pairs : (numbers : List ℕ) → length (flat_map (big_bytes 2) numbers) ≡ 2 * length numbers
length-pairs [] = refl
length-pairs (n ∷ numbers) = let rest = length-pairs numbers in omega (arith, rest)

-- numbers that were read from pairs of bytes, one after another
pub numbers-read : (count : ℕ) (bytes numbers : List ℕ) → length bytes ≡ 2 * count → length numbers ≡ count → IsRead big_number 2 bytes numbers → numbers ≡ short_numbers bytes
numbers-read zero [] [] long same read = refl
numbers-read zero [] (n ∷ numbers) long same read = absurd (omega arith)
numbers-read zero (a ∷ bytes) numbers long same read = absurd (omega arith)
numbers-read (suc c) [] numbers long same read = absurd (omega arith)
numbers-read (suc c) (a ∷ []) numbers long same read = absurd (omega arith)
numbers-read (suc c) (a ∷ b ∷ bytes) [] long same read = absurd (omega arith)
numbers-read (suc c) (a ∷ b ∷ bytes) (n ∷ numbers) long same read =
    let first : n ≡ big_number 2 (a ∷ b ∷ []) = read 0 (omega arith) in
    let further : (k : ℕ) → 2 * suc k ≡ suc (suc (2 * k)) = λ k. omega arith in
    let rest = numbers-read c bytes numbers (omega arith) (omega arith) (λ k below. read (suc k) (omega arith) ∙ ap (λ d. big_number 2 (drop d (a ∷ b ∷ bytes))) (further k)) in
    λ i. first i ∷ rest i

-- a last byte alone changes nothing
pub whole-pairs : (count : ℕ) (bytes : List ℕ) → 2 * count ≤ length bytes → length bytes < 2 * count + 2 → short_numbers (take (2 * count) bytes) ≡ short_numbers bytes
whole-pairs zero [] low high = refl
whole-pairs zero (a ∷ []) low high = refl
whole-pairs zero (a ∷ b ∷ bytes) low high = absurd (omega arith)
whole-pairs (suc c) [] low high = absurd (omega arith)
whole-pairs (suc c) (a ∷ []) low high = absurd (omega arith)
whole-pairs (suc c) (a ∷ b ∷ bytes) low high =
    let further : 2 * suc c ≡ suc (suc (2 * c)) = omega arith in
    let rest = whole-pairs c bytes (omega arith) (omega arith) in
    ap (λ d. short_numbers (take d (a ∷ b ∷ bytes))) further ∙ ap (λ ns. big_number 2 (a ∷ b ∷ []) ∷ ns) rest

-- the bytes of numbers, and bytes after them
pub numbers_before : (numbers more : List ℕ) → AllByRecursion (λ n. n < 2 ^ 16) numbers → short_numbers (flat_map (big_bytes 2) numbers ++ more) ≡ numbers ++ short_numbers more
numbers_before [] more small = refl
numbers_before (n ∷ numbers) more small = λ i. read_back 2 n small.0 i ∷ numbers_before numbers more small.1 i

pub numbers_again : (numbers : List ℕ) → AllByRecursion (λ n. n < 2 ^ 16) numbers → short_numbers (flat_map (big_bytes 2) numbers) ≡ numbers
numbers_again [] small = refl
numbers_again (n ∷ numbers) small = λ i. read_back 2 n small.0 i ∷ numbers_again numbers small.1 i

two_bytes : (a b : ℕ) → a < 256 → b < 256 → (place : ℕ) → slice_index (a ∷ b ∷ []) place < 256
two_bytes a b low high zero = low
two_bytes a b low high (suc zero) = high
two_bytes a b low high (suc (suc place)) = lit< tt

pub pairs_again : (count : ℕ) (bytes : List ℕ) → length bytes ≡ 2 * count → ((place : ℕ) → slice_index bytes place < 256) → flat_map (big_bytes 2) (short_numbers bytes) ≡ bytes
pairs_again zero [] long are = refl
pairs_again zero (a ∷ bytes) long are = absurd (omega arith)
pairs_again (suc n) [] long are = absurd (omega arith)
pairs_again (suc n) (a ∷ []) long are = absurd (omega arith)
pairs_again (suc n) (a ∷ b ∷ bytes) long are =
    let pair = same_bytes 2 (a ∷ b ∷ []) (big_number 2 (a ∷ b ∷ [])) refl (two_bytes a b (are 0) (are 1)) refl in
    let rest = pairs_again n bytes (omega arith) (λ place. are (suc (suc place))) in
    λ i. pair i ++ rest i
