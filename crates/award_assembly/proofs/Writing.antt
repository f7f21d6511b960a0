-- Lists that are written place by place.
use Rattle.std.proofs.Common.{◌≡◌, ◌≤◌, ◌<◌, ◌⊎◌, inl, inr, ℕ, ◌+◌, Bool, false, List, [], ◌∷◌, ◌++◌, length, refl, sym, ◌∙◌, ap, arith, slice_index, slice_index_or, set, length-append}
use Rattle.std.proofs.Math.Nat.{eq-or-lt_of_le}
use Rattle.std.proofs.lemmas.List.{get_or-set_same, get_or-set_other, length-set}
use Rattle.award_assembly.proofs.Filling.{get_or-more}

-- the first so many numbers are those of a function
pub record IsListed (f : ℕ → ℕ) (n : ℕ) (xs : List ℕ) : Type 0 where
  pub count : length xs ≡ n
  pub each : (k : ℕ) → k < n → slice_index xs k ≡ f k

pub listed-none : (f : ℕ → ℕ) → IsListed f 0 []
listed-none f = record { count = refl; each = λ k below. absurd (omega arith) }

pub listed-more : (f : ℕ → ℕ) (n : ℕ) (xs : List ℕ) (x : ℕ) → IsListed f n xs → x ≡ f n → IsListed f (n + 1) (xs ++ x ∷ [])
listed-more f n xs x h here =
    record {
      count = (let e = length-append xs (x ∷ []) in let c = h.count in omega arith);
      each = get_or-more (λ k y. y ≡ f k) xs x 0 n h.count h.each here;
    }

-- the first so many truth values were replaced by those of a function, and the others stay
pub record IsReplaced (f : ℕ → Bool) (n : ℕ) (before after : List Bool) : Type 0 where
  pub size : length after ≡ length before
  pub each : (k : ℕ) → k < n → slice_index_or after k false ≡ f k
  pub rest : (k : ℕ) → n ≤ k → slice_index_or after k false ≡ slice_index_or before k false

pub replaced-none : (f : ℕ → Bool) (xs : List Bool) → IsReplaced f 0 xs xs
replaced-none f xs = record { size = refl; each = λ k below. absurd (omega arith); rest = λ k above. refl }

pub replaced-more : (f : ℕ → Bool) (n : ℕ) (before after : List Bool) (x : Bool) → n < length before → IsReplaced f n before after → x ≡ f n → IsReplaced f (n + 1) before (set after n x)
replaced-more f n before after x inside h here =
    record {
      size = length-set after n x ∙ h.size;
      each = λ k below. at k (eq-or-lt_of_le (let le : k ≤ n = omega arith in le));
      rest = λ k above. get_or-set_other after n k x false (λ same. omega arith) ∙ h.rest k (omega arith);
    }
  where
    at : (k : ℕ) → (k ≡ n) ⊎ (k < n) → slice_index_or (set after n x) k false ≡ f k
    at k (inl same) = let s = h.size in ap (λ (j : ℕ). slice_index_or (set after n x) j false) same ∙ get_or-set_same after n x false (omega arith) ∙ here ∙ ap f (sym same)
    at k (inr less) = get_or-set_other after n k x false (λ same. omega arith) ∙ h.each k less
