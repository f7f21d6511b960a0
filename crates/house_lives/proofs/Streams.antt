-- Streams of frames that are the same begin with the same frames.
use Rattle.std.proofs.Common.{◌≡◌, ◌≤◌, ◌⊎◌, inl, inr, ℕ, true, List, [], ◌∷◌, ◌++◌, length, arith, refl, sym, ◌∙◌, ap, append_assoc}
use Rattle.std.specs.List.{AllByRecursion, flat_map}
use Rattle.report_wire.specs.Frames.{Direction, IsSent, Sent, spelled, stream_of}
use Rattle.report_wire.proofs.Streams.{no_prefix}

-- a list begins with another
pub record IsFront {A : Type 0} (xs ys : List A) : Type 0 where
  pub more : List A
  pub is : ys ≡ xs ++ more

nothing-long : (m : Sent) (x y : List ℕ) → spelled m ++ x ≡ y → y ≡ [] → ⊥
nothing-long m x y e none = let n = ap length (e ∙ none) in omega (arith, n)

module _ (d : Direction) (formed : (kind : ℕ) (payload : List ℕ) → d.is_payload kind payload ≡ true → (d.is_kind kind ≡ true) × (d.allows kind (length payload) ≡ true)) where
  -- where one has no more frames, or ends with its frames, it begins the other
  pub front : (ms ns : List Sent) (x y : List ℕ) → AllByRecursion (IsSent d) ms → AllByRecursion (IsSent d) ns → stream_of ms x ≡ stream_of ns y → (length ms ≤ length ns) ⊎ (y ≡ []) → IsFront ms ns
  front [] ns x y each other e ends = record { more = ns; is = refl }
  front (m ∷ ms) [] x y each other e (inl few) = absurd (omega (arith, few))
  front (m ∷ ms) [] x y each other e (inr none) = absurd (nothing-long m (stream_of ms x) y (sym (append_assoc (spelled m) (flat_map spelled ms) x) ∙ e) none)
  front (m ∷ ms) (n ∷ ns) x y each other e ends =
      let first = no_prefix d formed m n (stream_of ms x) (stream_of ns y) each.0 other.0 (sym (append_assoc (spelled m) (flat_map spelled ms) x) ∙ e ∙ append_assoc (spelled n) (flat_map spelled ns) y) in
      let rest = front ms ns x y each.1 other.1 first.1 (behind ends) in
      record { more = rest.more; is = λ i. sym first.0 i ∷ rest.is i }
    where
      behind : (length (m ∷ ms) ≤ length (n ∷ ns)) ⊎ (y ≡ []) → (length ms ≤ length ns) ⊎ (y ≡ [])
      behind (inl few) = inl (omega (arith, few))
      behind (inr none) = inr none

-- what stands after as many elements of one list is the same
pub record IsSame {A : Type 0} (xs ys : List A) (x y : A) : Type 0 where
  pub before : xs ≡ ys
  pub here : x ≡ y

pub same-behind : {A : Type 0} (xs ys zs ws : List A) (x y : A) → length xs ≡ length ys → xs ++ x ∷ zs ≡ (ys ++ y ∷ []) ++ ws → IsSame xs ys x y
same-behind [] [] zs ws x y long e = record { before = refl; here = cc }
same-behind [] (b ∷ ys) zs ws x y long e = absurd (omega (arith, long))
same-behind (a ∷ xs) [] zs ws x y long e = absurd (omega (arith, long))
same-behind {A} (a ∷ xs) (b ∷ ys) zs ws x y long e =
    let first : a ≡ b = cc in
    let rest : xs ++ x ∷ zs ≡ (ys ++ y ∷ []) ++ ws = cc in
    let same = same-behind xs ys zs ws x y (omega (arith, long)) rest in
    record { before = λ i. first i ∷ same.before i; here = same.here }
