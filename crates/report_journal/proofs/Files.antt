-- What a write that a crash cuts short leaves of a file in two parts.
use Rattle.std.proofs.Common.{◌≡◌, inl, inr, ℕ, zero, suc, ◌+◌, ◌-◌, ◌<◌, ◌≤◌, List, ◌∷◌, ◌++◌, length, get_or, take, drop, refl, sym, ◌∙◌, ap, arith, length-append, take-append-drop}
use Rattle.std.proofs.lemmas.List.{ext_get_or, length-take-le, get_or-take, get_or_append_left, get_or-append_right, get_or_at}
use Rattle.std.proofs.lemmas.Bool.{cases_lt, cases_eq}
use Rattle.house_io.specs.Moments.{Torn}

module _ (pre : List ℕ) (at : ℕ) (is : length pre ≡ at) where
  -- the first part stays
  pub torn_after : (n : ℕ) (free c : List ℕ) → Torn at n (pre ++ free) c → c ≡ pre ++ drop at c
  torn_after n free c torn =
      let long : at ≤ length c = omega (arith, torn.no_shorter, length-append pre free) in
      let same : take at c ≡ pre = ext_get_or 0 (take at c) pre (length-take-le at c long ∙ sym is) (λ i below.
      let under : i < at = omega (arith, below, length-take-le at c long) in
      get_or-take at c i 0 under ∙ torn.same i (omega (arith, under, length-append pre free)) (inl under) ∙ get_or_append_left pre free 0 i (omega (arith, under))) in
      sym (take-append-drop at c) ∙ ap (λ (l : List ℕ). l ++ drop at c) same

  -- one byte may change
  pub torn_one : (x : ℕ) (free c : List ℕ) → Torn at 1 (pre ++ x ∷ free) c → c ≡ pre ++ get_or c at 0 ∷ free
  torn_one x free c torn =
      let whole : length (pre ++ x ∷ free) ≡ at + 1 + length free = omega (arith, length-append pre (x ∷ free)) in
      let y = get_or c at 0 in
      let whole_too : length (pre ++ y ∷ free) ≡ at + 1 + length free = omega (arith, length-append pre (y ∷ free)) in
      let size : length c ≡ at + 1 + length free = omega (arith, torn.no_shorter, torn.no_longer) in
      ext_get_or 0 c (pre ++ y ∷ free) (size ∙ sym whole_too) (λ i below. elim (cases_lt i at) [
        | inl less ↦ torn.same i (omega (arith, less)) (inl less) ∙ get_or_append_left pre (x ∷ free) 0 i (omega (arith, less)) ∙ sym (get_or_append_left pre (y ∷ free) 0 i (omega (arith, less)))
        | inr more ↦ elim (cases_eq i at) [
          | inl here ↦ ap (λ (k : ℕ). get_or c k 0) here ∙ sym (get_or_at pre y free 0 i (is ∙ sym here))
          | inr there ↦
              let past : at + 1 ≤ i = omega (arith, more, there) in
              torn.same i (omega (arith, below, size)) (inr past) ∙ get_or-append_right pre (x ∷ free) at i 0 is more ∙ after i past ∙ sym (get_or-append_right pre (y ∷ free) at i 0 is more)
        ]
      ])
    where
      after : (i : ℕ) → at + 1 ≤ i → get_or (x ∷ free) (i - at) 0 ≡ get_or (get_or c at 0 ∷ free) (i - at) 0
      after i past = shifted (i - at) (omega (arith, past))
        where
          shifted : (k : ℕ) → 1 ≤ k → get_or (x ∷ free) k 0 ≡ get_or (get_or c at 0 ∷ free) k 0
          shifted zero some = absurd (omega arith)
          shifted (suc k) some = refl
